-- A chain of starts: how its links are followed, and that its first start opens all its nodes, outermost first.
use native.Mathlib.Omega.{arith}
use Prim.Native.Nat.{ℕ, zero, suc, ◌+◌, ◌*◌, ◌/◌, ◌≤◌, ◌<◌}
use mathlib.Core.List.{List, [], ◌∷◌, ◌++◌, append_assoc}
use mathlib.Core.Path.{◌≡◌, refl, sym, ◌∙◌, ap, subst}
use mathlib.Core.Bool.{Bool, true, false, cond, false≢true}
use lib.ListN.{length, get_or, take, drop, length-append, length-drop, take-append-drop}
use lib.Seq.{drop-drop, get_or-drop, drop_at, length-take-le}
use lib.Dec.{ltb, eqb}
use borrow.Author.Tests.{ltb-true, eqb-true, lt-ltb, eq-eqb, ne_eqb}
use Rattle.basics.specs.Word.{low}
use Rattle.definitions.specs.Layout.{TREE_ROW, NODE, EVENT_ROW, EVENT_TAG, EVENT_ARGUMENT, EVENT_DISTANCE, FINISH_NODE, LINKED_START_NODE, TWO_TO_32}
use Rattle.definitions.specs.Skeleton.{Skeleton, done, token, name, node, ignored, report, over}
use Rattle.definitions.specs.Event.{forward, events as events_of}
use Rattle.definitions.specs.Parent.{tree_row}
use Rattle.machine.specs.Encode.{start_tag, encode}
use Rattle.sink.specs.Encode.{Alone, Chained}
use Rattle.layout.specs.Rows.{field as row_field}
use Rattle.sink_rows.specs.Rows.{put, field, link, linksN, links, open_rows}
use Rattle.sink.specs.Model.{start_on}
use Rattle.sink_rows.proofs.Chains.{links_end}
use Rattle.sink.proofs.Encode.{event_count, events_length, encode_count}
use Rattle.sink.proofs.Grow.{Filled, state, low_small, put_seam}
use Rattle.sink.proofs.Steps.{inside}

-- ------------------------------------------------------- the chain that ends in a node of kind k before which a stands

-- the kind of its innermost node
abbrev pub inner : Skeleton → ℕ → ℕ
inner done k = k
inner (token t m o) k = k
inner (name ts m o) k = k
inner (node j m m' a i o) k = inner a j
inner (ignored m m' a i o) k = k
inner (report r o) k = k
inner (over m o) k = k

-- the kinds of those around it, outwards, with more after them
abbrev pub outer : Skeleton → ℕ → List ℕ → List ℕ
outer done k ks = ks
outer (token t m o) k ks = ks
outer (name ts m o) k ks = ks
outer (node j m m' a i o) k ks = outer a j (k ∷ ks)
outer (ignored m m' a i o) k ks = ks
outer (report r o) k ks = ks
outer (over m o) k ks = ks

-- the nodes of a, open
abbrev pub opened : Skeleton → Filled → Filled
opened done s = s
opened (token t m o) s = s
opened (name ts m o) s = s
opened (node k m m' a i o) s = opened a (inside k s)
opened (ignored m m' a i o) s = s
opened (report r o) s = s
opened (over m o) s = s

-- nodes of these kinds, open, the last of the list first
abbrev open_all : ℕ → List ℕ → Filled → Filled
open_all k [] s = inside k s
open_all k (j ∷ ks) s = inside k (open_all j ks s)

opened_all : (a : Skeleton) (k : ℕ) (ks : List ℕ) (s : Filled) → open_all (inner a k) (outer a k ks) s ≡ opened a (open_all k ks s)
opened_all done k ks s = refl
opened_all (token t m o) k ks s = refl
opened_all (name ts m o) k ks s = refl
opened_all (node j m m' a i o) k ks s = opened_all a j (k ∷ ks) s
opened_all (ignored m m' a i o) k ks s = refl
opened_all (report r o) k ks s = refl
opened_all (over m o) k ks s = refl

-- ---------------------------------------------------------------- the rows of open nodes

abbrev open_numbers : ℕ → ℕ → ℕ → ℕ → ℕ → List ℕ → List ℕ
open_numbers first b up n k [] = tree_row NODE k b n up []
open_numbers first b up n k (j ∷ ks) = open_numbers first b up n j ks ++ tree_row NODE k b 0 (first + length ks) []

open_length : (first b up n k : ℕ) (ks : List ℕ) → length (open_numbers first b up n k ks) ≡ (length ks + 1) * TREE_ROW
open_length first b up n k [] = refl
open_length first b up n k (j ∷ ks) = omega (arith, open_length first b up n j ks, length-append (open_numbers first b up n j ks) (tree_row NODE k b 0 (first + length ks) []))

abbrev opened_at : ℕ → List ℕ → Filled → Filled
opened_at k ks s =
    record {
      written = s.written ++ open_numbers s.rows s.byte s.node s.children k ks;
      free = drop ((length ks + 1) * TREE_ROW) s.free;
      cursor = s.cursor;
      byte = s.byte;
      rows = s.rows + length ks + 1;
      node = s.rows + length ks;
      children = 0;
    }

open_all_at : (k : ℕ) (ks : List ℕ) (s : Filled) → open_all k ks s ≡ opened_at k ks s
unfolding inside
open_all_at k [] s = let p : s.rows + 0 ≡ s.rows = omega arith in rw p
open_all_at k (j ∷ ks) s =
    let R = open_numbers s.rows s.byte s.node s.children j ks in
    let p : s.rows + length ks + 1 ≡ s.rows + suc (length ks) = omega arith in
    let q : (length ks + 1) * TREE_ROW + TREE_ROW ≡ (suc (length ks) + 1) * TREE_ROW = omega arith in
    ap (λ z. inside k z) (open_all_at j ks s)
    ∙ rw (append_assoc s.written R (tree_row NODE k s.byte 0 (s.rows + length ks) []), drop-drop TREE_ROW ((length ks + 1) * TREE_ROW) s.free, q, p)

-- how far on a link leads
abbrev pub far : Bool → Skeleton → ℕ
far l i = forward l (suc (suc (length (events_of false i))))

-- the nodes of a chain
abbrev pub depth : Skeleton → ℕ
depth done = 0
depth (token t m o) = 0
depth (name ts m o) = 0
depth (node k m m' a i o) = suc (depth a)
depth (ignored m m' a i o) = 0
depth (report r o) = 0
depth (over m o) = 0

outer_length : (a : Skeleton) (k : ℕ) (ks : List ℕ) → length (outer a k ks) ≡ depth a + length ks
outer_length done k ks = omega arith
outer_length (token t m o) k ks = omega arith
outer_length (name ts m o) k ks = omega arith
outer_length (node j m m' a i o) k ks = omega (arith, outer_length a j (k ∷ ks))
outer_length (ignored m m' a i o) k ks = omega arith
outer_length (report r o) k ks = omega arith
outer_length (over m o) k ks = omega arith

-- the rows of a node that stands alone
pub encode_alone : (l : Bool) (k m m' : ℕ) (a i o : Skeleton) → o ≡ done
    → encode l (node k m m' a i o) ≡ encode true a ++ (start_tag a ∷ k ∷ far l i ∷ (encode false i ++ (FINISH_NODE ∷ 0 ∷ 0 ∷ [])))
unfolding encode
encode_alone l k m m' a i o h = rw h

module _ (events : List ℕ) where
  -- what stands so many rows further on
  pub ev_past : (i m : ℕ) (y x : List ℕ) → drop (i * EVENT_ROW) events ≡ y ++ x → length y ≡ m * EVENT_ROW → drop ((i + m) * EVENT_ROW) events ≡ x
  ev_past i m y x e h =
      let z : (i + m) * EVENT_ROW ≡ i * EVENT_ROW + m * EVENT_ROW = omega arith in
      rw z (sym (drop-drop (m * EVENT_ROW) (i * EVENT_ROW) events) ∙ ap (λ l. drop (m * EVENT_ROW) l) e ∙ drop_at y x (m * EVENT_ROW) h)

  pub ev_inside : (i : ℕ) (x : List ℕ) → drop (i * EVENT_ROW) events ≡ x → EVENT_ROW ≤ length x → i < length events / EVENT_ROW
  ev_inside i x e h = omega (arith, length-drop (i * EVENT_ROW) events, ap length e)

  pub ev_field : (i j : ℕ) (x : List ℕ) → drop (i * EVENT_ROW) events ≡ x → EVENT_ROW ≤ length x → field events i j ≡ get_or x j 0
  unfolding row_field
  ev_field i j x e h = rw (lt-ltb i (length events / EVENT_ROW) (ev_inside i x e h)) (sym (get_or-drop (i * EVENT_ROW) events j 0) ∙ ap (λ l. get_or l j 0) e)

  -- an event that is not a linked start
  pub ev_other : (i : ℕ) (x : List ℕ) → drop (i * EVENT_ROW) events ≡ x → (get_or x 0 0 ≡ LINKED_START_NODE → ⊥) → field events i EVENT_TAG ≡ LINKED_START_NODE → ⊥
  unfolding row_field
  ev_other i x e h = go (ltb i (length events / EVENT_ROW))
    where
      go : (b : Bool) → cond b (get_or events (i * EVENT_ROW + EVENT_TAG) 0) 0 ≡ LINKED_START_NODE → ⊥
      go true g = h (sym (ap (λ l. get_or l 0 0) e) ∙ get_or-drop (i * EVENT_ROW) events 0 0 ∙ g)
      go false g = let z : ◌≡◌ {A = ℕ} 0 LINKED_START_NODE = g in omega arith

  -- ---------------------------------------------------------------- links

  -- from event j on the links lead along nodes of these kinds, and no further
  abbrev Chain : ℕ → ℕ → List ℕ → Type 0
  Chain j k [] = (field events j EVENT_ARGUMENT ≡ k) × (link events j ≡ 0)
  Chain j k (x ∷ ks) = (field events j EVENT_ARGUMENT ≡ k) × ((0 < link events j) × Chain (j + link events j) x ks)

  -- what a start, linked or not, finds at its link's end
  abbrev Rest : Bool → ℕ → List ℕ → Type 0
  Rest l j [] = l ≡ true → field events j EVENT_TAG ≡ LINKED_START_NODE → ⊥
  Rest l j (k ∷ ks) = (l ≡ true) × ((field events j EVENT_TAG ≡ LINKED_START_NODE) × Chain j k ks)

  field_inside : (m : ℕ) → field events m EVENT_TAG ≡ LINKED_START_NODE → m < length events / EVENT_ROW
  unfolding row_field
  field_inside m h = go (ltb m (length events / EVENT_ROW)) refl h
    where
      go : (b : Bool) → ltb m (length events / EVENT_ROW) ≡ b → cond b (get_or events (m * EVENT_ROW + EVENT_TAG) 0) 0 ≡ LINKED_START_NODE → m < length events / EVENT_ROW
      go true p g = ltb-true m (length events / EVENT_ROW) p
      go false p g = absurd (let z : ◌≡◌ {A = ℕ} 0 LINKED_START_NODE = g in omega arith)

  link_inside : (j : ℕ) → 0 < link events j → j + link events j < length events / EVENT_ROW
  unfolding link
  link_inside j h = go (ltb j (length events / EVENT_ROW)) (eqb (field events (j + get_or events (j * EVENT_ROW + EVENT_DISTANCE) 0) EVENT_TAG) LINKED_START_NODE) refl refl h
    where
      go : (b y : Bool) → ltb j (length events / EVENT_ROW) ≡ b → eqb (field events (j + get_or events (j * EVENT_ROW + EVENT_DISTANCE) 0) EVENT_TAG) LINKED_START_NODE ≡ y
          → 0 < cond b (cond y (get_or events (j * EVENT_ROW + EVENT_DISTANCE) 0) 0) 0 → j + cond b (cond y (get_or events (j * EVENT_ROW + EVENT_DISTANCE) 0) 0) 0 < length events / EVENT_ROW
      go true true p q h = field_inside (j + get_or events (j * EVENT_ROW + EVENT_DISTANCE) 0) (eqb-true (field events (j + get_or events (j * EVENT_ROW + EVENT_DISTANCE) 0) EVENT_TAG) LINKED_START_NODE q)
      go true false p q h = absurd (omega arith)
      go false y p q h = absurd (omega arith)

  chain_bound : (ks : List ℕ) (j k : ℕ) → j < length events / EVENT_ROW → Chain j k ks → j + length ks < length events / EVENT_ROW
  chain_bound [] j k h c = omega arith
  chain_bound (x ∷ ks) j k h c = omega (arith, chain_bound ks (j + link events j) x (link_inside j c.1.0) c.1.1, c.1.0)

  chain_links : (ks : List ℕ) (j k n : ℕ) → Chain j k ks → length ks ≤ n → linksN n events j ≡ length ks
  unfolding linksN
  chain_links [] j k n c h = links_end events j n c.1
  chain_links (x ∷ ks) j k zero c h = absurd (omega arith)
  chain_links (x ∷ ks) j k (suc n) c h = rw (lt-ltb 0 (link events j) c.1.0, chain_links ks (j + link events j) x n c.1.1 (omega arith)) (omega arith)

  -- ---------------------------------------------------------------- the links of encoded events

  link_of : (j a k d : ℕ) (x : List ℕ) → drop (j * EVENT_ROW) events ≡ a ∷ k ∷ d ∷ x → link events j ≡ cond (eqb (field events (j + d) EVENT_TAG) LINKED_START_NODE) d 0
  unfolding link
  link_of j a k d x e =
      let f : get_or events (j * EVENT_ROW + EVENT_DISTANCE) 0 ≡ d = sym (get_or-drop (j * EVENT_ROW) events 2 0) ∙ ap (λ l. get_or l 2 0) e in
      rw (lt-ltb j (length events / EVENT_ROW) (ev_inside j (a ∷ k ∷ d ∷ x) e (omega arith)), f)

  cond_same : (b : Bool) (n : ℕ) → cond b n n ≡ n
  cond_same true n = refl
  cond_same false n = refl

  -- a start that is linked over n events and its own two
  row_chain : (j a k n : ℕ) (l : Bool) (x ks : List ℕ) → drop (j * EVENT_ROW) events ≡ a ∷ k ∷ forward l (suc (suc n)) ∷ x → Rest l (j + suc (suc n)) ks → Chain j k ks
  row_chain j a k n true x [] e r = (ev_field j EVENT_ARGUMENT _ e (omega arith), link_of j a k (suc (suc n)) x e ∙ rw (ne_eqb (field events (j + suc (suc n)) EVENT_TAG) LINKED_START_NODE (r refl)))
  row_chain j a k n false x [] e r = (ev_field j EVENT_ARGUMENT _ e (omega arith), link_of j a k 0 x e ∙ cond_same (eqb (field events (j + 0) EVENT_TAG) LINKED_START_NODE) 0)
  row_chain j a k n true x (y ∷ ks) e r =
      let g : link events j ≡ suc (suc n) = link_of j a k (suc (suc n)) x e ∙ rw (eq-eqb (field events (j + suc (suc n)) EVENT_TAG) LINKED_START_NODE r.1.0) in
      (ev_field j EVENT_ARGUMENT _ e (omega arith), (omega arith, rw g r.1.1))
  row_chain j a k n false x (y ∷ ks) e r = absurd (false≢true r.0)

  chain_of : (a : Skeleton) (k n : ℕ) (l : Bool) (x ks : List ℕ) (j : ℕ) → Alone a → Chained a → drop (j * EVENT_ROW) events ≡ encode true a ++ (start_tag a ∷ k ∷ forward l (suc (suc n)) ∷ x)
      → Rest l (j + event_count a + suc (suc n)) ks → Chain j (inner a k) (outer a k ks)
  unfolding event_count Chained encode
  chain_of done k n l x ks j h c e r = let z : j + 0 + suc (suc n) ≡ j + suc (suc n) = omega arith in row_chain j 1 k n l x ks e (subst (λ m. Rest l m ks) z r)
  chain_of (node q m m' a i o) k n l x ks j h c e r =
      let R : List ℕ = LINKED_START_NODE ∷ k ∷ forward l (suc (suc n)) ∷ x in
      let p = node q m m' a i o in
      let w = length (events_of false i) in
      let e' : drop (j * EVENT_ROW) events ≡ encode true a ++ (start_tag a ∷ q ∷ suc (suc w) ∷ ((encode false i ++ (FINISH_NODE ∷ 0 ∷ 0 ∷ [])) ++ R)) =
      e ∙ ap (λ y. y ++ R) (encode_alone true q m m' a i o h) ∙ append_assoc (encode true a) (start_tag a ∷ q ∷ suc (suc w) ∷ (encode false i ++ (FINISH_NODE ∷ 0 ∷ 0 ∷ []))) R in
      let g : drop ((j + event_count p) * EVENT_ROW) events ≡ R = ev_past j (event_count p) (encode true p) R e (encode_count true p) in
      let z : j + event_count p ≡ j + event_count a + suc (suc w) = omega (arith, events_length false i, ap event_count h) in
      chain_of a q w true ((encode false i ++ (FINISH_NODE ∷ 0 ∷ 0 ∷ [])) ++ R) (k ∷ ks) j c.0 c.1.0 e'
      (subst (λ y. Rest true y (k ∷ ks)) z (refl, (ev_field (j + event_count p) EVENT_TAG R g (omega arith), row_chain (j + event_count p) 6 k n l x ks g r)))
  chain_of (token t m o) k n l x ks j h c e r = absurd h
  chain_of (name ts m o) k n l x ks j h c e r = absurd h
  chain_of (ignored m m' a i o) k n l x ks j h c e r = absurd h
  chain_of (report p o) k n l x ks j h c e r = absurd h
  chain_of (over m o) k n l x ks j h c e r = absurd h

  -- ---------------------------------------------------------------- the rows that opening a chain writes

  open_suc : (n j first b up c : ℕ) (t : List ℕ)
      → open_rows (suc n) events j first b up c t ≡ open_rows n events (j + link events j) first b up c (put (low (low (first + n) + 1)) (tree_row NODE (field events j EVENT_ARGUMENT) b 0 (low (first + n)) []) t)
  unfolding open_rows
  open_suc n j first b up c t = refl

  open_of : (ks : List ℕ) (j k first : ℕ) (T D : List ℕ) (b up n : ℕ) → Chain j k ks → length T ≡ first * TREE_ROW → (length ks + 1) * TREE_ROW ≤ length D → first + length ks + 1 < TWO_TO_32
      → open_rows (length ks) events j first b up n (T ++ D) ≡ T ++ (open_numbers first b up n k ks ++ drop ((length ks + 1) * TREE_ROW) D)
  unfolding open_rows
  open_of [] j k first T D b up n c w h sm = rw c.0 (put_seam first T (tree_row NODE k b n up []) D w refl (omega arith))
  open_of (x ∷ ks) j k first T D b up n c w h sm =
      let m = (length ks + 1) * TREE_ROW in
      let row : List ℕ = tree_row NODE k b 0 (first + length ks) [] in
      let D' : List ℕ = take m D ++ (row ++ drop TREE_ROW (drop m D)) in
      let lt : length (take m D) ≡ m = length-take-le m D (omega arith) in
      let p : length (T ++ take m D) ≡ (first + length ks + 1) * TREE_ROW = omega (arith, length-append T (take m D)) in
      let q : T ++ D ≡ (T ++ take m D) ++ drop m D = ap (λ l. T ++ l) (sym (take-append-drop m D)) ∙ sym (append_assoc T (take m D) (drop m D)) in
      let u : low (first + length ks) ≡ first + length ks = low_small (first + length ks) (omega arith) in
      let v : low (first + length ks + 1) ≡ first + length ks + 1 = low_small (first + length ks + 1) (omega arith) in
      let d4 : TREE_ROW ≤ length (drop m D) = omega (arith, length-drop m D) in
      let pt : put (first + length ks + 1) row (T ++ D) ≡ T ++ D' =
      ap (λ l. put (first + length ks + 1) row l) q ∙ put_seam (first + length ks + 1) (T ++ take m D) row (drop m D) p refl d4 ∙ append_assoc T (take m D) (row ++ drop TREE_ROW (drop m D)) in
      let ld : length D' ≡ length D = omega (arith, length-append (take m D) (row ++ drop TREE_ROW (drop m D)), length-drop m D, length-drop TREE_ROW (drop m D)) in
      let z : m + TREE_ROW ≡ (suc (length ks) + 1) * TREE_ROW = omega arith in
      let dd : drop m D' ≡ row ++ drop ((suc (length ks) + 1) * TREE_ROW) D =
      drop_at (take m D) (row ++ drop TREE_ROW (drop m D)) m lt ∙ ap (λ l. row ++ l) (drop-drop TREE_ROW m D ∙ ap (λ y. drop y D) z) in
      let pw : put (low (low (first + length ks) + 1)) (tree_row NODE (field events j EVENT_ARGUMENT) b 0 (low (first + length ks)) []) (T ++ D) ≡ T ++ D' = rw (c.0, u, v) pt in
      open_suc (length ks) j first b up n (T ++ D)
      ∙ ap (λ t. open_rows (length ks) events (j + link events j) first b up n t) pw
      ∙ open_of ks (j + link events j) x first T D' b up n c.1.1 w (omega arith) (omega arith)
      ∙ ap (λ l. T ++ (open_numbers first b up n x ks ++ l)) dd
      ∙ ap (λ l. T ++ l) (sym (append_assoc (open_numbers first b up n x ks) row (drop ((suc (length ks) + 1) * TREE_ROW) D)))

  -- the start of a chain opens its nodes
  start_at : (ks : List ℕ) (j k : ℕ) (s : Filled) → Chain j k ks → j < length events / EVENT_ROW → length s.written ≡ s.rows * TREE_ROW
      → (length ks + 1) * TREE_ROW ≤ length s.free → s.rows + length ks + 1 < TWO_TO_32 → start_on events j (state s) ≡ state (open_all k ks s)
  unfolding start_on state links
  start_at ks j k s c i w h sm =
      let n : linksN (length events / EVENT_ROW) events j ≡ length ks = chain_links ks j k (length events / EVENT_ROW) c (omega (arith, chain_bound ks j k i c)) in
      let u : low (length ks) ≡ length ks = low_small (length ks) (omega arith) in
      let v : low (s.rows + length ks) ≡ s.rows + length ks = low_small (s.rows + length ks) (omega arith) in
      let y : low (s.rows + length ks + 1) ≡ s.rows + length ks + 1 = low_small (s.rows + length ks + 1) (omega arith) in
      rw (
        n,
        u,
        v,
        y,
        open_of ks j k s.rows s.written s.free s.byte s.node s.children c w h sm,
        open_all_at k ks s,
        append_assoc s.written (open_numbers s.rows s.byte s.node s.children k ks) (drop ((length ks + 1) * TREE_ROW) s.free),
      )

  -- the nodes of a
  pub start_runs : (a : Skeleton) (k n : ℕ) (l : Bool) (x : List ℕ) (j : ℕ) (s : Filled) → Alone a → Chained a
      → drop (j * EVENT_ROW) events ≡ encode true a ++ (start_tag a ∷ k ∷ forward l (suc (suc n)) ∷ x) → (l ≡ true → field events (j + event_count a + suc (suc n)) EVENT_TAG ≡ LINKED_START_NODE → ⊥)
      → length s.written ≡ s.rows * TREE_ROW → (depth a + 1) * TREE_ROW ≤ length s.free → s.rows + depth a + 1 < TWO_TO_32
      → start_on events j (state s) ≡ state (opened a (inside k s))
  start_runs a k n l x j s h c e r w f sm =
      let d : length (outer a k []) ≡ depth a = outer_length a k [] ∙ (let z : depth a + 0 ≡ depth a = omega arith in z) in
      let i : j < length events / EVENT_ROW = ev_inside j (encode true a ++ (start_tag a ∷ k ∷ forward l (suc (suc n)) ∷ x)) e (omega (arith, length-append (encode true a) (start_tag a ∷ k ∷ forward l (suc (suc n)) ∷ x))) in
      start_at (outer a k []) j (inner a k) s (chain_of a k n l x [] j h c e r) i w (omega arith) (omega arith)
      ∙ ap state (opened_all a k [] s)
