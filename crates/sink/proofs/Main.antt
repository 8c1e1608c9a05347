-- The sink over the rows of a skeleton's events writes the rows of the placed tree: one induction over the skeleton.
use native.Mathlib.Omega.{arith}
use Prim.Native.Nat.{ℕ, zero, suc, ◌+◌, ◌*◌, ◌≤◌, ◌<◌}
use mathlib.Core.List.{List, [], ◌∷◌, ◌++◌, append_assoc}
use mathlib.Core.Path.{◌≡◌, refl, sym, ◌∙◌, ap, subst}
use mathlib.Core.Bool.{Bool, true, false}
use lib.ListN.{length, get_or, take, drop, length-append, length-drop}
use lib.Seq.{drop-drop, drop-length, length-take-le, take_all}
use lib.Dec.{leb}
use borrow.Author.Tests.{leb-true}
use Rattle.basics.proofs.Flags.{flags}
use Rattle.definitions.specs.Layout.{START_NODE, TREE_ROW, NODE, EVENT_ROW, EVENT_TAG, EVENT_ARGUMENT, PLACEHOLDER, ADD_TOKEN, ADD_COMBINED_TOKEN, FINISH_NODE, ERROR, LINKED_START_NODE, TWO_TO_32}
use Rattle.definitions.specs.TokenKind as K
use Rattle.definitions.specs.Token.{Token, drop_trivia, past}
use Rattle.definitions.specs.Skeleton.{Skeleton, done, token, name, node, ignored, report, over}
use Rattle.definitions.specs.Event.{events as events_of}
use Rattle.definitions.specs.Place.{Tree, nil, leaf, subtree, ◌⊕◌, lead, front, after, place, width, row_count}
use Rattle.laws.proofs.Trivia.{Solid, dropped_solid, drop_twice}
use Rattle.machine.specs.Encode.{start_tag, encode}
use Rattle.sink.specs.Encode.{event_row, Alone, Chained}
use Rattle.sink_rows.specs.Rows.{field}
use Rattle.sink.specs.Model.{On, token_on, trivia_on, combined_on, start_on, finish_on, event_on, eventsN}
use Rattle.sink.proofs.Encode.{event_count, events_length, encode_count}
use Rattle.laws.proofs.Tree.{row_count_beside}
use Rattle.sink.proofs.Trees.{raw, raw_beside, count_rows, raw_lead, raw_place}
use Rattle.sink.proofs.Grow.{Filled, state, grow, grow_grow, grow_nil, Fits, fits_front, fits_back}
use Rattle.sink.proofs.Steps.{From, from_grown, token_runs, trivia_runs, name_runs, inside, finish_runs}
use Rattle.sink.proofs.Chain.{opened, depth, far, encode_alone, ev_past, ev_field, ev_other, start_runs}

-- ---------------------------------------------------------------- the raw tokens under what is placed

drop_then : (f g : Tree) (ts us vs : List Token) → drop (raw f) ts ≡ us → drop (raw g) us ≡ vs → drop (raw (f ⊕ g)) ts ≡ vs
drop_then f g ts us vs p q = ap (λ n. drop n ts) (raw_beside f g) ∙ sym (drop-drop (raw g) (raw f) ts) ∙ ap (λ l. drop (raw g) l) p ∙ q

raw_front : (ts : List Token) → drop (raw (front ts)) ts ≡ past ts
unfolding front raw
raw_front [] = refl
raw_front (t ∷ ts) = refl

raw_name : (n : ℕ) (ts : List Token) → drop (raw (leaf K.Name (take n ts) nil)) ts ≡ drop n ts
unfolding raw
raw_name n ts = go (leb n (length ts)) refl
  where
    z : length (take n ts) + 0 ≡ length (take n ts)
    z = omega arith

    go : (b : Bool) → leb n (length ts) ≡ b → drop (length (take n ts) + 0) ts ≡ drop n ts
    go true h = ap (λ m. drop m ts) (z ∙ length-take-le n ts (leb-true n (length ts) h))
    go false h = ap (λ m. drop m ts) (z ∙ ap length (take_all n ts (omega flags))) ∙ drop-length ts ∙ sym (drop_over n ts (omega flags))
      where
        drop_over : (m : ℕ) (l : List Token) → length l ≤ m → drop m l ≡ []
        drop_over zero [] g = refl
        drop_over zero (x ∷ l) g = absurd (omega arith)
        drop_over (suc m) [] g = refl
        drop_over (suc m) (x ∷ l) g = drop_over m l (omega arith)

raw_branch : (k : ℕ) (c : Tree) (ts us : List Token) → drop (raw c) ts ≡ us → drop (raw (subtree k c nil)) ts ≡ us
unfolding raw
raw_branch k c ts us e = let z : raw c + 0 ≡ raw c = omega arith in rw z e

-- a chain has at least as many rows as nodes
depth_size : (a : Skeleton) (ts : List Token) → depth a ≤ row_count (place a ts)
unfolding place row_count
depth_size done ts = omega arith
depth_size (token t m o) ts = omega arith
depth_size (name r m o) ts = omega arith
depth_size (node k m m' a i o) ts =
    let us = drop_trivia ts in
    let vs = after a us in
    let B = place a us ⊕ place i vs in
    omega (arith, depth_size a us, row_count_beside (place a us) (place i vs), row_count_beside (lead ts) (subtree k B nil ⊕ place o (after i vs)), row_count_beside (subtree k B nil) (place o (after i vs)))
depth_size (ignored m m' a i o) ts = omega arith
depth_size (report r o) ts = omega arith
depth_size (over m o) ts = omega arith

-- where no trivia stand first, a node that stands alone is placed without any
lead_solid : (ts : List Token) → Solid ts → lead ts ≡ nil
unfolding lead
lead_solid [] h = refl
lead_solid (t ∷ ts) h = rw h

pub place_alone : (k m m' : ℕ) (a i o : Skeleton) (ts : List Token) → o ≡ done → Solid ts → drop_trivia ts ≡ ts
    → place (node k m m' a i o) ts ≡ subtree k (place a ts ⊕ place i (after a ts)) nil
unfolding place ◌⊕◌
place_alone k m m' a i o ts h s d = rw (h, d, lead_solid ts s)

-- what is inside an open node fits where the node does
pub fits_inside : (k : ℕ) (f : Tree) (s : Filled) → Fits (subtree k f nil) s → Fits f (inside k s)
unfolding inside width row_count
fits_inside k f s r =
    record {
      free = omega (arith, r.free, length-drop TREE_ROW s.free);
      whole = omega (arith, r.whole, length-append s.written (NODE ∷ k ∷ s.byte ∷ s.children ∷ s.node ∷ []));
      byte = omega (arith, r.byte);
      rows = omega (arith, r.rows);
      children = omega (arith, r.rows, count_rows f);
    }

module _ (tokens events : List ℕ) (small : length tokens < TWO_TO_32) where
  -- m events from i on make y of x
  unfoldable pub Runs : ℕ → ℕ → On → On → Type 0
  Runs m i x y = (n : ℕ) → eventsN (m + n) tokens events i x ≡ eventsN n tokens events (i + m) y

  runs_none : (i : ℕ) (x : On) → Runs 0 i x x
  unfolding Runs
  runs_none i x n = let p : 0 + n ≡ n = omega arith in let q : i + 0 ≡ i = omega arith in rw (p, q)

  runs_one : (i : ℕ) (x y : On) → event_on tokens events i x ≡ y → Runs 1 i x y
  unfolding Runs eventsN
  runs_one i x y e n = let p : 1 + n ≡ suc n = omega arith in ap (λ m. eventsN m tokens events i x) p ∙ ap (λ z. eventsN n tokens events (i + 1) z) e

  runs_then : (m p i : ℕ) (x y z : On) → Runs m i x y → Runs p (i + m) y z → Runs (m + p) i x z
  unfolding Runs
  runs_then m p i x y z f g n =
      let a : m + p + n ≡ m + (p + n) = omega arith in
      let b : i + m + p ≡ i + (m + p) = omega arith in
      ap (λ q. eventsN q tokens events i x) a ∙ f (p + n) ∙ g n ∙ ap (λ q. eventsN n tokens events q z) b

  -- the same, counted and reached otherwise
  runs_as : (m p i j : ℕ) (x y z : On) → m ≡ p → i ≡ j → y ≡ z → Runs m i x y → Runs p j x z
  runs_as m p i j x y z e h g f = rw (← e, ← h, ← g) f

  runs_on : (m p i j : ℕ) (x y z : On) → i + m ≡ j → Runs m i x y → Runs p j y z → Runs (m + p) i x z
  runs_on m p i j x y z e f g = runs_then m p i x y z f (runs_as p p j (i + m) y z z refl (sym e) refl g)

  -- ---------------------------------------------------------------- what each event does

  module _ (i tag a b : ℕ) (x : List ℕ) (e : drop (i * EVENT_ROW) events ≡ tag ∷ a ∷ b ∷ x) where
    tag_is : field events i EVENT_TAG ≡ tag
    tag_is = ev_field events i EVENT_TAG (tag ∷ a ∷ b ∷ x) e (omega arith)

    arg_is : field events i EVENT_ARGUMENT ≡ a
    arg_is = ev_field events i EVENT_ARGUMENT (tag ∷ a ∷ b ∷ x) e (omega arith)

    ev_take : (q : On) → tag ≡ ADD_TOKEN → event_on tokens events i q ≡ token_on tokens (trivia_on tokens q)
    unfolding event_on
    ev_take q h = rw (tag_is, h)

    ev_name : (q : On) → tag ≡ ADD_COMBINED_TOKEN → event_on tokens events i q ≡ combined_on tokens a (trivia_on tokens q)
    unfolding event_on
    ev_name q h = rw (tag_is, arg_is, h)

    ev_finish : (q : On) → tag ≡ FINISH_NODE → event_on tokens events i q ≡ finish_on q
    unfolding event_on
    ev_finish q h = rw (tag_is, h)

    ev_hole : (q : On) → tag ≡ PLACEHOLDER → event_on tokens events i q ≡ q
    unfolding event_on
    ev_hole q h = rw (tag_is, h)

    ev_error : (q : On) → tag ≡ ERROR → event_on tokens events i q ≡ q
    unfolding event_on
    ev_error q h = rw (tag_is, h)

    ev_linked : (q : On) → tag ≡ LINKED_START_NODE → event_on tokens events i q ≡ q
    unfolding event_on
    ev_linked q h = rw (tag_is, h)

    ev_next : drop ((i + 1) * EVENT_ROW) events ≡ x
    ev_next = ev_past events i 1 (tag ∷ a ∷ b ∷ []) x e refl

  ev_start : (i : ℕ) (q : On) → field events i EVENT_TAG ≡ 1 → event_on tokens events i q ≡ start_on events i (trivia_on tokens q)
  unfolding event_on
  ev_start i q t = rw t

  -- ---------------------------------------------------------------- first tags

  chain_first : (a : Skeleton) (k d : ℕ) (x : List ℕ) → Alone a → Chained a → get_or (encode true a ++ (start_tag a ∷ k ∷ d ∷ x)) 0 0 ≡ 1
  unfolding encode Chained
  chain_first done k d x h c = refl
  chain_first (node q m m' a i o) k d x h c =
      ap (λ l. get_or l 0 0) (append_assoc (encode true a) _ (LINKED_START_NODE ∷ k ∷ d ∷ x)) ∙ chain_first a q _ _ c.0 c.1.0
  chain_first (token t m o) k d x h c = absurd h
  chain_first (name ts m o) k d x h c = absurd h
  chain_first (ignored m m' a i o) k d x h c = absurd h
  chain_first (report r o) k d x h c = absurd h
  chain_first (over m o) k d x h c = absurd h

  -- no skeleton's events begin with a linked start
  first_other : (l : Bool) (o : Skeleton) (e : List ℕ) → Chained o → (get_or e 0 0 ≡ LINKED_START_NODE → ⊥) → get_or (encode l o ++ e) 0 0 ≡ LINKED_START_NODE → ⊥
  unfolding encode Chained
  first_other l done e c h g = h g
  first_other l (token t m o) e c h g = let z : ◌≡◌ {A = ℕ} ADD_TOKEN LINKED_START_NODE = g in omega arith
  first_other l (name ts m o) e c h g = let z : ◌≡◌ {A = ℕ} ADD_COMBINED_TOKEN LINKED_START_NODE = g in omega arith
  first_other l (node k m m' a i o) e c h g =
      let z : ◌≡◌ {A = ℕ} START_NODE LINKED_START_NODE = sym (ap (λ q. get_or q 0 0) (append_assoc (encode true a) _ e) ∙ chain_first a k _ _ c.0 c.1.0) ∙ g in omega arith
  first_other l (ignored m m' a i o) e c h g =
      let y : List ℕ = event_row PLACEHOLDER 0 0 ((encode false i ++ event_row PLACEHOLDER 0 0 (encode l o)) ++ e) in
      first_other true a y c.1.0 (λ z. omega arith) (sym (ap (λ q. get_or q 0 0) (append_assoc (encode true a) _ e)) ∙ g)
  first_other l (report r o) e c h g = let z : ◌≡◌ {A = ℕ} ERROR LINKED_START_NODE = g in omega arith
  first_other l (over m o) e c h g = first_other l o e c h g

  -- ---------------------------------------------------------------- the statements of the induction

  -- the events of o, from any filled state where they fit, leave its placed tree's rows after what was written
  unfoldable pub Sinks : Skeleton → Type 0
  Sinks o =
      (l : Bool) (e : List ℕ) (i : ℕ) (ts : List Token) (s : Filled) → Chained o → drop (i * EVENT_ROW) events ≡ encode l o ++ e → (get_or e 0 0 ≡ LINKED_START_NODE → ⊥) → From tokens s.cursor ts
      → Fits (place o ts) s → Runs (event_count o) i (state s) (state (grow (place o ts) s))

  -- the same of what stands before a marker: its first start has opened its nodes, and the marker's own start is passed
  -- over
  unfoldable pub Befores : Skeleton → Type 0
  Befores a =
      (k d : ℕ) (x : List ℕ) (i : ℕ) (ts : List Token) (s : Filled) → Alone a → Chained a → drop (i * EVENT_ROW) events ≡ encode true a ++ (start_tag a ∷ k ∷ d ∷ x)
      → Solid ts → drop_trivia ts ≡ ts → From tokens s.cursor ts → Fits (place a ts) s → Runs (event_count a) (i + 1) (state (opened a s)) (state (grow (place a ts) s))

  from_inside : (k : ℕ) (s : Filled) (ts : List Token) → From tokens s.cursor ts → From tokens (inside k s).cursor ts
  unfolding inside
  from_inside k s ts a = a

  -- a node once it is open: what stands before it, what is inside it, and its end
  node_inside : (a i : Skeleton) → Befores a → Sinks i → (k d : ℕ) (x : List ℕ) (j : ℕ) (ts : List Token) (s : Filled) → Alone a → Chained a → Chained i
      → drop (j * EVENT_ROW) events ≡ encode true a ++ (start_tag a ∷ k ∷ d ∷ (encode false i ++ (FINISH_NODE ∷ 0 ∷ 0 ∷ x))) → Solid ts → drop_trivia ts ≡ ts → From tokens s.cursor ts
      → Fits (subtree k (place a ts ⊕ place i (after a ts)) nil) s
      → Runs (event_count a + (event_count i + 1)) (j + 1) (state (opened a (inside k s))) (state (grow (subtree k (place a ts ⊕ place i (after a ts)) nil) s))
  unfolding Sinks Befores
  node_inside a i ba si k d x j ts s al ca ci e so dt fr r =
      let vs = after a ts in
      let A = place a ts in
      let I = place i vs in
      let q = inside k s in
      let q1 = grow A q in
      let n = event_count a in
      let p = event_count i in
      let y : List ℕ = encode false i ++ (FINISH_NODE ∷ 0 ∷ 0 ∷ x) in
      let g0 : drop ((j + n) * EVENT_ROW) events ≡ start_tag a ∷ k ∷ d ∷ y = ev_past events j n (encode true a) (start_tag a ∷ k ∷ d ∷ y) e (encode_count true a) in
      let g1 : drop ((j + 1 + n) * EVENT_ROW) events ≡ y = (let z : j + 1 + n ≡ j + n + 1 = omega arith in ap (λ v. drop (v * EVENT_ROW) events) z ∙ ev_next (j + n) (start_tag a) k d y g0) in
      let g2 : drop ((j + 1 + n + p) * EVENT_ROW) events ≡ FINISH_NODE ∷ 0 ∷ 0 ∷ x = ev_past events (j + 1 + n) p (encode false i) (FINISH_NODE ∷ 0 ∷ 0 ∷ x) g1 (encode_count false i) in
      let g3 : drop ((j + 1 + (n + p)) * EVENT_ROW) events ≡ FINISH_NODE ∷ 0 ∷ 0 ∷ x = (let z : j + 1 + (n + p) ≡ j + 1 + n + p = omega arith in ap (λ v. drop (v * EVENT_ROW) events) z ∙ g2) in
      let rq : Fits (A ⊕ I) q = fits_inside k (A ⊕ I) s r in
      let fq : From tokens q.cursor ts = from_inside k s ts fr in
      let before : Runs n (j + 1) (state (opened a q)) (state q1) = ba k d y j ts q al ca e so dt fq (fits_front A I q rq) in
      let within : Runs p (j + 1 + n) (state q1) (state (grow I q1)) =
      si false (FINISH_NODE ∷ 0 ∷ 0 ∷ x) (j + 1 + n) vs q1 ci g1 (λ z. omega arith) (from_grown tokens A q ts vs fq (raw_place a ts)) (fits_back A I q rq) in
      let both : Runs (n + p) (j + 1) (state (opened a q)) (state (grow (A ⊕ I) q)) =
      runs_as (n + p) (n + p) (j + 1) (j + 1) _ _ _ refl refl (ap state (grow_grow A I q)) (runs_then n p (j + 1) _ _ _ before within) in
      let end : Runs 1 (j + 1 + (n + p)) (state (grow (A ⊕ I) q)) (state (grow (subtree k (A ⊕ I) nil) s)) =
      runs_one (j + 1 + (n + p)) _ _ (ev_finish (j + 1 + (n + p)) 4 0 0 x g3 (state (grow (A ⊕ I) q)) refl ∙ finish_runs k (A ⊕ I) s r) in
      runs_as (n + p + 1) (n + (p + 1)) (j + 1) (j + 1) _ _ _ (omega arith) refl refl (runs_then (n + p) 1 (j + 1) _ _ _ both end)

  -- ---------------------------------------------------------------- what stands before a marker

  before_none : Befores done
  unfolding Befores event_count place
  before_none k d x i ts s al c e so dt fr r = runs_as 0 0 (i + 1) (i + 1) _ _ _ refl refl (ap state (sym (grow_nil s))) (runs_none (i + 1) (state s))

  before_node : (q m m' : ℕ) (a i o : Skeleton) → Befores a → Sinks i → Befores (node q m m' a i o)
  unfolding Befores Sinks Chained event_count
  before_node q m m' a i o ba si k d x j ts s al c e so dt fr r =
      let n = event_count a in
      let p = event_count i in
      let w = far true i in
      let p1 = node q m m' a i o in
      let R : List ℕ = LINKED_START_NODE ∷ k ∷ d ∷ x in
      let B = subtree q (place a ts ⊕ place i (after a ts)) nil in
      let b : place p1 ts ≡ B = place_alone q m m' a i o ts al so dt in
      let e' : drop (j * EVENT_ROW) events ≡ encode true a ++ (start_tag a ∷ q ∷ w ∷ (encode false i ++ (FINISH_NODE ∷ 0 ∷ 0 ∷ R))) =
      e ∙ ap (λ y. y ++ R) (encode_alone true q m m' a i o al) ∙ append_assoc (encode true a) (start_tag a ∷ q ∷ w ∷ (encode false i ++ (FINISH_NODE ∷ 0 ∷ 0 ∷ []))) R
      ∙ ap (λ y. encode true a ++ (start_tag a ∷ q ∷ w ∷ y)) (append_assoc (encode false i) (FINISH_NODE ∷ 0 ∷ 0 ∷ []) R) in
      let g : drop ((j + event_count p1) * EVENT_ROW) events ≡ R = ev_past events j (event_count p1) (encode true p1) R e (encode_count true p1) in
      let t : j + event_count p1 ≡ j + 1 + (n + (p + 1)) = omega (arith, ap event_count al) in
      let rb : Fits B s = subst (λ f. Fits f s) b r in
      let within : Runs (n + (p + 1)) (j + 1) (state (opened a (inside q s))) (state (grow B s)) = node_inside a i ba si q w R j ts s c.0 c.1.0 c.1.1.0 e' so dt fr rb in
      let skip : Runs 1 (j + 1 + (n + (p + 1))) (state (grow B s)) (state (grow B s)) =
      runs_as 1 1 (j + event_count p1) (j + 1 + (n + (p + 1))) _ _ _ refl t refl (runs_one (j + event_count p1) _ _ (ev_linked (j + event_count p1) 6 k d x g (state (grow B s)) refl)) in
      runs_as (n + (p + 1) + 1) (event_count p1) (j + 1) (j + 1) _ _ _ (omega (arith, ap event_count al)) refl (ap (λ f. state (grow f s)) (sym b)) (runs_then (n + (p + 1)) 1 (j + 1) _ _ _ within skip)

  -- ---------------------------------------------------------------- a node, and what follows it

  -- its first event: trivia, and its chain opened
  start_event : (a i : Skeleton) (k : ℕ) (l : Bool) (x : List ℕ) (j : ℕ) (ts : List Token) (s : Filled) → Alone a → Chained a
      → drop (j * EVENT_ROW) events ≡ encode true a ++ (start_tag a ∷ k ∷ far l i ∷ (encode false i ++ (FINISH_NODE ∷ 0 ∷ 0 ∷ x))) → (get_or x 0 0 ≡ LINKED_START_NODE → ⊥) → From tokens s.cursor ts → Fits (lead ts) s
      → Fits (subtree k (place a (drop_trivia ts) ⊕ place i (after a (drop_trivia ts))) nil) (grow (lead ts) s)
      → event_on tokens events j (state s) ≡ state (opened a (inside k (grow (lead ts) s)))
  unfolding row_count
  start_event a i k l x j ts s al ca e ne fr r0 r1 =
      let us = drop_trivia ts in
      let vs = after a us in
      let A = place a us in
      let I = place i vs in
      let w = length (events_of false i) in
      let y : List ℕ = start_tag a ∷ k ∷ far l i ∷ (encode false i ++ (FINISH_NODE ∷ 0 ∷ 0 ∷ x)) in
      let ly : length (encode true a ++ y) ≡ length (encode true a) + length y = length-append (encode true a) y in
      let t : field events j EVENT_TAG ≡ 1 = ev_field events j EVENT_TAG (encode true a ++ y) e (omega arith) ∙ chain_first a k (far l i) (encode false i ++ (FINISH_NODE ∷ 0 ∷ 0 ∷ x)) al ca in
      let z : List ℕ = start_tag a ∷ k ∷ far l i ∷ (encode false i ++ (FINISH_NODE ∷ 0 ∷ 0 ∷ [])) in
      let ye : y ≡ z ++ x = ap (λ q. start_tag a ∷ k ∷ far l i ∷ q) (sym (append_assoc (encode false i) (FINISH_NODE ∷ 0 ∷ 0 ∷ []) x)) in
      let e1 : drop ((j + event_count a) * EVENT_ROW) events ≡ z ++ x = ev_past events j (event_count a) (encode true a) y e (encode_count true a) ∙ ye in
      let lz : length z ≡ suc (suc w) * EVENT_ROW = omega (arith, length-append (encode false i) (FINISH_NODE ∷ 0 ∷ 0 ∷ []), encode_count false i, events_length false i) in
      let e2 : drop ((j + event_count a + suc (suc w)) * EVENT_ROW) events ≡ x = ev_past events (j + event_count a) (suc (suc w)) z x e1 lz in
      let dp : depth a ≤ row_count (A ⊕ I) = omega (arith, depth_size a us, row_count_beside A I) in
      ev_start j (state s) t ∙ ap (λ q. start_on events j q) (trivia_runs tokens ts s fr r0)
      ∙ start_runs events a k w l (encode false i ++ (FINISH_NODE ∷ 0 ∷ 0 ∷ x)) j (grow (lead ts) s) al ca e (λ _. ev_other events (j + event_count a + suc (suc w)) x e2 ne)
      r1.whole (omega (arith, r1.free)) (omega (arith, r1.rows))

  sinks_node : (k m m' : ℕ) (a i o : Skeleton) → Befores a → Sinks i → Sinks o → Sinks (node k m m' a i o)
  unfolding Befores Sinks Chained event_count encode place
  sinks_node k m m' a i o ba si so l e j ts s c h ne fr r =
      let us = drop_trivia ts in
      let vs = after a us in
      let ws = after i vs in
      let B = subtree k (place a us ⊕ place i vs) nil in
      let P = place o ws in
      let n = event_count a in
      let p = event_count i in
      let q1 = grow (lead ts) s in
      let q2 = grow B q1 in
      let x : List ℕ = encode l o ++ e in
      let h' : drop (j * EVENT_ROW) events ≡ encode true a ++ (start_tag a ∷ k ∷ far l i ∷ (encode false i ++ (FINISH_NODE ∷ 0 ∷ 0 ∷ x))) =
      h ∙ append_assoc (encode true a) (start_tag a ∷ k ∷ far l i ∷ (encode false i ++ (FINISH_NODE ∷ 0 ∷ 0 ∷ encode l o))) e
      ∙ ap (λ y. encode true a ++ (start_tag a ∷ k ∷ far l i ∷ y)) (append_assoc (encode false i) (FINISH_NODE ∷ 0 ∷ 0 ∷ encode l o) e) in
      let r0 : Fits (lead ts) s = fits_front (lead ts) (B ⊕ P) s r in
      let r1 : Fits (B ⊕ P) q1 = fits_back (lead ts) (B ⊕ P) s r in
      let r2 : Fits B q1 = fits_front B P q1 r1 in
      let f1 : From tokens q1.cursor us = from_grown tokens (lead ts) s ts us fr (raw_lead ts) in
      let xo : get_or x 0 0 ≡ LINKED_START_NODE → ⊥ = first_other l o e c.1.1.1 ne in
      let first : Runs 1 j (state s) (state (opened a (inside k q1))) = runs_one j _ _ (start_event a i k l x j ts s c.0 c.1.0 h' xo fr r0 r2) in
      let within : Runs (n + (p + 1)) (j + 1) (state (opened a (inside k q1))) (state q2) =
      node_inside a i ba si k (far l i) x j us q1 c.0 c.1.0 c.1.1.0 h' (dropped_solid ts) (drop_twice ts) f1 r2 in
      let whole : Runs (1 + (n + (p + 1))) j (state s) (state q2) = runs_then 1 (n + (p + 1)) j _ _ _ first within in
      let z : List ℕ = start_tag a ∷ k ∷ far l i ∷ (encode false i ++ (FINISH_NODE ∷ 0 ∷ 0 ∷ [])) in
      let ye : encode true a ++ (start_tag a ∷ k ∷ far l i ∷ (encode false i ++ (FINISH_NODE ∷ 0 ∷ 0 ∷ x))) ≡ (encode true a ++ z) ++ x =
      ap (λ y. encode true a ++ (start_tag a ∷ k ∷ far l i ∷ y)) (sym (append_assoc (encode false i) (FINISH_NODE ∷ 0 ∷ 0 ∷ []) x)) ∙ sym (append_assoc (encode true a) z x) in
      let lz : length (encode true a ++ z) ≡ (1 + (n + (p + 1))) * EVENT_ROW =
      omega (arith, length-append (encode true a) z, length-append (encode false i) (FINISH_NODE ∷ 0 ∷ 0 ∷ []), encode_count true a, encode_count false i) in
      let h2 : drop ((j + (1 + (n + (p + 1)))) * EVENT_ROW) events ≡ x = ev_past events j (1 + (n + (p + 1))) (encode true a ++ z) x (h' ∙ ye) lz in
      let f2 : From tokens q2.cursor ws = from_grown tokens B q1 us ws f1 (raw_branch k (place a us ⊕ place i vs) us ws (drop_then (place a us) (place i vs) us vs ws (raw_place a us) (raw_place i vs))) in
      let rest : Runs (event_count o) (j + (1 + (n + (p + 1)))) (state q2) (state (grow P q2)) = so l e (j + (1 + (n + (p + 1)))) ws q2 c.1.1.1 h2 ne f2 (fits_back B P q1 r1) in
      runs_as (1 + (n + (p + 1)) + event_count o) (n + (p + event_count o + 2)) j j _ _ _ (omega arith) refl
      (ap state (grow_grow B P q1 ∙ grow_grow (lead ts) (B ⊕ P) s))
      (runs_then (1 + (n + (p + 1))) (event_count o) j _ _ _ whole rest)

  -- ---------------------------------------------------------------- an ignored marker

  sinks_ignored : (m m' : ℕ) (a i o : Skeleton) → Sinks a → Sinks i → Sinks o → Sinks (ignored m m' a i o)
  unfolding Sinks Chained event_count encode place
  sinks_ignored m m' a i o sa si so l e j ts s c h ne fr r =
      let vs = after a ts in
      let ws = after i vs in
      let A = place a ts in
      let I = place i vs in
      let P = place o ws in
      let n = event_count a in
      let p = event_count i in
      let q1 = grow A s in
      let q2 = grow I q1 in
      let y : List ℕ = PLACEHOLDER ∷ 0 ∷ 0 ∷ (encode l o ++ e) in
      let x : List ℕ = PLACEHOLDER ∷ 0 ∷ 0 ∷ (encode false i ++ y) in
      let h0 : drop (j * EVENT_ROW) events ≡ encode true a ++ x =
      h ∙ append_assoc (encode true a) (PLACEHOLDER ∷ 0 ∷ 0 ∷ (encode false i ++ (PLACEHOLDER ∷ 0 ∷ 0 ∷ encode l o))) e ∙ ap (λ z. encode true a ++ (PLACEHOLDER ∷ 0 ∷ 0 ∷ z)) (append_assoc (encode false i) (PLACEHOLDER ∷ 0 ∷ 0 ∷ encode l o) e) in
      let h1 : drop ((j + n) * EVENT_ROW) events ≡ x = ev_past events j n (encode true a) x h0 (encode_count true a) in
      let h2 : drop ((j + n + 1) * EVENT_ROW) events ≡ encode false i ++ y = ev_next (j + n) PLACEHOLDER 0 0 (encode false i ++ y) h1 in
      let h3 : drop ((j + n + 1 + p) * EVENT_ROW) events ≡ y = ev_past events (j + n + 1) p (encode false i) y h2 (encode_count false i) in
      let h4 : drop ((j + n + 1 + p + 1) * EVENT_ROW) events ≡ encode l o ++ e = ev_next (j + n + 1 + p) PLACEHOLDER 0 0 (encode l o ++ e) h3 in
      let r1 : Fits (I ⊕ P) q1 = fits_back A (I ⊕ P) s r in
      let f1 : From tokens q1.cursor vs = from_grown tokens A s ts vs fr (raw_place a ts) in
      let f2 : From tokens q2.cursor ws = from_grown tokens I q1 vs ws f1 (raw_place i vs) in
      let one : Runs n j (state s) (state q1) = sa true x j ts s c.1.0 h0 (λ z. omega arith) fr (fits_front A (I ⊕ P) s r) in
      let two : Runs 1 (j + n) (state q1) (state q1) = runs_one (j + n) _ _ (ev_hole (j + n) PLACEHOLDER 0 0 (encode false i ++ y) h1 (state q1) refl) in
      let three : Runs p (j + n + 1) (state q1) (state q2) = si false y (j + n + 1) vs q1 c.1.1.0 h2 (λ z. omega arith) f1 (fits_front I P q1 r1) in
      let four : Runs 1 (j + n + 1 + p) (state q2) (state q2) = runs_one (j + n + 1 + p) _ _ (ev_hole (j + n + 1 + p) PLACEHOLDER 0 0 (encode l o ++ e) h3 (state q2) refl) in
      let five : Runs (event_count o) (j + n + 1 + p + 1) (state q2) (state (grow P q2)) = so l e (j + n + 1 + p + 1) ws q2 c.1.1.1 h4 ne f2 (fits_back I P q1 r1) in
      runs_as (n + 1 + p + 1 + event_count o) (n + (p + event_count o + 2)) j j _ _ _ (omega arith) refl
      (ap state (grow_grow I P q1 ∙ grow_grow A (I ⊕ P) s))
      (runs_on (n + 1 + p + 1) (event_count o) j (j + n + 1 + p + 1) _ _ _ (omega arith)
      (runs_on (n + 1 + p) 1 j (j + n + 1 + p) _ _ _ (omega arith)
      (runs_on (n + 1) p j (j + n + 1) _ _ _ (omega arith) (runs_then n 1 j _ _ _ one two) three) four) five)

  -- ---------------------------------------------------------------- a token, a name, and events that write nothing

  leaf_then : (o : Skeleton) → Sinks o → (F : Tree) (vs : List Token) (l : Bool) (e : List ℕ) (j : ℕ) (ts : List Token) (s : Filled) → Chained o
      → drop ((j + 1) * EVENT_ROW) events ≡ encode l o ++ e → (get_or e 0 0 ≡ LINKED_START_NODE → ⊥) → From tokens s.cursor ts → drop (raw F) (drop_trivia ts) ≡ vs → Fits (lead ts ⊕ (F ⊕ place o vs)) s
      → (From tokens (grow (lead ts) s).cursor (drop_trivia ts) → Fits (lead ts) s → Fits F (grow (lead ts) s) → event_on tokens events j (state s) ≡ state (grow F (grow (lead ts) s)))
      → Runs (suc (event_count o)) j (state s) (state (grow (lead ts ⊕ (F ⊕ place o vs)) s))
  unfolding Sinks
  leaf_then o so F vs l e j ts s c h ne fr rf r step =
      let us = drop_trivia ts in
      let P = place o vs in
      let q1 = grow (lead ts) s in
      let f1 : From tokens q1.cursor us = from_grown tokens (lead ts) s ts us fr (raw_lead ts) in
      let r1 : Fits (F ⊕ P) q1 = fits_back (lead ts) (F ⊕ P) s r in
      let one : Runs 1 j (state s) (state (grow F q1)) = runs_one j _ _ (step f1 (fits_front (lead ts) (F ⊕ P) s r) (fits_front F P q1 r1)) in
      let rest : Runs (event_count o) (j + 1) (state (grow F q1)) (state (grow P (grow F q1))) =
      so l e (j + 1) vs (grow F q1) c h ne (from_grown tokens F q1 us vs f1 rf) (fits_back F P q1 r1) in
      runs_as (1 + event_count o) (suc (event_count o)) j j _ _ _ (omega arith) refl
      (ap state (grow_grow F P q1 ∙ grow_grow (lead ts) (F ⊕ P) s)) (runs_then 1 (event_count o) j _ _ _ one rest)

  sinks_token : (t : Token) (m : ℕ) (o : Skeleton) → Sinks o → Sinks (token t m o)
  unfolding Sinks Chained event_count encode place
  sinks_token t m o so l e j ts s c h ne fr r =
      let us = drop_trivia ts in
      leaf_then o so (front us) (past us) l e j ts s c (ev_next j ADD_TOKEN 0 0 (encode l o ++ e) h) ne fr (raw_front us) r
      (λ f1 r0 r1. ev_take j ADD_TOKEN 0 0 (encode l o ++ e) h (state s) refl ∙ ap (λ x. token_on tokens x) (trivia_runs tokens ts s fr r0) ∙ token_runs tokens (grow (lead ts) s) us f1 r1)

  sinks_name : (raw_tokens : List Token) (m : ℕ) (o : Skeleton) → Sinks o → Sinks (name raw_tokens m o)
  unfolding Sinks Chained event_count encode place
  sinks_name rt m o so l e j ts s c h ne fr r =
      let us = drop_trivia ts in
      let n = length rt in
      leaf_then o so (leaf K.Name (take n us) nil) (drop n us) l e j ts s c (ev_next j ADD_COMBINED_TOKEN n 0 (encode l o ++ e) h) ne fr (raw_name n us) r
      (λ f1 r0 r1. ev_name j ADD_COMBINED_TOKEN n 0 (encode l o ++ e) h (state s) refl ∙ ap (λ x. combined_on tokens n x) (trivia_runs tokens ts s fr r0) ∙ name_runs tokens small n (grow (lead ts) s) us f1 r1)

  sinks_report : (o : Skeleton) → Sinks o → (l : Bool) (e : List ℕ) (j : ℕ) (ts : List Token) (s : Filled) → Chained o → drop (j * EVENT_ROW) events ≡ ERROR ∷ 0 ∷ 0 ∷ (encode l o ++ e)
      → (get_or e 0 0 ≡ LINKED_START_NODE → ⊥) → From tokens s.cursor ts → Fits (place o ts) s → Runs (suc (event_count o)) j (state s) (state (grow (place o ts) s))
  unfolding Sinks
  sinks_report o so l e j ts s c h ne fr r =
      runs_as (1 + event_count o) (suc (event_count o)) j j _ _ _ (omega arith) refl refl
      (runs_then 1 (event_count o) j _ _ _ (runs_one j _ _ (ev_error j ERROR 0 0 (encode l o ++ e) h (state s) refl)) (so l e (j + 1) ts s c (ev_next j ERROR 0 0 (encode l o ++ e) h) ne fr r))

  sinks_done : Sinks done
  unfolding Sinks event_count place
  sinks_done l e j ts s c h ne fr r = runs_as 0 0 j j _ _ _ refl refl (ap state (sym (grow_nil s))) (runs_none j (state s))

  -- ---------------------------------------------------------------- the induction

  mutual
    unfolding Sinks Befores Chained event_count encode place

    pub sinks : (o : Skeleton) → Sinks o
    sinks done = sinks_done
    sinks (token t m o) = sinks_token t m o (sinks o)
    sinks (name ts m o) = sinks_name ts m o (sinks o)
    sinks (node k m m' a i o) = sinks_node k m m' a i o (befores a) (sinks i) (sinks o)
    sinks (ignored m m' a i o) = sinks_ignored m m' a i o (sinks a) (sinks i) (sinks o)
    sinks (report r o) = λ l e j ts s c h ne fr q. sinks_report o (sinks o) l e j ts s c h ne fr q
    sinks (over m o) = λ l e j ts s c h ne fr q. sinks o l e j ts s c h ne fr q

    befores : (a : Skeleton) → Befores a
    befores done = before_none
    befores (node k m m' a i o) = before_node k m m' a i o (befores a) (sinks i)
    befores (token t m o) = λ k d x i ts s al c e so dt fr r. absurd al
    befores (name ts m o) = λ k d x i us s al c e so dt fr r. absurd al
    befores (ignored m m' a i o) = λ k d x j ts s al c e so dt fr r. absurd al
    befores (report p o) = λ k d x i ts s al c e so dt fr r. absurd al
    befores (over m o) = λ k d x i ts s al c e so dt fr r. absurd al
