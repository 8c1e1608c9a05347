-- A turn of the walk down a chain: what is sought and found, and what is put on the list.
use Prim.Native.Nat.{ℕ, suc, ◌+◌, ◌-◌, ◌*◌, ◌/◌, ◌≤◌, ◌<◌}
use native.Mathlib.Omega.{arith}
use mathlib.Core.Path.{◌≡◌, refl, ap, sym, ◌∙◌, subst}
use mathlib.Core.Bool.{Bool, true, false, cond}
use mathlib.Core.List.{List, [], ◌∷◌, ◌++◌, append_assoc}
use lib.Dec.{ltb, eqb}
use lib.ListN.{length, get_or, drop, set, length-append}
use lib.Seq.{drop-drop}
use borrow.Author.Tests.{ltb-true, ltb-false, lt-ltb, eq-eqb, ne_eqb}
use Rattle.basics.proofs.Lists.{first_same, rest_same}
use Rattle.definitions.specs.Layout.{TREE_ROW, LEAF}
use Rattle.rows.specs.ResultRows.{Row, class, width, over_leaves, raw_bytes}
use Rattle.rows.specs.OnePass.{tree_rows_of, own, holding, Classes}
use Rattle.rows.proofs.Numbers.{row_from, rows_cons, rows_some, rows_number, rows_drop}
use Rattle.caret.specs.declared.chain.Spot.{Spot}
use Rattle.caret.specs.Walk.{laid, Lists, seek_from}
use Rattle.caret.proofs.Turns.{rows_from, Going, own_within}

-- ---------------------------------------------------------------- the list

-- one number more
pub laid_put : (d b : List ℕ) (v : ℕ) → set (laid d b) (length d) v ≡ laid (d ++ (v ∷ [])) b
unfolding laid
laid_put [] [] v = refl
laid_put [] (y ∷ b) v = refl
laid_put (x ∷ d) [] v = refl
laid_put (x ∷ d) (y ∷ b) v = ap (x ∷◌) (laid_put d b v)

pub laid_length : (d b : List ℕ) → length (laid d b) ≡ length b
unfolding laid
laid_length [] b = refl
laid_length (x ∷ d) [] = refl
laid_length (x ∷ d) (y ∷ b) = ap suc (laid_length d b)

-- ---------------------------------------------------------------- what is found

-- among rows of which the first has number i and an index
record Among (l : List Row) (i index left : ℕ) (s : Spot) : Type 0 where
  passed_rows : ℕ
  row : Row
  after : List Row
  is : drop passed_rows l ≡ row ∷ after
  at : s.index ≡ index + TREE_ROW * passed_rows
  has : s.left < width row
  bytes : s.left < raw_bytes (row ∷ after)
  classes : Classes (row ∷ after)
  same : holding i left l ≡ holding (i + passed_rows) s.left (row ∷ after)

among : (l : List Row) (i index left : ℕ) → left < raw_bytes l → Classes l → Among l i index left (seek_from index left l)
unfolding over_leaves Classes holding seek_from
among [] i index left h c = absurd (omega arith)
among (r ∷ m) i index left h c = go (ltb left (width r)) refl (λ p. among m (suc i) (index + TREE_ROW) (left - own r) p c.1)
  where
    go : (b : Bool) → ltb left (width r) ≡ b → (left - own r < raw_bytes m → Among m (suc i) (index + TREE_ROW) (left - own r) (seek_from (index + TREE_ROW) (left - own r) m))
        → Among (r ∷ m) i index left (cond (ltb left (width r)) (record { index = index; left = left }) (seek_from (index + TREE_ROW) (left - own r) m))
    go true e rec =
        let p = ltb-true left (width r) e in
        rw e record {
          passed_rows = 0;
          row = r;
          after = m;
          is = refl;
          at = omega arith;
          has = p;
          bytes = h;
          classes = c;
          same = (let z : i ≡ i + 0 = omega arith in ap (λ (j : ℕ). holding j left (r ∷ m)) z);
        }
    go false e rec =
        let p = ltb-false left (width r) e in
        let o = own_within r in
        let a = rec (omega (arith, h, p, o)) in
        let z : suc i + a.passed_rows ≡ i + suc a.passed_rows = omega arith in
        rw e record {
          passed_rows = suc a.passed_rows;
          row = a.row;
          after = a.after;
          is = a.is;
          at = omega (arith, a.at);
          has = a.has;
          bytes = a.bytes;
          classes = a.classes;
          same =
              ap (λ (t : Bool). cond t (i ∷ cond (eqb (class r) LEAF) [] (holding (suc i) left m)) (holding (suc i) (left - own r) m)) e
              ∙ a.same
              ∙ ap (λ (j : ℕ). holding j (seek_from (index + TREE_ROW) (left - own r) m).left (a.row ∷ a.after)) z;
        }

-- in the numbers of tree rows
pub record Found (trees : List ℕ) (i index left : ℕ) (s : Spot) : Type 0 where
  pub number : ℕ
  pub at : s.index ≡ TREE_ROW * number
  pub later : index ≤ s.index
  pub few : number < length (tree_rows_of trees)
  pub here : (get_or trees s.index 0 ≡ LEAF) → holding i left (rows_from trees index) ≡ number ∷ []
  pub deeper : (get_or trees s.index 0 ≡ LEAF → ⊥)
      → (holding i left (rows_from trees index) ≡ number ∷ holding (suc number) s.left (rows_from trees (s.index + TREE_ROW))) × Going trees (s.index + TREE_ROW) s.left

-- a row that has the byte: a leaf ends the chain, under a node it goes on
holding_leaf : (r : Row) (m : List Row) (i left : ℕ) → left < width r → class r ≡ LEAF → holding i left (r ∷ m) ≡ i ∷ []
unfolding holding
holding_leaf r m i left h e = rw (lt-ltb left (width r) h, eq-eqb (class r) LEAF e) refl

holding_node : (r : Row) (m : List Row) (i left : ℕ) → left < width r → (class r ≡ LEAF → ⊥) → holding i left (r ∷ m) ≡ i ∷ holding (suc i) left m
unfolding holding
holding_node r m i left h e = rw (lt-ltb left (width r) h, ne_eqb (class r) LEAF e) refl

node_bytes : (r : Row) (m : List Row) (left : ℕ) → (class r ≡ LEAF → ⊥) → left < raw_bytes (r ∷ m) → left < raw_bytes m
unfolding over_leaves
node_bytes r m left e h = let z : own r ≡ 0 = rw (ne_eqb (class r) LEAF e) refl in omega (arith, h, z)

pub found_row : (trees : List ℕ) (i index left : ℕ) → index ≡ TREE_ROW * i → Going trees index left → Found trees i index left (seek_from index left (rows_from trees index))
unfolding Classes
found_row trees i index left e g =
    let s = seek_from index left (rows_from trees index) in
    let a = among (rows_from trees index) i index left g.bytes g.classes in
    let n = a.passed_rows in
    let d : rows_from trees s.index ≡ a.row ∷ a.after =
    ap (rows_from trees) a.at
    ∙ ap tree_rows_of (sym (drop-drop (TREE_ROW * n) index trees))
    ∙ rows_drop n (drop index trees)
    ∙ a.is in
    let t : s.index + TREE_ROW ≤ length trees = rows_some trees s.index a.row a.after d in
    let f : a.row ∷ a.after ≡ row_from trees s.index ∷ rows_from trees (s.index + TREE_ROW) = sym d ∙ rows_cons trees s.index t in
    let r : a.row ≡ row_from trees s.index = first_same f in
    let m : a.after ≡ rows_from trees (s.index + TREE_ROW) = rest_same f in
    let k : class a.row ≡ get_or trees s.index 0 = ap class r in
    record {
      number = i + n;
      at = omega (arith, a.at, e);
      later = omega (arith, a.at);
      few = (let z = rows_number trees in omega (arith, z, t, a.at, e));
      here = λ x. a.same ∙ holding_leaf a.row a.after (i + n) s.left a.has (k ∙ x);
      deeper = λ x. (
        a.same ∙ holding_node a.row a.after (i + n) s.left a.has (λ y. x (sym k ∙ y)) ∙ ap (λ (l : List Row). (i + n) ∷ holding (suc (i + n)) s.left l) m,
        record {
          bytes = subst (λ (l : List Row). s.left < raw_bytes l) m (node_bytes a.row a.after s.left (λ y. x (sym k ∙ y)) a.bytes);
          classes = subst Classes m a.classes.1;
        },
      );
    }

-- ---------------------------------------------------------------- the walk

-- what is done when the walk stands at an index: `done` is on the list, and the rest is found from here
pub record Walked (byte : ℕ) (trees list₀ list : List ℕ) (index left count : ℕ) : Type 0 where
  pub done : List ℕ
  pub row : ℕ
  pub at : index ≡ TREE_ROW * row
  pub going : Going trees index left
  pub counted : count ≡ length done
  pub few : count ≤ row
  pub on_list : list ≡ laid done list₀
  pub whole : done ++ holding row left (rows_from trees index) ≡ holding 0 byte (tree_rows_of trees)

pub walk_starts : (byte : ℕ) (trees list : List ℕ) → byte < raw_bytes (tree_rows_of trees) → Classes (tree_rows_of trees) → Walked byte trees list list 0 byte 0
unfolding laid
walk_starts byte trees list h c =
    record { done = []; row = 0; at = refl; going = record { bytes = h; classes = c }; counted = refl; few = omega arith; on_list = refl; whole = refl }

module _ {byte : ℕ} {trees list₀ list : List ℕ} {index left count : ℕ} (w : Walked byte trees list₀ list index left count) where
  abbrev pub spot_here : Spot
  spot_here = seek_from index left (rows_from trees index)

  pub sought : Found trees w.row index left spot_here
  sought = found_row trees w.row index left w.at w.going

  -- the row's number, worked out from its index
  pub number_here : spot_here.index / TREE_ROW ≡ sought.number
  number_here = omega (arith, sought.at)

  -- put on the list
  put_here : set list count (spot_here.index / TREE_ROW) ≡ laid (w.done ++ (sought.number ∷ [])) list₀
  put_here =
      ap (set list count) number_here
      ∙ ap (λ (l : List ℕ). set l count sought.number) w.on_list
      ∙ ap (λ (n : ℕ). set (laid w.done list₀) n sought.number) w.counted
      ∙ laid_put w.done list₀ sought.number

  pub walk_ends : get_or trees spot_here.index 0 ≡ LEAF
      → (count + 1 ≡ length (holding 0 byte (tree_rows_of trees))) × (set list count (spot_here.index / TREE_ROW) ≡ laid (holding 0 byte (tree_rows_of trees)) list₀)
  walk_ends e =
      let all : w.done ++ (sought.number ∷ []) ≡ holding 0 byte (tree_rows_of trees) = ap (w.done ++◌) (sym (sought.here e)) ∙ w.whole in
      let n : length (w.done ++ (sought.number ∷ [])) ≡ length w.done + 1 = length-append w.done (sought.number ∷ []) in
      (omega (arith, w.counted, n, ap length all), put_here ∙ ap (λ (l : List ℕ). laid l list₀) all)

  pub walk_on : (get_or trees spot_here.index 0 ≡ LEAF → ⊥)
      → Walked byte trees list₀ (set list count (spot_here.index / TREE_ROW)) (spot_here.index + TREE_ROW) spot_here.left (count + 1)
  walk_on e =
      let n : length (w.done ++ (sought.number ∷ [])) ≡ length w.done + 1 = length-append w.done (sought.number ∷ []) in
      record {
        done = w.done ++ (sought.number ∷ []);
        row = suc sought.number;
        at = omega (arith, sought.at);
        going = (sought.deeper e).1;
        counted = omega (arith, w.counted, n);
        few = omega (arith, w.few, w.at, sought.at, sought.later);
        on_list = put_here;
        whole = append_assoc w.done (sought.number ∷ []) _ ∙ ap (w.done ++◌) (sym (sought.deeper e).0) ∙ w.whole;
      }

  -- the same of a spot that the code was given, and the list that it was put on
  module _ (s : Spot) (e : s ≡ spot_here) where
    pub at_hand : Found trees w.row index left s
    at_hand = subst (Found trees w.row index left) (sym e) sought

    pub ends_at : (count' : ℕ) (list' : List ℕ) → count' ≡ suc count → list' ≡ set list count (s.index / TREE_ROW) → get_or trees s.index 0 ≡ LEAF
        → Lists (holding 0 byte (tree_rows_of trees)) count' list₀ list'
    ends_at count' list' n p h =
        let z = walk_ends (ap (λ (x : Spot). get_or trees x.index 0) (sym e) ∙ h) in
        record { many = omega (arith, n, z.0); listed = p ∙ ap (λ (x : Spot). set list count (x.index / TREE_ROW)) e ∙ z.1 }

    pub on_from : (count' : ℕ) (list' : List ℕ) → count' ≡ suc count → list' ≡ set list count (s.index / TREE_ROW) → (get_or trees s.index 0 ≡ LEAF → ⊥)
        → Walked byte trees list₀ list' (s.index + TREE_ROW) s.left count'
    on_from count' list' n p h =
        let z = walk_on (λ q. h (ap (λ (x : Spot). get_or trees x.index 0) e ∙ q)) in
        let one : count + 1 ≡ count' = omega (arith, n) in
        subst (λ (k : ℕ). Walked byte trees list₀ list' (s.index + TREE_ROW) s.left k) one (subst (λ (l : List ℕ). Walked byte trees list₀ l (s.index + TREE_ROW) s.left (count + 1)) (sym p)
        (subst (λ (x : Spot). Walked byte trees list₀ (set list count (x.index / TREE_ROW)) (x.index + TREE_ROW) x.left (count + 1)) (sym e) z))
