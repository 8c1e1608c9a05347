-- A turn of each walk, at an index into the numbers of tree rows.
use Prim.Native.Nat.{ℕ, zero, suc, ◌+◌, ◌-◌, ◌*◌, ◌≤◌, ◌<◌}
use native.Mathlib.Omega.{arith}
use mathlib.Core.Path.{◌≡◌, refl, ap, sym, ◌∙◌, subst}
use mathlib.Core.Bool.{Bool, true, false, cond}
use mathlib.Core.List.{List, [], ◌∷◌}
use lib.Dec.{eqb}
use lib.ListN.{length, get_or, drop}
use borrow.Author.Tests.{le-ltb, lt-ltb}
use Rattle.definitions.specs.Layout.{TREE_ROW, TREE_WIDTH, LEAF}
use Rattle.rows.specs.ResultRows.{Row, class, width, over_leaves, raw_bytes}
use Rattle.rows.specs.OnePass.{tree_rows_of, own, Classes, AddsUp}
use Rattle.rows.proofs.Numbers.{row_from, rows_cons, rows_some, own_product}
use Rattle.caret.specs.declared.chain.Spot.{Spot}
use Rattle.caret.specs.Walk.{seek_from, passed}

-- the rows from an index on
abbrev pub rows_from : List ℕ → ℕ → List Row
rows_from trees i = tree_rows_of (drop i trees)

abbrev pub spot : ℕ → ℕ → Spot
spot i left = record { index = i; left = left }

-- a leaf's bytes are no more than its width
pub own_within : (r : Row) → own r ≤ width r
own_within r = by (eqb (class r) LEAF)
  where
    by : (b : Bool) → cond b (width r) 0 ≤ width r
    by true = omega arith
    by false = omega arith

-- ---------------------------------------------------------------- seeking

-- the byte is one of the leaves from the index on
pub record Going (trees : List ℕ) (i left : ℕ) : Type 0 where
  pub bytes : left < raw_bytes (rows_from trees i)
  pub classes : Classes (rows_from trees i)

pub some_row : (l : List Row) (left : ℕ) → left < raw_bytes l → (r : Row) × (m : List Row) × (l ≡ r ∷ m)
unfolding over_leaves
some_row [] left h = absurd (omega arith)
some_row (r ∷ m) left h = (r, m, refl)

pub there : (trees : List ℕ) (i left : ℕ) → Going trees i left → i + TREE_ROW ≤ length trees
there trees i left g = let s = some_row (rows_from trees i) left g.bytes in rows_some trees i s.0 s.1 s.2

pub here : (trees : List ℕ) (i left : ℕ) → Going trees i left → left < get_or trees (i + TREE_WIDTH) 0 → seek_from i left (rows_from trees i) ≡ spot i left
unfolding seek_from
here trees i left g h =
    ap (seek_from i left) (rows_cons trees i (there trees i left g))
    ∙ ap (λ (b : Bool). cond b (spot i left) (seek_from (i + TREE_ROW) (left - own (row_from trees i)) (rows_from trees (i + TREE_ROW)))) (lt-ltb left (get_or trees (i + TREE_WIDTH) 0) h)

-- past a row that does not have it
pub record Past (trees : List ℕ) (i left moved : ℕ) : Type 0 where
  pub less : moved ≤ left
  pub going : Going trees (i + TREE_ROW) (left - moved)
  pub same : seek_from i left (rows_from trees i) ≡ seek_from (i + TREE_ROW) (left - moved) (rows_from trees (i + TREE_ROW))

pub past_row : (trees : List ℕ) (i left : ℕ) → Going trees i left → get_or trees (i + TREE_WIDTH) 0 ≤ left
    → Past trees i left (get_or trees i 0 * get_or trees (i + TREE_WIDTH) 0)
unfolding over_leaves Classes seek_from
past_row trees i left g h =
    let e : rows_from trees i ≡ row_from trees i ∷ rows_from trees (i + TREE_ROW) = rows_cons trees i (there trees i left g) in
    let c : Classes (row_from trees i ∷ rows_from trees (i + TREE_ROW)) = subst Classes e g.classes in
    let b : left < raw_bytes (row_from trees i ∷ rows_from trees (i + TREE_ROW)) = subst (λ (l : List Row). left < raw_bytes l) e g.bytes in
    let p : get_or trees i 0 * get_or trees (i + TREE_WIDTH) 0 ≡ own (row_from trees i) = own_product (get_or trees i 0) (get_or trees (i + TREE_WIDTH) 0) c.0 in
    let o : own (row_from trees i) ≤ get_or trees (i + TREE_WIDTH) 0 = own_within (row_from trees i) in
    rw p record {
      less = omega (arith, o, h);
      going = record { bytes = omega (arith, b, o, h); classes = c.1 };
      same =
          ap (seek_from i left) e
          ∙ ap (λ (t : Bool). cond t (spot i left) (seek_from (i + TREE_ROW) (left - own (row_from trees i)) (rows_from trees (i + TREE_ROW)))) (le-ltb left (get_or trees (i + TREE_WIDTH) 0) h);
    }

-- what `seek` knows at an index: what is found from here is what is found from the start, the byte is still to come, and
-- the width of the row here is read
pub record Seeking (trees : List ℕ) (index left i rest w : ℕ) : Type 0 where
  pub same : seek_from i rest (rows_from trees i) ≡ seek_from index left (rows_from trees index)
  pub going : Going trees i rest
  pub read : w ≡ get_or trees (i + TREE_WIDTH) 0
  pub fewer : rest ≤ left

module _ {trees : List ℕ} {index left i rest w : ℕ} (s : Seeking trees index left i rest w) where
  pub row_there : i + TREE_ROW ≤ length trees
  row_there = there trees i rest s.going

  pub found_here : rest < w → spot i rest ≡ seek_from index left (rows_from trees index)
  found_here h = sym (here trees i rest s.going (omega (arith, h, s.read))) ∙ s.same

  -- past the first row of a turn
  module _ (h : w ≤ rest) where
    abbrev rest_1 : ℕ
    rest_1 = rest - get_or trees i 0 * w

    past_first : Past trees i rest (get_or trees i 0 * w)
    past_first = subst (λ (x : ℕ). Past trees i rest (get_or trees i 0 * x)) (sym s.read) (past_row trees i rest s.going (omega (arith, h, s.read)))

    pub first_less : get_or trees i 0 * w ≤ rest
    first_less = past_first.less

    pub second_there : i + TREE_ROW + TREE_ROW ≤ length trees
    second_there = there trees (i + TREE_ROW) rest_1 past_first.going

    pub found_second : rest_1 < get_or trees (i + TREE_ROW + TREE_WIDTH) 0 → spot (i + TREE_ROW) rest_1 ≡ seek_from index left (rows_from trees index)
    found_second q = sym (here trees (i + TREE_ROW) rest_1 past_first.going q) ∙ sym past_first.same ∙ s.same

    -- and past the second
    module _ (q : get_or trees (i + TREE_ROW + TREE_WIDTH) 0 ≤ rest_1) where
      abbrev moved : ℕ
      moved = get_or trees (i + TREE_ROW) 0 * get_or trees (i + TREE_ROW + TREE_WIDTH) 0

      past_second : Past trees (i + TREE_ROW) rest_1 moved
      past_second = past_row trees (i + TREE_ROW) rest_1 past_first.going q

      pub second_less : moved ≤ rest_1
      second_less = past_second.less

      pub third_there : i + TREE_ROW + TREE_ROW + TREE_ROW ≤ length trees
      third_there = there trees (i + TREE_ROW + TREE_ROW) (rest_1 - moved) past_second.going

      pub both_past : (j : ℕ) → j ≡ i + TREE_ROW + TREE_ROW → Seeking trees index left j (rest_1 - moved) (get_or trees (j + TREE_WIDTH) 0)
      both_past j e =
          record {
            same = ap (λ (k : ℕ). seek_from k (rest_1 - moved) (rows_from trees k)) e ∙ sym past_second.same ∙ sym past_first.same ∙ s.same;
            going = subst (λ (k : ℕ). Going trees k (rest_1 - moved)) (sym e) past_second.going;
            read = refl;
            fewer = omega (arith, s.fewer);
          }

-- the same, with what the reads and differences of a turn need
pub record Turning (trees : List ℕ) (index left i rest w : ℕ) : Type 0 where
  pub seeking : Seeking trees index left i rest w
  pub onward : index ≤ i
  pub there : i + TREE_ROW ≤ length trees
  pub first : w ≤ rest → get_or trees i 0 * w ≤ rest
  pub second_there : w ≤ rest → i + TREE_ROW + TREE_ROW ≤ length trees
  pub second : w ≤ rest → get_or trees (i + TREE_ROW + TREE_WIDTH) 0 ≤ rest - get_or trees i 0 * w
      → get_or trees (i + TREE_ROW) 0 * get_or trees (i + TREE_ROW + TREE_WIDTH) 0 ≤ rest - get_or trees i 0 * w
  pub third_there : w ≤ rest → get_or trees (i + TREE_ROW + TREE_WIDTH) 0 ≤ rest - get_or trees i 0 * w
      → i + TREE_ROW + TREE_ROW + TREE_ROW ≤ length trees

pub turning : {trees : List ℕ} {index left i rest w : ℕ} → Seeking trees index left i rest w → index ≤ i → Turning trees index left i rest w
turning s h =
    record {
      seeking = s;
      onward = h;
      there = row_there s;
      first = λ a. first_less s a;
      second_there = λ a. second_there s a;
      second = λ a b. second_less s a b;
      third_there = λ a b. third_there s a b;
    }

-- ---------------------------------------------------------------- passing over a part

-- the part that was started adds up from the index on
pub record Inside (trees : List ℕ) (i inside : ℕ) : Type 0 where
  pub classes : Classes (rows_from trees i)
  pub room : ℕ
  pub adds : AddsUp inside room (rows_from trees i)

inside_row : (l : List Row) (inside room : ℕ) → 0 < inside → AddsUp inside room l → (r : Row) × (m : List Row) × (l ≡ r ∷ m)
unfolding AddsUp
inside_row [] inside room p h = absurd (omega (arith, h))
inside_row (r ∷ m) inside room p h = (r, m, refl)

pub inside_there : {trees : List ℕ} {i inside : ℕ} → Inside trees i inside → 0 < inside → i + TREE_ROW ≤ length trees
inside_there {trees} {i} {inside} g p = let s = inside_row (rows_from trees i) inside g.room p g.adds in rows_some trees i s.0 s.1 s.2

-- past a row of the part
pub record Less (trees : List ℕ) (i inside moved : ℕ) : Type 0 where
  pub less : moved ≤ inside
  pub inside_still : Inside trees (i + TREE_ROW) (inside - moved)
  pub one_more : passed inside (rows_from trees i) ≡ suc (passed (inside - moved) (rows_from trees (i + TREE_ROW)))

pub inside_past : {trees : List ℕ} {i inside : ℕ} → Inside trees i inside → 0 < inside → Less trees i inside (get_or trees i 0 * get_or trees (i + TREE_WIDTH) 0)
unfolding Classes AddsUp passed
inside_past {trees = trees} {i = i} {inside = zero} g p = absurd (omega arith)
inside_past {trees = trees} {i = i} {inside = suc n} g p =
    let e : rows_from trees i ≡ row_from trees i ∷ rows_from trees (i + TREE_ROW) = rows_cons trees i (inside_there g p) in
    let c : Classes (row_from trees i ∷ rows_from trees (i + TREE_ROW)) = subst Classes e g.classes in
    let a : AddsUp (suc n) g.room (row_from trees i ∷ rows_from trees (i + TREE_ROW)) = subst (AddsUp (suc n) g.room) e g.adds in
    let q : get_or trees i 0 * get_or trees (i + TREE_WIDTH) 0 ≡ own (row_from trees i) = own_product (get_or trees i 0) (get_or trees (i + TREE_WIDTH) 0) c.0 in
    rw q record {
      less = omega (arith, a.0, own_within (row_from trees i));
      inside_still = record { classes = c.1; room = g.room; adds = a.1 };
      one_more = ap (passed (suc n)) e;
    }

-- past all of it
pub passed_none : (l : List Row) → passed 0 l ≡ 0
unfolding passed
passed_none [] = refl
passed_none (r ∷ l) = refl

-- the walk over the part: where it is, with what the reads and the difference of a turn need
pub record Passing (trees : List ℕ) (index inside i rest : ℕ) : Type 0 where
  pub part : Inside trees i rest
  pub same : i + TREE_ROW * passed rest (rows_from trees i) ≡ index + TREE_ROW * passed inside (rows_from trees index)
  pub fewer : rest ≤ inside
  pub there : 0 < rest → i + TREE_ROW ≤ length trees
  pub less : 0 < rest → get_or trees i 0 * get_or trees (i + TREE_WIDTH) 0 ≤ rest

pub passing : {trees : List ℕ} {index inside i rest : ℕ} → Inside trees i rest → i + TREE_ROW * passed rest (rows_from trees i) ≡ index + TREE_ROW * passed inside (rows_from trees index) → rest ≤ inside → Passing trees index inside i rest
passing p s f = record { part = p; same = s; fewer = f; there = λ h. inside_there p h; less = λ h. (inside_past p h).less }

pub passed_on : {trees : List ℕ} {index inside i rest : ℕ} → Passing trees index inside i rest → 0 < rest
    → Passing trees index inside (i + TREE_ROW) (rest - get_or trees i 0 * get_or trees (i + TREE_WIDTH) 0)
passed_on p h =
    let l = inside_past p.part h in
    let one = l.one_more in
    passing l.inside_still (omega (arith, p.same, one)) (omega (arith, p.fewer))

pub passed_all : {trees : List ℕ} {index inside i rest : ℕ} → Passing trees index inside i rest → rest ≡ 0 → i ≡ index + TREE_ROW * passed inside (rows_from trees index)
passed_all {trees = trees} {i = i} {rest = rest} p e = let z : passed rest (rows_from trees i) ≡ 0 = rw e (passed_none (rows_from trees i)) in omega (arith, p.same, z)
