-- The parts before a range: the first row after the root that has the range's first byte starts a part, and no part
-- before it shares a byte with the range.
use Prim.Native.Nat.{ℕ, zero, suc, ◌+◌, ◌-◌, ◌*◌, ◌/◌, ◌≤◌, ◌<◌}
use native.Mathlib.Omega.{arith}
use mathlib.Core.Path.{◌≡◌, refl, ap, sym, ◌∙◌, subst}
use mathlib.Core.Bool.{Bool, true, false, cond, ◌&&◌}
use mathlib.Core.List.{List, [], ◌∷◌}
use lib.Dec.{ltb}
use lib.ListN.{length, drop, length-drop}
use lib.Seq.{drop-drop}
use borrow.Author.Tests.{ltb-false, le-ltb}
use Rattle.definitions.specs.Layout.{TREE_ROW}
use Rattle.definitions.specs.Caret.{range, share}
use Rattle.rows.specs.ResultRows.{Row, width, over_leaves, raw_bytes}
use Rattle.rows.specs.OnePass.{tree_rows_of, own, starting, found, Classes, AddsUp, Sound}
use Rattle.rows.proofs.Numbers.{rows_number, rows_drop}
use Rattle.caret.specs.declared.chain.Spot.{Spot}
use Rattle.caret.specs.Walk.{seek_from, Starts}
use Rattle.caret.proofs.Turns.{rows_from, own_within}
use Rattle.caret.proofs.Listings.{classes_drop, found_range}

-- a part that ends where the range starts, or before
share_early : (fr to start end : ℕ) → end ≤ fr → share fr to start end ≡ false
share_early fr to start end h = rw (le-ltb fr end h) (go (ltb fr to) (ltb start to) (ltb start end))
  where
    go : (a c d : Bool) → (a && false && c && d) ≡ false
    go true c d = refl
    go false c d = refl

-- nothing is listed of parts that all end there
starting_early : (fr to i inside start room : ℕ) (l : List Row) → start + room ≤ fr → AddsUp inside room l → starting fr to i inside start l ≡ []
unfolding starting AddsUp
starting_early fr to i inside start room [] h a = refl
starting_early fr to i zero start room (r ∷ l) h a =
    rw (share_early fr to start (start + width r) (omega (arith, h, a.0)))
    (starting_early fr to (suc i) (width r - own r) (start + width r) (room - width r) l (omega (arith, h, a.0)) a.1)
starting_early fr to i (suc n) start room (r ∷ l) h a = starting_early fr to (suc i) (suc n - own r) start room l h a.1

pub none_in_range : (fr to size : ℕ) (l : List Row) → size ≤ fr → AddsUp 0 size (drop 1 l) → found (range fr to) size l ≡ []
none_in_range fr to size l h a = found_range fr to size l ∙ starting_early fr to 1 0 0 size (drop 1 l) (omega (arith, h)) a

-- what is left after the rows that do not have the byte: some rows are passed, and a part starts at the spot
record Skipped (fr to : ℕ) (l : List Row) (i index inside room start : ℕ) (s : Spot) : Type 0 where
  passed_rows : ℕ
  at : s.index ≡ index + TREE_ROW * passed_rows
  some : passed_rows < length l
  less : s.left ≤ fr
  same : starting fr to i inside start l ≡ starting fr to (i + passed_rows) 0 (fr - s.left) (drop passed_rows l)
  room_left : ℕ
  fits : fr - s.left + room_left ≤ start + room
  adds : AddsUp 0 room_left (drop passed_rows l)

-- pos: the bytes of the leaves that were passed
skips : (fr to : ℕ) (l : List Row) (i index inside room pos left : ℕ) → fr ≡ pos + left → inside ≤ left → left < raw_bytes l → AddsUp inside room l
    → Skipped fr to l i index inside room (pos + inside) (seek_from index left l)
unfolding over_leaves AddsUp starting seek_from
skips fr to [] i index inside room pos left e h b a = absurd (omega (arith, b))
skips fr to (r ∷ l) i index zero room pos left e h b a =
    go (ltb left (width r)) refl
    (λ w. skips fr to l (suc i) (index + TREE_ROW) (width r - own r) (room - width r) (pos + own r) (left - own r) (omega (arith, e, w, own_within r)) (omega (arith, w)) (omega (arith, b, w, own_within r)) a.1)
  where
    go : (t : Bool) → ltb left (width r) ≡ t
        → (width r ≤ left → Skipped fr to l (suc i) (index + TREE_ROW) (width r - own r) (room - width r) (pos + own r + (width r - own r)) (seek_from (index + TREE_ROW) (left - own r) l))
        → Skipped fr to (r ∷ l) i index 0 room (pos + 0) (cond (ltb left (width r)) (record { index = index; left = left }) (seek_from (index + TREE_ROW) (left - own r) l))
    go true f rec =
        let x : i ≡ i + 0 = omega arith in
        let y : pos + 0 ≡ fr - left = omega (arith, e) in
        rw f record {
          passed_rows = 0;
          at = omega arith;
          some = omega arith;
          less = omega (arith, e);
          same = (λ j. starting fr to (x j) 0 (y j) (r ∷ l));
          room_left = room;
          fits = omega (arith, e);
          adds = a;
        }
    go false f rec =
        let w = ltb-false left (width r) f in
        let o = own_within r in
        let k = rec w in
        let x : pos + 0 + width r ≡ pos + own r + (width r - own r) = omega (arith, o) in
        let y : suc i + k.passed_rows ≡ i + suc k.passed_rows = omega arith in
        let s = seek_from (index + TREE_ROW) (left - own r) l in
        rw f record {
          passed_rows = suc k.passed_rows;
          at = omega (arith, k.at);
          some = omega (arith, k.some);
          less = k.less;
          same =
              ap (λ (t : Bool). cond t (i ∷ starting fr to (suc i) (width r - own r) (pos + 0 + width r) l) (starting fr to (suc i) (width r - own r) (pos + 0 + width r) l))
              (share_early fr to (pos + 0) (pos + 0 + width r) (omega (arith, e, w)))
              ∙ ap (λ (n : ℕ). starting fr to (suc i) (width r - own r) n l) x
              ∙ k.same
              ∙ ap (λ (n : ℕ). starting fr to n 0 (fr - s.left) (drop k.passed_rows l)) y;
          room_left = k.room_left;
          fits = (let q = k.fits in omega (arith, q, o, a.0));
          adds = k.adds;
        }
skips fr to (r ∷ l) i index (suc n) room pos left e h b a =
    let w : width r ≤ left = omega (arith, h, a.0) in
    let o = own_within r in
    let k = skips fr to l (suc i) (index + TREE_ROW) (suc n - own r) room (pos + own r) (left - own r) (omega (arith, e, w, o)) (omega (arith, h)) (omega (arith, b, w, o)) a.1 in
    let x : pos + suc n ≡ pos + own r + (suc n - own r) = omega (arith, o, a.0) in
    let y : suc i + k.passed_rows ≡ i + suc k.passed_rows = omega arith in
    let s = seek_from (index + TREE_ROW) (left - own r) l in
    rw (le-ltb left (width r) w) record {
      passed_rows = suc k.passed_rows;
      at = omega (arith, k.at);
      some = omega (arith, k.some);
      less = k.less;
      same =
          ap (λ (m : ℕ). starting fr to (suc i) (suc n - own r) m l) x
          ∙ k.same
          ∙ ap (λ (m : ℕ). starting fr to m 0 (fr - s.left) (drop k.passed_rows l)) y;
      room_left = k.room_left;
      fits = (let q = k.fits in omega (arith, q, o, a.0));
      adds = k.adds;
    }

-- ---------------------------------------------------------------- in the numbers of a file's rows

module _ (fr to size : ℕ) (trees : List ℕ) (s : Sound size (tree_rows_of trees)) (h : fr < size) where
  rows_after : rows_from trees TREE_ROW ≡ drop 1 (tree_rows_of trees)
  rows_after = rows_drop 1 trees

  -- what `seek` is lent
  pub seek_there : (fr < raw_bytes (rows_from trees TREE_ROW)) × Classes (rows_from trees TREE_ROW)
  seek_there = (
    subst (λ (l : List Row). fr < raw_bytes l) (sym rows_after) (omega (arith, h, s.under_root)),
    subst Classes (sym rows_after) (classes_drop 1 (tree_rows_of trees) s.classes),
  )

  abbrev spot_there : Spot
  spot_there = seek_from TREE_ROW fr (rows_from trees TREE_ROW)

  skipped : Skipped fr to (rows_from trees TREE_ROW) 1 TREE_ROW 0 size (0 + 0) spot_there
  skipped =
      skips fr to (rows_from trees TREE_ROW) 1 TREE_ROW 0 size 0 fr (omega arith) (omega arith) seek_there.0 (subst (AddsUp 0 size) (sym rows_after) s.parts)

  rows_there : rows_from trees spot_there.index ≡ drop skipped.passed_rows (rows_from trees TREE_ROW)
  rows_there =
      ap (rows_from trees) skipped.at
      ∙ ap tree_rows_of (sym (drop-drop (TREE_ROW * skipped.passed_rows) TREE_ROW trees))
      ∙ rows_drop skipped.passed_rows (drop TREE_ROW trees)

  -- of a spot that the code was given
  module _ (x : Spot) (e : x ≡ spot_there) where
    pub left_less : x.left ≤ fr
    left_less = subst (λ (y : Spot). y.left ≤ fr) (sym e) skipped.less

    pub starts_there : Starts trees x.index (fr - x.left)
    starts_there = subst (λ (y : Spot). Starts trees y.index (fr - y.left)) (sym e) here
      where
        here : Starts trees spot_there.index (fr - spot_there.left)
        here =
            let n = rows_number (drop TREE_ROW trees) in
            let d = length-drop TREE_ROW trees in
            record {
              row = suc skipped.passed_rows;
              at = omega (arith, skipped.at);
              inside = omega (arith, skipped.at, skipped.some, n, d);
              classes = subst Classes (sym rows_there) (classes_drop skipped.passed_rows (rows_from trees TREE_ROW) seek_there.1);
              room = skipped.room_left;
              small = omega (arith, skipped.fits, s.small);
              adds = subst (AddsUp 0 skipped.room_left) (sym rows_there) skipped.adds;
            }

    pub all_there : found (range fr to) size (tree_rows_of trees) ≡ starting fr to (x.index / TREE_ROW) 0 (fr - x.left) (rows_from trees x.index)
    all_there =
        let n : spot_there.index / TREE_ROW ≡ 1 + skipped.passed_rows = omega (arith, skipped.at) in
        found_range fr to size (tree_rows_of trees)
        ∙ ap (starting fr to 1 0 0) (sym rows_after)
        ∙ skipped.same
        ∙ sym (λ j. starting fr to (n j) 0 (fr - spot_there.left) (rows_there j))
        ∙ ap (λ (y : Spot). starting fr to (y.index / TREE_ROW) 0 (fr - y.left) (rows_from trees y.index)) (sym e)
