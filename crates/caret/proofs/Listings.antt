-- A turn of the walk along the parts: what is on the list, and what is found from here.
use Prim.Native.Nat.{ℕ, zero, suc, ◌+◌, ◌-◌, ◌*◌, ◌/◌, ◌≤◌, ◌<◌}
use native.Mathlib.Omega.{arith}
use mathlib.Core.Path.{◌≡◌, refl, ap, sym, ◌∙◌, subst}
use mathlib.Core.Bool.{Bool, true, false, cond, ◌&&◌}
use mathlib.Core.List.{List, [], ◌∷◌, ◌++◌, append_assoc, append-nil}
use lib.Dec.{ltb}
use lib.ListN.{length, get_or, drop, set, length-append, length-drop}
use lib.Seq.{drop-drop}
use borrow.Author.Tests.{le-ltb}
use Rattle.definitions.specs.Layout.{TREE_ROW, TREE_WIDTH, TWO_TO_32}
use Rattle.definitions.specs.Caret.{range, share}
use Rattle.rows.specs.ResultRows.{Row, width}
use Rattle.rows.specs.OnePass.{tree_rows_of, own, starting, found, Classes, AddsUp}
use Rattle.rows.proofs.Numbers.{row_from, rows_cons, rows_number, rows_drop, own_product}
use Rattle.caret.specs.Walk.{laid, Lists, passed, Starts}
use Rattle.caret.proofs.Turns.{rows_from, own_within}
use Rattle.caret.proofs.Chains.{laid_put}

-- ---------------------------------------------------------------- past a part

passed_within : (inside : ℕ) (l : List Row) → passed inside l ≤ length l
unfolding passed
passed_within inside [] = omega arith
passed_within zero (r ∷ l) = omega arith
passed_within (suc n) (r ∷ l) = let h = passed_within (suc n - own r) l in omega (arith, h)

adds_passed : (inside room : ℕ) (l : List Row) → AddsUp inside room l → AddsUp 0 room (drop (passed inside l) l)
unfolding passed AddsUp
adds_passed inside room [] h = refl
adds_passed zero room (r ∷ l) h = h
adds_passed (suc n) room (r ∷ l) h = adds_passed (suc n - own r) room l h.1

pub classes_drop : (n : ℕ) (l : List Row) → Classes l → Classes (drop n l)
unfolding Classes
classes_drop zero l h = h
classes_drop (suc n) [] h = tt
classes_drop (suc n) (r ∷ l) h = classes_drop n l h.1

starting_passed : (fr to i inside start : ℕ) (l : List Row)
    → starting fr to i inside start l ≡ starting fr to (i + passed inside l) 0 start (drop (passed inside l) l)
unfolding starting passed
starting_passed fr to i inside start [] = refl
starting_passed fr to i zero start (r ∷ l) =
    let e : i ≡ i + 0 = omega arith in
    ap (λ (j : ℕ). starting fr to j 0 start (r ∷ l)) e
starting_passed fr to i (suc n) start (r ∷ l) =
    let k = passed (suc n - own r) l in
    let e : suc i + k ≡ i + suc k = omega arith in
    starting_passed fr to (suc i) (suc n - own r) start l ∙ ap (λ (j : ℕ). starting fr to j 0 start (drop k l)) e

-- the rows of the range's query are those after the root
pub found_range : (fr to size : ℕ) (l : List Row) → found (range fr to) size l ≡ starting fr to 1 0 0 (drop 1 l)
unfolding found starting
found_range fr to size [] = refl
found_range fr to size (r ∷ l) = refl

-- ---------------------------------------------------------------- the walk

-- goal: all that is to be on the list
pub record Listing (fr to : ℕ) (goal trees list₀ list : List ℕ) (index start count : ℕ) : Type 0 where
  pub done : List ℕ
  pub row : ℕ
  pub at : index ≡ TREE_ROW * row
  pub inside : index ≤ length trees + TREE_ROW
  pub counted : count ≡ length done
  pub few : count ≤ row
  pub on_list : list ≡ laid done list₀
  pub classes : Classes (rows_from trees index)
  pub room : ℕ
  pub small : start + room < TWO_TO_32
  pub adds : AddsUp 0 room (rows_from trees index)
  pub whole : done ++ starting fr to row 0 start (rows_from trees index) ≡ goal

pub listing_starts : (fr to : ℕ) (trees list : List ℕ) (index start : ℕ) → Starts trees index start
    → Listing fr to (starting fr to (index / TREE_ROW) 0 start (rows_from trees index)) trees list list index start 0
unfolding laid
listing_starts fr to trees list index start s =
    let n : index / TREE_ROW ≡ s.row = omega (arith, s.at) in
    record {
      done = [];
      row = s.row;
      at = s.at;
      inside = s.inside;
      counted = refl;
      few = omega arith;
      on_list = refl;
      classes = s.classes;
      room = s.room;
      small = s.small;
      adds = s.adds;
      whole = ap (λ (k : ℕ). starting fr to k 0 start (rows_from trees index)) (sym n);
    }

-- fewer numbers than a row has are no row
no_rows : (l : List ℕ) → length l < TREE_ROW → tree_rows_of l ≡ []
unfolding tree_rows_of
no_rows [] h = refl
no_rows (a ∷ []) h = refl
no_rows (a ∷ b ∷ []) h = refl
no_rows (a ∷ b ∷ c ∷ []) h = refl
no_rows (a ∷ b ∷ c ∷ d ∷ []) h = refl
no_rows (a ∷ b ∷ c ∷ d ∷ e ∷ l) h = absurd (omega (arith, h))

all_listed : {fr to : ℕ} {goal trees list₀ list : List ℕ} {index start count : ℕ} (w : Listing fr to goal trees list₀ list index start count)
    → starting fr to w.row 0 start (rows_from trees index) ≡ [] → Lists goal count list₀ list
all_listed {list₀ = list₀} w none =
    let all = sym (append-nil w.done) ∙ ap (w.done ++◌) (sym none) ∙ w.whole in
    record { many = w.counted ∙ ap length all; listed = w.on_list ∙ ap (λ (l : List ℕ). laid l list₀) all }

-- no row is left
pub listing_ends : {fr to : ℕ} {goal trees list₀ list : List ℕ} {index start count : ℕ} → Listing fr to goal trees list₀ list index start count → length trees < index + TREE_ROW
    → Lists goal count list₀ list
unfolding starting
listing_ends {fr} {to} {goal} {trees} {list₀} {list} {index} {start} {count} w h =
    all_listed w (ap (starting fr to w.row 0 start) (no_rows (drop index trees) (let z = length-drop index trees in omega (arith, z, h))))

-- no part that is left starts before the range ends
share_late : (fr to start end : ℕ) → to ≤ start → share fr to start end ≡ false
share_late fr to start end h = rw (le-ltb start to h) (go (ltb fr to) (ltb fr end) (ltb start end))
  where
    go : (a b d : Bool) → (a && b && false && d) ≡ false
    go true true d = refl
    go true false d = refl
    go false b d = refl

starting_over : (fr to i inside start : ℕ) (l : List Row) → to ≤ start → starting fr to i inside start l ≡ []
unfolding starting
starting_over fr to i inside start [] h = refl
starting_over fr to i zero start (r ∷ l) h =
    rw (share_late fr to start (start + width r) h) (starting_over fr to (suc i) (width r - own r) (start + width r) l (omega (arith, h)))
starting_over fr to i (suc n) start (r ∷ l) h = starting_over fr to (suc i) (suc n - own r) start l h

pub listing_over : {fr to : ℕ} {goal trees list₀ list : List ℕ} {index start count : ℕ} → Listing fr to goal trees list₀ list index start count → to ≤ start
    → Lists goal count list₀ list
listing_over {fr} {to} {goal} {trees} {list₀} {list} {index} {start} {count} w h = all_listed w (starting_over fr to w.row 0 start (rows_from trees index) h)

-- ---------------------------------------------------------------- a turn

-- the row at an index, and what the walk knows of it
pub record Turn (trees : List ℕ) (index room : ℕ) : Type 0 where
  pub product : get_or trees index 0 * get_or trees (index + TREE_WIDTH) 0 ≡ own (row_from trees index)
  pub own_less : own (row_from trees index) ≤ get_or trees (index + TREE_WIDTH) 0
  pub fits : get_or trees (index + TREE_WIDTH) 0 ≤ room
  pub classes : Classes (rows_from trees (index + TREE_ROW))
  pub adds : AddsUp (get_or trees (index + TREE_WIDTH) 0 - own (row_from trees index)) (room - get_or trees (index + TREE_WIDTH) 0) (rows_from trees (index + TREE_ROW))
  pub is : rows_from trees index ≡ row_from trees index ∷ rows_from trees (index + TREE_ROW)

module _ {fr to : ℕ} {goal trees list₀ list : List ℕ} {index start count : ℕ} (w : Listing fr to goal trees list₀ list index start count) (h : index + TREE_ROW ≤ length trees) where
  pub turn_here : Turn trees index w.room
  unfolding Classes AddsUp
  turn_here =
      let e : rows_from trees index ≡ row_from trees index ∷ rows_from trees (index + TREE_ROW) = rows_cons trees index h in
      let c : Classes (row_from trees index ∷ rows_from trees (index + TREE_ROW)) = subst Classes e w.classes in
      let a : AddsUp 0 w.room (row_from trees index ∷ rows_from trees (index + TREE_ROW)) = subst (AddsUp 0 w.room) e w.adds in
      record {
        product = own_product (get_or trees index 0) (get_or trees (index + TREE_WIDTH) 0) c.0;
        own_less = own_within (row_from trees index);
        fits = a.0;
        classes = c.1;
        adds = a.1;
        is = e;
      }

  pub few_here : index / TREE_ROW < length (tree_rows_of trees)
  few_here = let z = rows_number trees in omega (arith, z, h, w.at)

  abbrev wide : ℕ
  wide = get_or trees (index + TREE_WIDTH) 0

  abbrev left_inside : ℕ
  left_inside = wide - get_or trees index 0 * wide

  abbrev listed_here : Bool
  listed_here = share fr to start (start + wide)

  same_inside : left_inside ≡ wide - own (row_from trees index)
  same_inside = ap (wide -◌) turn_here.product

  abbrev row_done : List ℕ
  row_done = cond listed_here (w.done ++ (w.row ∷ [])) w.done

  put_done : (b : Bool) → cond b (set list count (index / TREE_ROW)) list ≡ laid (cond b (w.done ++ (w.row ∷ [])) w.done) list₀
  put_done true =
      let e : index / TREE_ROW ≡ w.row = omega (arith, w.at) in
      ap (set list count) e
      ∙ ap (λ (l : List ℕ). set l count w.row) w.on_list
      ∙ ap (λ (n : ℕ). set (laid w.done list₀) n w.row) w.counted
      ∙ laid_put w.done list₀ w.row
  put_done false = w.on_list

  count_done : (b : Bool) → cond b (suc count) count ≡ length (cond b (w.done ++ (w.row ∷ [])) w.done)
  count_done true = let n : length (w.done ++ (w.row ∷ [])) ≡ length w.done + 1 = length-append w.done (w.row ∷ []) in omega (arith, w.counted, n)
  count_done false = w.counted

  count_few : (b : Bool) → cond b (suc count) count ≤ suc count
  count_few true = omega arith
  count_few false = omega arith

  whole_done : (b : Bool) (more : List ℕ) → cond b (w.done ++ (w.row ∷ [])) w.done ++ more ≡ w.done ++ cond b (w.row ∷ more) more
  whole_done true more = append_assoc w.done (w.row ∷ []) more
  whole_done false more = refl

  -- the rows of the part that starts here are passed
  abbrev many : ℕ
  many = passed left_inside (rows_from trees (index + TREE_ROW))

  rows_on : rows_from trees (index + TREE_ROW + TREE_ROW * many) ≡ drop many (rows_from trees (index + TREE_ROW))
  rows_on = ap tree_rows_of (sym (drop-drop (TREE_ROW * many) (index + TREE_ROW) trees)) ∙ rows_drop many (drop (index + TREE_ROW) trees)

  unfolded : starting fr to w.row 0 start (rows_from trees index)
      ≡ cond listed_here (w.row ∷ starting fr to (suc w.row + many) 0 (start + wide) (drop many (rows_from trees (index + TREE_ROW))))
      (starting fr to (suc w.row + many) 0 (start + wide) (drop many (rows_from trees (index + TREE_ROW))))
  unfolding starting
  unfolded =
      ap (starting fr to w.row 0 start) turn_here.is
      ∙ ap (λ (l : List ℕ). cond listed_here (w.row ∷ l) l)
      (ap (λ (n : ℕ). starting fr to (suc w.row) n (start + wide) (rows_from trees (index + TREE_ROW))) (sym same_inside)
      ∙ starting_passed fr to (suc w.row) left_inside (start + wide) (rows_from trees (index + TREE_ROW)))

  pub listing_on : (index' count' : ℕ) (list' : List ℕ) → index' ≡ index + TREE_ROW + TREE_ROW * many → count' ≡ cond listed_here (suc count) count
      → list' ≡ cond listed_here (set list count (index / TREE_ROW)) list → Listing fr to goal trees list₀ list' index' (start + wide) count'
  listing_on index' count' list' e f g =
      let t = turn_here in
      let n = passed_within left_inside (rows_from trees (index + TREE_ROW)) in
      let k = rows_number (drop (index + TREE_ROW) trees) in
      let d = length-drop (index + TREE_ROW) trees in
      let r : rows_from trees index' ≡ drop many (rows_from trees (index + TREE_ROW)) = ap (rows_from trees) e ∙ rows_on in
      record {
        done = row_done;
        row = suc w.row + many;
        at = omega (arith, e, w.at);
        inside = omega (arith, e, n, k, d, h);
        counted = f ∙ count_done listed_here;
        few = (let x = count_few listed_here in omega (arith, f, x, w.few));
        on_list = g ∙ put_done listed_here;
        classes = subst Classes (sym r) (classes_drop many (rows_from trees (index + TREE_ROW)) t.classes);
        room = w.room - wide;
        small = omega (arith, w.small, t.fits);
        adds = subst (AddsUp 0 (w.room - wide)) (sym r)
            (adds_passed left_inside (w.room - wide) (rows_from trees (index + TREE_ROW)) (subst (λ (x : ℕ). AddsUp x (w.room - wide) (rows_from trees (index + TREE_ROW))) (sym same_inside) t.adds));
        whole =
            ap (λ (l : List Row). row_done ++ starting fr to (suc w.row + many) 0 (start + wide) l) r
            ∙ whole_done listed_here _
            ∙ ap (w.done ++◌) (sym unfolded)
            ∙ w.whole;
      }

  -- what `past` is lent
  pub inside_here : Classes (rows_from trees (index + TREE_ROW)) × ((room : ℕ) × AddsUp left_inside room (rows_from trees (index + TREE_ROW)))
  inside_here = (turn_here.classes, (w.room - wide, subst (λ (x : ℕ). AddsUp x (w.room - wide) (rows_from trees (index + TREE_ROW))) (sym same_inside) turn_here.adds))
