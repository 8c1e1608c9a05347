-- A list has no more numbers than there are rows.
use Prim.Native.Nat.{ℕ, zero, suc, ◌+◌, ◌-◌, ◌≤◌, ◌<◌}
use native.Mathlib.Omega.{arith}
use mathlib.Core.Path.{ap, ◌∙◌}
use mathlib.Core.Bool.{cond}
use mathlib.Core.List.{List, [], ◌∷◌}
use lib.Dec.{ltb, eqb}
use lib.ListN.{length}
use Rattle.basics.proofs.Tests.{cond-all}
use Rattle.definitions.specs.Layout.{LEAF}
use Rattle.definitions.specs.Token.{Token, tokens_of}
use Rattle.definitions.specs.Place.{root}
use Rattle.definitions.specs.Call.{Answer, call}
use Rattle.definitions.specs.Caret.{Query, caret, range, share, source_tree}
use Rattle.rows.specs.ResultRows.{Row, class, width}
use Rattle.rows.specs.OnePass.{own, holding, starting, found}
use Rattle.rows.proofs.Written.{rows_of, rows_counted}
use Rattle.queries.specs.AsParsed.{RowsSuffice}
use Rattle.queries.proofs.SoundRows.{FileRows, file_rows}
use Rattle.queries.proofs.Parsed.{Left, what_is_left, count_is}
use Rattle.queries.proofs.Ending.{as_parsed}

abbrev AtMost : ℕ → List ℕ → Type 0
AtMost n l = length l ≤ n

holding_few : (i left : ℕ) (l : List Row) → AtMost (length l) (holding i left l)
unfolding holding
holding_few i left [] = omega arith
holding_few i left (r ∷ l) =
    let a : length (holding (suc i) left l) ≤ length l = holding_few (suc i) left l in
    let b : length (holding (suc i) (left - own r) l) ≤ length l = holding_few (suc i) (left - own r) l in
    cond-all (AtMost (suc (length l))) (ltb left (width r)) {x = i ∷ cond (eqb (class r) LEAF) [] (holding (suc i) left l)} {y = holding (suc i) (left - own r) l}
    (cond-all (λ (m : List ℕ). suc (length m) ≤ suc (length l)) (eqb (class r) LEAF) {x = []} {y = holding (suc i) left l} (omega arith) (omega (arith, a))) (omega (arith, b))

starting_few : (from to i inside start : ℕ) (l : List Row) → AtMost (length l) (starting from to i inside start l)
unfolding starting
starting_few from to i inside start [] = omega arith
starting_few from to i zero start (r ∷ l) =
    let m = starting from to (suc i) (width r - own r) (start + width r) l in
    let a : length m ≤ length l = starting_few from to (suc i) (width r - own r) (start + width r) l in
    cond-all (AtMost (suc (length l))) (share from to start (start + width r)) {x = i ∷ m} {y = m} (omega (arith, a)) (omega (arith, a))
starting_few from to i (suc n) start (r ∷ l) = let a = starting_few from to (suc i) (suc n - own r) start l in omega (arith, a)

found_few : (q : Query) (size : ℕ) (r : Row) (l : List Row) → AtMost (suc (length l)) (found q size (r ∷ l))
unfolding found
found_few (caret offset) size r l =
    let a = holding_few 0 offset (r ∷ l) in
    let b = holding_few 0 (size - 1) (r ∷ l) in
    cond-all (AtMost (suc (length l))) (ltb offset size) {x = holding 0 offset (r ∷ l)} {y = cond (eqb offset size) (cond (eqb size 0) (0 ∷ []) (holding 0 (size - 1) (r ∷ l))) []} a
    (cond-all (AtMost (suc (length l))) (eqb offset size) {x = cond (eqb size 0) (0 ∷ []) (holding 0 (size - 1) (r ∷ l))} {y = []}
    (cond-all (AtMost (suc (length l))) (eqb size 0) {x = 0 ∷ []} {y = holding 0 (size - 1) (r ∷ l)} (omega arith) b) (omega arith))
found_few (range from to) size r l = let a = starting_few from to 1 0 0 l in omega (arith, a)

-- rows that begin with a root
file_few : (q : Query) (size : ℕ) (l : List Row) → 0 < length l → AtMost (length l) (found q size l)
file_few q size [] h = absurd (omega (arith, h))
file_few q size (r ∷ l) h = found_few q size r l

rooted : (ts : List Token) → 0 < length (rows_of 0 0 (source_tree ts))
unfolding rows_of source_tree root
rooted ts = omega arith

pub rows_suffice : RowsSuffice
rows_suffice q setting bytes tokens b list ok room =
    let ts = tokens_of tokens in
    let r = call 1 setting bytes tokens b in
    let left : Left setting bytes tokens b r = what_is_left setting bytes tokens b ok in
    let f : FileRows bytes ts = file_rows bytes tokens left.input in
    let n = rows_counted (source_tree ts) 0 0 in
    let c = count_is setting bytes tokens b r left in
    let some : 0 < length (rows_of 0 0 (source_tree ts)) = rooted ts in
    let few = file_few q (length bytes) (rows_of 0 0 (source_tree ts)) some in
    let same = ap length (f.lists q) in
    ap (λ (a : Answer). a.number) ((as_parsed q setting bytes tokens b list).kept ok (omega (arith, few, same, n, c, room))).0 ∙ ok
