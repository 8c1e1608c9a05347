-- A report row stored number by number: what code does that has no `put_row`. Such stores are the one of the whole row,
-- `sets`, that `put_row` (layout's specs/Rows) makes where the row fits. This is about lists alone.
use Rattle.std.proofs.Common.{ℕ, suc, ◌+◌, ◌≡◌, List, [], ◌∷◌, arith}
use Rattle.std.proofs.Math.ListN.{set}
use Rattle.std.proofs.lemmas.List.Edits.{sets}

-- nine stores, one after the other, are the stores of a report row
pub sets9 : (l : List ℕ) (i a b d e f g h j k : ℕ)
    → set (set (set (set (set (set (set (set (set l i a) (i + 1) b) (i + 2) d) (i + 3) e) (i + 4) f) (i + 5) g) (i + 6) h) (i + 7) j) (i + 8) k
    ≡ sets l i (a ∷ b ∷ d ∷ e ∷ f ∷ g ∷ h ∷ j ∷ k ∷ [])
sets9 l i a b d e f g h j k =
    let p1 : i + 1 ≡ suc i = omega arith in
    let p2 : i + 2 ≡ suc (suc i) = omega arith in
    let p3 : i + 3 ≡ suc (suc (suc i)) = omega arith in
    let p4 : i + 4 ≡ suc (suc (suc (suc i))) = omega arith in
    let p5 : i + 5 ≡ suc (suc (suc (suc (suc i)))) = omega arith in
    let p6 : i + 6 ≡ suc (suc (suc (suc (suc (suc i))))) = omega arith in
    let p7 : i + 7 ≡ suc (suc (suc (suc (suc (suc (suc i)))))) = omega arith in
    let p8 : i + 8 ≡ suc (suc (suc (suc (suc (suc (suc (suc i))))))) = omega arith in
    rw (p1, p2, p3, p4, p5, p6, p7, p8)
