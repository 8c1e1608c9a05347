-- What `entry_of` finds, in the words of the statement: cause 1.
use Prim.Native.Nat.{ℕ, suc, ◌≤◌}
use native.Mathlib.Nat.{not-le_of_lt}
use native.Mathlib.Omega.{arith}
use mathlib.Core.Path.{◌≡◌, refl, sym, subst}
use mathlib.Core.Bool.{Bool, cond}
use Rattle.definitions.specs.Grammar.{Entry, SourceFile, ReferenceNoamp, PropValues, Cells}
use Rattle.definitions.specs.Call.{Asked, for, unknown, entry_of}
use Rattle.refusals.specs.Refusals.{Passes1}
use Rattle.refusals.proofs.Tests.{Decides, holds, not_so, eqb_decides}

pub data Asks (n : ℕ) : Asked → Type 0 where
  known : (e : Entry) → Passes1 n e → Asks n (for e)
  not_known : ¬ ((1 ≤ n) × (n ≤ 4)) → Asks n unknown

past : (n k : ℕ) → k ≤ n → ¬ (n ≡ k) → suc k ≤ n
past n k h g = omega (arith, h, g)

not_1_to_4 : (n : ℕ) → ¬ (n ≡ 1) → ¬ (n ≡ 2) → ¬ (n ≡ 3) → ¬ (n ≡ 4) → ¬ ((1 ≤ n) × (n ≤ 4))
not_1_to_4 n h i j k x = let y : 5 ≤ n = past n 4 (past n 3 (past n 2 (past n 1 x.0 h) i) j) k in not-le_of_lt y x.1

pub asks : (n : ℕ) → Asks n (entry_of n)
unfolding entry_of
asks n = by _ _ _ _ (eqb_decides n 1) (eqb_decides n 2) (eqb_decides n 3) (eqb_decides n 4)
  where
    by : (s t u v : Bool) → Decides (n ≡ 1) s → Decides (n ≡ 2) t → Decides (n ≡ 3) u → Decides (n ≡ 4) v
        → Asks n (cond s (for SourceFile) (cond t (for ReferenceNoamp) (cond u (for PropValues) (cond v (for Cells) unknown))))
    by s t u v (holds h) d e f = known SourceFile (sym h)
    by s t u v (not_so h) (holds i) e f = known ReferenceNoamp (sym i)
    by s t u v (not_so h) (not_so i) (holds j) f = known PropValues (sym j)
    by s t u v (not_so h) (not_so i) (not_so j) (holds k) = known Cells (sym k)
    by s t u v (not_so h) (not_so i) (not_so j) (not_so k) = not_known (not_1_to_4 n h i j k)

pub entry_eq : (n : ℕ) (e : Entry) → Passes1 n e → entry_of n ≡ for e
unfolding entry_of
entry_eq n SourceFile h = subst (λ (k : ℕ). entry_of k ≡ for SourceFile) h refl
entry_eq n ReferenceNoamp h = subst (λ (k : ℕ). entry_of k ≡ for ReferenceNoamp) h refl
entry_eq n PropValues h = subst (λ (k : ℕ). entry_of k ≡ for PropValues) h refl
entry_eq n Cells h = subst (λ (k : ℕ). entry_of k ≡ for Cells) h refl

pub number_1_to_4 : (n : ℕ) (e : Entry) → Passes1 n e → (1 ≤ n) × (n ≤ 4)
number_1_to_4 n SourceFile h = (omega (arith, h), omega (arith, h))
number_1_to_4 n ReferenceNoamp h = (omega (arith, h), omega (arith, h))
number_1_to_4 n PropValues h = (omega (arith, h), omega (arith, h))
number_1_to_4 n Cells h = (omega (arith, h), omega (arith, h))

pub unknown_eq : (n : ℕ) → ¬ ((1 ≤ n) × (n ≤ 4)) → entry_of n ≡ unknown
unknown_eq n h = by (entry_of n) (asks n)
  where
    by : (x : Asked) → Asks n x → x ≡ unknown
    by x (known e g) = absurd (h (number_1_to_4 n e g))
    by x (not_known g) = refl
