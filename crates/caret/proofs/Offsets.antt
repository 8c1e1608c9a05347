-- Which rows an offset asks for: inside the file, past it, at the end of an empty file, at the end of another.
use Prim.Native.Nat.{ℕ, ◌-◌, ◌<◌, ◌≤◌}
use native.Mathlib.Omega.{arith}
use mathlib.Core.Path.{◌≡◌, refl, sym, ◌∙◌, subst}
use mathlib.Core.List.{List, [], ◌∷◌}
use lib.ListN.{set}
use borrow.Author.Tests.{lt-ltb, le-ltb, eq-eqb, ne_eqb}
use Rattle.std.proofs.Common.{◌≢◌}
use Rattle.definitions.specs.Caret.{caret}
use Rattle.rows.specs.ResultRows.{Row}
use Rattle.rows.specs.OnePass.{holding, found}
use Rattle.caret.specs.Walk.{laid, Lists}

module _ (offset size : ℕ) (l : List Row) where
  pub at_inside : offset < size → found (caret offset) size l ≡ holding 0 offset l
  unfolding found
  at_inside h = rw lt-ltb

  pub at_past : size ≤ offset → offset ≢ size → found (caret offset) size l ≡ []
  unfolding found
  at_past h n = rw (le-ltb, ne_eqb offset size n)

  pub at_empty : offset ≡ size → size ≡ 0 → found (caret offset) size l ≡ 0 ∷ []
  unfolding found
  at_empty e z = rw (e, z)

  pub at_end : offset ≡ size → size ≢ 0 → found (caret offset) size l ≡ holding 0 (size - 1) l
  unfolding found
  at_end e n = let h : size ≤ size = omega arith in rw (e, le-ltb size size h, eq-eqb size size refl, ne_eqb size 0 n)

-- what is found, on the list
pub as_listed : {x y : List ℕ} {n : ℕ} {before after : List ℕ} → x ≡ y → Lists y n before after → Lists x n before after
as_listed {n = n} {before = before} {after = after} e h = subst (λ (l : List ℕ). Lists l n before after) (sym e) h

pub left_on : {x : List ℕ} {n : ℕ} {before after list : List ℕ} → Lists x n before after → list ≡ after → Lists x n before list
left_on h e = record { many = h.many; listed = e ∙ h.listed }

pub lists_none : (list : List ℕ) → Lists [] 0 list list
unfolding laid
lists_none list = record { many = refl; listed = refl }

laid_one : (list : List ℕ) (n : ℕ) → set list 0 n ≡ laid (n ∷ []) list
unfolding laid
laid_one [] n = refl
laid_one (x ∷ list) n = refl

pub lists_one : (list list' : List ℕ) (n count : ℕ) → count ≡ 1 → list' ≡ set list 0 n → Lists (n ∷ []) count list list'
lists_one list list' n count c e = record { many = c; listed = e ∙ laid_one list n }
