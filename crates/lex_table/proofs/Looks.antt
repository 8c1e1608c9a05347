-- What `step` and `step_any` read, over plain numbers: the code's look-ups are those of `row_after`.
use Prim.Native.Nat.{ℕ, ◌+◌, ◌*◌, ◌/◌, ◌<◌, ◌≤◌}
use native.Mathlib.Omega.{arith}
use mathlib.Core.Path.{◌≡◌, ◌∙◌, ap}
use mathlib.Core.List.{List}
use lib.ListN.{get_or}
use borrow.Author.Tests.{lt-ltb, le-ltb}
use Rattle.lex_table.specs.Table.{table, row_after}
use Rattle.lex_table.proofs.Parts.{table_class, class_below}

-- a byte's class, read at j from t
module _ (t : List ℕ) (j b c : ℕ) (held : t ≡ table) (e : j ≡ b) (f : c ≡ get_or t (j + 5376) 0) where
  pub class_read : c ≡ get_or table (b + 5376) 0
  class_read = f ∙ ap (λ (i : ℕ). get_or t (i + 5376) 0) e ∙ ap (λ (l : List ℕ). get_or l (b + 5376) 0) held

  pub class_small : b < 256 → c < 31
  class_small h = let k = class_below b h in omega (arith, k, class_read ∙ table_class b (b + 5376) h (omega arith))

-- r: what is read
pub long_read : (t : List ℕ) (row j b r : ℕ) → t ≡ table → row < 5376 → j ≡ b → r ≡ get_or t (row + j) 0 → r ≡ row_after row b
unfolding row_after
long_read t row j b r held h e f =
    rw (lt-ltb row 5376 h) (f ∙ ap (λ (i : ℕ). get_or t (row + i) 0) e ∙ ap (λ (l : List ℕ). get_or l (row + b) 0) held)

pub short_read : (t : List ℕ) (row b c r : ℕ) → t ≡ table → 5376 ≤ row → c ≡ get_or table (b + 5376) 0
    → r ≡ get_or t (row / 256 * 31 + c + 4981) 0 → r ≡ row_after row b
unfolding row_after
short_read t row b c r held h e f =
    rw (le-ltb row 5376 h)
    (f ∙ ap (λ (i : ℕ). get_or t (row / 256 * 31 + i + 4981) 0) e
    ∙ ap (λ (l : List ℕ). get_or l (row / 256 * 31 + get_or table (b + 5376) 0 + 4981) 0) held)
