-- LEVELS AND C'S TABLE BESIDE EACH OTHER: the binding powers that the definitions work out, and the lines of C's table.
-- It excludes an operator at the wrong level, or one that groups the wrong way round.
use Rattle.std.specs.Prelude.{ℕ, suc, ◌+◌, ◌*◌, ◌≤◌, ◌<◌, ◌≡◌, false, List, [], ◌∷◌}
use Rattle.definitions.specs.Token.{one_of}
use Rattle.definitions.specs.BindingPower.{Level, binary_levels, left_power, right_power, ternary_left, ternary_right, prefix_power}
use Rattle.definitions.specs.C.{line_of}

-- each of these kinds is an operator of C's table, and the tighter its line binds, the higher its powers; the right
-- power is the higher of the two, so that the operator groups from left to right
abbrev pub ByLines : List ℕ → ℕ → ℕ → Type 0
ByLines [] left right = Unit {0}
ByLines (k ∷ ks) left right = (left + 2 * line_of k ≡ 27) × (right ≡ suc left) × (1 ≤ line_of k) × ByLines ks left right

-- so it is at every level
abbrev pub Levels : List Level → Type 0
Levels [] = Unit {0}
Levels (l ∷ ls) = ByLines l.kinds (left_power l.number) (right_power l.number) × Levels ls

-- k is of none of these levels
abbrev pub NoneHas : List Level → ℕ → Type 0
NoneHas [] k = Unit {0}
NoneHas (l ∷ ls) k = (one_of l.kinds k ≡ false) × NoneHas ls k

-- Every level of binding powers is a line of C's table, and every operator of the table has a level. A prefix operator
-- has the power of line 2. The ternary, line 13, is lower than all of line 12, and its left power is the higher of the
-- two, so that it groups from right to left.
pub record TablesAgree : Type 0 where
  pub lines : Levels binary_levels
  pub all_of_them : (k : ℕ) → NoneHas binary_levels k → line_of k ≡ 0
  pub prefix_line : prefix_power + 2 * 2 ≡ 27
  pub ternary_lowest : ternary_left + 2 * 12 < 27
  pub ternary_right : ternary_left ≡ suc ternary_right
