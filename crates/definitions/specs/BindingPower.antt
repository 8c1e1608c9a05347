-- `InfixOp::binding_power` and `PrefixOp::binding_power` of expr.rs, worked out as document 02, 3/14, says: "Number the
-- binary levels 1 to 10 from || to multiplication and work out left as 2 × level + 1 and right as 2 × level + 2; the
-- ternary keeps 2 and 1."
-- It excludes a left and a right power that are out of step: an operator has one number, its level.
use Rattle.std.specs.Prelude.{ℕ, ◌+◌, ◌*◌, List, [], ◌∷◌}
use Rattle.definitions.specs.TokenKind as K

-- the number of a binary level, and its operators
pub record Level : Type 0 where
  pub number : ℕ
  pub kinds : List ℕ

abbrev pub level : ℕ → List ℕ → Level
level n ks = record { number = n; kinds = ks }

-- "the binary levels 1 to 10 from || to multiplication"
abbrev pub binary_levels : List Level
binary_levels =
    level 1 (K.LogicalOr ∷ [])
    ∷ level 2 (K.LogicalAnd ∷ [])
    ∷ level 3 (K.BitwiseOr ∷ [])
    ∷ level 4 (K.BitwiseXor ∷ [])
    ∷ level 5 (K.Ampersand ∷ [])
    ∷ level 6 (K.RelationalEq ∷ K.RelationalNeq ∷ [])
    ∷ level 7 (K.LAngle ∷ K.RAngle ∷ K.RelationalLtEq ∷ K.RelationalGtEq ∷ [])
    ∷ level 8 (K.BitwiseShl ∷ K.BitwiseShr ∷ [])
    ∷ level 9 (K.Plus ∷ K.Minus ∷ [])
    ∷ level 10 (K.Asterisk ∷ K.Slash ∷ K.Modulo ∷ [])
    ∷ []

-- "left as 2 × level + 1"
abbrev pub left_power : ℕ → ℕ
left_power n = 2 * n + 1

-- "right as 2 × level + 2"
abbrev pub right_power : ℕ → ℕ
right_power n = 2 * n + 2

-- "the ternary keeps 2 and 1": left and right. It has no level.
abbrev pub ternary_left : ℕ
ternary_left = 2

abbrev pub ternary_right : ℕ
ternary_right = 1

-- the power of every prefix operator
abbrev pub prefix_power : ℕ
prefix_power = 23
