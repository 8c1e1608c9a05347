-- The level of a kind, and its binding powers worked out from it.
use Rattle.std.specs.Prelude.{ℕ, Bool, cond, List, [], ◌∷◌, eqb}
use Rattle.definitions.specs.TokenKind as K
use Rattle.definitions.specs.Token.{one_of}
use Rattle.definitions.specs.BindingPower.{Level, binary_levels, left_power, right_power, ternary_left, ternary_right}
use Rattle.definitions.specs.Grammar.{INFIX_BUT_TERNARY}

-- 0 where the kind is of none of the levels
unfoldable pub level_in : List Level → ℕ → ℕ
unfolding one_of
level_in [] k = 0
level_in (l ∷ ls) k = let r = level_in ls k in cond (one_of l.kinds k) l.number r

-- 0 where there is no level
abbrev pub worked_out : (ℕ → ℕ) → ℕ → ℕ
worked_out power n = cond (eqb n 0) 0 (power n)

-- by the kind, which may be the ternary's: 0 where it is not an infix operator
unfoldable pub left_of : ℕ → ℕ
unfolding one_of level_in
left_of k = cond (one_of (K.QuestionMark ∷ []) k) ternary_left (worked_out left_power (level_in binary_levels k))

unfoldable pub right_of : ℕ → ℕ
unfolding one_of level_in
right_of k = cond (one_of (K.QuestionMark ∷ []) k) ternary_right (worked_out right_power (level_in binary_levels k))

-- an infix operator other than the ternary
unfoldable pub is_binary : ℕ → Bool
unfolding one_of
is_binary k = one_of INFIX_BUT_TERNARY k
