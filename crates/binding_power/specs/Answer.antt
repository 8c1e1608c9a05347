-- What `binding_power` says of a kind.
use Rattle.std.specs.Prelude.{ℕ, Bool, false, Option, None, Some}
use Rattle.binding_power.specs.declared.BindingPower.{BindingPower}

-- the powers, 0 where there are none
abbrev pub left_in : Option BindingPower → ℕ
left_in None = 0
left_in (Some power) = power.left

abbrev pub right_in : Option BindingPower → ℕ
right_in None = 0
right_in (Some power) = power.right

abbrev pub binary_in : Option BindingPower → Bool
binary_in None = false
binary_in (Some power) = power.binary
