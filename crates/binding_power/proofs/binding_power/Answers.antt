-- `binding_power` works the powers out from the level.
use mathlib.Core.Bool.{false≢true}
use Rattle.std.proofs.Common.{arith, rules}
use Rattle.binding_power.proofs.Powers.{ternary_powers, no_powers, level_powers}
use Rattle.binding_power.proofs.binding_power.Goals as goal

pub returns-then-k : goal.returns-then-k
returns-then-k c = rw c.if-k.true (record { left = ternary_powers.0; right = ternary_powers.1.0; binary = ternary_powers.1.1; some = λ h. omega arith })

pub returns-in-0 : goal.returns-in-0
returns-in-0 c =
    let none = no_powers c.args.k c.level.result (omega arith) c.if-k.false c.level.ensures.value c.in-0.is in
    record { left = cc; right = cc; binary = cc; some = λ h. absurd (false≢true h) }

pub returns-in_default : goal.returns-in_default
returns-in_default c =
    let powers = level_powers c.args.k c.level.result (omega arith) c.if-k.false c.level.ensures.value (search rules) in
    record { left = omega (arith, powers.0); right = omega (arith, powers.1.0); binary = powers.1.1; some = λ h. omega arith }
