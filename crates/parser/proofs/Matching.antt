-- What the matchers' tests and an immediate one come to.
use mathlib.Core.Path.{◌≡◌, ap}
use mathlib.Core.Bool.{Bool}
use mathlib.Core.List.{[], ◌∷◌}
use native.Mathlib.Nat.{le_refl}
use Prim.Native.Nat.{ℕ}
use Rattle.definitions.specs.Token.{first_in}
use Rattle.definitions.specs.Prog.{immediate, act}
use Rattle.definitions.specs.Run.{truth}
use Rattle.machine.specs.Machine as M
use Rattle.machine.specs.Walk.{said, perform}
use Rattle.parser.specs.declared.Parser.{Parser}
use Rattle.parser.specs.declared.matcher.Matcher.{Matcher}
use Rattle.parser.specs.declared.matcher.Matcher.TheVariants as Of
use Rattle.parser.specs.View.{view, toks, rest, matcher_of, kinds_of, Becomes, Walks}
use Rattle.parser.proofs.Moves.{walks_silent}
use Rattle.parser.proofs.Ways.{acts, same_self}

pub walks_matched : (m : Matcher) (y : Bool) (p q : Parser) → Becomes (M.peek (toks p)) p q → y ≡ first_in (kinds_of m) (rest q) → Walks (matcher_of m).matches p (truth y) q
walks_matched (Of.Kind a) y p q e f = walks_silent _ y p q e f
walks_matched (Of.Either a d) y p q e f = walks_silent _ y p q e f
walks_matched Of.Name y p q e f = walks_silent _ y p q e f
walks_matched Of.LabelName y p q e f = walks_silent _ y p q e f

pub walks_here : (k : ℕ) (y : Bool) (p : Parser) → y ≡ first_in (k ∷ []) (rest p) → Walks (act (immediate k)) p (truth y) p
unfolding perform
walks_here k y p e = acts (λ b. ap (λ (z : Bool). said (truth z) (view p)) e) same_self (le_refl _)
