-- The answer that ends a loop of turns.
use mathlib.Core.Path.{◌≡◌, refl, ap, ◌∙◌}
use mathlib.Core.Bool.{false}
use mathlib.Core.List.{List}
use native.Mathlib.Omega.{arith}
use Rattle.std.specs.Prelude.{None}
use Rattle.definitions.specs.NodeKind.{NO_NODE}
use Rattle.definitions.specs.Token.{Token}
use Rattle.definitions.specs.Skeleton.{Span}
use Rattle.definitions.specs.Prog.{Rule, Prog, loop}
use Rattle.definitions.specs.Run.{is_again}
use Rattle.machine.specs.Machine.{Machine}
use Rattle.machine.specs.Walk.{Walked, walk}
use Rattle.machine.proofs.Turns.{turn_last}
use Rattle.parser.specs.declared.Parser.{Parser}
use Rattle.parser.specs.declared.Ans.{Ans as CodeAns}
use Rattle.parser.specs.declared.Ans.TheVariants.{No, Yes, Also, Again}
use Rattle.parser.specs.View.{view, toks, ans_of, Way}
use Rattle.parser.proofs.Ways.{Round, same_then, same_toks}

-- any answer but `Again`
not_again : (a : CodeAns) → (a ≡ Again → ⊥) → is_again (ans_of a) ≡ false
unfolding is_again
not_again No h = refl
not_again Yes h = refl
not_again Also h = refl
not_again Again h = absurd (h refl)

pub stops : {ask : List Token → Rule → Machine → Walked} {b : Span} {g : Prog} {p q r : Parser} (a : CodeAns) → (a ≡ Again → ⊥) → Round ask b g p q → Way ask b None g q (ans_of a) NO_NODE r
    → Way ask b None (loop g) p (ans_of a) NO_NODE r
stops {ask = ask} {b = b} {g = g} {p = p} {q = q} {r = r} a h o w =
    let turn = w.is ∙ ap (λ (ts : List Token). walk (ask ts) ts b g (view q)) (same_toks o.same) in
    record { is = turn_last (ask (toks p)) (toks p) b g (view q) (view r) (ans_of a) (not_again a h) turn ∙ o.is; same = same_then o.same w.same; left = omega (arith, o.left, w.left) }
