-- A chain of tests, grouped from the left as the code does it, and tests turned round.
use mathlib.Core.Path.{◌≡◌, refl, ◌∙◌}
use mathlib.Core.Bool.{Bool, true, false, not}
use mathlib.Core.List.{List}
use Prim.Native.Nat.{ℕ}
use Rattle.std.specs.Prelude.{None}
use Rattle.definitions.specs.Token.{Token}
use Rattle.definitions.specs.Skeleton.{Span}
use Rattle.definitions.specs.Prog.{choose, Ans, no, yes, also, again, Rule, Prog}
use Rattle.definitions.specs.Run.{truth}
use Rattle.definitions.specs.NodeKind.{NO_NODE}
use Rattle.definitions.specs.Check.{tell, ◌and◌, not! }
use Rattle.machine.specs.Machine.{Machine}
use Rattle.machine.specs.Walk.{Walked, walk}
use Rattle.parser.specs.declared.Parser.{Parser}
use Rattle.parser.specs.View.{view, toks, Way}
use Rattle.parser.proofs.Ways.{yes_case, no_case, stay}

chain : (ask : Rule → Machine → Walked) (ts : List Token) (b : Span) (f g h : Prog) (m : Machine) → walk ask ts b ((f and g) and h) m ≡ walk ask ts b (f and (g and h)) m
unfolding walk choose
chain ask ts b f g h m = go (walk ask ts b f m).ans (walk ask ts b f m).on
  where
    go : (v : Ans) (x : Machine)
        → choose (choose v (walk ask ts b (tell no)) (walk ask ts b g) (walk ask ts b g) x).ans (walk ask ts b (tell no)) (walk ask ts b h) (walk ask ts b h)
        (choose v (walk ask ts b (tell no)) (walk ask ts b g) (walk ask ts b g) x).on
        ≡ choose v (walk ask ts b (tell no)) (walk ask ts b (g and h)) (walk ask ts b (g and h)) x
    go no x = refl
    go yes x = refl
    go also x = refl
    go again x = refl

pub regrouped : {ask : List Token → Rule → Machine → Walked} {b : Span} {f g h : Prog} {p q : Parser} {a : Ans} {k : ℕ} → Way ask b None ((f and g) and h) p a k q → Way ask b None (f and (g and h)) p a k q
regrouped {ask = ask} {b = b} {f = f} {g = g} {h = h} {p = p} w = record { is = w.is ∙ chain (ask (toks p)) (toks p) b f g h (view p); same = w.same; left = w.left }

-- a test that is turned round
pub turned : {ask : List Token → Rule → Machine → Walked} {b : Span} {f : Prog} {p q : Parser} (t : Bool) → Way ask b None f p (truth t) NO_NODE q → Way ask b None (not! f) p (truth (not t)) NO_NODE q
turned true w = yes_case {t = true} w refl stay
turned false w = no_case {t = false} w refl stay
