-- Tests made of others.
use Prim.Native.Nat.{ℕ}
use mathlib.Core.Path.{◌≡◌, refl, ◌∙◌}
use mathlib.Core.Bool.{Bool, true, false, not}
use mathlib.Core.List.{List}
use Rattle.std.specs.Prelude.{None}
use Rattle.definitions.specs.NodeKind.{NO_NODE}
use Rattle.definitions.specs.Token.{Token}
use Rattle.definitions.specs.Skeleton.{Span}
use Rattle.definitions.specs.Prog.{choose, Ans, no, yes, also, again, Rule, Prog}
use Rattle.definitions.specs.Check.{◌or◌, not! }
use Rattle.definitions.specs.Run.{truth}
use Rattle.machine.specs.Machine.{Machine}
use Rattle.machine.specs.Walk.{Walked, walk}
use Rattle.parser.specs.declared.Parser.{Parser}
use Rattle.parser.specs.View.{toks, view, Way}
use Rattle.parser.proofs.Ways.{yes_case, no_case, stay}

or_or_walk : (ask : Rule → Machine → Walked) (ts : List Token) (b : Span) (f g h : Prog) (m : Machine) → walk ask ts b ((f or g) or h) m ≡ walk ask ts b (f or (g or h)) m
unfolding walk choose
or_or_walk ask ts b f g h m = by (walk ask ts b f m).ans (walk ask ts b f m).on
  where
    said_yes : Machine → Walked
    said_yes n = record { ans = yes; shape = NO_NODE; on = n }

    second : Machine → Walked
    second = walk ask ts b g

    third : Machine → Walked
    third = walk ask ts b h

    by : (a : Ans) (n : Machine) → choose (choose a second said_yes said_yes n).ans third said_yes said_yes (choose a second said_yes said_yes n).on
        ≡ choose a (λ (x : Machine). choose (second x).ans third said_yes said_yes (second x).on) said_yes said_yes n
    by no n = refl
    by yes n = refl
    by also n = refl
    by again n = refl

module _ {ask : List Token → Rule → Machine → Walked} {b : Span} where
  pub negated : (t : Bool) {c : Prog} {p q : Parser} {k : ℕ} → Way ask b None c p (truth t) k q → Way ask b None (not! c) p (truth (not t)) NO_NODE q
  negated true w = yes_case {t = true} w refl stay
  negated false w = no_case {t = false} w refl stay

  -- `or` in either order of its brackets
  pub or_or : {f g h : Prog} {p q : Parser} {a : Ans} {k : ℕ} → Way ask b None ((f or g) or h) p a k q → Way ask b None (f or (g or h)) p a k q
  or_or {f = f} {g = g} {h = h} {p = p} w = record { is = w.is ∙ or_or_walk (ask (toks p)) (toks p) b f g h (view p); same = w.same; left = w.left }
