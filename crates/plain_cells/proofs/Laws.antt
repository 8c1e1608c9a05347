-- The programs of specs/Subprograms.antt stand in the definitions' terms.
use mathlib.Core.Path.{◌≡◌, refl}
use mathlib.Core.List.{List}
use Rattle.definitions.specs.Token.{Token}
use Rattle.definitions.specs.Skeleton.{Span}
use Rattle.definitions.specs.Prog.{choose, Ans, no, yes, also, again, Rule, Prog, ◌⨟◌}
use Rattle.definitions.specs.Check.{tell, when◌then◌else◌}
use Rattle.machine.specs.Machine.{Machine}
use Rattle.machine.specs.Walk.{Walked, walk}

-- the first cases of a program apart from the others: whether one of them held is the test
pub cases_first : (ask : Rule → Machine → Walked) (ts : List Token) (b : Span) (e a c w r t : Prog) (m : Machine)
    → walk ask ts b (when (e ⨟ when a then tell yes else when c then w ⨟ tell yes else r) then tell yes else t) m
    ≡ walk ask ts b (e ⨟ when a then tell yes else when c then w ⨟ tell yes else when r then tell yes else t) m
unfolding walk choose
cases_first ask ts b e a c w r t m = go (walk ask ts b a (walk ask ts b e m).on).ans (walk ask ts b a (walk ask ts b e m).on).on
  where
    inner : Prog
    inner = when c then w ⨟ tell yes else r

    outer : Prog
    outer = when c then w ⨟ tell yes else when r then tell yes else t

    rest : (x : Machine) → walk ask ts b (when inner then tell yes else t) x ≡ walk ask ts b outer x
    rest x = under (walk ask ts b c x).ans (walk ask ts b c x).on
      where
        under : (v : Ans) (y : Machine)
            → choose (choose v (walk ask ts b r) (walk ask ts b (w ⨟ tell yes)) (walk ask ts b (w ⨟ tell yes)) y).ans (walk ask ts b t) (walk ask ts b (tell yes)) (walk ask ts b (tell yes))
            (choose v (walk ask ts b r) (walk ask ts b (w ⨟ tell yes)) (walk ask ts b (w ⨟ tell yes)) y).on
            ≡ choose v (walk ask ts b (when r then tell yes else t)) (walk ask ts b (w ⨟ tell yes)) (walk ask ts b (w ⨟ tell yes)) y
        under no y = refl
        under yes y = refl
        under also y = refl
        under again y = refl

    go : (v : Ans) (x : Machine)
        → choose (choose v (walk ask ts b inner) (walk ask ts b (tell yes)) (walk ask ts b (tell yes)) x).ans (walk ask ts b t) (walk ask ts b (tell yes)) (walk ask ts b (tell yes))
        (choose v (walk ask ts b inner) (walk ask ts b (tell yes)) (walk ask ts b (tell yes)) x).on
        ≡ choose v (walk ask ts b outer) (walk ask ts b (tell yes)) (walk ask ts b (tell yes)) x
    go no x = rest x
    go yes x = refl
    go also x = refl
    go again x = refl
