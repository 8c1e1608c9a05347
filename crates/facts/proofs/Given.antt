-- What is given where a program begins: a token where one is taken, the token that an `assert!` asks for, and what is
-- pending where an expectation is pushed that is there already.
use Prim.Native.Nat.{ℕ}
use mathlib.Core.Path.{◌≡◌}
use mathlib.Core.Bool.{true, false}
use mathlib.Core.List.{List, [], ◌∷◌, ◌++◌}
use Rattle.definitions.specs.Token.{drop_trivia, ended, one_of, first_in}
use Rattle.definitions.specs.Prog.{Prog, act, add_expected, bump, bump_name}
use Rattle.definitions.specs.Run.{State, only_separators}
use Rattle.basics.proofs.Tests.{and_left, and_right}
use Rattle.run_steps.specs.Steps.{Step, begun, branched, turned, linked, spent, exceeded, EveryStep}
use Rattle.facts.proofs.Known.{some}
use Rattle.facts.proofs.Facts.{empty, other, pend_from, By, may_push, Fact}
use Rattle.facts.proofs.May.{both_ways, asserts, may_act, may_begin}
use Rattle.facts.proofs.Holds.{Right, Way, fresh_way, took_way}
use Rattle.facts.proofs.Pushing.{repeat_other, other_settled}
use Rattle.facts.proofs.Acts.{holds_there, holds_next}
use Rattle.facts.proofs.Good.{Begun}

-- a token is there, where one is taken
pub bump_there : (s : State) → Begun (act bump) s → ended (drop_trivia s.rest) ≡ false
unfolding may_begin may_act
bump_there s g = holds_there g.known g.turn s g.may g.holds

-- and one of its set, where a name is
pub name_there : (ks : List ℕ) (s : State) → Begun (act (bump_name ks)) s → first_in ks (drop_trivia s.rest) ≡ true
unfolding may_begin may_act
name_there ks s g = holds_next ks g.known g.turn s g.may g.holds

-- it is of a kind that is asked for
pub next_there : (ks : List ℕ) (p : Prog) (s : State) → ((d : Fact) → may_begin p d ≡ true → asserts (some ks) d ≡ true) → Begun p s → first_in ks (drop_trivia s.rest) ≡ true
next_there ks p s a g = holds_next ks g.known g.turn s (a g.known g.may) g.holds

-- An expectation that is pending already, where it is pushed: more than separators is pending, and so it stays whatever
-- is pushed. So a list in which each stands once and one with repeats pass the test of a range alike (crates/pending).
pub repeat_settled : (k : ℕ) (s : State) → Begun (act (add_expected k)) s → one_of s.pending k ≡ true → (u : List ℕ) → only_separators (s.pending ++ u) ≡ false
unfolding may_begin may_act both_ways
repeat_settled k s g i u = other_settled s.pending u (go g.holds.way)
  where
    by : (f : By) → may_push k f ≡ true → Right f s → pend_from empty s.pending ≡ other
    by f e r = repeat_other f (drop_trivia s.rest) s.pending k e r.told i

    go : Way g.known g.turn s → pend_from empty s.pending ≡ other
    go (fresh_way m r) = by g.known.fresh (and_left (may_push k g.known.fresh) _ g.may) r
    go (took_way m r) = by g.known.took (and_right (may_push k g.known.fresh) _ g.may) r

-- what a good step gives, all of them give
pub each_by : (P Q : Step → Type 0) → ((x : Step) → P x → Q x) → (l : List Step) → EveryStep P l → EveryStep Q l
each_by P Q f [] h = tt
each_by P Q f (begun p s ∷ l) h = (f (begun p s) h.0, each_by P Q f l h.1)
each_by P Q f (branched a ∷ l) h = (f (branched a) h.0, each_by P Q f l h.1)
each_by P Q f (turned s o ∷ l) h = (f (turned s o) h.0, each_by P Q f l h.1)
each_by P Q f (linked s o ∷ l) h = (f (linked s o) h.0, each_by P Q f l h.1)
each_by P Q f (spent ∷ l) h = (f spent h.0, each_by P Q f l h.1)
each_by P Q f (exceeded ∷ l) h = tt
