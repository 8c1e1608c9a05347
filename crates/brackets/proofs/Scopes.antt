-- Results in the marker around: a run that completes none, one run or another, and a run in a marker of its own.
use Prim.Native.Nat.{ℕ}
use mathlib.Core.Path.{◌≡◌, refl, ap, sym, ◌∙◌, subst}
use mathlib.Core.Bool.{Bool, true, false, true≢false}
use mathlib.Core.List.{List}
use Rattle.definitions.specs.Prog.{Ans, no, yes, also, again}
use Rattle.definitions.specs.Token.{drop_trivia}
use Rattle.definitions.specs.Run.{State, Out, add, is_again}
use Rattle.laws.proofs.Analysis.{Look, get}
use Rattle.brackets.specs.Brackets.{Outline, end, proper}
use Rattle.brackets.proofs.Flat.{◌⊞◌, beside_assoc, flat, flat_join, shut}
use Rattle.brackets.proofs.Summary.{exact}
use Rattle.brackets.proofs.Ahead.{Allows}
use Rattle.brackets.proofs.Taken.{sums_exact}
use Rattle.brackets.proofs.Look.{Fact, never, fact, then_look, of_two, going, joined_all, scoped}
use Rattle.brackets.proofs.Meaning.{Known, Holds, in_then, in_first, in_second, Gives, joined_gives}

abbrev pub Open : Look Fact → Outline → Out → Type 0
Open l q o = Holds (get l o.ans) (q ⊞ flat o.made) o.state

pub open_add : (m : Look Fact) (q : Outline) (o p : Out) → Open m (q ⊞ flat o.made) p → Open m q (add o p)
unfolding add
open_add m q o p g =
    subst (λ (x : Outline). Holds (get m p.ans) x p.state) (beside_assoc q (flat o.made) (flat p.made) ∙ ap (q ⊞◌) (sym (flat_join o.made p.made))) g

pub to_gives : (l : Look Fact) (q : Outline) (o : Out) → o.shape ≡ 0 → Open l q o → Gives l q o
unfolding shut
to_gives l q o e g = subst (λ (k : ℕ). Holds (get l o.ans) (shut k (q ⊞ flat o.made)) o.state) (sym e) g

pub gives_first : (l m : Look Fact) (q : Outline) (o : Out) → Gives l q o → Gives (of_two l m) q o
gives_first l m q o g = in_first l m o.ans (shut o.shape (q ⊞ flat o.made)) o.state g

pub gives_second : (l m : Look Fact) (q : Outline) (o : Out) → Gives m q o → Gives (of_two l m) q o
gives_second l m q o g = in_second l m o.ans (shut o.shape (q ⊞ flat o.made)) o.state g

pub then_gives : (b : Bool) (l m : Look Fact) (q : Outline) (o : Out) → Gives m q o → Gives (then_look b l m) q o
then_gives b l m q o g = in_then b l m o.ans (shut o.shape (q ⊞ flat o.made)) o.state g

pub not_again : (l : Look Fact) (a : Ans) (q : Outline) (s : State) → is_again a ≡ false → Holds (get l a) q s → Holds (get (going l never) a) q s
unfolding is_again
not_again l no q s e h = h
not_again l yes q s e h = h
not_again l also q s e h = h
not_again l again q s e h = absurd (true≢false e)

-- from a marker of its own
abbrev pub Inner : (Fact → Look Fact) → State → Out → Type 0
Inner f s o =
    (n : List Bool) → Allows n (drop_trivia s.rest) → (f (fact n (exact end))).ok ≡ true → Holds (get (f (fact n (exact end))) o.ans) (flat o.made) o.state

pub scoped_gives : (f : Fact → Look Fact) (d : Fact) (q : Outline) (s : State) (o : Out) → o.shape ≡ 0 → (scoped d f).ok ≡ true → Holds d q s → Inner f s o → Gives (scoped d f) q o
unfolding scoped
scoped_gives f never q s o e ok h g = absurd h
scoped_gives f (fact n m) q s o e ok h g =
    to_gives (joined_all m (f (fact n (exact end)))) q o e
    (joined_gives m (f (fact n (exact end))) o.ans q (flat o.made) o.state h.sums h.fit (g n h.ahead ok))

pub begun : (n : List Bool) (s : State) → Allows n (drop_trivia s.rest) → Known n (exact end) end s
unfolding proper
begun n s a = record { ahead = a; sums = sums_exact end; fit = refl }
