-- What the facts of Look.antt mean, and what a look says of a run's result.
use Prim.Native.Nat.{ℕ, zero, suc}
use mathlib.Core.Path.{◌≡◌, refl, ap, sym, ◌∙◌, subst}
use mathlib.Core.Bool.{Bool, true, false, cond, ◌&&◌, false≢true}
use mathlib.Core.List.{List}
use Rattle.definitions.specs.Prog.{Ans, no, yes, also, again}
use Rattle.definitions.specs.Token.{drop_trivia}
use Rattle.definitions.specs.Run.{State, Out, add}
use Rattle.basics.proofs.Tests.{and_left, and_right}
use Rattle.laws.proofs.Kept.{Stands}
use Rattle.laws.proofs.Clear.{BelowLimits}
use Rattle.laws.proofs.Analysis.{Look, get, same}
use Rattle.brackets.specs.Brackets.{Outline, end, node, proper, elsewhere}
use Rattle.brackets.proofs.Bits.{any, at_left, at_right, at_any, below, below_holds, below_then}
use Rattle.brackets.proofs.Flat.{◌⊞◌, beside_assoc, flat, flat_join, shut}
use Rattle.brackets.proofs.Summary.{Sum, bits, exact, Sums, sums_join, fits_join}
use Rattle.brackets.proofs.Closing.{closing_ok, close, closes_fit, sums_close}
use Rattle.brackets.proofs.Ahead.{class, Allows}
use Rattle.brackets.proofs.Taken.{sums_left, sums_right, sums_exact}
use Rattle.brackets.proofs.Look.{Fact, never, fact, kept, ◌∪◌, within, only, any_of, then_look, of_two, looks_within, from, joined, joined_all, returned}

-- ---------------------------------------------------------------- facts

-- at s the token ahead is of these classes, and the flags hold of what was made since the marker around was pushed
pub record Known (n : List Bool) (m : Sum) (q : Outline) (s : State) : Type 0 where
  pub ahead : Allows n (drop_trivia s.rest)
  pub sums : Sums m q
  pub fit : proper elsewhere q ≡ true

abbrev pub Holds : Fact → Outline → State → Type 0
Holds never q s = ⊥
Holds (fact n m) q s = Known n m q s

pub kept_holds : (n : List Bool) (m : Sum) (q : Outline) (s : State) → Known n m q s → Holds (kept n m) q s
unfolding kept
kept_holds n m q s h = go (any n) (at_any (class (drop_trivia s.rest)) n h.ahead)
  where
    go : (b : Bool) → b ≡ true → Holds (cond b (fact n m) never) q s
    go true e = h
    go false e = absurd (false≢true e)

pub in_left : (d e : Fact) (q : Outline) (s : State) → Holds d q s → Holds (d ∪ e) q s
in_left never e q s h = absurd h
in_left (fact n m) never q s h = h
in_left (fact n m) (fact j l) q s h =
    record { ahead = at_left (class (drop_trivia s.rest)) n j h.ahead; sums = sums_left m l q h.sums; fit = h.fit }

pub in_right : (d e : Fact) (q : Outline) (s : State) → Holds e q s → Holds (d ∪ e) q s
in_right never e q s h = h
in_right (fact n m) never q s h = absurd h
in_right (fact n m) (fact j l) q s h =
    record { ahead = at_right (class (drop_trivia s.rest)) n j h.ahead; sums = sums_right m l q h.sums; fit = h.fit }

pub weaken : (d e : Fact) (q : Outline) (s : State) → within d e ≡ true → Holds d q s → Holds e q s
weaken never e q s w h = absurd h
weaken (fact n m) never q s w h = absurd (false≢true w)
weaken (fact n m) (fact j l) q s w h =
    record {
      ahead = (below_holds n j (and_left (below n j) _ w)).holds (class (drop_trivia s.rest)) h.ahead;
      sums = record { flags = below_then (bits l) (bits m) (bits (exact q)) (below_holds (bits l) (bits m) (and_right (below n j) _ w)) h.sums.flags };
      fit = h.fit;
    }

-- ---------------------------------------------------------------- looks

pub in_only : (a : Ans) (b : Bool) (d : Fact) (q : Outline) (s : State) → Holds d q s → Holds (get (only a b d) a) q s
in_only no b d q s h = h
in_only yes b d q s h = h
in_only also b d q s h = h
in_only again b d q s h = h

pub in_same : (d : Fact) (a : Ans) (q : Outline) (s : State) → Holds d q s → Holds (get (same true d) a) q s
in_same d no q s h = h
in_same d yes q s h = h
in_same d also q s h = h
in_same d again q s h = h

pub out_same : (d : Fact) (a : Ans) (q : Outline) (s : State) → Holds (get (same true d) a) q s → Holds d q s
out_same d no q s h = h
out_same d yes q s h = h
out_same d also q s h = h
out_same d again q s h = h

pub in_any : (l : Look Fact) (a : Ans) (q : Outline) (s : State) → Holds (get l a) q s → Holds (any_of l) q s
in_any l no q s h = in_left l.if_no _ q s h
in_any l yes q s h = in_right l.if_no _ q s (in_left l.if_yes _ q s h)
in_any l also q s h = in_right l.if_no _ q s (in_right l.if_yes _ q s (in_left l.if_also _ q s h))
in_any l again q s h = in_right l.if_no _ q s (in_right l.if_yes _ q s (in_right l.if_also _ q s h))

pub in_then : (b : Bool) (l m : Look Fact) (a : Ans) (q : Outline) (s : State) → Holds (get m a) q s → Holds (get (then_look b l m) a) q s
in_then b l m no q s h = h
in_then b l m yes q s h = h
in_then b l m also q s h = h
in_then b l m again q s h = h

pub in_first : (l m : Look Fact) (a : Ans) (q : Outline) (s : State) → Holds (get l a) q s → Holds (get (of_two l m) a) q s
in_first l m no q s h = in_left l.if_no m.if_no q s h
in_first l m yes q s h = in_left l.if_yes m.if_yes q s h
in_first l m also q s h = in_left l.if_also m.if_also q s h
in_first l m again q s h = in_left l.if_again m.if_again q s h

pub in_second : (l m : Look Fact) (a : Ans) (q : Outline) (s : State) → Holds (get m a) q s → Holds (get (of_two l m) a) q s
in_second l m no q s h = in_right l.if_no m.if_no q s h
in_second l m yes q s h = in_right l.if_yes m.if_yes q s h
in_second l m also q s h = in_right l.if_also m.if_also q s h
in_second l m again q s h = in_right l.if_again m.if_again q s h

pub weaken_look : (l m : Look Fact) → looks_within l m ≡ true → (a : Ans) (q : Outline) (s : State) → Holds (get l a) q s → Holds (get m a) q s
weaken_look l m e = go
  where
    facts : (within l.if_no m.if_no && (within l.if_yes m.if_yes && (within l.if_also m.if_also && within l.if_again m.if_again))) ≡ true
    facts = and_right l.ok _ e

    later : (within l.if_yes m.if_yes && (within l.if_also m.if_also && within l.if_again m.if_again)) ≡ true
    later = and_right (within l.if_no m.if_no) _ (and_right l.ok _ e)

    last : (within l.if_also m.if_also && within l.if_again m.if_again) ≡ true
    last = and_right (within l.if_yes m.if_yes) _ (and_right (within l.if_no m.if_no) _ (and_right l.ok _ e))

    go : (a : Ans) (q : Outline) (s : State) → Holds (get l a) q s → Holds (get m a) q s
    go no q s h = weaken l.if_no m.if_no q s (and_left (within l.if_no m.if_no) _ facts) h
    go yes q s h = weaken l.if_yes m.if_yes q s (and_left (within l.if_yes m.if_yes) _ later) h
    go also q s h = weaken l.if_also m.if_also q s (and_left (within l.if_also m.if_also) _ last) h
    go again q s h = weaken l.if_again m.if_again q s (and_right (within l.if_also m.if_also) _ last) h

-- ---------------------------------------------------------------- a run's result

-- q: what was made before it in the marker around
abbrev pub Gives : Look Fact → Outline → Out → Type 0
Gives l q o = Holds (get l o.ans) (shut o.shape (q ⊞ flat o.made)) o.state

abbrev pub Sound : (Fact → Look Fact) → (State → Out) → Type 0
Sound f G = (d : Fact) (q : Outline) (s : State) → (f d).ok ≡ true → Stands s → Holds d q s → BelowLimits (G s).made → Gives (f d) q (G s)

pub enter : (f : Fact → Look Fact) (G : State → Out) → Sound f G → Sound (λ d. from d f) G
unfolding from
enter f G S never q s ok k h w = absurd h
enter f G S (fact n m) q s ok k h w = S (fact n m) q s ok k h w

-- one run after another
pub gives_add : (m : Look Fact) (q : Outline) (o p : Out) → Gives m (q ⊞ flat o.made) p → Gives m q (add o p)
unfolding add
gives_add m q o p g =
    subst (λ (x : Outline). Holds (get m p.ans) (shut p.shape x) p.state) (beside_assoc q (flat o.made) (flat p.made) ∙ ap (q ⊞◌) (sym (flat_join o.made p.made))) g

-- where the marker around is not completed
pub open_gives : (l : Look Fact) (q : Outline) (o : Out) → o.shape ≡ 0 → Gives l q o → Holds (get l o.ans) (q ⊞ flat o.made) o.state
unfolding shut
open_gives l q o e g = subst (λ (k : ℕ). Holds (get l o.ans) (shut k (q ⊞ flat o.made)) o.state) e g

-- ---------------------------------------------------------------- markers

joined_holds : (m : Sum) (d : Fact) (q x : Outline) (s : State) → Sums m q → proper elsewhere q ≡ true → Holds d x s → Holds (joined m d) (q ⊞ x) s
joined_holds m never q x s h e g = g
joined_holds m (fact n l) q x s h e g = record { ahead = g.ahead; sums = sums_join m l q x h g.sums; fit = fits_join elsewhere q x e g.fit }

pub joined_gives : (m : Sum) (l : Look Fact) (a : Ans) (q x : Outline) (s : State) → Sums m q → proper elsewhere q ≡ true → Holds (get l a) x s
    → Holds (get (joined_all m l) a) (q ⊞ x) s
joined_gives m l no q x s h e g = joined_holds m l.if_no q x s h e g
joined_gives m l yes q x s h e g = joined_holds m l.if_yes q x s h e g
joined_gives m l also q x s h e g = joined_holds m l.if_also q x s h e g
joined_gives m l again q x s h e g = joined_holds m l.if_again q x s h e g

-- nothing is made yet
pub fresh : (n : List Bool) (m : Sum) (q : Outline) (s : State) → Known n m q s → Known n (exact end) end s
unfolding proper
fresh n m q s h = record { ahead = h.ahead; sums = sums_exact end; fit = refl }

-- the marker around is completed, or ignored
pub returned_gives : (k : ℕ) (a : Ans) (d : Fact) (q : Outline) (s : State) → (returned k a d).ok ≡ true → Holds d q s → Holds (get (returned k a d) a) (shut k q) s
unfolding returned shut
returned_gives zero a d q s ok h = in_only a true d q s h
returned_gives (suc k) a never q s ok h = absurd h
returned_gives (suc k) a (fact n m) q s ok h = go a ok
  where
    closed : closing_ok (suc k) m ≡ true → Known n (close (suc k) m) (node (suc k) q end) s
    closed e = record { ahead = h.ahead; sums = sums_close m q h.sums h.fit (suc k) e; fit = closes_fit m q h.sums h.fit (suc k) e }

    go : (a : Ans) → (only a (closing_ok (suc k) m) (fact n (close (suc k) m))).ok ≡ true
        → Holds (get (only a (closing_ok (suc k) m) (fact n (close (suc k) m))) a) (node (suc k) q end) s
    go no e = closed e
    go yes e = closed e
    go also e = closed e
    go again e = closed e
