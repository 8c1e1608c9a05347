-- Two runs side by side, from one program to the next. The other run's state has another pending list; this one's has
-- that list without repeats.
use Prim.Native.Nat.{ℕ}
use mathlib.Core.Path.{◌≡◌, refl, sym, ap, subst}
use mathlib.Core.Bool.{Bool, false}
use mathlib.Core.List.{List, ◌++◌}
use Rattle.definitions.specs.Prog.{Ans}
use Rattle.definitions.specs.Skeleton.{Skeleton, done, ◌⧺◌}
use Rattle.definitions.specs.Run.{State, Out, mark_of, makes, add, only_separators, closed, marked}
use Rattle.run_steps.specs.Steps.{Step, EveryStep}
use Rattle.facts.proofs.Good.{Good, Free}
use Rattle.pending.specs.Once.{once}
use Rattle.pending.proofs.Alike.{Terms, Alike, no_more, alike_join, alike_closed}
use Rattle.pending.proofs.Steps.{each_second, free_both}

-- ---------------------------------------------------------------- states and what a run gives

abbrev pub shrunk : State → State
shrunk s = record { rest = s.rest; since = s.since; pending = once s.pending }

-- unless the run was refused 5 before: the test for separators comes out alike on the two lists, and goes on to
-- whatever is pushed
pub record Settled (refused : Bool) (l : List ℕ) : Type 0 where
  pub test : refused ≡ false → (u : List ℕ) → only_separators (once l ++ u) ≡ only_separators (l ++ u)

-- the same but for what is made and for the list
abbrev pub as_of : Out → Skeleton → Out
as_of o p = record { ans = o.ans; shape = o.shape; made = p; state = shrunk o.state }

-- o: what the other run gave. p: what this one made, by the steps ss. f, g: whether refusal 5 has come before what was
-- made, and before these steps.
pub record Piece (c : Terms) (f g : Bool) (ss : List Step) (o : Out) (p : Skeleton) : Type 0 where
  pub after : Bool
  pub made : Alike c f after p o.made
  pub settled : Settled after o.state.pending
  pub free : after ≡ false → (g ≡ false) × Free ss

-- n: what this one gave
pub record Together (c : Terms) (f g : Bool) (ss : List Step) (o n : Out) : Type 0 where
  pub what : Skeleton
  pub same : n ≡ as_of o what
  pub piece : Piece c f g ss o what

-- F: the other run. G: this one. T: its steps.
abbrev pub Follows : Terms → (State → Out) → (State → Out) → (State → List Step) → Type 0
Follows c F G T = (f : Bool) (s : State) → Settled f s.pending → (f ≡ false → EveryStep Good (T (shrunk s))) → Together c f f (T (shrunk s)) (F s) (G (shrunk s))

module _ (c : Terms) where
  -- other steps, with refusal 5 among them only if it is among those
  pub by_steps : (f g : Bool) (ss us : List Step) (o n : Out) → (Free ss → Free us) → Together c f g ss o n → Together c f g us o n
  by_steps f g ss us o n h w =
      record {
        what = w.what;
        same = w.same;
        piece = record { after = w.piece.after; made = w.piece.made; settled = w.piece.settled; free = λ e. ((w.piece.free e).0, h (w.piece.free e).1) };
      }

  -- after other steps
  pub later : (f g : Bool) (ss us : List Step) (o : Out) (p : Skeleton) (w : Piece c g g ss o p) (x y : Out) → Together c f w.after us x y → Together c f g (ss ++ us) x y
  later f g ss us o p w x y v =
      record {
        what = v.what;
        same = v.same;
        piece =
            record {
              after = v.piece.after;
              made = v.piece.made;
              settled = v.piece.settled;
              free = λ i. let a = v.piece.free i in let b = w.free a.0 in (b.0, free_both ss us b.1 a.1);
            };
      }

  -- one run after another; e: what is known of the steps of both
  pub then : (f g : Bool) (ss us : List Step) (o x y : Out) (p : Skeleton) (w : Piece c f g ss o p) → (g ≡ false → EveryStep Good (ss ++ us))
      → ((w.after ≡ false → EveryStep Good us) → Together c w.after w.after us x y) → Together c f g (ss ++ us) (add o x) (add (as_of o p) y)
  unfolding add
  then f g ss us o x y p w e k =
      let v : Together c w.after w.after us x y = k (λ i. each_second Good ss us (e (w.free i).0) (w.free i).1) in
      record {
        what = p ⧺ v.what;
        same = ap (add (as_of o p)) v.same;
        piece =
            record {
              after = v.piece.after;
              made = alike_join w.made v.piece.made;
              settled = v.piece.settled;
              free = λ i. let a = v.piece.free i in let b = w.free a.0 in (b.0, free_both ss us b.1 a.1);
            };
      }

  -- nothing made
  pub idle : (f : Bool) (ss : List Step) (s : State) (x : Ans) (k : ℕ) → Free ss → Settled f s.pending
      → Together c f f ss (record { ans = x; shape = k; made = done; state = s }) (record { ans = x; shape = k; made = done; state = shrunk s })
  idle f ss s x k h d = record { what = done; same = refl; piece = record { after = f; made = no_more; settled = d; free = λ e. (e, h) } }

  -- a run that gave n by the steps ss, and more after it: y and u, what comes then and its steps
  pub more : (f : Bool) (ss : List Step) (o n : Out) → Together c f f ss o n → (x : Out) (y : Out → Out) (u : Out → List Step) → (f ≡ false → EveryStep Good (ss ++ u n))
      → ((p : Skeleton) (g : Bool) → Settled g o.state.pending → (g ≡ false → EveryStep Good (u (as_of o p))) → Together c g g (u (as_of o p)) x (y (as_of o p)))
      → Together c f f (ss ++ u n) (add o x) (add n (y n))
  more f ss o n w x y u e k =
      subst (λ (z : Out). (f ≡ false → EveryStep Good (ss ++ u z)) → Together c f f (ss ++ u z) (add o x) (add z (y z))) (sym w.same)
      (λ i. then f f ss (u (as_of o w.what)) o x (y (as_of o w.what)) w.what w.piece i (k w.what w.piece.after w.piece.settled)) e

  -- in a marker
  pub in_mark : (f : Bool) (ss : List Step) (s : State) (o n : Out) → Together c f f ss o n → Together c f f ss (marked s o) (marked (shrunk s) n)
  unfolding marked makes
  in_mark f ss s o n w =
      record {
        what = closed o.shape (mark_of s) (mark_of o.state) done w.what;
        same = ap (marked (shrunk s)) w.same;
        piece =
            record {
              after = w.piece.after;
              made = alike_closed o.shape (mark_of s) (mark_of o.state) no_more w.piece.made;
              settled = w.piece.settled;
              free = w.piece.free;
            };
      }
