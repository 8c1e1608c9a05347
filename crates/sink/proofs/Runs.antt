-- Every run's skeleton is chained: what a marker was made to precede is one node.
use Prim.Native.Nat.{ℕ, zero, suc}
use mathlib.Core.Path.{refl}
use mathlib.Core.List.{List, [], ◌∷◌}
use lib.Dec.{eqb}
use lib.ListN.{length}
use Rattle.definitions.specs.Layout.{MOST_OPEN_CALLS}
use Rattle.definitions.specs.TokenKind as K
use Rattle.definitions.specs.Token.{Token, trivia}
use Rattle.definitions.specs.Prog.{yes, Act, silent_at, at_end, immediate, immediate_next, add_expected, bump, bump_name, bump_argument, emit, emit_unclosed, less}
use Rattle.definitions.specs.Skeleton.{Label, no_label, Skeleton, done, token, ◌⧺◌}
use Rattle.definitions.specs.Run.{State, Out, mark_of, peeked, replies, makes, taken, do_bump, do_name, add, at_depth, do_argument, do_emit, do_expected, perform, closed, marked, unlinked, run}
use Rattle.definitions.specs.Grammar.{Entry, whole}
use Rattle.definitions.specs.Call.{run_entry}
use Rattle.basics.proofs.Tests.{cond-all}
use Rattle.laws.proofs.Engine.{Composes, Steady, exec_all, run_all}
use Rattle.sink.specs.Encode.{Alone, Chained}
use Rattle.sink.proofs.Encode.{chained_join}

-- ---------------------------------------------------------------- actions make no markers

bump_chained : (s : State) (ts : List Token) → Chained (do_bump s ts).made
unfolding do_bump replies makes Chained
bump_chained s [] = tt
bump_chained s (t ∷ ts) = tt

name_chained : (ks : List ℕ) (s : State) (ts : List Token) → Chained (do_name ks s ts).made
unfolding do_name replies makes Chained
name_chained ks s [] = tt
name_chained ks s (t ∷ ts) = tt

depth_chained : (n : ℕ) (a : Out) (f : ℕ → Out) → Chained a.made → ((m : ℕ) → Chained (f m).made) → Chained (at_depth n a f).made
unfolding at_depth
depth_chained zero a f h g = h
depth_chained (suc n) a f h g = g n

argument_chained : (n : ℕ) (s : State) (ts : List Token) → Chained (do_argument n s ts).made
unfolding do_argument replies makes add at_depth ◌⧺◌ Chained
argument_chained n s [] = tt
argument_chained n s (t ∷ ts) =
    let go : ℕ → Out = λ m. add (makes yes (token t (length ts) done) (taken ts)) (do_argument m (taken ts) ts) in
    let gone : (m : ℕ) → Chained (go m).made = λ m. argument_chained m (taken ts) ts in
    let made : Out → Type 0 = λ o. Chained o.made in
    cond-all made (trivia t) (argument_chained n s ts)
    (cond-all made (eqb t.kind K.LParen) (gone (suc n))
    (cond-all made (eqb t.kind K.RParen) (depth_chained n _ go tt gone)
    (cond-all made (eqb t.kind K.Comma) (depth_chained n _ (λ m. go (suc m)) tt (λ m. gone (suc m))) (gone n))))

act_chained : (b : Label) (a : Act) (s : State) → Chained (perform b a s).made
unfolding perform replies makes do_emit do_expected Chained
act_chained b (silent_at ks) s = tt
act_chained b at_end s = tt
act_chained b (immediate k) s = tt
act_chained b (immediate_next k) s = tt
act_chained b (add_expected k) s = tt
act_chained b bump s = bump_chained (peeked s) (peeked s).rest
act_chained b (bump_name ks) s = name_chained ks (peeked s) (peeked s).rest
act_chained b bump_argument s = argument_chained 0 s s.rest
act_chained b (emit m h) s = tt
act_chained b emit_unclosed s = tt
act_chained b (less m n) s = tt

-- ---------------------------------------------------------------- markers

closed_chained : (k m m' : ℕ) (a i : Skeleton) → Alone a → Chained a → Chained i → Chained (closed k m m' a i)
unfolding closed Chained
closed_chained zero m m' a i al ca ci = (al, (ca, (ci, tt)))
closed_chained (suc k) m m' a i al ca ci = (al, (ca, (ci, tt)))

MadeChained : State → Out → Type 0
MadeChained s o = Chained o.made

-- a chain under way: its node so far stands alone
UnderChained : State → ℕ → Skeleton → Skeleton → State → Type 0
UnderChained s m a i u = Alone a × (Chained a × Chained i)

composes : Composes MadeChained UnderChained
unfolding MadeChained UnderChained add marked makes unlinked Chained
composes =
    record {
      idle = λ a s. tt;
      add = λ s o o' h g. chained_join o.made o'.made h g;
      mark = λ s o h. closed_chained o.shape (mark_of s) (mark_of o.state) done o.made tt tt h;
      turn = λ s o h. h;
      first = λ s o h. (tt, (tt, h));
      more = λ s u m a i o c h. (c.0, (c.1.0, chained_join i o.made c.1.1 h));
      link = λ s u m k a i o b q e c. (refl, ((c.0, (c.1.0, (c.1.1, tt))), tt));
      last = λ s u m a i x c. closed_chained 0 m (mark_of u) a i c.0 c.1.0 c.1.1;
    }

steady : Steady MadeChained UnderChained
unfolding MadeChained makes Chained
steady = record { composes = composes; ret = λ k a s. tt; act = act_chained; deep = λ s. tt }

-- EVERY RUN'S SKELETON IS CHAINED
pub entry_chained : (e : Entry) (ts : List Token) → Chained (run_entry e ts)
unfolding run_entry MadeChained
entry_chained e ts = exec_all MadeChained UnderChained steady (run MOST_OPEN_CALLS) (run_all MadeChained UnderChained steady MOST_OPEN_CALLS) no_label (whole e) (taken ts)
