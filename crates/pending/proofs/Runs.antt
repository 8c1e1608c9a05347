-- TWO RUNS GO TOGETHER, if their pushes and their reports do (`Keeps`): one induction over programs, and one over the
-- open calls that are allowed.
use Prim.Native.Nat.{ℕ, zero, suc}
use mathlib.Core.Path.{◌≡◌, refl, sym, ap, subst}
use mathlib.Core.Bool.{Bool, true, false, true≢false}
use mathlib.Core.List.{List, [], ◌∷◌}
use lib.ListN.{length}
use Rattle.definitions.specs.Layout.{MOST_OPEN_CALLS}
use Rattle.definitions.specs.Token.{Token}
use Rattle.definitions.specs.Prog.{choose, Ans, no, yes, also, again, Rule, Prog, ret, act, ◌⨟◌, case, in_marker, loop, chain, brace, open_call}
use Rattle.definitions.specs.Grammar.{grammar, Entry, whole}
use Rattle.definitions.specs.Skeleton.{Label, no_label, Skeleton, done, over}
use Rattle.definitions.specs.Run.{State, Out, mark_of, makes, taken, chained, here}
use Rattle.definitions.specs.Run as Run
use Rattle.definitions.specs.Call.{run_entry}
use Rattle.run_steps.specs.Steps.{Step, begun, branched, steps, run_steps, entry_steps, EveryStep}
use Rattle.facts.proofs.Good.{Good}
use Rattle.facts.proofs.Sound.{entry_good}
use Rattle.pending.specs.Once.{once}
use Rattle.pending.specs.RunBy.{Way}
use Rattle.pending.specs.RunBy as RunBy
use Rattle.pending.proofs.Alike.{Terms, Alike, no_more, overs}
use Rattle.pending.proofs.Steps.{each_first}
use Rattle.pending.proofs.Together.{shrunk, Together, Follows, by_steps, idle, more, in_mark}
use Rattle.pending.proofs.Chains.{iter_follows, chain_steps, chained_so}
use Rattle.pending.proofs.Acts.{Keeps, act_follows}

module _ (c : Terms) (v : Way) (K : Keeps c v) where
  -- the way on from an answer
  choose_follows : (x : Ans) (N Y A N' Y' A' : State → Out) (TN TY TA : State → List Step) → Follows c N N' TN → Follows c Y Y' TY → Follows c A A' TA → Follows c (choose x N Y A) (choose x N' Y' A') (choose x TN TY TA)
  unfolding choose
  choose_follows no N Y A N' Y' A' TN TY TA p q r = p
  choose_follows yes N Y A N' Y' A' TN TY TA p q r = q
  choose_follows also N Y A N' Y' A' TN TY TA p q r = r
  choose_follows again N Y A N' Y' A' TN TY TA p q r = q

  -- the program's own step first
  begun_first : (p : Prog) (s : State) (f : Bool) (ss : List Step) (o n : Out) → Together c f f ss o n → Together c f f (begun p s ∷ ss) o n
  begun_first p s f ss o n w = by_steps c f f ss (begun p s ∷ ss) o n (λ h. h) w

  -- there: what a call of the other run does. ask, inside: what one of this run does, and its steps.
  module _ (there ask : Rule → State → Out) (inside : Rule → State → List Step) (A : (r : Rule) → Follows c (there r) (ask r) (inside r)) where
    -- the other run, this one, and its steps
    abbrev then_run : Label → Prog → State → Out
    then_run = RunBy.exec v there

    abbrev now_run : Label → Prog → State → Out
    now_run = Run.exec ask

    abbrev by : Label → Prog → State → List Step
    by = steps ask inside

    exec_follows : (b : Label) (p : Prog) → Follows c (then_run b p) (now_run b p) (by b p)
    unfolding RunBy.exec Run.exec steps
    exec_follows b (ret k a) f s d e = idle c f (begun (ret k a) (shrunk s) ∷ []) s a k tt d
    exec_follows b (act a) f s d e = begun_first (act a) (shrunk s) f [] _ _ (act_follows c v K b a f s d (λ i. (e i).0))
    exec_follows b (p ⨟ q) f s d e =
        begun_first (p ⨟ q) (shrunk s) f _ _ _
        (more c f (by b p (shrunk s)) (then_run b p s) (now_run b p (shrunk s)) (exec_follows b p f s d (λ i. each_first Good (by b p (shrunk s)) _ (e i).1))
        (then_run b q (then_run b p s).state) (λ n. now_run b q n.state) (λ n. by b q n.state) (λ i. (e i).1) (λ w g. exec_follows b q g (then_run b p s).state))
    exec_follows b (case t n y a) f s d e =
        begun_first (case t n y a) (shrunk s) f _ _ _
        (more c f (by b t (shrunk s)) (then_run b t s) (now_run b t (shrunk s)) (exec_follows b t f s d (λ i. each_first Good (by b t (shrunk s)) _ (e i).1))
        (choose (then_run b t s).ans (then_run b n) (then_run b y) (then_run b a) (then_run b t s).state) (λ x. choose x.ans (now_run b n) (now_run b y) (now_run b a) x.state)
        (λ x. branched x.ans ∷ choose x.ans (by b n) (by b y) (by b a) x.state) (λ i. (e i).1)
        (λ w g d' e'. by_steps c g g _ _ _ _ (λ h. h)
        (choose_follows (then_run b t s).ans (then_run b n) (then_run b y) (then_run b a) (now_run b n) (now_run b y) (now_run b a) (by b n) (by b y) (by b a) (exec_follows b n) (exec_follows b y) (exec_follows b a)
        g (then_run b t s).state d' (λ i. (e' i).1))))
    exec_follows b (in_marker p) f s d e = begun_first (in_marker p) (shrunk s) f _ _ _ (in_mark c f _ s (then_run b p s) (now_run b p (shrunk s)) (exec_follows b p f s d (λ i. (e i).1)))
    exec_follows b (loop p) f s d e =
        begun_first (loop p) (shrunk s) f _ _ _ (iter_follows c (then_run b p) (now_run b p) (by b p) (exec_follows b p) (suc (length s.rest)) f s d (λ i. (e i).1))
    exec_follows b (chain p q) f s d e =
        let w = exec_follows b p f s d (λ i. each_first Good (by b p (shrunk s)) _ (e i).1) in
        begun_first (chain p q) (shrunk s) f _ _ _
        (subst (λ (n : Out). (f ≡ false → EveryStep Good (chain_steps (now_run b q) (by b q) (by b p (shrunk s)) n))
        → Together c f f (chain_steps (now_run b q) (by b q) (by b p (shrunk s)) n) (chained (then_run b q) s (then_run b p s)) (chained (now_run b q) (shrunk s) n)) (sym w.same)
        (chained_so c (then_run b q) (now_run b q) (by b q) (exec_follows b q) f s (by b p (shrunk s)) (then_run b p s) w.what w.piece) (λ i. (e i).1))
    exec_follows b (brace p) f s d e = begun_first (brace p) (shrunk s) f _ _ _ (exec_follows (here s.rest) p f s d (λ i. (e i).1))
    exec_follows b (open_call r) f s d e = begun_first (open_call r) (shrunk s) f _ _ _ (A r f s d (λ i. (e i).1))

  run_follows : (n : ℕ) (r : Rule) → Follows c (RunBy.run v n r) (Run.run n r) (run_steps n r)
  unfolding RunBy.run Run.run run_steps makes
  run_follows zero r f s d e =
      record {
        what = over (mark_of s) done;
        same = refl;
        piece = record { after = true; made = overs (mark_of s) no_more; settled = record { test = λ i. absurd (true≢false i) }; free = λ i. absurd (true≢false i) };
      }
  run_follows (suc n) r f s d e = exec_follows (RunBy.run v n) (Run.run n) (run_steps n) (run_follows n) no_label (grammar r) f s d e

  -- ---------------------------------------------------------------- every run

  -- what an entry's runs make
  pub record Entries (e : Entry) (ts : List Token) : Type 0 where
    pub after : Bool
    pub alike : Alike c false after (run_entry e ts) (RunBy.run_entry v e ts)

  pub entry_follows : (e : Entry) (ts : List Token) → Entries e ts
  unfolding RunBy.run_entry run_entry entry_steps once
  entry_follows e ts =
      let w =
      exec_follows (RunBy.run v MOST_OPEN_CALLS) (Run.run MOST_OPEN_CALLS) (run_steps MOST_OPEN_CALLS) (run_follows MOST_OPEN_CALLS) no_label (whole e) false (taken ts) (record { test = λ _ u. refl })
      (λ _. entry_good e ts) in
      record { after = w.piece.after; alike = subst (λ (p : Skeleton). Alike c false w.piece.after p (RunBy.run_entry v e ts)) (ap (λ (o : Out). o.made) (sym w.same)) w.piece.made }
