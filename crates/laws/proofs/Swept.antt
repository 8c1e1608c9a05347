-- All that the grammar leaves over is taken: at the end of a run of `whole` no token but trivia is left.
use Prim.Native.Nat.{ℕ, zero, suc, ◌≤◌, ◌<◌}
use native.Mathlib.Nat.{not-suc-le-zero}
use native.Mathlib.Omega.{arith}
use mathlib.Core.Path.{◌≡◌, refl, ap, sym, ◌∙◌, subst}
use mathlib.Core.List.{List, [], ◌∷◌}
use lib.ListN.{length}
use borrow.Author.Tests.{lt-ltb}
use Rattle.definitions.specs.Layout.{MOST_OPEN_CALLS}
use Rattle.definitions.specs.Errors as E
use Rattle.definitions.specs.Token.{Token, drop_trivia}
use Rattle.definitions.specs.Prog.{choose, yes, again, Rule}
use Rattle.definitions.specs.Grammar.{Entry, entry, whole, left_over, left_over_turn}
use Rattle.definitions.specs.Once.{pushed_once}
use Rattle.definitions.specs.Skeleton.{Label, no_label, done, token, ◌⧺◌}
use Rattle.definitions.specs.Run.{State, Out, peeked, replies, makes, taken, do_bump, do_emit, do_expected, perform, add, marked, is_again, goes_on, iter, exec, run}
use Rattle.definitions.specs.Place.{after}
use Rattle.definitions.specs.Call.{run_entry}
use Rattle.laws.proofs.Trivia.{drop_twice, drop_trivia_length, passes_drop}
use Rattle.laws.proofs.Kept.{Stands, stands_taken, moved, exec_kept, run_kept}
use Rattle.laws.proofs.Between.{Taking, reads_kept, entry_reads}

-- nothing but trivia is left
abbrev pub Ended : Out → Type 0
Ended o = drop_trivia o.state.rest ≡ []

module _ (ask : Rule → State → Out) (b : Label) where
  pub turn_ends : (s : State) → drop_trivia s.rest ≡ [] → exec ask b left_over_turn s ≡ record { ans = yes; shape = 0; made = done; state = moved s [] }
  unfolding left_over_turn exec perform choose replies peeked add ◌⧺◌
  turn_ends s e = rw e refl

  pub turn_takes : (s : State) (t : Token) (ts : List Token) → drop_trivia s.rest ≡ t ∷ ts
      → exec ask b left_over_turn s ≡ record { ans = again; shape = 0; made = token t (length ts) done; state = taken ts }
  unfolding left_over_turn exec perform choose replies makes peeked add do_bump ◌⧺◌
  turn_takes s t ts e =
      let e' : drop_trivia (t ∷ ts) ≡ t ∷ ts = ap drop_trivia (sym e) ∙ drop_twice s.rest ∙ e in
      rw (e, e') refl

  sweeps : (n : ℕ) (s : State) → length s.rest < n → Ended (iter n (exec ask b left_over_turn) s)
  unfolding iter goes_on is_again makes add drop_trivia
  sweeps zero s h = absurd (not-suc-le-zero h)
  sweeps (suc n) s h = go (drop_trivia s.rest) refl (λ (u : State) g. sweeps n u g)
    where
      go : (l : List Token) → drop_trivia s.rest ≡ l → ((u : State) → length u.rest < n → Ended (iter n (exec ask b left_over_turn) u)) → Ended (iter (suc n) (exec ask b left_over_turn) s)
      go [] e ih = rw (turn_ends s e) refl
      go (t ∷ ts) e ih =
          let l : length (t ∷ ts) ≤ length s.rest = subst (λ (x : List Token). length x ≤ length s.rest) e (drop_trivia_length s.rest) in
          rw (turn_takes s t ts e, lt-ltb (length ts) (length s.rest) l) (ih (taken ts) (omega arith))

  -- `Entrypoint::parse` takes what is left over
  pub left_over_ends : (s : State) → Ended (exec ask b left_over s)
  unfolding left_over exec perform choose replies makes peeked add marked do_expected do_emit
  left_over_ends s = go (drop_trivia s.rest) refl
    where
      go : (l : List Token) → drop_trivia s.rest ≡ l → Ended (exec ask b left_over s)
      go [] e = rw e refl
      go (t ∷ ts) e = rw e (sweeps (suc (length (drop_trivia (t ∷ ts)))) (record { rest = drop_trivia (t ∷ ts); since = s.since; pending = pushed_once E.End s.pending }) (omega arith))

-- A WHOLE RUN ENDS AT THE END
pub whole_ends : (e : Entry) (ts : List Token) → Ended (exec (run MOST_OPEN_CALLS) no_label (whole e) (taken ts))
unfolding whole exec add
whole_ends e ts = left_over_ends (run MOST_OPEN_CALLS) no_label (exec (run MOST_OPEN_CALLS) no_label (entry e) (taken ts)).state

-- and so its skeleton leaves nothing but trivia
pub entry_leaves : (e : Entry) (ts : List Token) → drop_trivia (after (run_entry e ts) ts) ≡ []
entry_leaves e ts =
    let u : State = (exec (run MOST_OPEN_CALLS) no_label (whole e) (taken ts)).state in
    let h : Stands u = (exec_kept Taking reads_kept (run MOST_OPEN_CALLS) (run_kept Taking reads_kept MOST_OPEN_CALLS) no_label (whole e) (taken ts) (stands_taken ts)).0 in
    (entry_reads e ts).leaves ts refl ∙ passes_drop u.since u.rest h.passed ∙ whole_ends e ts
