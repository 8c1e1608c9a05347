-- A RUN WITH ANOTHER PENDING LIST: `Run.perform`, `Run.exec`, `Run.run` and `Call.run_entry`, clause by clause, with
-- what is done to the pending list as an argument. So the runs that are compared (specs/Before.antt, specs/Rust.antt)
-- differ in that and in nothing else.
use Rattle.std.specs.Prelude.{ℕ, zero, suc, List, [], ◌∷◌, ltb, length}
use Rattle.definitions.specs.Layout.{MOST_OPEN_CALLS}
use Rattle.definitions.specs.Errors as E
use Rattle.definitions.specs.Token.{Token, byte_count, past, ended, first_in}
use Rattle.definitions.specs.Prog.{no, choose, Rule, Act, silent_at, at_end, immediate, immediate_next, add_expected, bump, bump_name, bump_argument, emit, emit_unclosed, less, Prog, ret, act, ◌⨟◌, case, in_marker, loop, chain, brace, open_call}
use Rattle.definitions.specs.Grammar.{grammar, Entry, whole}
use Rattle.definitions.specs.Skeleton.{Label, no_label, Skeleton, done, over}
use Rattle.definitions.specs.Run.{State, Out, mark_of, peeked, truth, replies, makes, taken, do_bump, do_name, do_argument, do_emit, add, marked, iter, chained, here}

-- push: pushes an expectation. write: the state in which a report with a message is made, by the one before it.
pub record Way : Type 0 where
  pub push : ℕ → State → Out
  pub write : ℕ → State → State

unfoldable pub perform : Way → Label → Act → State → Out
unfolding peeked replies first_in do_bump do_name do_argument do_emit
perform w b (silent_at ks) s = replies (truth (first_in ks (peeked s).rest)) (peeked s)
perform w b at_end s = replies (truth (ended (peeked s).rest)) (peeked s)
perform w b (immediate k) s = replies (truth (first_in (k ∷ []) s.rest)) s
perform w b (immediate_next k) s = replies (truth (first_in (k ∷ []) (past s.rest))) s
perform w b (add_expected k) s = w.push k s
perform w b bump s = do_bump (peeked s) (peeked s).rest
perform w b (bump_name ks) s = do_name ks (peeked s) (peeked s).rest
perform w b bump_argument s = do_argument 0 s s.rest
perform w b (emit m h) s = do_emit m h no_label (w.write m (peeked s))
perform w b emit_unclosed s = do_emit E.unclosed_node E.no_hint b (w.write E.unclosed_node (peeked s))
perform w b (less m n) s = replies (truth (ltb m n)) s

-- ask: what a call does. b: the brace around.
unfoldable pub exec : Way → (Rule → State → Out) → Label → Prog → State → Out
unfolding perform add choose marked iter chained byte_count
exec w ask b (ret k a) s = record { ans = a; shape = k; made = done; state = s }
exec w ask b (act a) s = perform w b a s
exec w ask b (p ⨟ q) s = let o = exec w ask b p s in add o (exec w ask b q o.state)
exec w ask b (case c n y a) s =
    let o = exec w ask b c s in
    add o (choose o.ans (exec w ask b n) (exec w ask b y) (exec w ask b a) o.state)
exec w ask b (in_marker p) s = marked s (exec w ask b p s)
exec w ask b (loop p) s = iter (suc (length s.rest)) (exec w ask b p) s
exec w ask b (chain p q) s = chained (exec w ask b q) s (exec w ask b p s)
exec w ask b (brace p) s = exec w ask (here s.rest) p s
exec w ask b (open_call r) s = ask r s

-- a rule, with so many more open calls allowed
unfoldable pub run : Way → ℕ → Rule → State → Out
unfolding exec grammar makes
run w zero r s = makes no (over (mark_of s) done) s
run w (suc n) r s = exec w (run w n) no_label (grammar r) s

unfoldable pub run_entry : Way → Entry → List Token → Skeleton
unfolding exec run whole
run_entry w e ts = (exec w (run w MOST_OPEN_CALLS) no_label (whole e) (taken ts)).made
