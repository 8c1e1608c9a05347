-- What happens in a run, in order: calls are opened, events are pushed, report rows are written. It follows `exec`,
-- `iter`, `links`, `chained` and `run` of the definitions, step by step, and says nothing of limits and buffers, by
-- which specs/Refusals.antt judges it.
use Rattle.std.specs.Prelude.{ℕ, zero, suc, cond, List, [], ◌∷◌, ◌++◌, length}
use Rattle.definitions.specs.Token.{Token}
use Rattle.definitions.specs.Prog.{choose, Rule, Act, silent_at, at_end, immediate, immediate_next, add_expected, bump, bump_name, bump_argument, emit, emit_unclosed, less, Prog, ret, act, ◌⨟◌, case, in_marker, loop, chain, brace, open_call}
use Rattle.definitions.specs.Grammar.{grammar, Entry, whole}
use Rattle.definitions.specs.Skeleton.{Label, no_label, Skeleton, done, token, name, node, ignored, report, over}
use Rattle.definitions.specs.Run.{State, Out, mark_of, taken, perform, is_again, goes_on, by_shape, here, exec, run}

-- Each with the mark at which it happens, counted from the end of the file as the definitions count it. call-opened:
-- with how many calls are open then. report-written: a report's row, with its number of expectations.
pub data Happening : Type 0 where
  call_opened : ℕ → ℕ → Happening
  event_pushed : ℕ → Happening
  report_written : ℕ → ℕ → Happening

-- an event, at the mark of a state
abbrev pub event_at : State → List Happening
event_at s = event_pushed (mark_of s) ∷ []

-- What an action makes: tokens and names, an event each; or a report, whose event is pushed before its row. No action
-- makes a node.
unfoldable pub made_by : Skeleton → List Happening
made_by done = []
made_by (token t m o) = event_pushed m ∷ made_by o
made_by (name ts m o) = event_pushed m ∷ made_by o
made_by (report r o) = event_pushed r.mark ∷ report_written (length r.pool) r.mark ∷ made_by o
made_by (node k m m' a i o) = []
made_by (ignored m m' a i o) = []
made_by (over m o) = []

unfoldable pub act_trace : Label → Act → State → List Happening
unfolding made_by perform
act_trace b (silent_at ks) s = []
act_trace b at_end s = []
act_trace b (immediate k) s = []
act_trace b (immediate_next k) s = []
act_trace b (add_expected k) s = []
act_trace b bump s = made_by (perform b bump s).made
act_trace b (bump_name ks) s = made_by (perform b (bump_name ks) s).made
act_trace b bump_argument s = made_by (perform b bump_argument s).made
act_trace b (emit m h) s = made_by (perform b (emit m h) s).made
act_trace b emit_unclosed s = made_by (perform b emit_unclosed s).made
act_trace b (less m n) s = []

-- f: what a turn does. g: what happens in it.
unfoldable pub iter_trace : ℕ → (State → Out) → (State → List Happening) → State → List Happening
unfolding goes_on
iter_trace zero f g s = []
iter_trace (suc n) f g s = g s ++ (let more = iter_trace n f g (f s).state in cond (goes_on s (f s)) more [])

-- A chain's marker stands open. A link that shapes it completes it, and pushes the next marker; the last marker is
-- ignored.
unfoldable pub links_trace : ℕ → (State → Out) → (State → List Happening) → State → List Happening
unfolding goes_on by_shape
links_trace zero f g s = event_at s
links_trace (suc n) f g s =
    let u = (f s).state in
    let more = links_trace n f g u in
    let on = event_at u ++ cond (goes_on s (f s)) more (event_at u) in
    g s ++ (event_at u ++ by_shape (f s).shape [] on)

-- ask: what a call does. inside: what happens in it.
unfoldable pub exec_trace : (Rule → State → Out) → (Rule → State → List Happening) → Label → Prog → State → List Happening
unfolding exec is_again act_trace choose iter_trace links_trace
exec_trace ask in-call b (ret k a) s = []
exec_trace ask in-call b (act a) s = act_trace b a s
exec_trace ask in-call b (p ⨟ q) s = exec_trace ask in-call b p s ++ exec_trace ask in-call b q (exec ask b p s).state
exec_trace ask in-call b (case c n y a) s =
    let o = exec ask b c s in
    exec_trace ask in-call b c s
    ++ choose o.ans (exec_trace ask in-call b n) (exec_trace ask in-call b y) (exec_trace ask in-call b a)
    o.state
exec_trace ask in-call b (in_marker p) s = event_at s ++ (exec_trace ask in-call b p s ++ event_at (exec ask b p s).state)
exec_trace ask in-call b (loop p) s = iter_trace (suc (length s.rest)) (exec ask b p) (exec_trace ask in-call b p) s
exec_trace ask in-call b (chain p q) s =
    let o = exec ask b p s in
    let more = links_trace (suc (length o.state.rest)) (exec ask b q) (exec_trace ask in-call b q) o.state in
    event_at s ++ (exec_trace ask in-call b p s ++ cond (is_again o.ans) more (event_at o.state))
exec_trace ask in-call b (brace p) s = exec_trace ask in-call (here s.rest) p s
exec_trace ask in-call b (open_call r) s = in-call r s

-- a rule, with so many more open calls allowed and so many open around it; the call that is one too many comes no
-- further
unfoldable pub run_trace : ℕ → ℕ → Rule → State → List Happening
unfolding run grammar exec_trace
run_trace zero open_calls r s = call_opened (suc open_calls) (mark_of s) ∷ []
run_trace (suc n) open_calls r s =
    call_opened (suc open_calls) (mark_of s) ∷ exec_trace (run n) (run_trace n (suc open_calls)) no_label (grammar r) s

-- what happens in an entry's run, with at most so many open calls
unfoldable pub trace : ℕ → Entry → List Token → List Happening
unfolding run whole exec_trace run_trace
trace n e ts = exec_trace (run n) (run_trace n 0) no_label (whole e) (taken ts)
