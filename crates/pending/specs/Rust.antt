-- THE RUN WITH THE RUST'S LIST, for the comparison (specs/AsBefore.antt). The Rust pushes an expectation whether it is
-- pending or not (`add_expected`), without limit. Where it writes message 1 it drops the repeats from its list
-- (`fmt_expected_message`), and then tests what is left for the range (`current_token_error_range`). The limit of open
-- calls is document 01's.
use Rattle.std.specs.Prelude.{ℕ, cond, List, [], ◌∷◌, ◌++◌, eqb}
use Rattle.definitions.specs.Errors as E
use Rattle.definitions.specs.Token.{Token}
use Rattle.definitions.specs.Prog.{yes}
use Rattle.definitions.specs.Grammar.{Entry}
use Rattle.definitions.specs.Skeleton.{Skeleton}
use Rattle.definitions.specs.Run.{State, Out, replies}
use Rattle.pending.specs.Once.{once}
use Rattle.pending.specs.RunBy.{Way}
use Rattle.pending.specs.RunBy as RunBy

unfoldable pub do_expected : ℕ → State → Out
unfolding replies
do_expected k s = replies yes (record { rest = s.rest; since = s.since; pending = s.pending ++ (k ∷ []) })

unfoldable pub written : ℕ → State → State
unfolding once
written m s = record { rest = s.rest; since = s.since; pending = cond (eqb m E.msg_expected) (once s.pending) s.pending }

abbrev pub rust : Way
rust = record { push = do_expected; write = written }

unfoldable pub run_entry : Entry → List Token → Skeleton
unfolding RunBy.run_entry do_expected written
run_entry e ts = RunBy.run_entry rust e ts
