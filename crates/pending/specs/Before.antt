-- THE RUN AS IT WAS before 6/14. It is here only for the comparison (specs/AsBefore.antt), and no crate uses it for
-- anything else. An expectation was pushed whether it was pending or not, and a 257th pending one was refusal 5.
-- `over_unless` and `do_expected` are the definitions of then, letter by letter.
use Rattle.std.specs.Prelude.{ℕ, Bool, true, false, List, [], ◌∷◌, ◌++◌, ltb, length}
use Rattle.definitions.specs.Token.{Token}
use Rattle.definitions.specs.Prog.{yes}
use Rattle.definitions.specs.Grammar.{Entry}
use Rattle.definitions.specs.Skeleton.{Skeleton, done, over}
use Rattle.definitions.specs.Run.{State, Out, mark_of, makes}
use Rattle.pending.specs.RunBy.{Way}
use Rattle.pending.specs.RunBy as RunBy

-- nothing, or refusal 5
unfoldable pub over_unless : Bool → ℕ → Skeleton
over_unless true m = done
over_unless false m = over m done

-- `add_expected`
unfoldable pub do_expected : ℕ → State → Out
unfolding makes over_unless
do_expected k s =
    makes yes (over_unless (ltb (length s.pending) 256) (mark_of s))
    (record { rest = s.rest; since = s.since; pending = s.pending ++ (k ∷ []) })

-- a report left the list as it was
abbrev pub before : Way
before = record { push = do_expected; write = λ m s. s }

unfoldable pub run_entry : Entry → List Token → Skeleton
unfolding RunBy.run_entry do_expected
run_entry e ts = RunBy.run_entry before e ts
