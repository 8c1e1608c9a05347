-- `lexical_errors`: the tokens from here on are logged as all are.
use Prim.Native.Nat.{◌-◌, ◌/◌}
use mathlib.Core.Path.{◌≡◌}
use lib.ListN.{length}
use Rattle.definitions.specs.Layout.{TOKEN_ROW}
use Rattle.sink_tokens.specs.Tokens.{log, errorsN}
use Rattle.sink_tokens.proofs.lexical.lexical_errors.Given as goal

abbrev pub invariant-loop-kind : goal.invariant-loop-kind
invariant-loop-kind l =
    errorsN (length l.tokens / TOKEN_ROW - l.kind-index) l.tokens l.kind-index l.byte (log l.found l.errors)
    ≡ errorsN (length l.tokens / TOKEN_ROW) l.tokens 0 0 (log 0 l.fn.errors)
