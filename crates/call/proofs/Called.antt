-- What the exported call's proof cites: the parse with what is done after it.
use Prim.Native.Nat.{ℕ, ◌≤◌}
use native.Mathlib.Omega.{arith}
use mathlib.Core.Path.{◌≡◌, refl, ap, sym, ◌∙◌}
use mathlib.Core.Bool.{Bool, true, false}
use lib.Dec.{eqb}
use lib.ListN.{length}
use Rattle.std.specs.Prelude.{IfOk, Ok, Err}
use borrow.Author.Tests.{eqb-true, eqb-false}
use Rattle.definitions.specs.Token.{tokens_of}
use Rattle.definitions.specs.Refusal.{accepted, number_of, place_of}
use Rattle.definitions.specs.RowCauses.{check_input}
use Rattle.definitions.specs.Grammar.{Entry, root_kind}
use Rattle.definitions.specs.Call.{Buffers, Result, parse}
use Rattle.machine.specs.Machine.{Machine}
use Rattle.sink.specs.Sunk.{Sunk}
use Rattle.labels.specs.Model.{Names}
use Rattle.refinement.specs.Ends.{swept, sunk_answer, last_answer, after_all, SameLengths, Parsed, CallEnds}
use Rattle.refinement.proofs.Ends.{calls_end}
use Rattle.call.specs.declared.Answer.{Answer}
use Rattle.call.specs.Result.{answer_of}
use Rattle.call.specs.declared.lent.Input.{Input}
use Rattle.call.specs.declared.outcome.Filled.{Filled}
use Rattle.call.specs.Ended.{sunk_with, named_with, run_of, AnswerOfRun, Ended}

same_sunk : (s : Sunk) (r p : ℕ) → answer_of (sunk_with s r p) ≡ sunk_answer s r p
unfolding number_of place_of
same_sunk (Ok w) r p = refl
same_sunk (Err e) r p = refl

same_answer : (s : Sunk) (w : Names) (m : Machine) → answer_of (named_with s w m.pool.count) ≡ last_answer s w m
same_answer s (Ok written) m = same_sunk s written m.pool.count
same_answer s (Err e) m = refl

-- e: the entry. b: the buffers at first. m: the parser's machine after its run.
module _ (e : Entry) (input : Input) (b : Buffers) (m : Machine) (ok : check_input input.bytes.now input.tokens.now ≡ accepted)
    (parsed : Parsed e input.tokens.now b m) (le : length m.events.numbers ≡ length b.events) where
  ends : CallEnds input.setting e input.bytes.now input.tokens.now b m
  ends = calls_end input.setting e input.bytes.now input.tokens.now b m ok parsed

  -- the events that the sink is given
  pub events_inside : IfOk (run_of m) (λ w. w.events ≤ length m.events.numbers)
  events_inside = go (eqb m.refusal 0) refl
    where
      go : (q : Bool) → eqb m.refusal 0 ≡ q → IfOk (run_of m) (λ w. w.events ≤ length m.events.numbers)
      go true q = rw q (omega (arith, ends.events_inside (eqb-true m.refusal 0 q)))
      go false q = rw q tt

  -- the buffers after the run
  abbrev run_buffers : Buffers
  run_buffers = after_all b.trees b.errors m.reports.numbers m

  module _ (lr : length m.reports.numbers ≡ length b.reports) (lp : length m.pool.numbers ≡ length b.pool) (x : Result)
      (h : Ended (root_kind e) (run_of m) input run_buffers x) where
    same_lengths : SameLengths b h.left
    same_lengths =
        record {
          events = h.same_lengths.events ∙ le;
          trees = h.same_lengths.trees;
          errors = h.same_lengths.errors;
          reports = h.same_lengths.reports ∙ lr;
          pool = h.same_lengths.pool ∙ lp;
        }

    by_refusal : (q : Bool) → eqb m.refusal 0 ≡ q → swept (answer_of h.answer) h.left ≡ parse e input.setting input.bytes.now (tokens_of input.tokens.now) b
    by_refusal false q =
        ap (λ (y : Answer). swept (answer_of y) h.left) (h.of_parse.stopped _ (rw q))
        ∙ ends.refused (eqb-false m.refusal 0 q) h.left same_lengths
    by_refusal true q =
        let filled : Filled = record { events = m.events.count; reports = m.reports.count; pool = m.pool.count } in
        let s : AnswerOfRun (root_kind e) filled input run_buffers h.answer h.left = h.of_parse.ran filled (rw q) in
        ap (λ (y : Answer). swept (answer_of y) h.left) s.answer
        ∙ ap (λ (y : _). swept y h.left) (same_answer s.sunk s.names m)
        ∙ (λ i. swept (last_answer s.sunk s.names m) (record h.left { events = h.of_parse.events i; pool = h.of_parse.pool i }))
        ∙ ends.ended (eqb-true m.refusal 0 q) s.sunk s.names h.left.trees h.left.errors h.left.reports
        (record {
          trees_length = h.same_lengths.trees;
          errors_length = h.same_lengths.errors;
          reports_length = h.same_lengths.reports ∙ lr;
          sunk = s.placed;
          named = s.named;
        })

    pub finished : x ≡ parse e input.setting input.bytes.now (tokens_of input.tokens.now) b
    finished = sym h.once_cleared ∙ by_refusal (eqb m.refusal 0) refl
