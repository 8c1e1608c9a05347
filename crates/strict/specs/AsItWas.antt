-- AS IT WAS. The call as it was before 1/14, and that the old setting is this call, for every entry, input and buffers.
-- It excludes a setting 0 that answers anything else than callers have had so far.
-- What 1/14 changed of definitions/specs/Call.antt stands here letter by letter as it was; the rest is cited from it,
-- the checks of the input, the run and the tree rows too: what 4/14 changed of the checks is crates/row_causes, 6/14
-- changed how often an expectation is pending (`Once` of crates/laws), and 7/14 put the parent into each tree row
-- (crates/parents).
use Rattle.std.specs.Prelude.{ℕ, ◌≡◌, List, length}
use Rattle.definitions.specs.Token.{Token, tokens_of, byte_count}
use Rattle.definitions.specs.Grammar.{Entry, root_kind}
use Rattle.definitions.specs.Skeleton.{Skeleton}
use Rattle.definitions.specs.Place.{root, lexical_errors}
use Rattle.definitions.specs.Parent.{rows, rows_under}
use Rattle.definitions.specs.Report.{Fit, fits, stops, pushes, scan, reports, report_numbers, pool}
use Rattle.definitions.specs.Refusal.{unknown_entry, number_of, place_of, Verdict, accepted, refused}
use Rattle.definitions.specs.RowCauses.{check_input}
use Rattle.definitions.specs.Call.{Buffers, Result, untouched, cleared, run_entry, Sheets, delivered, forward_mark, room_of, Asked, for, unknown, entry_of}
use Rattle.definitions.specs.Call as D

unfoldable pub sheets : Entry → List Token → Skeleton → Sheets
unfolding root rows_under lexical_errors reports report_numbers pool root_kind byte_count
sheets e ts o =
    let l = reports (pushes o) in
    record {
      trees = rows (root (root_kind e) o ts);
      errors = lexical_errors 0 ts;
      reports = report_numbers (length ts) (byte_count ts) 0 l;
      pool = pool l;
    }

-- causes 5 to 7, whichever the run meets first, and then 8
unfoldable pub outcome : Fit → Entry → List Token → Skeleton → Buffers → Result
unfolding sheets delivered forward_mark number_of place_of
outcome (stops r) e ts o b = cleared (forward_mark (length ts) r) b
outcome (fits z) e ts o b = delivered (sheets e ts o) b

unfoldable pub parse : Entry → List Token → Buffers → Result
unfolding run_entry pushes scan outcome
parse e ts b = let o = run_entry e ts in outcome (scan (pushes o) (room_of b)) e ts o b

unfoldable pub checked : Verdict → Entry → List ℕ → Buffers → Result
unfolding parse tokens_of number_of place_of
checked (refused r) e tokens b = untouched r b
checked accepted e tokens b = parse e (tokens_of tokens) b

unfoldable pub asked : Asked → List ℕ → List ℕ → Buffers → Result
unfolding checked check_input number_of place_of
asked unknown bytes tokens b = untouched unknown_entry b
asked (for e) bytes tokens b = checked (check_input bytes tokens) e tokens b

-- entry, input bytes, token numbers, and the lent buffers as they are at entry
unfoldable pub call : ℕ → List ℕ → List ℕ → Buffers → Result
unfolding asked entry_of
call n bytes tokens b = asked (entry_of n) bytes tokens b

-- ---------------------------------------------------------------- the claim

-- answer and every buffer
abbrev pub AsItWas : Type 0
AsItWas = (n : ℕ) (bytes tokens : List ℕ) (b : Buffers) → D.call n 0 bytes tokens b ≡ call n bytes tokens b
