-- The old setting is the call as it was: it reports no Name, and nothing is appended to the reports of a run.
use Prim.Native.Nat.{ℕ}
use mathlib.Core.Path.{◌≡◌, refl, ap}
use mathlib.Core.List.{List, [], append-nil}
use lib.ListN.{length}
use Rattle.definitions.specs.Token.{Token, tokens_of, byte_count}
use Rattle.definitions.specs.Grammar.{Entry}
use Rattle.definitions.specs.Skeleton.{Skeleton}
use Rattle.definitions.specs.Place.{root, lexical_errors}
use Rattle.definitions.specs.Parent.{rows}
use Rattle.definitions.specs.Grammar.{root_kind}
use Rattle.definitions.specs.Report.{Fit, fits, stops, pushes, scan, reports, report_numbers, pool}
use Rattle.definitions.specs.Refusal.{Verdict, accepted, refused}
use Rattle.definitions.specs.RowCauses.{check_input}
use Rattle.definitions.specs.Strict.{reported_names, names_fit, name_numbers}
use Rattle.definitions.specs.Call.{Buffers, Sheets, delivered, unless_refused, run_entry, room_of, Asked, for, unknown, entry_of}
use Rattle.definitions.specs.Call as D
use Rattle.strict.specs.AsItWas.{sheets, outcome, parse, checked, asked, call, AsItWas}

same_sheets : (e : Entry) (ts : List Token) (o : Skeleton) → D.sheets e ts o [] ≡ sheets e ts o
unfolding D.sheets sheets name_numbers
same_sheets e ts o =
    ap (λ (l : List ℕ). record { trees = rows (root (root_kind e) o ts); errors = lexical_errors 0 ts; reports = l; pool = pool (reports (pushes o)) })
    (append-nil (report_numbers (length ts) (byte_count ts) 0 (reports (pushes o))))

same_outcome : (f : Fit) (e : Entry) (ts : List Token) (o : Skeleton) (b : Buffers) → D.outcome f e ts o [] b ≡ outcome f e ts o b
unfolding D.outcome outcome names_fit unless_refused
same_outcome (stops r) e ts o b = refl
same_outcome (fits z) e ts o b = ap (λ (s : Sheets). delivered s b) (same_sheets e ts o)

same_checked : (v : Verdict) (e : Entry) (bytes tokens : List ℕ) (b : Buffers) → D.checked v e 0 bytes tokens b ≡ checked v e tokens b
unfolding D.checked checked D.parse parse reported_names
same_checked (refused r) e bytes tokens b = refl
same_checked accepted e bytes tokens b =
    same_outcome (scan (pushes (run_entry e (tokens_of tokens))) (room_of b)) e (tokens_of tokens) (run_entry e (tokens_of tokens)) b

same_asked : (x : Asked) (bytes tokens : List ℕ) (b : Buffers) → D.asked x 0 bytes tokens b ≡ asked x bytes tokens b
unfolding D.asked asked
same_asked unknown bytes tokens b = refl
same_asked (for e) bytes tokens b = same_checked (check_input bytes tokens) e bytes tokens b

-- AS IT WAS
pub as_it_was : AsItWas
unfolding D.call call
as_it_was n bytes tokens b = same_asked (entry_of n) bytes tokens b
