-- How many events, reports and nodes an entry makes: at most so many a token.
use Prim.Native.Nat.{◌+◌, ◌*◌, ◌≤◌}
use native.Mathlib.Omega.{arith}
use mathlib.Core.Path.{◌≡◌, refl}
use mathlib.Core.List.{List}
use lib.ListN.{length, length-append}
use Rattle.definitions.specs.Token.{Token}
use Rattle.definitions.specs.Skeleton.{Skeleton, done, token, name, node, ignored, report, over}
use Rattle.definitions.specs.Grammar.{Entry}
use Rattle.definitions.specs.Report.{pushes, reports}
use Rattle.definitions.specs.Call.{run_entry}
use Rattle.laws.specs.Pushes.{event_count}
use Rattle.laws.proofs.Skeleton.{event_count_append, reports_append}
use Rattle.bounds.proofs.Tables as T
use Rattle.bounds.proofs.Paid.{cost}
use Rattle.bounds.proofs.CostRuns.{entry_cost}

one : (c : T.Count) → 1 ≤ (T.price c).base
one T.events = omega arith
one T.reports = omega arith
one T.nodes = omega arith

worth : (c : T.Count) → (T.price c).leaf ≤ (T.price c).credit
worth T.events = omega arith
worth T.reports = omega arith
worth T.nodes = omega arith

-- AT MOST SO MANY A TOKEN, for every entry and every list of tokens
pub counted : (c : T.Count) (e : Entry) (ts : List Token) → cost (T.price c) (run_entry e ts) ≤ (T.price c).credit * length ts + T.extra c
counted c e ts =
    let h : cost (T.price c) (run_entry e ts) + (T.price c).base ≤ (T.price c).base + T.extra c + (T.price c).credit * length ts = entry_cost (T.price c) (one c) (worth c) (T.table c) (T.kept c) ((T.price c).base + T.extra c) e (T.ended c e) ts in
    omega arith

-- ---------------------------------------------------------------- what the counts count

pub events_cost : (o : Skeleton) → event_count (pushes o) ≡ cost (T.price T.events) o
unfolding event_count pushes cost
events_cost done = refl
events_cost (token t m o) = omega (arith, events_cost o)
events_cost (name ts m o) = omega (arith, events_cost o)
events_cost (node k m m' a i o) = simp event_count_append (omega (arith, events_cost a, events_cost i, events_cost o))
events_cost (ignored m m' a i o) = simp event_count_append (omega (arith, events_cost a, events_cost i, events_cost o))
events_cost (report r o) = omega (arith, events_cost o)
events_cost (over m o) = events_cost o

pub reports_cost : (o : Skeleton) → length (reports (pushes o)) ≡ cost (T.price T.reports) o
unfolding reports pushes cost
reports_cost done = refl
reports_cost (token t m o) = omega (arith, reports_cost o)
reports_cost (name ts m o) = omega (arith, reports_cost o)
reports_cost (node k m m' a i o) = simp (reports_append, length-append) (omega (arith, reports_cost a, reports_cost i, reports_cost o))
reports_cost (ignored m m' a i o) = simp (reports_append, length-append) (omega (arith, reports_cost a, reports_cost i, reports_cost o))
reports_cost (report r o) = omega (arith, reports_cost o)
reports_cost (over m o) = reports_cost o
