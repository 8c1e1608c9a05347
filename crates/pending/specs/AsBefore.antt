-- AS BEFORE (document 02, 6/14). Each expectation is now pending once. Here the run of every entry over every list of
-- tokens is compared with the run as it was (specs/Before.antt), whatever becomes of the call:
--   it has the same events, the same tree and the same reports, each report's list without its repeats, first arrivals
--   in their order;
--   the ranges of the reports are the same too: of all that come before refusal 5, if the run meets it (of those after
--   it nothing is said, and no call is answered from them);
--   a call that was not refused 5 is not refused 5, and one that fitted the lent buffers fits.
-- And where it is not refused 5, it is the run with the Rust's list (specs/Rust.antt) in everything: it is no matter
-- when repeats are dropped. It excludes a grammar that pushes a Semicolon or a Comma a second time where separators
-- alone are pending.
use Rattle.std.specs.Prelude.{◌≤◌, ◌≡◌, false, List, [], ◌∷◌, map, length, take}
use Rattle.definitions.specs.Token.{Token}
use Rattle.definitions.specs.Grammar.{Entry, root_kind}
use Rattle.definitions.specs.Skeleton.{Report, Skeleton, done, token, name, node, ignored, report, over}
use Rattle.definitions.specs.Event.{events}
use Rattle.definitions.specs.Place.{root}
use Rattle.definitions.specs.Report.{Push, event, reported, exceeded, pushes, Room, fits, scan, reports}
use Rattle.definitions.specs.Call.{run_entry}
use Rattle.laws.specs.Pushes.{NoneExceeded}
use Rattle.pending.specs.Once.{once}
use Rattle.pending.specs.Before as Before
use Rattle.pending.specs.Rust as Rust

-- ---------------------------------------------------------------- reports

-- a report whose list has lost its repeats
abbrev pub thin : Report → Report
thin r =
    record {
      message = r.message;
      range = r.range;
      mark = r.mark;
      hint = r.hint;
      labelled = r.labelled;
      pool = once r.pool;
    }

-- a skeleton with such reports
unfoldable pub thinned : Skeleton → Skeleton
unfolding once
thinned done = done
thinned (token t m o) = token t m (thinned o)
thinned (name ts m o) = name ts m (thinned o)
thinned (node k m m' a i o) = node k m m' (thinned a) (thinned i) (thinned o)
thinned (ignored m m' a i o) = ignored m m' (thinned a) (thinned i) (thinned o)
thinned (report r o) = report (thin r) (thinned o)
thinned (over m o) = over m (thinned o)

-- a report but for its range
abbrev pub unranged : Report → Report
unranged r =
    record {
      message = r.message;
      range = record { from = 0; to = 0 };
      mark = r.mark;
      hint = r.hint;
      labelled = r.labelled;
      pool = r.pool;
    }

-- the reports that are pushed before refusal 5
unfoldable pub before_refusal : List Push → List Report
before_refusal [] = []
before_refusal (event m ∷ l) = before_refusal l
before_refusal (reported r ∷ l) = r ∷ before_refusal l
before_refusal (exceeded m ∷ l) = []

-- ---------------------------------------------------------------- the statement

-- y: the room that was left. z: the room that is left, the same but that it may be for more expectations.
pub record Roomier (y z : Room) : Type 0 where
  pub events : z.events ≡ y.events
  pub reports : z.reports ≡ y.reports
  pub pool : y.pool ≤ z.pool

-- old: what the run made. new: what it makes.
pub record Compared (e : Entry) (ts : List Token) (old new : Skeleton) : Type 0 where
  pub same_events : events false new ≡ events false old
  pub same_tree : root (root_kind e) new ts ≡ root (root_kind e) old ts
  -- every report, but for its range
  pub same_reports : map unranged (reports (pushes new)) ≡ map (λ r. unranged (thin r)) (reports (pushes old))
  -- with its range, each that comes before refusal 5; so all of them, where that does not come
  pub first_reports : before_refusal (pushes new) ≡ take (length (before_refusal (pushes new))) (map thin (reports (pushes old)))
  pub all_reports : NoneExceeded (pushes new) → reports (pushes new) ≡ map thin (reports (pushes old))
  -- what was not refused 5 is not, and is as it was, the lists apart
  pub not_refused : NoneExceeded (pushes old) → NoneExceeded (pushes new)
  pub same_made : NoneExceeded (pushes old) → new ≡ thinned old
  -- what fitted fits
  pub fitting : (x y : Room) → scan (pushes old) x ≡ fits y → (z : Room) × (scan (pushes new) x ≡ fits z) × Roomier y z

pub record SameAs (e : Entry) (ts : List Token) : Type 0 where
  pub before : Compared e ts (Before.run_entry e ts) (run_entry e ts)
  pub rust : NoneExceeded (pushes (run_entry e ts)) → run_entry e ts ≡ Rust.run_entry e ts

abbrev pub AsBefore : Type 0
AsBefore = (e : Entry) (ts : List Token) → SameAs e ts
