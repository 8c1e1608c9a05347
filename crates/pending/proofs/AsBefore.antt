-- The statement of specs/AsBefore.antt, read off what the runs make and push.
use mathlib.Core.Path.{◌≡◌, refl, ap, ◌∙◌}
use mathlib.Core.Bool.{false}
use mathlib.Core.List.{List}
use native.Mathlib.Nat.{le_refl}
use Rattle.definitions.specs.Token.{Token}
use Rattle.definitions.specs.Grammar.{Entry, root_kind}
use Rattle.definitions.specs.Skeleton.{Skeleton, done, token, name, node, ignored, report, over}
use Rattle.definitions.specs.Report.{pushes}
use Rattle.definitions.specs.Call.{run_entry}
use Rattle.laws.specs.Pushes.{NoneExceeded}
use Rattle.pending.specs.Before as Before
use Rattle.pending.specs.Rust as Rust
use Rattle.pending.specs.AsBefore.{thin, thinned, Compared, AsBefore}
use Rattle.pending.proofs.Once.{once_length}
use Rattle.pending.proofs.Runs.{entry_follows}
use Rattle.pending.proofs.Lists.{before_keeps, as_rust, rust_keeps}
use Rattle.pending.proofs.Lists as Lists
use Rattle.pending.proofs.Pushed.{pushed, but_ranges, first_reports, all_reports, clear_too, clear_back, fits_too}
use Rattle.pending.proofs.Trees.{same_events, same_tree, relisted, same_made}

-- the lists of before, without repeats
relisted_before : (p : Skeleton) → relisted Lists.as_before p ≡ thinned p
unfolding relisted thinned
relisted_before done = refl
relisted_before (token t m o) = ap (token t m) (relisted_before o)
relisted_before (name ts m o) = ap (name ts m) (relisted_before o)
relisted_before (node k m m' a i o) = rw (relisted_before a, relisted_before i, relisted_before o)
relisted_before (ignored m m' a i o) = rw (relisted_before a, relisted_before i, relisted_before o)
relisted_before (report r o) = ap (report (thin r)) (relisted_before o)
relisted_before (over m o) = ap (over m) (relisted_before o)

-- the Rust's lists, as they are
relisted_rust : (p : Skeleton) → relisted as_rust p ≡ p
unfolding relisted
relisted_rust done = refl
relisted_rust (token t m o) = ap (token t m) (relisted_rust o)
relisted_rust (name ts m o) = ap (name ts m) (relisted_rust o)
relisted_rust (node k m m' a i o) = rw (relisted_rust a, relisted_rust i, relisted_rust o)
relisted_rust (ignored m m' a i o) = rw (relisted_rust a, relisted_rust i, relisted_rust o)
relisted_rust (report r o) = ap (report r) (relisted_rust o)
relisted_rust (over m o) = ap (over m) (relisted_rust o)

compared : (e : Entry) (ts : List Token) → Compared e ts (Before.run_entry e ts) (run_entry e ts)
unfolding Before.run_entry
compared e ts =
    let w = entry_follows Lists.as_before Before.before before_keeps e ts in
    record {
      same_events = same_events false w.alike;
      same_tree = same_tree (root_kind e) w.alike ts;
      same_reports = but_ranges (pushed w.alike);
      first_reports = first_reports (pushed w.alike);
      all_reports = all_reports (pushed w.alike);
      not_refused = clear_too (pushed w.alike);
      same_made = λ n. (same_made w.alike refl n).made ∙ relisted_before _;
      fitting = λ x y h. fits_too once_length (pushed w.alike) x.events x.reports x.pool x.pool y (le_refl _) h;
    }

rusted : (e : Entry) (ts : List Token) → NoneExceeded (pushes (run_entry e ts)) → run_entry e ts ≡ Rust.run_entry e ts
unfolding Rust.run_entry
rusted e ts n =
    let w = entry_follows as_rust Rust.rust rust_keeps e ts in
    (same_made w.alike refl (clear_back (λ x. x) (pushed w.alike) n)).made ∙ relisted_rust _

pub as_before : AsBefore
as_before e ts = record { before = compared e ts; rust = rusted e ts }
