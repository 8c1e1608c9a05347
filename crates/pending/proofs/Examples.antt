-- The statement computed: runs in which lists were longer, one that was refused 5 and is not, and one that still is;
-- and wrong answers that do not meet the statement.
use Prim.Native.Nat.{ℕ, zero, suc}
use native.Mathlib.Omega.{arith}
use mathlib.Core.Path.{◌≡◌, refl, ap}
use mathlib.Core.Bool.{true, false, true≢false}
use mathlib.Core.List.{List, [], ◌∷◌, map}
use lib.Dec.{ltb}
use lib.ListN.{length, get_or, replicate}
use Rattle.definitions.specs.TokenKind as K
use Rattle.definitions.specs.Errors as E
use Rattle.definitions.specs.Token.{Token}
use Rattle.definitions.specs.Grammar.{SourceFile, Cells, root_kind}
use Rattle.definitions.specs.Skeleton.{Span, no_label, Report, Skeleton, done, token, node, report, over}
use Rattle.definitions.specs.Event.{events}
use Rattle.definitions.specs.Place.{row_count, root}
use Rattle.definitions.specs.Report.{pushes, fits, scan, reports}
use Rattle.definitions.specs.Run.{State, only_separators}
use Rattle.definitions.specs.Call.{run_entry}
use Rattle.laws.specs.Pushes.{NoneExceeded}
use Rattle.laws.proofs.Scan.{stops_never}
use Rattle.pending.specs.Once.{once}
use Rattle.pending.specs.Before as Before
use Rattle.pending.specs.Rust as Rust
use Rattle.pending.specs.AsBefore.{thin, before_refusal, Compared}
use Rattle.pending.proofs.Together.{Settled}

abbrev tok : ℕ → Token
tok k = record { kind = k; len = 1 }

-- the lists of what a run reports, and the ranges
lists : Skeleton → List (List ℕ)
lists p = map (λ (r : Report). r.pool) (reports (pushes p))

spans : Skeleton → List Span
spans p = map (λ (r : Report). r.range) (reports (pushes p))

-- ---------------------------------------------------------------- runs

-- `#else`: two `#endif` were pending at its second report
else_then : lists (Before.run_entry SourceFile (tok K.ElseDirective ∷ [])) ≡ [] ∷ (K.EndifDirective ∷ K.EndifDirective ∷ []) ∷ []
unfolding lists Before.run_entry reports pushes
else_then = refl

else_now : lists (run_entry SourceFile (tok K.ElseDirective ∷ [])) ≡ [] ∷ (K.EndifDirective ∷ []) ∷ []
unfolding lists run_entry reports pushes
else_now = refl

else_rust : lists (Rust.run_entry SourceFile (tok K.ElseDirective ∷ [])) ≡ [] ∷ (K.EndifDirective ∷ []) ∷ []
unfolding lists Rust.run_entry reports pushes
else_rust = refl

-- it was not refused, and needs room for one expectation less
else_clear : NoneExceeded (pushes (Before.run_entry SourceFile (tok K.ElseDirective ∷ [])))
unfolding Before.run_entry pushes
else_clear = tt

else_fitted : scan (pushes (Before.run_entry SourceFile (tok K.ElseDirective ∷ []))) (record { events = 7; reports = 2; pool = 2 }) ≡ fits (record { events = 0; reports = 0; pool = 0 })
unfolding Before.run_entry scan pushes
else_fitted = refl

else_fits : scan (pushes (run_entry SourceFile (tok K.ElseDirective ∷ []))) (record { events = 7; reports = 2; pool = 2 }) ≡ fits (record { events = 0; reports = 0; pool = 1 })
unfolding run_entry scan pushes
else_fits = refl

-- cells: so many `#if` and a semicolon
ifs : ℕ → List Token
ifs zero = tok K.Semicolon ∷ []
ifs (suc n) = tok K.IfDirective ∷ ifs n

-- one: the `#endif` that came first stays first
if_then : get_or (lists (Before.run_entry Cells (ifs 1))) 0 [] ≡ K.EndifDirective ∷ E.Cell ∷ K.DtIncludeDirective ∷ E.PreprocessorDirective ∷ K.EndifDirective ∷ []
unfolding lists Before.run_entry reports pushes ifs
if_then = refl

if_now : get_or (lists (run_entry Cells (ifs 1))) 0 [] ≡ K.EndifDirective ∷ E.Cell ∷ K.DtIncludeDirective ∷ E.PreprocessorDirective ∷ []
unfolding lists run_entry reports pushes ifs
if_now = refl

-- document 01's limit: 50 were accepted, 51 were refused 5; now they are not
fifty_then : NoneExceeded (pushes (Before.run_entry Cells (ifs 50)))
unfolding Before.run_entry pushes ifs
fifty_then = tt

more_then : NoneExceeded (pushes (Before.run_entry Cells (ifs 51))) → ⊥
unfolding Before.run_entry pushes ifs
more_then h = h

more_now : NoneExceeded (pushes (run_entry Cells (ifs 51)))
unfolding run_entry pushes ifs
more_now = tt

-- the limit itself: a 256th was pushed, and a 257th was too, with refusal 5
abbrev with_pending : ℕ → State
with_pending n = record { rest = []; since = []; pending = replicate n 7 }

last_pushed : (Before.do_expected 7 (with_pending 255)).made ≡ done
unfolding Before.do_expected
last_pushed = refl

one_too_many : (Before.do_expected 7 (with_pending 256)).made ≡ over 0 done
unfolding Before.do_expected
one_too_many = refl

-- `a=<1> }`: [Comma, Semicolon] is pending at its report, whose range is the byte after `>`
abbrev unended : List Token
unended = tok K.Ident ∷ tok K.Equals ∷ tok K.LAngle ∷ tok K.Number ∷ tok K.RAngle ∷ tok K.Whitespace ∷ tok K.RCurly ∷ []

unended_then : spans (Before.run_entry SourceFile unended) ≡ record { from = 2; to = 1 } ∷ []
unfolding spans Before.run_entry reports pushes
unended_then = refl

unended_now : spans (run_entry SourceFile unended) ≡ record { from = 2; to = 1 } ∷ []
unfolding spans run_entry reports pushes
unended_now = refl

-- cells: `+` and 64 brackets. One report is pushed before refusal 5, and more after it.
brackets : ℕ → List Token
brackets zero = tok K.Number ∷ []
brackets (suc n) = tok K.LParen ∷ brackets n

deep : NoneExceeded (pushes (run_entry Cells (tok K.Plus ∷ brackets 64))) → ⊥
unfolding run_entry pushes brackets
deep h = h

deep_first : map (λ (r : Report). r.hint) (before_refusal (pushes (run_entry Cells (tok K.Plus ∷ brackets 64)))) ≡ E.missing_parentheses ∷ []
unfolding run_entry pushes brackets before_refusal
deep_first = refl

deep_all : ltb 1 (length (reports (pushes (run_entry Cells (tok K.Plus ∷ brackets 64))))) ≡ true
unfolding run_entry pushes brackets reports
deep_all = refl

-- ---------------------------------------------------------------- wrong answers

-- a report with a list, at a range
abbrev told : ℕ → List ℕ → Report
told from l = record { message = 1; range = record { from = from; to = 0 }; mark = 2; hint = 0; labelled = no_label; pool = l }

abbrev tells : ℕ → List ℕ → Skeleton
tells from l = report (told from l) done

-- the right one: each at its first place
right : map thin (reports (pushes (tells 2 (3 ∷ 5 ∷ 3 ∷ 7 ∷ [])))) ≡ told 2 (3 ∷ 5 ∷ 7 ∷ []) ∷ []
unfolding once reports pushes
right = refl

-- the first number of the first list
first_of : List Report → ℕ
first_of l = get_or (map (λ (r : Report). get_or r.pool 0 0) l) 0 0

size_of : List Report → ℕ
size_of l = get_or (map (λ (r : Report). length r.pool) l) 0 0

from_of : List Report → ℕ
from_of l = get_or (map (λ (r : Report). r.range.from) l) 0 0

-- each at its last place
last_arrivals : Compared Cells [] (tells 2 (3 ∷ 5 ∷ 3 ∷ [])) (tells 2 (5 ∷ 3 ∷ [])) → ⊥
unfolding once reports pushes first_of
last_arrivals h = omega (arith, ap first_of h.same_reports)

-- repeats kept
repeats_kept : Compared Cells [] (tells 2 (3 ∷ 5 ∷ 3 ∷ [])) (tells 2 (3 ∷ 5 ∷ 3 ∷ [])) → ⊥
unfolding once reports pushes size_of
repeats_kept h = omega (arith, ap size_of h.same_reports)

-- another range
range_moved : Compared Cells [] (tells 2 (3 ∷ [])) (tells 1 (3 ∷ [])) → ⊥
unfolding once reports pushes before_refusal from_of
range_moved h = omega (arith, ap from_of h.first_reports)

-- one report less
report_less : Compared Cells [] (tells 2 (3 ∷ [])) done → ⊥
unfolding once reports pushes
report_less h = omega (arith, ap length h.same_reports)

-- one token less
token_less : Compared Cells (tok K.Number ∷ []) (token (tok K.Number) 0 done) done → ⊥
unfolding events
token_less h = omega (arith, ap length h.same_events)

-- a node less
node_less : Compared Cells (tok K.Number ∷ []) (node 13 1 0 done (token (tok K.Number) 0 done) done) (token (tok K.Number) 0 done) → ⊥
unfolding root row_count root_kind
node_less h = omega (arith, ap row_count h.same_tree)

-- a longer list, which does not fit where the shorter one did
no_room : Compared Cells [] (tells 2 (3 ∷ [])) (tells 2 (3 ∷ 5 ∷ [])) → ⊥
unfolding scan pushes
no_room h = let w = h.fitting (record { events = 1; reports = 1; pool = 1 }) (record { events = 0; reports = 0; pool = 0 }) refl in stops_never _ w.0 w.1

-- refused where it was not
refused_now : Compared Cells [] done (over 0 done) → ⊥
unfolding pushes
refused_now h = h.not_refused tt

-- the limit of before, claimed to remain
limit_remains : (NoneExceeded (pushes (run_entry Cells (ifs 51))) → NoneExceeded (pushes (Before.run_entry Cells (ifs 51)))) → ⊥
limit_remains h = more_then (h more_now)

-- ---------------------------------------------------------------- lists that would move a range

-- a semicolon twice
two_semicolons : Settled false (K.Semicolon ∷ K.Semicolon ∷ []) → ⊥
unfolding once only_separators
two_semicolons h = true≢false (h.test refl [])

-- the semicolon a second time after both
three_separators : Settled false (K.Comma ∷ K.Semicolon ∷ K.Semicolon ∷ []) → ⊥
unfolding once only_separators
three_separators h = true≢false (h.test refl [])

-- a comma twice, and then the semicolon
comma_first : Settled false (K.Comma ∷ K.Comma ∷ []) → ⊥
unfolding once only_separators
comma_first h = true≢false (h.test refl (K.Semicolon ∷ []))
