-- What `scan` finds is what the statement says: all that happens is allowed, or the refusal is that of the first that
-- is not.
use Prim.Native.Nat.{ℕ, zero, suc, ◌+◌, ◌-◌, ◌/◌, ◌≤◌, ◌<◌}
use native.Mathlib.Nat.{zero-add}
use native.Mathlib.Omega.{arith}
use mathlib.Core.Path.{◌≡◌, refl, sym, ap, subst, fun_ext, ◌∙◌}
use mathlib.Core.Bool.{Bool, true, false, cond}
use mathlib.Core.List.{List, [], ◌∷◌, ◌++◌, append-nil, append_assoc}
use lib.Dec.{leb}
use lib.ListN.{length}
use borrow.Author.Tests.{leb-true, leb-false}
use Rattle.definitions.specs.Layout.{EVENT_ROW, REPORT_ROW}
use Rattle.definitions.specs.Token.{tokens_of}
use Rattle.definitions.specs.Grammar.{Entry}
use Rattle.definitions.specs.Report.{Push, event, reported, exceeded, pushes, Room, Fit, fits, stops, one_event, one_report, scan}
use Rattle.definitions.specs.Refusal.{Refusal, too_deep, no_event_room, no_report_room}
use Rattle.definitions.specs.Call.{Buffers, room_of, run_entry}
use Rattle.refusals.specs.First.{Each, First}
use Rattle.refusals.specs.Trace.{Happening, call_opened, event_pushed, report_written}
use Rattle.refusals.specs.Refusals.{MAX_OPEN, events_in, reports_in, expectations_in, Unrefused, happens}
use Rattle.refusals.proofs.Firsts.{EachAfter, First-after, each_nil, each_cons, first_here, first_later, from_nothing}
use Rattle.refusals.proofs.Steps.{Step, an_event, a_row, too_many, if_broken, told, flat}
use Rattle.refusals.proofs.Told.{entry_tells}

-- ---------------------------------------------------------------- the first step that does not fit

unfoldable judge : List Step → Room → Fit
unfolding one_event one_report
judge [] z = fits z
judge (an_event m ∷ l) z = one_event m z.events z.reports z.pool (judge l)
judge (a_row c m ∷ l) z = one_report m c z.events z.reports z.pool (judge l)
judge (too_many m ∷ l) z = stops (too_deep m)

scan_judge : (l : List Push) (z : Room) → scan l z ≡ judge (flat l) z
unfolding scan judge flat
scan_judge [] z = refl
scan_judge (event m ∷ l) z = ap (one_event m z.events z.reports z.pool) (fun_ext (scan_judge l))
scan_judge (reported r ∷ l) z =
    ap (one_event r.mark z.events z.reports z.pool)
    (fun_ext (λ (y : Room). ap (one_report r.mark (length r.pool) y.events y.reports y.pool) (fun_ext (scan_judge l))))
scan_judge (exceeded m ∷ l) z = refl

-- ---------------------------------------------------------------- counts, one more

events_more : (l : List Happening) (x : Happening) → events_in (l ++ (x ∷ [])) ≡ events_in l + events_in (x ∷ [])
unfolding events_in
events_more [] x = sym (zero-add (events_in (x ∷ [])))
events_more (call_opened c m ∷ l) x = events_more l x
events_more (event_pushed m ∷ l) x = let h : events_in (l ++ (x ∷ [])) ≡ events_in l + events_in (x ∷ []) = events_more l x in omega arith
events_more (report_written c m ∷ l) x = events_more l x

reports_more : (l : List Happening) (x : Happening) → reports_in (l ++ (x ∷ [])) ≡ reports_in l + reports_in (x ∷ [])
unfolding reports_in
reports_more [] x = sym (zero-add (reports_in (x ∷ [])))
reports_more (call_opened c m ∷ l) x = reports_more l x
reports_more (event_pushed m ∷ l) x = reports_more l x
reports_more (report_written c m ∷ l) x = let h : reports_in (l ++ (x ∷ [])) ≡ reports_in l + reports_in (x ∷ []) = reports_more l x in omega arith

expectations_more : (l : List Happening) (x : Happening) → expectations_in (l ++ (x ∷ [])) ≡ expectations_in l + expectations_in (x ∷ [])
unfolding expectations_in
expectations_more [] x = sym (zero-add (expectations_in (x ∷ [])))
expectations_more (call_opened c m ∷ l) x = expectations_more l x
expectations_more (event_pushed m ∷ l) x = expectations_more l x
expectations_more (report_written c m ∷ l) x = let h : expectations_in (l ++ (x ∷ [])) ≡ expectations_in l + expectations_in (x ∷ []) = expectations_more l x in omega arith

-- ---------------------------------------------------------------- the walk

-- the room that is left after what happened
record Left (b : Buffers) (pre : List Happening) (z : Room) : Type 0 where
  events : z.events ≡ length b.events / EVENT_ROW - events_in pre
  reports : z.reports ≡ length b.reports / REPORT_ROW - reports_in pre
  pool : z.pool ≡ length b.pool - expectations_in pre
  within : expectations_in pre ≤ length b.pool

-- the refusal for what is not allowed
abbrev pub refusal_for : Happening → Refusal
refusal_for (call_opened c m) = too_deep m
refusal_for (event_pushed m) = no_event_room m
refusal_for (report_written c m) = no_report_room m

-- the report rows that still fit after what happened
abbrev pub RowsLeft : Buffers → List Happening → Room → Type 0
RowsLeft b l z = z.reports ≡ length b.reports / REPORT_ROW - reports_in l

data Judged (b : Buffers) (pre l : List Happening) : Fit → Type 0 where
  all : (z : Room) → RowsLeft b (pre ++ l) z → EachAfter (Unrefused b) pre l → Judged b pre l (fits z)
  first : (before : List Happening) (x : Happening) → First-after (Unrefused b) pre l before x → Judged b pre l (stops (refusal_for x))

here : (b : Buffers) (pre l : List Happening) (x : Happening) → ¬ Unrefused b pre x → Judged b pre (x ∷ l) (stops (refusal_for x))
here b pre l x h = first [] x (first_here (Unrefused b) pre x l h)

later : (b : Buffers) (pre l : List Happening) (x : Happening) (f : Fit) → Unrefused b pre x → Judged b (pre ++ (x ∷ [])) l f → Judged b pre (x ∷ l) f
later b pre l x f h (all z r g) = all z (subst (λ (w : List Happening). RowsLeft b w z) (append_assoc pre (x ∷ []) l) r) (each_cons (Unrefused b) pre x l h g)
later b pre l x f h (first before y g) = first (x ∷ before) y (first_later (Unrefused b) pre x l before y h g)

-- the room after one more
left_more : (b : Buffers) (pre : List Happening) (x : Happening) (z y : Room) → Left b pre z → y.events ≡ z.events - events_in (x ∷ []) → y.reports ≡ z.reports - reports_in (x ∷ [])
    → y.pool ≡ z.pool - expectations_in (x ∷ []) → expectations_in pre + expectations_in (x ∷ []) ≤ length b.pool → Left b (pre ++ (x ∷ [])) y
left_more b pre x z y w e r p i =
    record {
      events = omega (arith, w.events, e, events_more pre x);
      reports = omega (arith, w.reports, r, reports_more pre x);
      pool = omega (arith, w.pool, p, expectations_more pre x);
      within = omega (arith, i, expectations_more pre x);
    }

-- a call, allowed or not
call_walk : (b : Buffers) (pre l : List Happening) (c m : ℕ) (t : Bool) (z : Room) → leb c MAX_OPEN ≡ t
    → Judged b (pre ++ (call_opened c m ∷ [])) l (judge (told l) z) → Judged b pre (call_opened c m ∷ l) (judge (if_broken t m ++ told l) z)
unfolding judge
call_walk b pre l c m true z e j = later b pre l (call_opened c m) (judge (told l) z) (leb-true c MAX_OPEN e) j
call_walk b pre l c m false z e j = let h : MAX_OPEN < c = leb-false c MAX_OPEN e in here b pre l (call_opened c m) (λ (a : c ≤ MAX_OPEN). omega (arith, a, h))

event_walk : (b : Buffers) (pre l : List Happening) (m e : ℕ) (z : Room) → Left b pre z → z.events ≡ e
    → ((y : Room) → Left b (pre ++ (event_pushed m ∷ [])) y → Judged b (pre ++ (event_pushed m ∷ [])) l (judge (told l) y))
    → Judged b pre (event_pushed m ∷ l) (one_event m e z.reports z.pool (judge (told l)))
unfolding one_event events_in reports_in expectations_in
event_walk b pre l m zero z w h k = here b pre l (event_pushed m) (λ (a : Unrefused b pre (event_pushed m)). omega (arith, a, h, w.events))
event_walk b pre l m (suc e) z w h k =
    let y : Room = record { events = e; reports = z.reports; pool = z.pool } in
    later b pre l (event_pushed m) (judge (told l) y) (omega (arith, h, w.events))
    (k y (left_more b pre (event_pushed m) z y w (omega (arith, h)) (omega arith) (omega arith) (omega (arith, w.within))))

report_walk : (b : Buffers) (pre l : List Happening) (c m r : ℕ) (z : Room) → Left b pre z → z.reports ≡ r
    → ((y : Room) → Left b (pre ++ (report_written c m ∷ [])) y → Judged b (pre ++ (report_written c m ∷ [])) l (judge (told l) y))
    → Judged b pre (report_written c m ∷ l) (one_report m c z.events r z.pool (judge (told l)))
unfolding one_report events_in reports_in expectations_in
report_walk b pre l c m zero z w h k = here b pre l (report_written c m) (λ (a : Unrefused b pre (report_written c m)). omega (arith, a.0, h, w.reports))
report_walk b pre l c m (suc r) z w h k = by (leb c z.pool) refl
  where
    y : Room
    y = record { events = z.events; reports = r; pool = z.pool - c }

    by : (t : Bool) → leb c z.pool ≡ t
        → Judged b pre (report_written c m ∷ l) (cond t (judge (told l) (record { events = z.events; reports = r; pool = z.pool - c })) (stops (no_report_room m)))
    by true e =
        let q : c ≤ z.pool = leb-true c z.pool e in
        let i : expectations_in pre + c ≤ length b.pool = omega (arith, q, w.pool, w.within) in
        later b pre l (report_written c m) (judge (told l) y) (omega (arith, h, w.reports), i)
        (k y (left_more b pre (report_written c m) z y w (omega arith) (omega (arith, h)) (omega arith) (omega (arith, i))))
    by false e =
        let q : z.pool < c = leb-false c z.pool e in
        here b pre l (report_written c m) (λ (a : Unrefused b pre (report_written c m)). omega (arith, a.1, q, w.pool))

walk : (b : Buffers) (pre l : List Happening) (z : Room) → Left b pre z → Judged b pre l (judge (told l) z)
unfolding judge told events_in reports_in expectations_in
walk b pre [] z w = all z (subst (λ (l : List Happening). RowsLeft b l z) (sym (append-nil pre)) w.reports) (each_nil (Unrefused b) pre)
walk b pre (call_opened c m ∷ l) z w =
    call_walk b pre l c m (leb c MAX_OPEN) z refl
    (walk b (pre ++ (call_opened c m ∷ [])) l z (left_more b pre (call_opened c m) z z w (omega arith) (omega arith) (omega arith) (omega (arith, w.within))))
walk b pre (event_pushed m ∷ l) z w = event_walk b pre l m z.events z w refl (walk b (pre ++ (event_pushed m ∷ [])) l)
walk b pre (report_written c m ∷ l) z w = report_walk b pre l c m z.reports z w refl (walk b (pre ++ (report_written c m ∷ [])) l)

-- ---------------------------------------------------------------- a file's run

pub data Ends (b : Buffers) (l : List Happening) : Fit → Type 0 where
  all_fits : (z : Room) → RowsLeft b l z → Each (Unrefused b) l → Ends b l (fits z)
  first_stops : (before : List Happening) (x : Happening) → First (Unrefused b) l before x → Ends b l (stops (refusal_for x))

ended : (b : Buffers) (l : List Happening) (f : Fit) → Judged b [] l f → Ends b l f
ended b l f (all z r h) = all_fits z r h
ended b l f (first before x h) = first_stops before x (from_nothing (Unrefused b) l before x h)

-- WHAT THE RUN MEETS FIRST
pub run_ends : (b : Buffers) (e : Entry) (tokens : List ℕ) → Ends b (happens e tokens) (scan (pushes (run_entry e (tokens_of tokens))) (room_of b))
unfolding events_in reports_in expectations_in
run_ends b e tokens =
    let o : List Push = pushes (run_entry e (tokens_of tokens)) in
    let h : scan o (room_of b) ≡ judge (told (happens e tokens)) (room_of b) = scan_judge o (room_of b) ∙ ap (λ (l : List Step). judge l (room_of b)) (entry_tells e (tokens_of tokens)) in
    subst (Ends b (happens e tokens)) (sym h)
    (ended b (happens e tokens) _
    (walk b [] (happens e tokens) (room_of b) (record { events = omega arith; reports = omega arith; pool = omega arith; within = omega arith })))
