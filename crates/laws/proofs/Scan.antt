-- What `scan` finds in a joined sequence: the first misfit of the first piece, else what it finds in the second with
-- the room that is left.
use Prim.Native.Nat.{ℕ, zero, suc, ◌+◌, ◌-◌}
use native.Mathlib.Omega.{arith}
use mathlib.Core.Path.{◌≡◌, refl, ap}
use mathlib.Core.Bool.{Bool, true, false, cond}
use mathlib.Core.List.{List, [], ◌∷◌, ◌++◌}
use lib.Dec.{leb}
use lib.ListN.{length}
use Rattle.definitions.specs.Refusal.{Refusal, no_event_room, no_report_room, too_deep}
use Rattle.definitions.specs.Report.{Push, event, reported, exceeded, Room, Fit, fits, stops, one_event, one_report, scan, reports}
use Rattle.laws.specs.Pushes.{NoneExceeded}

-- go on with the room that is left, unless something did not fit
abbrev pub and_then : Fit → (Room → Fit) → Fit
and_then (fits z) k = k z
and_then (stops r) k = stops r

event_then : (m e r p : ℕ) (k h g : Room → Fit) → ((z : Room) → h z ≡ and_then (k z) g) → one_event m e r p h ≡ and_then (one_event m e r p k) g
unfolding one_event
event_then m zero r p k h g e = refl
event_then m (suc n) r p k h g e = e (record { events = n; reports = r; pool = p })

report_then : (m n e r p : ℕ) (k h g : Room → Fit) → ((z : Room) → h z ≡ and_then (k z) g) → one_report m n e r p h ≡ and_then (one_report m n e r p k) g
unfolding one_report
report_then m n e zero p k h g f = refl
report_then m n e (suc r) p k h g f = pick (leb n p) (record { events = e; reports = r; pool = p - n })
  where
    pick : (b : Bool) (z : Room) → cond b (h z) (stops (no_report_room m)) ≡ and_then (cond b (k z) (stops (no_report_room m))) g
    pick true z = f z
    pick false z = refl

-- SCAN OF A JOIN
pub scan_append : (l m : List Push) (z : Room) → scan (l ++ m) z ≡ and_then (scan l z) (scan m)
unfolding scan
scan_append [] m z = refl
scan_append (event x ∷ l) m z = event_then x z.events z.reports z.pool (scan l) (scan (l ++ m)) (scan m) (scan_append l m)
scan_append (reported r ∷ l) m z =
    event_then r.mark z.events z.reports z.pool
    (λ y. one_report r.mark (length r.pool) y.events y.reports y.pool (scan l))
    (λ y. one_report r.mark (length r.pool) y.events y.reports y.pool (scan (l ++ m)))
    (scan m)
    (λ y. report_then r.mark (length r.pool) y.events y.reports y.pool (scan l) (scan (l ++ m)) (scan m) (scan_append l m))
scan_append (exceeded x ∷ l) m z = refl

-- ---------------------------------------------------------------- all fits

pub stops_never : (r : Refusal) (z : Room) → stops r ≡ fits z → ⊥
stops_never r z e = let x : ◌≡◌ {A = ℕ} 0 1 = cc in omega arith

event_fits : (m e r p : ℕ) (k : Room → Fit) (z : Room) → one_event m e r p k ≡ fits z → (y : Room) × (k y ≡ fits z)
unfolding one_event
event_fits m zero r p k z h = absurd (stops_never (no_event_room m) z h)
event_fits m (suc e) r p k z h = (record { events = e; reports = r; pool = p }, h)

report_fits : (m n e r p : ℕ) (k : Room → Fit) (z : Room) → one_report m n e r p k ≡ fits z → (y : Room) × (k y ≡ fits z)
unfolding one_report
report_fits m n e zero p k z h = absurd (stops_never (no_report_room m) z h)
report_fits m n e (suc r) p k z h = pick (leb n p) h
  where
    pick : (b : Bool) → cond b (k (record { events = e; reports = r; pool = p - n })) (stops (no_report_room m)) ≡ fits z → (y : Room) × (k y ≡ fits z)
    pick true g = (record { events = e; reports = r; pool = p - n }, g)
    pick false g = absurd (stops_never (no_report_room m) z g)

-- where all fits there is no refusal 5
pub fits_clear : (l : List Push) (y z : Room) → scan l y ≡ fits z → NoneExceeded l
unfolding scan
fits_clear [] y z h = tt
fits_clear (event m ∷ l) y z h = let g : (x : Room) × (scan l x ≡ fits z) = event_fits m y.events y.reports y.pool (scan l) z h in fits_clear l g.0 z g.1
fits_clear (reported r ∷ l) y z h =
    let g : (x : Room) × (one_report r.mark (length r.pool) x.events x.reports x.pool (scan l) ≡ fits z) =
    event_fits r.mark y.events y.reports y.pool (λ x. one_report r.mark (length r.pool) x.events x.reports x.pool (scan l)) z h in
    let f : (x : Room) × (scan l x ≡ fits z) = report_fits r.mark (length r.pool) g.0.events g.0.reports g.0.pool (scan l) z g.1 in
    fits_clear l f.0 z f.1
fits_clear (exceeded m ∷ l) y z h = absurd (stops_never (too_deep m) z h)

-- ---------------------------------------------------------------- the report rows that are left

room_in : Fit → ℕ
room_in (fits z) = z.reports
room_in (stops r) = 0

event_keeps : (m e r p n : ℕ) (k : Room → Fit) (z : Room) → ((y : Room) → k y ≡ fits z → y.reports ≡ z.reports + n) → one_event m e r p k ≡ fits z → r ≡ z.reports + n
unfolding one_event
event_keeps m zero r p n k z f h = absurd (stops_never (no_event_room m) z h)
event_keeps m (suc e) r p n k z f h = f (record { events = e; reports = r; pool = p }) h

report_takes : (m q e r p n : ℕ) (k : Room → Fit) (z : Room) → ((y : Room) → k y ≡ fits z → y.reports ≡ z.reports + n) → one_report m q e r p k ≡ fits z → r ≡ z.reports + suc n
unfolding one_report
report_takes m q e zero p n k z f h = absurd (stops_never (no_report_room m) z h)
report_takes m q e (suc r) p n k z f h = pick (leb q p) h
  where
    pick : (b : Bool) → cond b (k (record { events = e; reports = r; pool = p - q })) (stops (no_report_room m)) ≡ fits z → suc r ≡ z.reports + suc n
    pick true g = let x : r ≡ z.reports + n = f (record { events = e; reports = r; pool = p - q }) g in omega arith
    pick false g = absurd (stops_never (no_report_room m) z g)

-- each report takes one
pub fits_left : (l : List Push) (y z : Room) → scan l y ≡ fits z → y.reports ≡ z.reports + length (reports l)
unfolding scan reports room_in
fits_left [] y z h = let x : y.reports ≡ z.reports = ap room_in h in omega arith
fits_left (event m ∷ l) y z h = event_keeps m y.events y.reports y.pool (length (reports l)) (scan l) z (λ x. fits_left l x z) h
fits_left (reported r ∷ l) y z h =
    event_keeps r.mark y.events y.reports y.pool (suc (length (reports l)))
    (λ x. one_report r.mark (length r.pool) x.events x.reports x.pool (scan l)) z
    (λ x. report_takes r.mark (length r.pool) x.events x.reports x.pool (length (reports l)) (scan l) z (λ v. fits_left l v z)) h
fits_left (exceeded m ∷ l) y z h = absurd (stops_never (too_deep m) z h)
