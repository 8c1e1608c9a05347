-- What two runs push, side by side: their reports, refusal 5, and the room that is left.
use Prim.Native.Nat.{ℕ, zero, suc, ◌-◌, ◌≤◌}
use native.Mathlib.Omega.{arith}
use mathlib.Core.Path.{◌≡◌, refl, sym, ap, subst, ◌∙◌}
use mathlib.Core.Bool.{Bool, true, false, cond}
use mathlib.Core.List.{List, [], ◌∷◌, ◌++◌, map}
use lib.Dec.{leb}
use lib.ListN.{length, take}
use borrow.Author.Tests.{leb-true, le-leb}
use Rattle.definitions.specs.Skeleton.{Report, Skeleton}
use Rattle.definitions.specs.Report.{Push, event, reported, exceeded, pushes, Room, fits, stops, one_event, one_report, scan}
use Rattle.definitions.specs.Report as R
use Rattle.definitions.specs.Refusal.{no_report_room}
use Rattle.laws.specs.Pushes.{NoneExceeded}
use Rattle.laws.proofs.Scan.{stops_never}
use Rattle.pending.specs.AsBefore.{unranged, before_refusal, Roomier}
use Rattle.pending.proofs.Alike.{Terms, listed, Reports, reports_same, Alike, no_more, tokens, names, nodes, ignoreds, reports, overs, limit}

-- the first: by the run as it is
pub data Pushed (c : Terms) : Bool → Bool → List Push → List Push → Type 0 where
  none : {f : Bool} → Pushed c f f [] []
  events : {f g : Bool} {l k : List Push} (m : ℕ) → Pushed c f g l k → Pushed c f g (event m ∷ l) (event m ∷ k)
  tells : {f g : Bool} {l k : List Push} {r q : Report} → Reports c f r q → Pushed c f g l k → Pushed c f g (reported r ∷ l) (reported q ∷ k)
  refuses : {f g : Bool} {l k : List Push} (m : ℕ) → Pushed c true g l k → Pushed c f g (exceeded m ∷ l) (exceeded m ∷ k)
  limits : {f g : Bool} {l k : List Push} (m : ℕ) → c.Limited → Pushed c f g l k → Pushed c f g l (exceeded m ∷ k)

pushed_append : {c : Terms} {f g h : Bool} {l k m n : List Push} → Pushed c f g l k → Pushed c g h m n → Pushed c f h (l ++ m) (k ++ n)
pushed_append none y = y
pushed_append (events m x) y = events m (pushed_append x y)
pushed_append (tells r x) y = tells r (pushed_append x y)
pushed_append (refuses m x) y = refuses m (pushed_append x y)
pushed_append (limits m i x) y = limits m i (pushed_append x y)

pub pushed : {c : Terms} {f g : Bool} {p q : Skeleton} → Alike c f g p q → Pushed c f g (pushes p) (pushes q)
unfolding pushes
pushed no_more = none
pushed (tokens t m x) = events m (pushed x)
pushed (names ts m x) = events m (pushed x)
pushed (nodes k m m' a i x) = pushed_append (pushed a) (events m (pushed_append (pushed i) (events m' (pushed x))))
pushed (ignoreds m m' a i x) = pushed_append (pushed a) (events m (pushed_append (pushed i) (events m' (pushed x))))
pushed (reports r x) = tells r (pushed x)
pushed (overs m x) = refuses m (pushed x)
pushed (limit m i x) = limits m i (pushed x)

-- ---------------------------------------------------------------- reports

cons_same : {A : Type 0} {a b : A} {l k : List A} → a ≡ b → l ≡ k → a ∷ l ≡ b ∷ k
cons_same {b} {l} e h = ap (◌∷ l) e ∙ ap (b ∷◌) h

pub but_ranges : {c : Terms} {f g : Bool} {l k : List Push} → Pushed c f g l k → map unranged (R.reports l) ≡ map (λ r. unranged (listed c r)) (R.reports k)
unfolding R.reports
but_ranges none = refl
but_ranges (events m x) = but_ranges x
but_ranges (tells h x) = cons_same h.but_range (but_ranges x)
but_ranges (refuses m x) = but_ranges x
but_ranges (limits m i x) = but_ranges x

-- with their ranges, up to refusal 5
pub first_reports : {c : Terms} {g : Bool} {l k : List Push} → Pushed c false g l k → before_refusal l ≡ take (length (before_refusal l)) (map (listed c) (R.reports k))
unfolding R.reports before_refusal
first_reports none = refl
first_reports (events m x) = first_reports x
first_reports (tells h x) = cons_same (reports_same refl h) (first_reports x)
first_reports (refuses m x) = refl
first_reports (limits m i x) = first_reports x

pub all_reports : {c : Terms} {g : Bool} {l k : List Push} → Pushed c false g l k → NoneExceeded l → R.reports l ≡ map (listed c) (R.reports k)
unfolding R.reports
all_reports none n = refl
all_reports (events m x) n = all_reports x n
all_reports (tells h x) n = cons_same (reports_same refl h) (all_reports x n)
all_reports (refuses m x) n = absurd n
all_reports (limits m i x) n = all_reports x n

-- ---------------------------------------------------------------- refusal 5

pub clear_too : {c : Terms} {f g : Bool} {l k : List Push} → Pushed c f g l k → NoneExceeded k → NoneExceeded l
clear_too none n = tt
clear_too (events m x) n = clear_too x n
clear_too (tells h x) n = clear_too x n
clear_too (refuses m x) n = n
clear_too (limits m i x) n = absurd n

-- and the other way, if the other run has no limit of its own
pub clear_back : {c : Terms} {f g : Bool} {l k : List Push} → (c.Limited → ⊥) → Pushed c f g l k → NoneExceeded l → NoneExceeded k
clear_back e none n = tt
clear_back e (events m x) n = clear_back e x n
clear_back e (tells h x) n = clear_back e x n
clear_back e (refuses m x) n = n
clear_back e (limits m i x) n = absurd (e i)

-- ---------------------------------------------------------------- room

abbrev room : ℕ → ℕ → ℕ → Room
room e r p = record { events = e; reports = r; pool = p }

-- what the run pushes fits too
abbrev Fits : List Push → Room → Room → Type 0
Fits l x y = (z : Room) × (scan l x ≡ fits z) × Roomier y z

-- the list of a report, no longer than the other's
shorter : {c : Terms} {f : Bool} {r q : Report} → ((u : List ℕ) → length (c.list u) ≤ length u) → Reports c f r q → length r.pool ≤ length q.pool
shorter {c} {q} s h = subst (λ (u : List ℕ). length u ≤ length q.pool) (sym (ap (λ (x : Report). x.pool) h.but_range)) (s q.pool)

-- one report at the mark m or m': with n or n' expectations, where there is room for p or p'
report_fits : (m m' n n' e r p p' : ℕ) (l k : List Push) (y : Room) → n' ≤ n → p ≤ p' → cond (leb n p) (scan k (room e r (p - n))) (stops (no_report_room m)) ≡ fits y
    → (p - n ≤ p' - n' → scan k (room e r (p - n)) ≡ fits y → Fits l (room e r (p' - n')) y)
    → (z : Room) × (cond (leb n' p') (scan l (room e r (p' - n'))) (stops (no_report_room m')) ≡ fits z) × Roomier y z
report_fits m m' n n' e r p p' l k y a b h f = go (leb n p) refl
  where
    go : (x : Bool) → leb n p ≡ x → (z : Room) × (cond (leb n' p') (scan l (room e r (p' - n'))) (stops (no_report_room m')) ≡ fits z) × Roomier y z
    go true i =
        let c : n ≤ p = leb-true n p i in
        let w : Fits l (room e r (p' - n')) y = f (omega arith) (subst (λ (x : Bool). cond x (scan k (room e r (p - n))) (stops (no_report_room m)) ≡ fits y) i h) in
        (w.0, ap (λ (x : Bool). cond x (scan l (room e r (p' - n'))) (stops (no_report_room m'))) (le-leb n' p' (omega arith)) ∙ w.1, w.2)
    go false i = absurd (stops_never _ y (subst (λ (x : Bool). cond x (scan k (room e r (p - n))) (stops (no_report_room m)) ≡ fits y) i h))

pub fits_too : {c : Terms} {f g : Bool} {l k : List Push} → ((u : List ℕ) → length (c.list u) ≤ length u) → Pushed c f g l k → (e r p p' : ℕ) (y : Room) → p ≤ p' → scan k (room e r p) ≡ fits y → Fits l (room e r p') y
unfolding scan one_event one_report
fits_too s none e r p p' y a h =
    let i : room e r p ≡ y = cc in
    (room e r p', refl, subst (λ (x : Room). Roomier x (room e r p')) i (record { events = refl; reports = refl; pool = a }))
fits_too s (events m x) zero r p p' y a h = absurd (stops_never _ y h)
fits_too s (events m x) (suc e) r p p' y a h = fits_too s x e r p p' y a h
fits_too s (tells t x) zero r p p' y a h = absurd (stops_never _ y h)
fits_too s (tells t x) (suc e) zero p p' y a h = absurd (stops_never _ y h)
fits_too s (tells {l} {k} {r = r₁} {q} t x) (suc e) (suc r) p p' y a h =
    report_fits q.mark r₁.mark (length q.pool) (length r₁.pool) e r p p' l k y (shorter s t) a h (λ b i. fits_too s x e r _ _ y b i)
fits_too s (refuses m x) e r p p' y a h = absurd (stops_never _ y h)
fits_too s (limits m i x) e r p p' y a h = absurd (stops_never _ y h)
