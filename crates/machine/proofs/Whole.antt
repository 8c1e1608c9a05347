-- A whole entry: the machine from the fresh state on, with any buffers.
use Prim.Native.Nat.{ℕ, ◌+◌, ◌-◌}
use native.Mathlib.Nat.{zero-add}
use native.Mathlib.Omega.{arith}
use mathlib.Core.Path.{◌≡◌, refl, sym, subst}
use mathlib.Core.Bool.{false}
use mathlib.Core.List.{List, []}
use lib.ListN.{length}
use Rattle.definitions.specs.Layout.{MOST_OPEN_CALLS}
use Rattle.definitions.specs.Token.{Token, byte_count}
use Rattle.definitions.specs.Skeleton.{no_label, Skeleton}
use Rattle.definitions.specs.Refusal.{Refusal}
use Rattle.definitions.specs.Grammar.{Entry, whole}
use Rattle.definitions.specs.Run.{State, Out, taken, exec, run}
use Rattle.definitions.specs.Report.{Room, Fit, fits, stops, scan, pushes, reports, pool, report_numbers}
use Rattle.definitions.specs.Call.{run_entry}
use Rattle.machine.specs.Machine.{Machine}
use Rattle.machine.specs.Walk.{Walked, unlabelled, walk_prog}
use Rattle.machine.specs.Encode.{encode}
use Rattle.laws.proofs.Listed.{kinds_from, others_from}
use Rattle.laws.proofs.Once.{whole_expects}
use Rattle.machine.specs.Outcome.{InputLimits, Small, fresh, room_in, StartsWith, NotRefused, Refused, Ends}
use Rattle.machine.proofs.Coded.{coded, coded_small, low_rows, low_rows_small}
use Rattle.machine.proofs.Suffix.{suffix_whole}
use Rattle.machine.proofs.Image.{Ground, image, rows_of, inside_taken}
use Rattle.machine.proofs.Meets.{Sofar, Fitting, stand, goes, stop, grow, Sim, room_at_first}
use Rattle.machine.proofs.Programs.{prog_sim}

-- nothing written yet
abbrev none : Sofar
none = record { numbers = []; pushed = [] }

fitting_none : (g : Ground) → Fitting g none
unfolding scan reports pool low_rows
fitting_none g =
    let e : length g.events - 0 ≡ length g.events = omega arith in
    let r : length g.reports - 0 ≡ length g.reports = omega arith in
    let p : length g.pool - 0 ≡ length g.pool = omega arith in
    record { events = omega arith; rows = omega arith; codes = omega arith; room = rw (e, r, p) }

fresh_is : (g : Ground) → fresh g.events g.reports g.pool ≡ stand g none (taken g.tokens)
unfolding image reports pool low_rows kinds_from others_from
fresh_is g =
    let n : length g.tokens - length g.tokens ≡ 0 = omega arith in
    let b : byte_count g.tokens - byte_count g.tokens ≡ 0 = omega arith in
    rw (n, b)

-- what the definitions' numbers are when nothing is cut
settled : (g : Ground) (o : Skeleton) (s : State) → Small o → Fitting g (grow none o) → NotRefused g.tokens o g.events g.reports g.pool (stand g (grow none o) s)
unfolding image
settled g o s h f =
    let e : coded false o ≡ encode false o = coded_small false o h.events_fit in
    let z : 0 + length (pool (reports (pushes o))) ≡ length (pool (reports (pushes o))) = zero-add (length (pool (reports (pushes o)))) in
    let r : rows_of g (reports (pushes o)) ≡ report_numbers (length g.tokens) (byte_count g.tokens) 0 (reports (pushes o)) =
    low_rows_small (length g.tokens) (byte_count g.tokens) 0 (reports (pushes o)) (omega (arith, z, h.pool_fits)) in
    record {
      refusal = refl;
      events_hold = subst (λ (l : List ℕ). StartsWith l g.events (stand g (grow none o) s).events) e (record { numbers = refl; count = refl; inside = f.events });
      reports_hold = subst (λ (l : List ℕ). StartsWith l g.reports (stand g (grow none o) s).reports) r (record { numbers = refl; count = refl; inside = f.rows });
      pool_holds = record { numbers = refl; count = refl; inside = f.codes };
    }

ends_with : (g : Ground) (o : Skeleton) (x : Fit) (m : Machine) → scan (pushes o) (room_at_first g) ≡ x → Ends g.tokens o g.events g.reports g.pool x m
    → Ends g.tokens o g.events g.reports g.pool (scan (pushes o) (room_at_first g)) m
ends_with g o x m e h = subst (λ (y : Fit). Ends g.tokens o g.events g.reports g.pool y m) (sym e) h

meets_ends : (g : Ground) (o : Out) (w : Walked) → ((z : Room) → scan (pushes o.made) (room_at_first g) ≡ fits z → Small o.made) → Sim g none o w
    → Ends g.tokens o.made g.events g.reports g.pool (scan (pushes o.made) (room_at_first g)) w.on
meets_ends g o w h (goes f i e) =
    ends_with g o.made (fits _) w.on f.room
    (subst (λ (v : Walked). NotRefused g.tokens o.made g.events g.reports g.pool v.on) (sym e) (settled g o.made o.state (h _ f.room) f))
meets_ends g o w h (stop r e m) = ends_with g o.made (stops r) w.on e m

-- THE MACHINE'S END, for every entry, tokens within the limits, and buffers of any lengths and contents. The skeleton
-- has to be small only where all of it fits the buffers.
pub machine_ends : (e : Entry) (ts : List Token) (events₀ reports₀ pool₀ : List ℕ) → InputLimits ts → ((z : Room) → scan (pushes (run_entry e ts)) (room_in events₀ reports₀ pool₀) ≡ fits z → Small (run_entry e ts))
    → Ends ts (run_entry e ts) events₀ reports₀ pool₀ (scan (pushes (run_entry e ts)) (room_in events₀ reports₀ pool₀)) (walk_prog MOST_OPEN_CALLS ts unlabelled (whole e) (fresh events₀ reports₀ pool₀)).on
unfolding run_entry
machine_ends e ts events₀ reports₀ pool₀ l h =
    let g : Ground = record { tokens = ts; events = events₀; reports = reports₀; pool = pool₀; limits = l } in
    let o = exec (run MOST_OPEN_CALLS) no_label (whole e) (taken ts) in
    subst (λ (m : Machine). Ends ts o.made events₀ reports₀ pool₀ (scan (pushes o.made) (room_in events₀ reports₀ pool₀)) (walk_prog MOST_OPEN_CALLS ts unlabelled (whole e) m).on) (sym (fresh_is g))
    (meets_ends g o (walk_prog MOST_OPEN_CALLS ts unlabelled (whole e) (stand g none (taken ts))) h
    (prog_sim g MOST_OPEN_CALLS no_label (whole e) (whole_expects e) none (taken ts) (fitting_none g) (inside_taken g ts (suffix_whole ts))))

-- where all fits
pub machine_accepts : (e : Entry) (ts : List Token) (events₀ reports₀ pool₀ : List ℕ) (z : Room) → InputLimits ts → Small (run_entry e ts) → scan (pushes (run_entry e ts)) (room_in events₀ reports₀ pool₀) ≡ fits z
    → NotRefused ts (run_entry e ts) events₀ reports₀ pool₀ (walk_prog MOST_OPEN_CALLS ts unlabelled (whole e) (fresh events₀ reports₀ pool₀)).on
machine_accepts e ts events₀ reports₀ pool₀ z l h q =
    subst (λ (x : Fit). Ends ts (run_entry e ts) events₀ reports₀ pool₀ x (walk_prog MOST_OPEN_CALLS ts unlabelled (whole e) (fresh events₀ reports₀ pool₀)).on) q (machine_ends e ts events₀ reports₀ pool₀ l (λ y p. h))

-- where something does not, whatever the skeleton's size
pub machine_refuses : (e : Entry) (ts : List Token) (events₀ reports₀ pool₀ : List ℕ) (r : Refusal) → InputLimits ts → scan (pushes (run_entry e ts)) (room_in events₀ reports₀ pool₀) ≡ stops r
    → Refused ts r (walk_prog MOST_OPEN_CALLS ts unlabelled (whole e) (fresh events₀ reports₀ pool₀)).on
machine_refuses e ts events₀ reports₀ pool₀ r l q =
    subst (λ (x : Fit). Ends ts (run_entry e ts) events₀ reports₀ pool₀ x (walk_prog MOST_OPEN_CALLS ts unlabelled (whole e) (fresh events₀ reports₀ pool₀)).on) q
    (machine_ends e ts events₀ reports₀ pool₀ l (λ z p. let x : ◌≡◌ {A = ℕ} 0 1 = cc in absurd (omega arith)))
