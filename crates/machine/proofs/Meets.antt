-- What is to be shown of every walk: the machine stops where the definitions say, or it was refused as `scan` says of
-- what is pushed. `Sofar` is what was written and pushed so far; the open markers' placeholders are in it as they
-- stand.
use Prim.Native.Nat.{ℕ, suc, ◌+◌, ◌-◌, ◌/◌, ◌≤◌, ◌<◌}
use native.Mathlib.Omega.{arith}
use mathlib.Core.Path.{◌≡◌, refl, sym, ap, ◌∙◌, subst}
use mathlib.Core.Bool.{Bool, true, false}
use mathlib.Core.List.{List, [], ◌∷◌, ◌++◌, append_assoc, append-nil}
use lib.Dec.{leb}
use lib.ListN.{length, length-append}
use borrow.Author.Tests.{leb-true, leb-false}
use Rattle.definitions.specs.Layout.{EVENT_ROW, REPORT_ROW, NO_EVENT_ROOM}
use Rattle.definitions.specs.Skeleton.{Report, Skeleton, done, ◌⧺◌}
use Rattle.definitions.specs.Refusal.{Refusal, no_event_room, number_of, place_of}
use Rattle.definitions.specs.Prog.{Ans}
use Rattle.definitions.specs.Run.{State, Out, mark_of}
use Rattle.definitions.specs.Report.{Push, event, Room, Fit, fits, stops, one_event, scan, pushes, reports, pool}
use Rattle.definitions.specs.Call.{forward_mark}
use Rattle.laws.proofs.Scan.{and_then, scan_append}
use Rattle.laws.proofs.Skeleton.{pushes_join, reports_append}
use Rattle.machine.specs.Machine.{Machine, refuse, push}
use Rattle.machine.specs.Walk.{Walked}
use Rattle.machine.specs.Outcome.{Refused, room_in}
use Rattle.machine.proofs.Coded.{coded, coded_join}
use Rattle.machine.proofs.Image.{Ground, image, rows_of, Inside}
use Rattle.machine.proofs.Stores.{push_fits, push_full}

pub record Sofar : Type 0 where
  pub numbers : List ℕ
  pub pushed : List Push

-- the room at first, and what is left of it
abbrev pub room_at_first : Ground → Room
room_at_first g = room_in g.events g.reports g.pool

abbrev pub room_left : Ground → List ℕ → List Report → Room
room_left g e l =
    record { events = (length g.events - length e) / EVENT_ROW; reports = (length g.reports - length (rows_of g l)) / REPORT_ROW; pool = length g.pool - length (pool l) }

-- all of it fits
pub record Fitting (g : Ground) (c : Sofar) : Type 0 where
  pub events : length c.numbers ≤ length g.events
  pub rows : length (rows_of g (reports c.pushed)) ≤ length g.reports
  pub codes : length (pool (reports c.pushed)) ≤ length g.pool
  pub room : scan c.pushed (room_at_first g) ≡ fits (room_left g c.numbers (reports c.pushed))

abbrev pub stand : Ground → Sofar → State → Machine
stand g c s = image g c.numbers (reports c.pushed) s

-- c, a, k, s: what is written, the answer, the shape and the state in the end
pub data Meets (g : Ground) (c : Sofar) (a : Ans) (k : ℕ) (s : State) (w : Walked) : Type 0 where
  goes : Fitting g c → Inside g s → w ≡ record { ans = a; shape = k; on = stand g c s } → Meets g c a k s w
  stop : (r : Refusal) → scan c.pushed (room_at_first g) ≡ stops r → Refused g.tokens r w.on → Meets g c a k s w

-- a skeleton written after
abbrev pub grow : Sofar → Skeleton → Sofar
grow c o = record { numbers = c.numbers ++ coded false o; pushed = c.pushed ++ pushes o }

-- a walk that does what a run says
abbrev pub Sim : Ground → Sofar → Out → Walked → Type 0
Sim g c o w = Meets g (grow c o.made) o.ans o.shape o.state w

abbrev pub Tracks : Ground → (State → Out) → (Machine → Walked) → Type 0
Tracks g f h = (c : Sofar) (s : State) → Fitting g c → Inside g s → Sim g c (f s) (h (stand g c s))

-- ---------------------------------------------------------------- pushed after

pub record Begins (p q : List Push) : Type 0 where
  pub more : List Push
  pub joins : p ++ more ≡ q

pub begins_with : (p u : List Push) → Begins p (p ++ u)
begins_with p u = record { more = u; joins = refl }

pub begins_then : (p q r : List Push) → Begins p q → Begins q r → Begins p r
begins_then p q r a b = record { more = a.more ++ b.more; joins = sym (append_assoc p a.more b.more) ∙ ap (λ (l : List Push). l ++ b.more) a.joins ∙ b.joins }

pub begins_after : (l p q : List Push) → Begins p q → Begins (l ++ p) (l ++ q)
begins_after l p q a = record { more = a.more; joins = append_assoc l p a.more ∙ ap (λ (u : List Push). l ++ u) a.joins }

-- the first misfit stays the first
pub still_stops : (p q : List Push) (z : Room) (r : Refusal) → Begins p q → scan p z ≡ stops r → scan q z ≡ stops r
still_stops p q z r b e = ap (λ (l : List Push). scan l z) (sym b.joins) ∙ scan_append p b.more z ∙ ap (λ (x : Fit). and_then x (scan b.more)) e

-- ---------------------------------------------------------------- written after

pub same_sofar : (e e' : List ℕ) (p p' : List Push) → e ≡ e' → p ≡ p' → ◌≡◌ {A = Sofar} (record { numbers = e; pushed = p }) (record { numbers = e'; pushed = p' })
same_sofar e e' p p' x y = ap (λ (u : List ℕ). record { numbers = u; pushed = p }) x ∙ ap (λ (v : List Push). record { numbers = e'; pushed = v }) y

pub grow_done : (c : Sofar) → grow c done ≡ c
unfolding coded pushes
grow_done c = same_sofar _ _ _ _ (append-nil c.numbers) (append-nil c.pushed)

pub grow_join : (c : Sofar) (p q : Skeleton) → grow (grow c p) q ≡ grow c (p ⧺ q)
grow_join c p q =
    same_sofar _ _ _ _
    (append_assoc c.numbers (coded false p) (coded false q) ∙ ap (λ (l : List ℕ). c.numbers ++ l) (sym (coded_join false p q)))
    (append_assoc c.pushed (pushes p) (pushes q) ∙ ap (λ (l : List Push). c.pushed ++ l) (sym (pushes_join p q)))

-- ---------------------------------------------------------------- an event

abbrev pub put : Sofar → ℕ → ℕ → ℕ → ℕ → Sofar
put c x y z m = record { numbers = c.numbers ++ (x ∷ y ∷ z ∷ []); pushed = c.pushed ++ (event m ∷ []) }

pub no_report : (p : List Push) (m : ℕ) → reports (p ++ (event m ∷ [])) ≡ reports p
unfolding reports
no_report p m = reports_append p (event m ∷ []) ∙ append-nil (reports p)

pub refused_event : (g : Ground) (e : List ℕ) (l : List Report) (s : State) → Refused g.tokens (no_event_room (mark_of s)) (refuse NO_EVENT_ROOM (image g e l s))
unfolding refuse image number_of place_of forward_mark
refused_event g e l s = record { refusal = refl; some = omega arith; place = refl }

module _ (g : Ground) (c : Sofar) (f : Fitting g c) where
  pub event_full : (m : ℕ) → length g.events < length c.numbers + EVENT_ROW → scan (c.pushed ++ (event m ∷ [])) (room_at_first g) ≡ stops (no_event_room m)
  unfolding scan one_event
  event_full m h =
      let n : (length g.events - length c.numbers) / EVENT_ROW ≡ 0 = omega (arith, f.events) in
      scan_append c.pushed (event m ∷ []) (room_at_first g)
      ∙ ap (λ (x : Fit). and_then x (scan (event m ∷ []))) f.room
      ∙ ap (λ (k : ℕ). one_event m k (room_left g c.numbers (reports c.pushed)).reports (room_left g c.numbers (reports c.pushed)).pool (scan [])) n

  pub event_fits : (x y z m : ℕ) → length c.numbers + EVENT_ROW ≤ length g.events → Fitting g (put c x y z m)
  unfolding scan one_event
  event_fits x y z m h =
      let b : length (c.numbers ++ (x ∷ y ∷ z ∷ [])) ≡ length c.numbers + EVENT_ROW = length-append c.numbers (x ∷ y ∷ z ∷ []) in
      let n : (length g.events - length c.numbers) / EVENT_ROW ≡ suc ((length g.events - length (c.numbers ++ (x ∷ y ∷ z ∷ []))) / EVENT_ROW) = omega arith in
      let l = reports c.pushed in
      let k : reports (c.pushed ++ (event m ∷ [])) ≡ l = no_report c.pushed m in
      record {
        events = omega arith;
        rows = subst (λ (u : List Report). length (rows_of g u) ≤ length g.reports) (sym k) f.rows;
        codes = subst (λ (u : List Report). length (pool u) ≤ length g.pool) (sym k) f.codes;
        room =
            scan_append c.pushed (event m ∷ []) (room_at_first g)
            ∙ ap (λ (u : Fit). and_then u (scan (event m ∷ []))) f.room
            ∙ ap (λ (u : ℕ). one_event m u (room_left g c.numbers l).reports (room_left g c.numbers l).pool (scan [])) n
            ∙ ap (λ (u : List Report). fits (room_left g (c.numbers ++ (x ∷ y ∷ z ∷ [])) u)) (sym k);
      }

  -- an event pushed, or refusal 6
  pub push_meets : (s : State) (tag v : ℕ) (a : Ans) (k : ℕ) → Inside g s → Meets g (put c tag v 0 (mark_of s)) a k s (record { ans = a; shape = k; on = push tag v (stand g c s) })
  push_meets s tag v a k i = by_fit (leb (length c.numbers + EVENT_ROW) (length g.events)) refl
    where
      said_so : Machine → Walked
      said_so m = record { ans = a; shape = k; on = m }

      by_fit : (b : Bool) → leb (length c.numbers + EVENT_ROW) (length g.events) ≡ b → Meets g (put c tag v 0 (mark_of s)) a k s (said_so (push tag v (stand g c s)))
      by_fit true e =
          let h : length c.numbers + EVENT_ROW ≤ length g.events = leb-true _ _ e in
          goes (event_fits tag v 0 (mark_of s) h) i
          (ap said_so (push_fits g (reports c.pushed) s c.numbers tag v h ∙ ap (λ (u : List Report). image g (c.numbers ++ (tag ∷ v ∷ 0 ∷ [])) u s) (sym (no_report c.pushed (mark_of s)))))
      by_fit false e =
          let h : length g.events < length c.numbers + EVENT_ROW = leb-false _ _ e in
          stop (no_event_room (mark_of s)) (event_full (mark_of s) h)
          (subst (Refused g.tokens (no_event_room (mark_of s))) (sym (push_full g (reports c.pushed) s c.numbers tag v f.events h)) (refused_event g c.numbers (reports c.pushed) s))

-- ---------------------------------------------------------------- one after the other

-- what follows a walk: whatever c' is written after it begins with what the walk wrote
pub meets_then : (g : Ground) (c c' : Sofar) (a a' : Ans) (k k' : ℕ) (s s' : State) (v w : Walked) → Begins c.pushed c'.pushed → Meets g c a k s v
    → (Fitting g c → Inside g s → v ≡ record { ans = a; shape = k; on = stand g c s } → Meets g c' a' k' s' w)
    → ((r : Refusal) → Refused g.tokens r v.on → Refused g.tokens r w.on)
    → Meets g c' a' k' s' w
meets_then g c c' a a' k k' s s' v w b (goes f i e) h n = h f i e
meets_then g c c' a a' k k' s s' v w b (stop r e m) h n = stop r (still_stops c.pushed c'.pushed (room_at_first g) r b e) (n r m)
