-- The turns of the loop over the events inside a node.
use Rattle.std.proofs.Common.{◌≡◌, ℕ, ◌+◌, ◌/◌, ◌≤◌, ◌<◌, Bool, true, false, cond, ◌&&◌, List, eqb, length, drop, refl, ap, arith, eqb-true}
use Rattle.definitions.specs.Layout.{EVENT_ROW}
use Rattle.definitions.specs.Token.{Token}
use Rattle.labels.specs.declared.event.Event.{Event}
use Rattle.labels.specs.declared.event.Event.TheVariants.{Start, Token as AddToken, Name, Finish, Other}
use Rattle.labels.specs.declared.node.Walk.{Walk}
use Rattle.labels.specs.Model.{Out, out, On, on, at_seat, with_names, ends, event_at, shown, passed, solid_after, breaks, reported, name_on, event_on, inside_on}
use Rattle.labels.proofs.EventRows.{events_cons, events_end}

-- e: the event. b: whether it ends the node.
pub inside_turn : (bytes : List ℕ) (ts : List Token) (first : ℕ) (events : List ℕ) (i : ℕ) (e : Event) (b : Bool) (w : Walk) (reports : List ℕ)
    → i < length events / EVENT_ROW → e ≡ event_at events i → ends e w.depth ≡ b
    → inside_on bytes ts first (drop i (shown events)) (on w reports)
    ≡ cond b (on w reports) (inside_on bytes ts first (drop (i + 1) (shown events)) (event_on bytes ts first e (on w reports)))
unfolding inside_on
inside_turn bytes ts first events i e b w reports h l t = rw (events_cons events i h, ← l, t)

pub inside_end : (bytes : List ℕ) (ts : List Token) (first : ℕ) (events : List ℕ) (i : ℕ) (x : On)
    → length events / EVENT_ROW ≤ i → inside_on bytes ts first (drop i (shown events)) x ≡ x
unfolding inside_on
inside_end bytes ts first events i x h = rw (events_end events i h)

-- ---------------------------------------------------------------- the end of the node

pub at_end : (e : Event) (d : ℕ) → e ≡ Finish → d ≡ 0 → ends e d ≡ true
at_end e d f z = rw (f, z)

pub before_end : (e : Event) (d : ℕ) → (e ≡ Finish → d ≡ 0 → ⊥) → ends e d ≡ false
before_end (Start k) d n = refl
before_end AddToken d n = refl
before_end (Name k) d n = refl
before_end Finish d n = by (eqb d 0) refl
  where
    by : (b : Bool) → eqb d 0 ≡ b → b ≡ false
    by true e = absurd (n refl (eqb-true d 0 e))
    by false e = refl
before_end Other d n = refl

-- ---------------------------------------------------------------- how many nodes are open

abbrev depth_of : On → ℕ
depth_of (on w reports) = w.depth

named_depth : (b : Bool) (w : Walk) (x : Out) (reports : List ℕ) → depth_of (cond b (with_names w x) (on w reports)) ≤ w.depth + 1
named_depth true w (out s reports') reports = omega arith
named_depth false w x reports = omega arith

event_depth : (bytes : List ℕ) (ts : List Token) (first : ℕ) (e : Event) (w : Walk) (reports : List ℕ)
    → depth_of (event_on bytes ts first e (on w reports)) ≤ w.depth + 1
unfolding event_on name_on
event_depth bytes ts first (Start k) w reports = omega arith
event_depth bytes ts first AddToken w reports = omega arith
event_depth bytes ts first (Name n) w reports =
    let end = passed n (drop w.seat.at ts) w.seat in
    named_depth (eqb w.depth 0 && breaks bytes w.seat.byte end.byte) (at_seat (solid_after 0 ts end) w)
    (reported w.seat.byte end.byte w.seat.at first (out w.names reports)) reports
event_depth bytes ts first Finish w reports = omega arith
event_depth bytes ts first Other w reports = omega arith

-- an event opens at most one
pub deeper : (bytes : List ℕ) (ts : List Token) (first : ℕ) (e : Event) (w w' : Walk) (reports reports' : List ℕ)
    → on w' reports' ≡ event_on bytes ts first e (on w reports) → w'.depth ≤ w.depth + 1
deeper bytes ts first e w w' reports reports' q =
    let d : w'.depth ≡ depth_of (event_on bytes ts first e (on w reports)) = ap depth_of q in
    omega (arith, d, event_depth bytes ts first e w reports)
