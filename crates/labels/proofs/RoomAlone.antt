-- Where no report was refused at first, or one for want of room, no other refusal than 7 comes.
use Rattle.std.proofs.Common.{◌≡◌, ℕ, ◌&&◌, Ok, Err, List, [], ◌∷◌, eqb, length, drop, refl, sym, subst}
use Rattle.std.specs.Prelude.{IfErr}
use Rattle.basics.proofs.Tests.{cond-all}
use Rattle.definitions.specs.Layout.{REPORT_ROW, NO_REPORT_ROOM, OLD_SETTING}
use Rattle.definitions.specs.NodeKind as N
use Rattle.definitions.specs.Token.{Token}
use Rattle.machine.specs.Machine.{fits}
use Rattle.token_rows.specs.declared.token.Seat.{Seat}
use Rattle.labels.specs.declared.event.Event.{Event}
use Rattle.labels.specs.declared.event.Event.TheVariants.{Start, Token as AddToken, Name, Finish, Other}
use Rattle.labels.specs.declared.node.Walk.{Walk}
use Rattle.labels.specs.Model.{Names, Out, out, On, on, seat, at_seat, walk_at, with_names, ends, breaks, reported, token_on, name_on, event_on, inside_on, settled, shown, passed, solid_after, node_on, judged_kind, nodes_on, strict_on, names_on}

abbrev pub RoomAlone : Names → Type 0
RoomAlone s = IfErr s (λ e. e.number ≡ NO_REPORT_ROOM)

abbrev OfOut : Out → Type 0
OfOut (out s reports) = RoomAlone s

abbrev OfOn : On → Type 0
OfOn (on w reports) = RoomAlone w.names

of_reported : (start end at first : ℕ) (x : Out) → OfOut x → OfOut (reported start end at first x)
unfolding reported
of_reported start end at first (out (Ok written) reports) h = cond-all OfOut (fits (length reports) written REPORT_ROW) tt refl
of_reported start end at first (out (Err e) reports) h = h

of_named : (w : Walk) (x : Out) → OfOut x → OfOn (with_names w x)
of_named w (out s reports) h = h

of_event : (bytes : List ℕ) (ts : List Token) (first : ℕ) (v : Event) (x : On) → OfOn x → OfOn (event_on bytes ts first v x)
unfolding event_on token_on name_on
of_event bytes ts first (Start k) (on w r) h = h
of_event bytes ts first AddToken (on w r) h = h
of_event bytes ts first (Name n) (on w r) h =
    let end = passed n (drop w.seat.at ts) w.seat in
    let q = at_seat (solid_after 0 ts end) w in
    let x = reported w.seat.byte end.byte w.seat.at first (out w.names r) in
    cond-all OfOn (eqb w.depth 0 && breaks bytes w.seat.byte end.byte) {x = with_names q x} {y = on q r}
    (of_named q x (of_reported w.seat.byte end.byte w.seat.at first (out w.names r) h)) h
of_event bytes ts first Finish (on w r) h = h
of_event bytes ts first Other (on w r) h = h

of_inside : (bytes : List ℕ) (ts : List Token) (first : ℕ) (es : List Event) (x : On) → OfOn x → OfOn (inside_on bytes ts first es x)
unfolding inside_on
of_inside bytes ts first [] x h = h
of_inside bytes ts first (v ∷ es) (on w r) h =
    cond-all OfOn (ends v w.depth) {x = on w r} {y = inside_on bytes ts first es (event_on bytes ts first v (on w r))}
    h (of_inside bytes ts first es (event_on bytes ts first v (on w r)) (of_event bytes ts first v (on w r) h))

of_settled : (k : ℕ) (s : Names) (x : On) → RoomAlone s → OfOn x → OfOut (settled k s x)
of_settled k s (on w r) g h = cond-all OfOut (eqb k N.DtPhandle && w.braced) {x = out s r} {y = out w.names r} g h

of_node : (bytes : List ℕ) (ts : List Token) (first k : ℕ) (es : List Event) (p : Seat) (x : Out)
    → OfOut x → OfOut (node_on bytes ts first k es p x)
unfolding node_on
of_node bytes ts first k es p (out s r) h =
    of_settled k s (inside_on bytes ts first es (on (walk_at p s) r)) h (of_inside bytes ts first es (on (walk_at p s) r) h)

of_nodes : (bytes : List ℕ) (ts : List Token) (first : ℕ) (es : List Event) (b : ℕ) (p : Seat) (x : Out)
    → OfOut x → OfOut (nodes_on bytes ts first es b p x)
unfolding nodes_on
of_nodes bytes ts first [] b p x h = h
of_nodes bytes ts first (Start k ∷ es) b p x h =
    let q = solid_after b ts p in
    cond-all OfOut (judged_kind k)
    {x = nodes_on bytes ts first es 0 q (node_on bytes ts first k es q x)} {y = nodes_on bytes ts first es b p x}
    (of_nodes bytes ts first es 0 q (node_on bytes ts first k es q x) (of_node bytes ts first k es q x h))
    (of_nodes bytes ts first es b p x h)
of_nodes bytes ts first (AddToken ∷ es) b p x h = of_nodes bytes ts first es _ p x h
of_nodes bytes ts first (Name n ∷ es) b p x h = of_nodes bytes ts first es _ p x h
of_nodes bytes ts first (Finish ∷ es) b p x h = of_nodes bytes ts first es b p x h
of_nodes bytes ts first (Other ∷ es) b p x h = of_nodes bytes ts first es b p x h

of_strict : (k : ℕ) (bytes : List ℕ) (ts : List Token) (first : ℕ) (es : List Event) (x : Out)
    → OfOut x → OfOut (strict_on k bytes ts first es x)
unfolding strict_on
of_strict k bytes ts first es x h =
    let q = solid_after 0 ts (seat 0 0) in
    cond-all OfOut (judged_kind k) {x = node_on bytes ts first k es q x} {y = nodes_on bytes ts first es 0 (seat 0 0) x}
    (of_node bytes ts first k es q x h) (of_nodes bytes ts first es 0 (seat 0 0) x h)

-- for any buffers
pub room_alone : (setting k : ℕ) (bytes : List ℕ) (ts : List Token) (written first : ℕ) (events reports : List ℕ) (s : Names) (reports' : List ℕ)
    → out s reports' ≡ names_on setting k bytes ts written first events reports → RoomAlone s
unfolding names_on
room_alone setting k bytes ts written first events reports s reports' e =
    let x = out (Ok written) reports in
    subst OfOut (sym e)
    (cond-all OfOut (eqb setting OLD_SETTING) {x = x} {y = strict_on k bytes ts first (shown events) x} tt
    (of_strict k bytes ts first (shown events) x tt))

-- for any report, and for any node: where none was refused before, or 7
pub report_alone : (start end at first : ℕ) (s t : Names) (reports reports' : List ℕ) → out t reports' ≡ reported start end at first (out s reports)
    → RoomAlone s → RoomAlone t
report_alone start end at first s t reports reports' e h = subst OfOut (sym e) (of_reported start end at first (out s reports) h)

pub node_alone : (bytes : List ℕ) (ts : List Token) (first k : ℕ) (es : List Event) (p : Seat) (s t : Names) (reports reports' : List ℕ)
    → out t reports' ≡ node_on bytes ts first k es p (out s reports) → RoomAlone s → RoomAlone t
node_alone bytes ts first k es p s t reports reports' e h = subst OfOut (sym e) (of_node bytes ts first k es p (out s reports) h)
