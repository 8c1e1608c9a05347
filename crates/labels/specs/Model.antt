-- What the code does, step by step, over the numbers of the lent buffers, whatever they are. Each definition is the
-- model of the function whose contract cites it. No part of the exported promise.
use Rattle.std.specs.Prelude.{ℕ, zero, suc, ◌+◌, ◌-◌, ◌*◌, Bool, false, cond, not, ◌&&◌, ◌||◌, Result, Ok, Err, List, [], ◌∷◌, leb, eqb, length, get_or, take, drop}
use Rattle.basics.specs.Word.{low}
use Rattle.definitions.specs.Layout.{EVENT_ROW, EVENT_TAG, EVENT_ARGUMENT, REPORT_ROW, OLD_SETTING, NO_REPORT_ROOM}
use Rattle.definitions.specs.Layout.{START_NODE, ADD_TOKEN, ADD_COMBINED_TOKEN, FINISH_NODE, LINKED_START_NODE}
use Rattle.definitions.specs.TokenKind as K
use Rattle.definitions.specs.NodeKind as N
use Rattle.definitions.specs.Errors as E
use Rattle.definitions.specs.Token.{Token, trivia, first_in}
use Rattle.definitions.specs.Strict.{keeps_rule}
use Rattle.machine.specs.Machine.{fits}
use Rattle.layout.specs.Rows.{put_row}
use Rattle.token_rows.specs.declared.token.Seat.{Seat}
use Rattle.labels.specs.declared.event.Event.{Event}
use Rattle.labels.specs.declared.event.Event.TheVariants.{Start, Token as AddToken, Name, Finish, Other}
use Rattle.labels.specs.declared.report.NoMoreReports.{NoMoreReports}
use Rattle.labels.specs.declared.node.Walk.{Walk}
use Rattle.labels.specs.declared.scan.Found.{Found}
use Rattle.labels.specs.declared.scan.NoneFound.{NoneFound}

-- ---------------------------------------------------------------- the rule

unfoldable pub breaks : List ℕ → ℕ → ℕ → Bool
unfolding keeps_rule
breaks bytes start end = leb start end && leb end (length bytes) && not (keeps_rule (take (end - start) (drop start bytes)))

-- ---------------------------------------------------------------- events

abbrev pub event_of : ℕ → ℕ → Event
event_of tag argument =
    cond (eqb tag ADD_TOKEN) AddToken
    (cond (eqb tag ADD_COMBINED_TOKEN) (Name argument)
    (cond (eqb tag START_NODE || eqb tag LINKED_START_NODE) (Start argument) (cond (eqb tag FINISH_NODE) Finish Other)))

abbrev pub event_at : List ℕ → ℕ → Event
event_at events i = event_of (get_or events (i * EVENT_ROW + EVENT_TAG) 0) (get_or events (i * EVENT_ROW + EVENT_ARGUMENT) 0)

-- the events that rows say; numbers that make no whole row say none
unfoldable pub shown : List ℕ → List Event
shown [] = []
shown (tag ∷ []) = []
shown (tag ∷ a ∷ []) = []
shown (tag ∷ a ∷ b ∷ l) = event_of tag a ∷ shown l

-- ---------------------------------------------------------------- places among the tokens

abbrev pub seat : ℕ → ℕ → Seat
seat at byte = record { at = at; byte = byte }

abbrev pub next_seat : Token → Seat → Seat
next_seat t p = record { at = p.at + 1; byte = low (p.byte + t.len) }

-- past n tokens of those from a place on
unfoldable pub passed : ℕ → List Token → Seat → Seat
passed zero ts p = p
passed (suc n) [] p = p
passed (suc n) (t ∷ ts) p = passed n ts (next_seat t p)

-- past n that are not trivia, and the trivia between them
unfoldable pub past_solid : ℕ → List Token → Seat → Seat
unfolding trivia
past_solid zero ts p = p
past_solid (suc n) [] p = p
past_solid (suc n) (t ∷ ts) p = cond (trivia t) (past_solid (suc n) ts (next_seat t p)) (past_solid n ts (next_seat t p))

-- past the trivia that stand first
unfoldable pub first_solid : List Token → Seat → Seat
unfolding trivia
first_solid [] p = p
first_solid (t ∷ ts) p = let r = first_solid ts (next_seat t p) in cond (trivia t) r p

-- ts: all tokens
unfoldable pub solid_after : ℕ → List Token → Seat → Seat
unfolding past_solid first_solid
solid_after n ts p = let q = past_solid n (drop p.at ts) p in first_solid (drop q.at ts) q

-- ---------------------------------------------------------------- reports

-- what has become of them: how many numbers are written, or why no more are
abbrev pub Names : Type 0
Names = Result ℕ NoMoreReports

-- the same, with their buffer
pub data Out : Type 0 where
  out : Names → List ℕ → Out

-- the report of this mark did not fit
abbrev pub no_room : ℕ → ℕ → NoMoreReports
no_room written mark = record { written = written; number = NO_REPORT_ROOM; place = mark }

abbrev pub name_row : ℕ → ℕ → ℕ → ℕ → List ℕ
name_row start end mark first = E.not_a_label ∷ start ∷ end ∷ mark ∷ first ∷ 0 ∷ E.no_hint ∷ 0 ∷ 0 ∷ []

abbrev pub put_name : ℕ → ℕ → ℕ → ℕ → ℕ → List ℕ → List ℕ
put_name index start end mark first reports = put_row REPORT_ROW index (name_row start end mark first) reports

unfoldable pub reported : ℕ → ℕ → ℕ → ℕ → Out → Out
unfolding put_row
reported start end at first (out (Ok written) reports) =
    let row = put_name written start end (low at) first reports in
    cond (fits (length reports) written REPORT_ROW) (out (Ok (written + REPORT_ROW)) row) (out (Err (no_room written at)) reports)
reported start end at first (out (Err e) reports) = out (Err e) reports

-- ---------------------------------------------------------------- inside a node

abbrev pub judged_kind : ℕ → Bool
judged_kind k = eqb k N.DtLabel || eqb k N.DtPhandle

-- a walk with the reports' buffer
pub data On : Type 0 where
  on : Walk → List ℕ → On

abbrev pub walk_at : Seat → Names → Walk
walk_at p s = record { depth = 0; seat = p; braced = false; names = s }

abbrev pub at_seat : Seat → Walk → Walk
at_seat p w = record w { seat = p }

abbrev pub at_depth : ℕ → Walk → Walk
at_depth d w = record w { depth = d }

abbrev pub with_braced : Bool → Walk → Walk
with_braced b w = record w { braced = b }

abbrev pub with_names : Walk → Out → On
with_names w (out s reports) = on (record w { names = s }) reports

abbrev pub ends : Event → ℕ → Bool
ends (Start k) d = false
ends AddToken d = false
ends (Name n) d = false
ends Finish d = eqb d 0
ends Other d = false

unfoldable pub token_on : List Token → Walk → Walk
unfolding solid_after first_in
token_on ts w =
    let curly = first_in (K.LCurly ∷ []) (drop w.seat.at ts) in
    with_braced ((eqb w.depth 0 && curly) || w.braced) (at_seat (solid_after 1 ts w.seat) w)

unfoldable pub name_on : List ℕ → List Token → ℕ → ℕ → On → On
unfolding passed solid_after breaks reported
name_on bytes ts first n (on w reports) =
    let end = passed n (drop w.seat.at ts) w.seat in
    let q = at_seat (solid_after 0 ts end) w in
    cond (eqb w.depth 0 && breaks bytes w.seat.byte end.byte)
    (with_names q (reported w.seat.byte end.byte w.seat.at first (out w.names reports))) (on q reports)

unfoldable pub event_on : List ℕ → List Token → ℕ → Event → On → On
unfolding token_on name_on
event_on bytes ts first (Start k) (on w reports) = on (at_depth (w.depth + 1) w) reports
event_on bytes ts first AddToken (on w reports) = on (token_on ts w) reports
event_on bytes ts first (Name n) x = name_on bytes ts first n x
event_on bytes ts first Finish (on w reports) = on (at_depth (w.depth - 1) w) reports
event_on bytes ts first Other x = x

-- up to the end of the node
unfoldable pub inside_on : List ℕ → List Token → ℕ → List Event → On → On
unfolding event_on
inside_on bytes ts first [] x = x
inside_on bytes ts first (e ∷ es) (on w reports) =
    cond (ends e w.depth) (on w reports) (inside_on bytes ts first es (event_on bytes ts first e (on w reports)))

-- a DtPhandle with an LCurly reports nothing
abbrev pub settled : ℕ → Names → On → Out
settled kind s (on w reports) = cond (eqb kind N.DtPhandle && w.braced) (out s reports) (out w.names reports)

-- the node of this kind whose events begin here; p: its first token that is not trivia
unfoldable pub node_on : List ℕ → List Token → ℕ → ℕ → List Event → Seat → Out → Out
unfolding inside_on
node_on bytes ts first kind es p (out s reports) = settled kind s (inside_on bytes ts first es (on (walk_at p s) reports))

-- ---------------------------------------------------------------- from node to node

abbrev pub found : ℕ → ℕ → ℕ → Found
found i kind behind = record { event = i; kind = kind; behind = behind }

abbrev pub none_found : ℕ → ℕ → NoneFound
none_found i behind = record { events = i; behind = behind }

-- i: the first of these events. behind: how many tokens that are not trivia were taken.
unfoldable pub next_judged : List Event → ℕ → ℕ → Result Found NoneFound
next_judged [] i behind = Err (none_found i behind)
next_judged (Start k ∷ es) i behind = let later = next_judged es (i + 1) behind in cond (judged_kind k) (Ok (found i k behind)) later
next_judged (AddToken ∷ es) i behind = next_judged es (i + 1) (low (behind + 1))
next_judged (Name n ∷ es) i behind = next_judged es (i + 1) (low (behind + n))
next_judged (Finish ∷ es) i behind = next_judged es (i + 1) behind
next_judged (Other ∷ es) i behind = next_judged es (i + 1) behind

-- p: the place from which `behind` counts
unfoldable pub nodes_on : List ℕ → List Token → ℕ → List Event → ℕ → Seat → Out → Out
unfolding solid_after node_on
nodes_on bytes ts first [] behind p x = x
nodes_on bytes ts first (Start k ∷ es) behind p x =
    let q = solid_after behind ts p in
    let here = nodes_on bytes ts first es 0 q (node_on bytes ts first k es q x) in
    cond (judged_kind k) here (nodes_on bytes ts first es behind p x)
nodes_on bytes ts first (AddToken ∷ es) behind p x = nodes_on bytes ts first es (low (behind + 1)) p x
nodes_on bytes ts first (Name n ∷ es) behind p x = nodes_on bytes ts first es (low (behind + n)) p x
nodes_on bytes ts first (Finish ∷ es) behind p x = nodes_on bytes ts first es behind p x
nodes_on bytes ts first (Other ∷ es) behind p x = nodes_on bytes ts first es behind p x

-- ---------------------------------------------------------------- all

unfoldable pub strict_on : ℕ → List ℕ → List Token → ℕ → List Event → Out → Out
unfolding solid_after node_on nodes_on
strict_on kind bytes ts first es x =
    cond (judged_kind kind) (node_on bytes ts first kind es (solid_after 0 ts (seat 0 0)) x) (nodes_on bytes ts first es 0 (seat 0 0) x)

unfoldable pub names_on : ℕ → ℕ → List ℕ → List Token → ℕ → ℕ → List ℕ → List ℕ → Out
unfolding strict_on shown
names_on setting kind bytes ts written first events reports =
    let begun = out (Ok written) reports in
    cond (eqb setting OLD_SETTING) begun (strict_on kind bytes ts first (shown events) begun)
