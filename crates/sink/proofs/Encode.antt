-- The rows of a skeleton's events: they say those events, there are as many, and they are joined as skeletons are.
use native.Mathlib.Omega.{arith}
use Prim.Native.Nat.{ℕ, suc, ◌+◌, ◌*◌}
use mathlib.Core.Path.{◌≡◌, refl, sym, ◌∙◌, ap}
use mathlib.Core.Bool.{Bool, true, false}
use mathlib.Core.List.{List, [], ◌∷◌, ◌++◌, append_assoc, append-nil}
use lib.ListN.{length, length-append}
use Rattle.definitions.specs.Layout.{EVENT_ROW, PLACEHOLDER, ADD_TOKEN, ADD_COMBINED_TOKEN, FINISH_NODE, ERROR}
use Rattle.definitions.specs.Skeleton.{Skeleton, done, token, name, node, ignored, report, over, ◌⧺◌}
use Rattle.definitions.specs.Event.{Event, StartNode, AddToken, AddCombinedToken, FinishNode, Placeholder, Error, forward, events}
use Rattle.definitions.specs.Report.{Push, event, reported, exceeded, pushes, reports}
use Rattle.machine.specs.Encode.{start_tag, encode}
use Rattle.sink.specs.Encode.{event_row, event_of, decode, Chained}

start_of : (a : Skeleton) (k d : ℕ) → event_of (start_tag a) k d ≡ StartNode k d
unfolding event_of
start_of done k d = refl
start_of (token t m o) k d = refl
start_of (name ts m o) k d = refl
start_of (node j m m' a i o) k d = refl
start_of (ignored m m' a i o) k d = refl
start_of (report r o) k d = refl
start_of (over m o) k d = refl

-- the rows say the skeleton's events, whatever rows follow
decode_before : (l : Bool) (o : Skeleton) (x : List ℕ) → decode (encode l o ++ x) ≡ events l o ++ decode x
unfolding encode events decode event_of
decode_before l done x = refl
decode_before l (token t m o) x = ap (λ q. AddToken ∷ q) (decode_before l o x)
decode_before l (name ts m o) x = ap (λ q. AddCombinedToken (length ts) ∷ q) (decode_before l o x)
decode_before l (node k m m' a i o) x =
    let d = forward l (suc (suc (length (events false i)))) in
    let y : List ℕ = encode false i ++ event_row FINISH_NODE 0 0 (encode l o) in
    ap decode (append_assoc (encode true a) (event_row (start_tag a) k d y) x)
    ∙ decode_before true a (event_row (start_tag a) k d (y ++ x))
    ∙ ap (λ q. events true a ++ q)
    (ap (λ e. e ∷ decode (y ++ x)) (start_of a k d)
    ∙ ap (λ q. StartNode k d ∷ q)
    (ap decode (append_assoc (encode false i) (event_row FINISH_NODE 0 0 (encode l o)) x)
    ∙ decode_before false i (event_row FINISH_NODE 0 0 (encode l o ++ x))
    ∙ ap (λ q. events false i ++ FinishNode ∷ q) (decode_before l o x)
    ∙ sym (append_assoc (events false i) (FinishNode ∷ events l o) (decode x))))
    ∙ sym (append_assoc (events true a) (StartNode k d ∷ (events false i ++ FinishNode ∷ events l o)) (decode x))
decode_before l (ignored m m' a i o) x =
    let y : List ℕ = encode false i ++ event_row PLACEHOLDER 0 0 (encode l o) in
    ap decode (append_assoc (encode true a) (event_row PLACEHOLDER 0 0 y) x)
    ∙ decode_before true a (event_row PLACEHOLDER 0 0 (y ++ x))
    ∙ ap (λ q. events true a ++ Placeholder ∷ q)
    (ap decode (append_assoc (encode false i) (event_row PLACEHOLDER 0 0 (encode l o)) x)
    ∙ decode_before false i (event_row PLACEHOLDER 0 0 (encode l o ++ x))
    ∙ ap (λ q. events false i ++ Placeholder ∷ q) (decode_before l o x)
    ∙ sym (append_assoc (events false i) (Placeholder ∷ events l o) (decode x)))
    ∙ sym (append_assoc (events true a) (Placeholder ∷ (events false i ++ Placeholder ∷ events l o)) (decode x))
decode_before l (report r o) x = ap (λ q. Error ∷ q) (decode_before l o x)
decode_before l (over m o) x = decode_before l o x

-- THE ROWS SAY THE EVENTS
pub decode_encode : (l : Bool) (o : Skeleton) → decode (encode l o) ≡ events l o
unfolding decode
decode_encode l o = ap decode (sym (append-nil (encode l o))) ∙ decode_before l o [] ∙ append-nil (events l o)

-- ---------------------------------------------------------------- how many

-- the events of a skeleton
unfoldable pub event_count : Skeleton → ℕ
event_count done = 0
event_count (token t m o) = suc (event_count o)
event_count (name ts m o) = suc (event_count o)
event_count (node k m m' a i o) = event_count a + (event_count i + event_count o + 2)
event_count (ignored m m' a i o) = event_count a + (event_count i + event_count o + 2)
event_count (report r o) = suc (event_count o)
event_count (over m o) = event_count o

-- linked or not, there are as many
pub events_length : (l : Bool) (o : Skeleton) → length (events l o) ≡ event_count o
unfolding events event_count
events_length l done = refl
events_length l (token t m o) = omega (arith, events_length l o)
events_length l (name ts m o) = omega (arith, events_length l o)
events_length l (node k m m' a i o) =
    simp length-append (omega (arith, events_length true a, events_length false i, events_length l o))
events_length l (ignored m m' a i o) =
    simp length-append (omega (arith, events_length true a, events_length false i, events_length l o))
events_length l (report r o) = omega (arith, events_length l o)
events_length l (over m o) = events_length l o

pub encode_count : (l : Bool) (o : Skeleton) → length (encode l o) ≡ event_count o * EVENT_ROW
unfolding encode event_count
encode_count l done = refl
encode_count l (token t m o) = omega (arith, encode_count l o)
encode_count l (name ts m o) = omega (arith, encode_count l o)
encode_count l (node k m m' a i o) =
    simp length-append (omega (arith, encode_count true a, encode_count false i, encode_count l o))
encode_count l (ignored m m' a i o) =
    simp length-append (omega (arith, encode_count true a, encode_count false i, encode_count l o))
encode_count l (report r o) = omega (arith, encode_count l o)
encode_count l (over m o) = encode_count l o

-- a row for each event
pub encode_length : (l : Bool) (o : Skeleton) → length (encode l o) ≡ length (events l o) * EVENT_ROW
encode_length l o = omega (arith, encode_count l o, events_length l o)

-- the errors among events
unfoldable pub errors_in : List Event → ℕ
errors_in [] = 0
errors_in (StartNode k d ∷ l) = errors_in l
errors_in (AddToken ∷ l) = errors_in l
errors_in (AddCombinedToken n ∷ l) = errors_in l
errors_in (FinishNode ∷ l) = errors_in l
errors_in (Placeholder ∷ l) = errors_in l
errors_in (Error ∷ l) = suc (errors_in l)

errors_append : (x y : List Event) → errors_in (x ++ y) ≡ errors_in x + errors_in y
unfolding errors_in
errors_append [] y = omega arith
errors_append (StartNode k d ∷ l) y = errors_append l y
errors_append (AddToken ∷ l) y = errors_append l y
errors_append (AddCombinedToken n ∷ l) y = errors_append l y
errors_append (FinishNode ∷ l) y = errors_append l y
errors_append (Placeholder ∷ l) y = errors_append l y
errors_append (Error ∷ l) y = omega (arith, errors_append l y)

reports_append : (x y : List Push) → length (reports (x ++ y)) ≡ length (reports x) + length (reports y)
unfolding reports
reports_append [] y = omega arith
reports_append (event m ∷ l) y = reports_append l y
reports_append (reported r ∷ l) y = omega (arith, reports_append l y)
reports_append (exceeded m ∷ l) y = reports_append l y

-- an error event for each report
pub errors_reports : (l : Bool) (o : Skeleton) → errors_in (events l o) ≡ length (reports (pushes o))
unfolding events pushes reports errors_in
errors_reports l done = refl
errors_reports l (token t m o) = errors_reports l o
errors_reports l (name ts m o) = errors_reports l o
errors_reports l (node k m m' a i o) =
    simp (errors_append, reports_append) (omega (arith, errors_reports true a, errors_reports false i, errors_reports l o))
errors_reports l (ignored m m' a i o) =
    simp (errors_append, reports_append) (omega (arith, errors_reports true a, errors_reports false i, errors_reports l o))
errors_reports l (report r o) = omega (arith, errors_reports l o)
errors_reports l (over m o) = errors_reports l o

-- ---------------------------------------------------------------- joined

pub encode_join : (l : Bool) (o p : Skeleton) → encode l (o ⧺ p) ≡ encode l o ++ encode l p
unfolding encode ◌⧺◌
encode_join l done p = refl
encode_join l (token t m o) p = ap (event_row ADD_TOKEN 0 0) (encode_join l o p)
encode_join l (name ts m o) p = ap (event_row ADD_COMBINED_TOKEN (length ts) 0) (encode_join l o p)
encode_join l (node k m m' a i o) p =
    let s : List ℕ → List ℕ = event_row (start_tag a) k (forward l (suc (suc (length (events false i))))) in
    ap (λ x. encode true a ++ s (encode false i ++ event_row FINISH_NODE 0 0 x)) (encode_join l o p)
    ∙ ap (λ x. encode true a ++ s x) (sym (append_assoc (encode false i) (event_row FINISH_NODE 0 0 (encode l o)) (encode l p)))
    ∙ sym (append_assoc (encode true a) (s (encode false i ++ event_row FINISH_NODE 0 0 (encode l o))) (encode l p))
encode_join l (ignored m m' a i o) p =
    ap (λ x. encode true a ++ event_row PLACEHOLDER 0 0 (encode false i ++ event_row PLACEHOLDER 0 0 x)) (encode_join l o p)
    ∙ ap (λ x. encode true a ++ event_row PLACEHOLDER 0 0 x) (sym (append_assoc (encode false i) (event_row PLACEHOLDER 0 0 (encode l o)) (encode l p)))
    ∙ sym (append_assoc (encode true a) (event_row PLACEHOLDER 0 0 (encode false i ++ event_row PLACEHOLDER 0 0 (encode l o))) (encode l p))
encode_join l (report r o) p = ap (event_row ERROR 0 0) (encode_join l o p)
encode_join l (over m o) p = encode_join l o p

pub chained_join : (o p : Skeleton) → Chained o → Chained p → Chained (o ⧺ p)
unfolding Chained ◌⧺◌
chained_join done p h g = g
chained_join (token t m o) p h g = chained_join o p h g
chained_join (name ts m o) p h g = chained_join o p h g
chained_join (node k m m' a i o) p h g = (h.0, (h.1.0, (h.1.1.0, chained_join o p h.1.1.1 g)))
chained_join (ignored m m' a i o) p h g = (h.0, (h.1.0, (h.1.1.0, chained_join o p h.1.1.1 g)))
chained_join (report r o) p h g = chained_join o p h g
chained_join (over m o) p h g = chained_join o p h g
