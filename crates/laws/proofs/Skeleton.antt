-- Skeletons side by side: joining is associative with `done` as its unit, and what is read off a join (pushes, events,
-- reports, what it leaves) is read off its pieces in turn.
use Prim.Native.Nat.{ℕ, zero, suc, ◌+◌, ◌-◌}
use native.Mathlib.Nat.{zero-add, add-zero}
use native.Mathlib.Omega.{arith}
use mathlib.Core.Path.{◌≡◌, refl, ap, sym, ◌∙◌}
use mathlib.Core.Bool.{Bool}
use mathlib.Core.List.{List, [], ◌∷◌, ◌++◌, append_assoc}
use lib.ListN.{length, length-append}
use Rattle.definitions.specs.Token.{Token, byte_count}
use Rattle.definitions.specs.Skeleton.{Label, no_label, label, Report, Skeleton, done, token, name, node, ignored, report, over, ◌⧺◌}
use Rattle.definitions.specs.Run.{closed}
use Rattle.definitions.specs.Event.{Event, StartNode, AddToken, AddCombinedToken, FinishNode, Placeholder, Error, forward, events}
use Rattle.definitions.specs.Place.{after}
use Rattle.definitions.specs.Report.{Push, event, reported, exceeded, pushes, reports, label_numbers, report_numbers, pool}
use Rattle.laws.specs.Pushes.{event_count}

-- ---------------------------------------------------------------- joining

pub join_done : (p : Skeleton) → p ⧺ done ≡ p
unfolding ◌⧺◌
join_done done = refl
join_done (token t m p) = ap (token t m) (join_done p)
join_done (name ts m p) = ap (name ts m) (join_done p)
join_done (node k m m' a i p) = ap (node k m m' a i) (join_done p)
join_done (ignored m m' a i p) = ap (ignored m m' a i) (join_done p)
join_done (report r p) = ap (report r) (join_done p)
join_done (over m p) = ap (over m) (join_done p)

pub join_assoc : (p q r : Skeleton) → (p ⧺ q) ⧺ r ≡ p ⧺ (q ⧺ r)
unfolding ◌⧺◌
join_assoc done q r = refl
join_assoc (token t m p) q r = ap (token t m) (join_assoc p q r)
join_assoc (name ts m p) q r = ap (name ts m) (join_assoc p q r)
join_assoc (node k m m' a i p) q r = ap (node k m m' a i) (join_assoc p q r)
join_assoc (ignored m m' a i p) q r = ap (ignored m m' a i) (join_assoc p q r)
join_assoc (report x p) q r = ap (report x) (join_assoc p q r)
join_assoc (over m p) q r = ap (over m) (join_assoc p q r)

-- ---------------------------------------------------------------- what is pushed

-- a marker's pushes are alike whether it is completed or ignored
pub pushes_closed : (k m m' : ℕ) (a i : Skeleton) → pushes (closed k m m' a i) ≡ pushes a ++ (event m ∷ (pushes i ++ (event m' ∷ [])))
unfolding pushes closed
pushes_closed zero m m' a i = refl
pushes_closed (suc k) m m' a i = refl

-- a list after the last piece of a list in three pieces
after_three : {A : Type 0} (a : List A) (x y : A) (i o l : List A) → a ++ (x ∷ (i ++ (y ∷ (o ++ l)))) ≡ (a ++ (x ∷ (i ++ (y ∷ o)))) ++ l
after_three a x y i o l = sym (append_assoc a _ l ∙ ap (λ (z : _). a ++ (x ∷ z)) (append_assoc i (y ∷ o) l))

pub pushes_join : (p q : Skeleton) → pushes (p ⧺ q) ≡ pushes p ++ pushes q
unfolding ◌⧺◌ pushes
pushes_join done q = refl
pushes_join (token t m p) q = ap (event m ∷◌) (pushes_join p q)
pushes_join (name ts m p) q = ap (event m ∷◌) (pushes_join p q)
pushes_join (node k m m' a i p) q =
    ap (λ (l : List Push). pushes a ++ (event m ∷ (pushes i ++ (event m' ∷ l)))) (pushes_join p q) ∙ after_three (pushes a) (event m) (event m') (pushes i) (pushes p) (pushes q)
pushes_join (ignored m m' a i p) q =
    ap (λ (l : List Push). pushes a ++ (event m ∷ (pushes i ++ (event m' ∷ l)))) (pushes_join p q) ∙ after_three (pushes a) (event m) (event m') (pushes i) (pushes p) (pushes q)
pushes_join (report r p) q = ap (reported r ∷◌) (pushes_join p q)
pushes_join (over m p) q = ap (exceeded m ∷◌) (pushes_join p q)

pub events_join : (linked : Bool) (p q : Skeleton) → events linked (p ⧺ q) ≡ events linked p ++ events linked q
unfolding ◌⧺◌ events
events_join b done q = refl
events_join b (token t m p) q = ap (AddToken ∷◌) (events_join b p q)
events_join b (name ts m p) q = ap (AddCombinedToken (length ts) ∷◌) (events_join b p q)
events_join b (node k m m' a i p) q =
    let s : Event = StartNode k (forward b (suc (suc (length (events Bool.false i))))) in
    ap (λ (l : List Event). events Bool.true a ++ (s ∷ (events Bool.false i ++ (FinishNode ∷ l)))) (events_join b p q)
    ∙ after_three (events Bool.true a) s FinishNode (events Bool.false i) (events b p) (events b q)
events_join b (ignored m m' a i p) q =
    ap (λ (l : List Event). events Bool.true a ++ (Placeholder ∷ (events Bool.false i ++ (Placeholder ∷ l)))) (events_join b p q)
    ∙ after_three (events Bool.true a) Placeholder Placeholder (events Bool.false i) (events b p) (events b q)
events_join b (report r p) q = ap (Error ∷◌) (events_join b p q)
events_join b (over m p) q = events_join b p q

pub event_count_append : (l m : List Push) → event_count (l ++ m) ≡ event_count l + event_count m
unfolding event_count
event_count_append [] m = sym (zero-add (event_count m))
event_count_append (event x ∷ l) m = let h : event_count (l ++ m) ≡ event_count l + event_count m = event_count_append l m in omega arith
event_count_append (reported r ∷ l) m = let h : event_count (l ++ m) ≡ event_count l + event_count m = event_count_append l m in omega arith
event_count_append (exceeded x ∷ l) m = event_count_append l m

-- what is pushed are the events, linked or not
pub events_length : (linked : Bool) (p : Skeleton) → length (events linked p) ≡ event_count (pushes p)
unfolding events pushes event_count
events_length b done = refl
events_length b (token t m p) = ap suc (events_length b p)
events_length b (name ts m p) = ap suc (events_length b p)
events_length b (node k m m' a i p) =
    let x : length (events Bool.true a) ≡ event_count (pushes a) = events_length Bool.true a in
    let y : length (events Bool.false i) ≡ event_count (pushes i) = events_length Bool.false i in
    let z : length (events b p) ≡ event_count (pushes p) = events_length b p in
    simp (length-append, event_count_append) (omega arith)
events_length b (ignored m m' a i p) =
    let x : length (events Bool.true a) ≡ event_count (pushes a) = events_length Bool.true a in
    let y : length (events Bool.false i) ≡ event_count (pushes i) = events_length Bool.false i in
    let z : length (events b p) ≡ event_count (pushes p) = events_length b p in
    simp (length-append, event_count_append) (omega arith)
events_length b (report r p) = ap suc (events_length b p)
events_length b (over m p) = events_length b p

-- ---------------------------------------------------------------- reports and pool

pub reports_append : (l m : List Push) → reports (l ++ m) ≡ reports l ++ reports m
unfolding reports
reports_append [] m = refl
reports_append (event x ∷ l) m = reports_append l m
reports_append (reported r ∷ l) m = ap (r ∷◌) (reports_append l m)
reports_append (exceeded x ∷ l) m = reports_append l m

pub pool_append : (l m : List Report) → pool (l ++ m) ≡ pool l ++ pool m
unfolding pool
pool_append [] m = refl
pool_append (r ∷ l) m = ap (r.pool ++◌) (pool_append l m) ∙ sym (append_assoc r.pool (pool l) (pool m))

pub label_append : (b : ℕ) (x : Label) (l m : List ℕ) → label_numbers b x (l ++ m) ≡ label_numbers b x l ++ m
label_append b no_label l m = refl
label_append b (label s) l m = refl

-- the rows of the later reports stand after those of the earlier, their first pool places after the earlier
-- expectations
pub report_numbers_append : (n b first : ℕ) (l m : List Report) → report_numbers n b first (l ++ m) ≡ report_numbers n b first l ++ report_numbers n b (first + length (pool l)) m
unfolding report_numbers pool
report_numbers_append n b first [] m = ap (λ (x : ℕ). report_numbers n b x m) (sym (add-zero first))
report_numbers_append n b first (r ∷ l) m =
    let e : first + length r.pool + length (pool l) ≡ first + length (r.pool ++ pool l) = simp length-append (omega arith) in
    ap (λ (x : List ℕ). r.message ∷ (b - r.range.from) ∷ (b - r.range.to) ∷ (n - r.mark) ∷ first ∷ length r.pool ∷ r.hint ∷ x)
    (ap (label_numbers b r.labelled) (report_numbers_append n b (first + length r.pool) l m ∙ ap (λ (x : ℕ). report_numbers n b (first + length r.pool) l ++ report_numbers n b x m) e)
    ∙ label_append b r.labelled (report_numbers n b (first + length r.pool) l) (report_numbers n b (first + length (r.pool ++ pool l)) m))

-- ---------------------------------------------------------------- raw tokens

pub bytes_append : (ts us : List Token) → byte_count (ts ++ us) ≡ byte_count ts + byte_count us
unfolding byte_count
bytes_append [] us = sym (zero-add (byte_count us))
bytes_append (t ∷ ts) us = let h : byte_count (ts ++ us) ≡ byte_count ts + byte_count us = bytes_append ts us in omega arith

-- what a join leaves is what its second piece leaves of what its first piece leaves
pub after_join : (p q : Skeleton) (ts : List Token) → after (p ⧺ q) ts ≡ after q (after p ts)
unfolding ◌⧺◌ after
after_join done q ts = refl
after_join (token t m p) q ts = after_join p q _
after_join (name raw m p) q ts = after_join p q _
after_join (node k m m' a i p) q ts = after_join p q _
after_join (ignored m m' a i p) q ts = after_join p q _
after_join (report r p) q ts = after_join p q ts
after_join (over m p) q ts = after_join p q ts
