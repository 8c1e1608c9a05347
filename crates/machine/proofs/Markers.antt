-- Markers: started, completed or ignored, preceded by another.
use Prim.Native.Nat.{ℕ, zero, suc, ◌+◌, ◌-◌, ◌/◌, ◌≤◌, ◌<◌}
use native.Mathlib.Omega.{arith}
use mathlib.Core.Path.{◌≡◌, refl, sym, ap, ◌∙◌, subst}
use mathlib.Core.Bool.{Bool, true, false}
use mathlib.Core.List.{List, [], ◌∷◌, ◌++◌, append_assoc}
use lib.Dec.{leb}
use lib.ListN.{length, length-append}
use borrow.Author.Tests.{leb-true, leb-false}
use Rattle.definitions.specs.Layout.{EVENT_ROW, REPORT_ROW, PLACEHOLDER, START_NODE, FINISH_NODE}
use Rattle.definitions.specs.Skeleton.{Report, Skeleton, done, node, ignored, ◌⧺◌}
use Rattle.definitions.specs.Refusal.{no_event_room}
use Rattle.definitions.specs.Prog.{Ans, yes}
use Rattle.definitions.specs.Event.{events}
use Rattle.definitions.specs.Run.{State, Out, mark_of, makes, closed, marked}
use Rattle.definitions.specs.Report.{Push, event, pushes, reports, fits, scan, pool}
use Rattle.laws.proofs.Skeleton.{pushes_join}
use Rattle.basics.specs.Word.{low}
use Rattle.machine.specs.Machine.{Machine, Marker, push, complete, precede}
use Rattle.machine.specs.Walk.{Walked, said, next_marker, close}
use Rattle.machine.specs.Walk as W
use Rattle.machine.specs.Encode.{start_tag}
use Rattle.machine.specs.Outcome.{Refused}
use Rattle.machine.proofs.Coded.{coded, coded_join, coded_length}
use Rattle.machine.proofs.Image.{Ground, image, rows_of, Inside}
use Rattle.machine.proofs.Stores.{complete_is, precede_fits, precede_full}
use Rattle.machine.proofs.Sticky.{Sticks, s_closed}
use Rattle.machine.proofs.Meets.{Sofar, Fitting, stand, Meets, goes, stop, grow, Tracks, room_at_first, Begins, begins_with, begins_then, begins_after, put, same_sofar, no_report, refused_event, event_full, event_fits, push_meets, meets_then}

-- ---------------------------------------------------------------- an open marker

-- a marker pushed at mark m and not closed yet. a: what stood before it. i: what was made since.
abbrev pub opened : Sofar → Skeleton → ℕ → Skeleton → Sofar
opened c a m i = record { numbers = c.numbers ++ (coded true a ++ (PLACEHOLDER ∷ 0 ∷ 0 ∷ coded false i)); pushed = c.pushed ++ (pushes a ++ (event m ∷ pushes i)) }

deeper : {A : Type 0} (n a i o : List A) → (n ++ (a ++ i)) ++ o ≡ n ++ (a ++ (i ++ o))
deeper n a i o = append_assoc n (a ++ i) o ∙ ap (λ (l : _). n ++ l) (append_assoc a i o)

pub opened_grow : (c : Sofar) (a : Skeleton) (m : ℕ) (i o : Skeleton) → grow (opened c a m i) o ≡ opened c a m (i ⧺ o)
opened_grow c a m i o =
    same_sofar _ _ _ _
    (deeper c.numbers (coded true a) (PLACEHOLDER ∷ 0 ∷ 0 ∷ coded false i) (coded false o) ∙ ap (λ (l : List ℕ). c.numbers ++ (coded true a ++ (PLACEHOLDER ∷ 0 ∷ 0 ∷ l))) (sym (coded_join false i o)))
    (deeper c.pushed (pushes a) (event m ∷ pushes i) (pushes o) ∙ ap (λ (l : List Push). c.pushed ++ (pushes a ++ (event m ∷ l))) (sym (pushes_join i o)))

opened_ignored : (c : Sofar) (a : Skeleton) (m : ℕ) (i : Skeleton) (m' : ℕ) → put (opened c a m i) PLACEHOLDER 0 0 m' ≡ grow c (ignored m m' a i done)
unfolding coded pushes
opened_ignored c a m i m' =
    same_sofar _ _ _ _
    (deeper c.numbers (coded true a) (PLACEHOLDER ∷ 0 ∷ 0 ∷ coded false i) (PLACEHOLDER ∷ 0 ∷ 0 ∷ []))
    (deeper c.pushed (pushes a) (event m ∷ pushes i) (event m' ∷ []))

-- its placeholder has become a start
abbrev started : Sofar → Skeleton → ℕ → Skeleton → ℕ → Sofar
started c a m i kind = record { numbers = c.numbers ++ (coded true a ++ (start_tag a ∷ kind ∷ 0 ∷ coded false i)); pushed = c.pushed ++ (pushes a ++ (event m ∷ pushes i)) }

started_node : (c : Sofar) (a : Skeleton) (m : ℕ) (i : Skeleton) (kind m' : ℕ) → put (started c a m i kind) FINISH_NODE 0 0 m' ≡ grow c (node kind m m' a i done)
unfolding coded pushes
started_node c a m i kind m' =
    same_sofar _ _ _ _
    (deeper c.numbers (coded true a) (start_tag a ∷ kind ∷ 0 ∷ coded false i) (FINISH_NODE ∷ 0 ∷ 0 ∷ []))
    (deeper c.pushed (pushes a) (event m ∷ pushes i) (event m' ∷ []))

-- only how many numbers are written counts
fitting_alike : (g : Ground) (e e' : List ℕ) (p : List Push) → length e ≡ length e' → Fitting g (record { numbers = e; pushed = p }) → Fitting g (record { numbers = e'; pushed = p })
fitting_alike g e e' p h f =
    record {
      events = subst (λ (n : ℕ). n ≤ length g.events) h f.events;
      rows = f.rows;
      codes = f.codes;
      room =
          f.room
          ∙ ap (λ (n : ℕ). fits (record { events = (length g.events - n) / EVENT_ROW; reports = (length g.reports - length (rows_of g (reports p))) / REPORT_ROW; pool = length g.pool - length (pool (reports p)) })) h;
    }

-- ---------------------------------------------------------------- closing it

module _ (g : Ground) (c : Sofar) (a : Skeleton) (m : ℕ) (i : Skeleton) (s : State) (f : Fitting g (opened c a m i)) (h : Inside g s) (x : Ans) where
  abbrev l : List Report
  l = reports (opened c a m i).pushed

  pub ignore_sim : Meets g (grow c (ignored m (mark_of s) a i done)) x 0 s (said x (push PLACEHOLDER 0 (stand g (opened c a m i) s)))
  ignore_sim =
      subst (λ (y : Sofar). Meets g y x 0 s (said x (push PLACEHOLDER 0 (stand g (opened c a m i) s)))) (opened_ignored c a m i (mark_of s)) (push_meets g (opened c a m i) f s PLACEHOLDER 0 x 0 h)

  pub complete_sim : (k : Marker) (kind : ℕ) → k.index ≡ length (c.numbers ++ coded true a) → k.tag ≡ start_tag a
      → Meets g (grow c (node kind m (mark_of s) a i done)) x 0 s (said x (complete k kind (stand g (opened c a m i) s)))
  complete_sim k kind e t =
      let p = c.numbers ++ coded true a in
      let q : (y z : ℕ) → p ++ (y ∷ z ∷ 0 ∷ coded false i) ≡ c.numbers ++ (coded true a ++ (y ∷ z ∷ 0 ∷ coded false i)) = λ y z. append_assoc c.numbers (coded true a) (y ∷ z ∷ 0 ∷ coded false i) in
      let n : length (opened c a m i).numbers ≡ length (started c a m i kind).numbers = simp length-append in
      let is : complete k kind (stand g (opened c a m i) s) ≡ push FINISH_NODE 0 (stand g (started c a m i kind) s) =
      ap (λ (u : List ℕ). complete k kind (image g u l s)) (sym (q 0 0))
      ∙ complete_is g l s p (coded false i) k kind e (subst (λ (u : List ℕ). length u ≤ length g.events) (sym (q 0 0)) f.events)
      ∙ ap (λ (y : ℕ). push FINISH_NODE 0 (image g (p ++ (y ∷ kind ∷ 0 ∷ coded false i)) l s)) t
      ∙ ap (λ (u : List ℕ). push FINISH_NODE 0 (image g u l s)) (q (start_tag a) kind) in
      subst (λ (w : Machine). Meets g (grow c (node kind m (mark_of s) a i done)) x 0 s (said x w)) (sym is)
      (subst (λ (y : Sofar). Meets g y x 0 s (said x (push FINISH_NODE 0 (stand g (started c a m i kind) s)))) (started_node c a m i kind (mark_of s))
      (push_meets g (started c a m i kind) (fitting_alike g (opened c a m i).numbers (started c a m i kind).numbers (opened c a m i).pushed n f) s FINISH_NODE 0 x 0 h))

  -- completed or ignored
  pub close_sim : (k : Marker) (shape : ℕ) → k.index ≡ length (c.numbers ++ coded true a) → k.tag ≡ start_tag a
      → Meets g (grow c (closed shape m (mark_of s) a i)) x 0 s (W.marked k (record { ans = x; shape = shape; on = stand g (opened c a m i) s }))
  unfolding closed W.marked close
  close_sim k zero e t = ignore_sim
  close_sim k (suc n) e t = complete_sim k (suc n) e t

-- ---------------------------------------------------------------- mark

pub begins_closed : (k m m' : ℕ) (a i : Skeleton) → Begins (pushes a ++ (event m ∷ pushes i)) (pushes (closed k m m' a i))
unfolding closed pushes
begins_closed zero m m' a i = record { more = event m' ∷ []; joins = append_assoc (pushes a) (event m ∷ pushes i) (event m' ∷ []) }
begins_closed (suc k) m m' a i = record { more = event m' ∷ []; joins = append_assoc (pushes a) (event m ∷ pushes i) (event m' ∷ []) }

pub start_index : (g : Ground) (c : Sofar) (s : State) → (next_marker START_NODE (stand g c s)).index ≡ length (c.numbers ++ coded true done)
unfolding image coded
start_index g c s = simp length-append (omega arith)

pub mark_sim : (g : Ground) (f : State → Out) (h : Machine → Walked) → Tracks g f h → Sticks g.tokens h → Tracks g (λ s. marked s (f s)) (λ m. W.marked (next_marker START_NODE m) (h (push PLACEHOLDER 0 m)))
unfolding marked makes coded pushes ◌⧺◌
mark_sim g f h t st c s fit i =
    let M = stand g c s in
    let k = next_marker START_NODE M in
    let m = mark_of s in
    let o = f s in
    let m' = mark_of o.state in
    let end = grow c (closed o.shape m m' done o.made) in
    let w = W.marked k (h (push PLACEHOLDER 0 M)) in
    let mid = opened c done m o.made in
    let b₂ : Begins mid.pushed end.pushed = begins_after c.pushed (event m ∷ pushes o.made) (pushes (closed o.shape m m' done o.made)) (begins_closed o.shape m m' done o.made) in
    let b₁ : Begins (opened c done m done).pushed mid.pushed = begins_after c.pushed (event m ∷ []) (event m ∷ pushes o.made) (begins_with (event m ∷ []) (pushes o.made)) in
    meets_then g (opened c done m done) end yes o.ans 0 0 s o.state (said yes (push PLACEHOLDER 0 M)) w
    (begins_then (opened c done m done).pushed mid.pushed end.pushed b₁ b₂)
    (push_meets g c fit s PLACEHOLDER 0 yes 0 i)
    (λ fit₁ i₁ e₁.
    meets_then g mid end o.ans o.ans o.shape 0 o.state o.state (h (push PLACEHOLDER 0 M)) w b₂
    (subst (λ (v : Walked). Meets g mid o.ans o.shape o.state (h v.on)) (sym e₁)
    (subst (λ (y : Sofar). Meets g y o.ans o.shape o.state (h (stand g (opened c done m done) s))) (opened_grow c done m done o.made) (t (opened c done m done) s fit₁ i₁)))
    (λ fit₂ i₂ e₂. subst (λ (v : Walked). Meets g end o.ans 0 o.state (W.marked k v)) (sym e₂)
    (close_sim g c done m o.made o.state fit₂ i₂ o.ans k o.shape (start_index g c s) refl))
    (λ r q. s_closed g.tokens r k (h (push PLACEHOLDER 0 M)) q))
    (λ r q. s_closed g.tokens r k (h (push PLACEHOLDER 0 M)) (st r (push PLACEHOLDER 0 M) q))

-- ---------------------------------------------------------------- precede

-- how far a node's start is from the marker after it
distance : (i : Skeleton) → suc (length (coded false i ++ (FINISH_NODE ∷ 0 ∷ 0 ∷ [])) / EVENT_ROW) ≡ suc (suc (length (events false i)))
distance i = let n : length (coded false i ++ (FINISH_NODE ∷ 0 ∷ 0 ∷ [])) ≡ length (coded false i) + EVENT_ROW = length-append (coded false i) (FINISH_NODE ∷ 0 ∷ 0 ∷ []) in omega (arith, coded_length false i)

-- linked or not, a node has as many numbers
pub linked_length : (c : Sofar) (kind m m' : ℕ) (a i : Skeleton) → length (c.numbers ++ coded false (node kind m m' a i done)) ≡ length (c.numbers ++ coded true (node kind m m' a i done))
unfolding coded
linked_length c kind m m' a i = simp length-append

module _ (g : Ground) (c : Sofar) (kind m m' : ℕ) (a i : Skeleton) (s : State) (f : Fitting g (grow c (node kind m m' a i done))) (h : Inside g s) (x : Ans) (k : Marker) (e : k.index ≡ length (c.numbers ++ coded true a)) where
  abbrev N : Skeleton
  N = node kind m m' a i done

  abbrev lp : List Report
  lp = reports (grow c N).pushed

  abbrev next : Sofar
  next = opened c N (mark_of s) done

  -- what is pushed is pushed after
  pushed_is : (grow c N).pushed ++ (event (mark_of s) ∷ []) ≡ next.pushed
  unfolding pushes
  pushed_is = append_assoc c.pushed (pushes N) (event (mark_of s) ∷ [])

  precede_is : length (grow c N).numbers + EVENT_ROW ≤ length g.events → precede k (stand g (grow c N) s) ≡ stand g next s
  unfolding coded pushes
  precede_is enough =
      let p = c.numbers ++ coded true a in
      let fi = coded false i ++ (FINISH_NODE ∷ 0 ∷ 0 ∷ []) in
      let q : (z : ℕ) → p ++ (start_tag a ∷ kind ∷ z ∷ fi) ≡ c.numbers ++ (coded true a ++ (start_tag a ∷ kind ∷ z ∷ fi)) = λ z. append_assoc c.numbers (coded true a) (start_tag a ∷ kind ∷ z ∷ fi) in
      let r : reports (grow c N).pushed ≡ reports next.pushed = sym (no_report (grow c N).pushed (mark_of s)) ∙ ap reports pushed_is in
      let d = low (suc (suc (length (events false i)))) in
      ap (λ (u : List ℕ). precede k (image g u lp s)) (sym (q 0))
      ∙ precede_fits g lp s p fi (start_tag a) kind 0 k e (subst (λ (u : List ℕ). length u + EVENT_ROW ≤ length g.events) (sym (q 0)) enough)
      ∙ ap (λ (z : ℕ). image g ((p ++ (start_tag a ∷ kind ∷ low z ∷ fi)) ++ (PLACEHOLDER ∷ 0 ∷ 0 ∷ [])) lp s) (distance i)
      ∙ ap (λ (u : List ℕ). image g (u ++ (PLACEHOLDER ∷ 0 ∷ 0 ∷ [])) lp s) (q d)
      ∙ ap (λ (u : List ℕ). image g u lp s) (append_assoc c.numbers (coded true a ++ (start_tag a ∷ kind ∷ d ∷ fi)) (PLACEHOLDER ∷ 0 ∷ 0 ∷ []))
      ∙ ap (λ (u : List Report). image g next.numbers u s) r

  precede_fitting : length (grow c N).numbers + EVENT_ROW ≤ length g.events → Fitting g next
  unfolding coded
  precede_fitting enough =
      let n : length ((grow c N).numbers ++ (PLACEHOLDER ∷ 0 ∷ 0 ∷ [])) ≡ length next.numbers = simp length-append (omega arith) in
      subst (λ (u : List Push). Fitting g (record { numbers = next.numbers; pushed = u })) pushed_is
      (fitting_alike g ((grow c N).numbers ++ (PLACEHOLDER ∷ 0 ∷ 0 ∷ [])) next.numbers ((grow c N).pushed ++ (event (mark_of s) ∷ [])) n (event_fits g (grow c N) f PLACEHOLDER 0 0 (mark_of s) enough))

  pub precede_sim : Meets g next x 0 s (said x (precede k (stand g (grow c N) s)))
  precede_sim = by_fit (leb (length (grow c N).numbers + EVENT_ROW) (length g.events)) refl
    where
      by_fit : (b : Bool) → leb (length (grow c N).numbers + EVENT_ROW) (length g.events) ≡ b → Meets g next x 0 s (said x (precede k (stand g (grow c N) s)))
      by_fit true q = let enough : length (grow c N).numbers + EVENT_ROW ≤ length g.events = leb-true _ _ q in goes (precede_fitting enough) h (ap (λ (w : Machine). said x w) (precede_is enough))
      by_fit false q =
          let full : length g.events < length (grow c N).numbers + EVENT_ROW = leb-false _ _ q in
          stop (no_event_room (mark_of s))
          (ap (λ (u : List Push). scan u (room_at_first g)) (sym pushed_is) ∙ event_full g (grow c N) f (mark_of s) full)
          (subst (Refused g.tokens (no_event_room (mark_of s))) (sym (precede_full g lp s (grow c N).numbers k f.events full)) (refused_event g (grow c N).numbers lp s))
