-- Rows written: what pushing an event, completing a marker, preceding one and writing a report make of the machine,
-- where they fit and where they do not.
use Prim.Native.Nat.{ℕ, suc, ◌+◌, ◌-◌, ◌/◌, ◌≤◌, ◌<◌}
use native.Mathlib.Omega.{arith}
use mathlib.Core.Path.{◌≡◌, refl, sym, ap, ◌∙◌}
use mathlib.Core.Bool.{Bool, true, false, cond, ◌&&◌}
use mathlib.Core.List.{List, [], ◌∷◌, ◌++◌, append_assoc, append-nil}
use lib.Dec.{leb, eqb}
use lib.ListN.{length, length-append}
use lib.Seq.{sets}
use borrow.Author.Tests.{le-leb, lt-leb}
use Rattle.definitions.specs.Layout.{EVENT_ROW, EVENT_DISTANCE, REPORT_ROW, PLACEHOLDER, FINISH_NODE, NO_EVENT_ROOM, NO_REPORT_ROOM}
use Rattle.definitions.specs.Token.{byte_count}
use Rattle.definitions.specs.Skeleton.{Span, Report}
use Rattle.definitions.specs.Run.{State, pool_of}
use Rattle.definitions.specs.Report.{pool}
use Rattle.laws.proofs.Skeleton.{pool_append}
use Rattle.basics.specs.Word.{low}
use Rattle.machine.specs.Machine.{Buffer, Machine, Marker, with_events, with_reports, refuse, fits, push_row, push, put_start, complete, put_link, precede, report_row, pool_count, write_report}
use Rattle.machine.specs.Outcome.{onto}
use Rattle.machine.proofs.Buffers.{length_onto, sets_after, sets_onto}
use Rattle.machine.proofs.Coded.{low_rows, low_rows_append}
use Rattle.machine.proofs.Image.{Ground, held_of, image, written, rows_of}

-- ---------------------------------------------------------------- one buffer

fits_true : (len at n : ℕ) → at + n ≤ len → fits len at n ≡ true
fits_true len at n h = rw (le-leb at len (omega arith), le-leb n (len - at) (omega arith))

fits_false : (len at n : ℕ) → at ≤ len → len < at + n → fits len at n ≡ false
fits_false len at n k h = rw (le-leb at len k, lt-leb n (len - at) (omega arith))

-- a row right after what is written
row_after : (l vs b : List ℕ) (n : ℕ) → length vs ≡ n → length l + n ≤ length b → ◌≡◌ {A = Buffer} (record { count = length l + n; numbers = sets (onto l b) (length l) vs }) (written (l ++ vs) b)
row_after l vs b n e h =
    let c : length l + n ≡ length (l ++ vs) = simp length-append (omega arith) in
    ap (λ (k : ℕ). record { count = k; numbers = sets (onto l b) (length l) vs }) c
    ∙ ap (λ (x : List ℕ). record { count = length (l ++ vs); numbers = x }) (sets_after l vs b (omega arith))

module _ (g : Ground) (l : List Report) (s : State) where
  -- ---------------------------------------------------------------- an event pushed

  pub push_fits : (e : List ℕ) (tag v : ℕ) → length e + EVENT_ROW ≤ length g.events → push tag v (image g e l s) ≡ image g (e ++ (tag ∷ v ∷ 0 ∷ [])) l s
  unfolding image push push_row
  push_fits e tag v h =
      let t : fits (length (onto e g.events)) (length e) EVENT_ROW ≡ true = fits_true (length (onto e g.events)) (length e) EVENT_ROW (rw (length_onto e g.events (omega arith)) h) in
      ap (λ (b : Bool). cond b (with_events (record { count = length e + EVENT_ROW; numbers = sets (onto e g.events) (length e) (tag ∷ v ∷ 0 ∷ []) }) (image g e l s)) (refuse NO_EVENT_ROOM (image g e l s))) t
      ∙ ap (λ (x : Buffer). with_events x (image g e l s)) (row_after e (tag ∷ v ∷ 0 ∷ []) g.events EVENT_ROW refl h)

  pub push_full : (e : List ℕ) (tag v : ℕ) → length e ≤ length g.events → length g.events < length e + EVENT_ROW → push tag v (image g e l s) ≡ refuse NO_EVENT_ROOM (image g e l s)
  unfolding image push push_row
  push_full e tag v k h =
      let t : fits (length (onto e g.events)) (length e) EVENT_ROW ≡ false = fits_false (length (onto e g.events)) (length e) EVENT_ROW (rw (length_onto e g.events k) k) (rw (length_onto e g.events k) h) in
      ap (λ (b : Bool). cond b (with_events (record { count = length e + EVENT_ROW; numbers = sets (onto e g.events) (length e) (tag ∷ v ∷ 0 ∷ []) }) (image g e l s)) (refuse NO_EVENT_ROOM (image g e l s))) t

  -- ---------------------------------------------------------------- a marker completed

  -- the placeholder after p becomes a start
  start_is : (p f : List ℕ) (k : Marker) (kind : ℕ) → k.index ≡ length p → length (p ++ (PLACEHOLDER ∷ 0 ∷ 0 ∷ f)) ≤ length g.events
      → with_events (record { count = length (p ++ (PLACEHOLDER ∷ 0 ∷ 0 ∷ f)); numbers = put_start k kind (onto (p ++ (PLACEHOLDER ∷ 0 ∷ 0 ∷ f)) g.events) }) (image g (p ++ (PLACEHOLDER ∷ 0 ∷ 0 ∷ f)) l s)
      ≡ image g (p ++ (k.tag ∷ kind ∷ 0 ∷ f)) l s
  unfolding image
  start_is p f k kind e h =
      let m = image g (p ++ (PLACEHOLDER ∷ 0 ∷ 0 ∷ f)) l s in
      let o = onto (p ++ (PLACEHOLDER ∷ 0 ∷ 0 ∷ f)) g.events in
      let c : length (p ++ (PLACEHOLDER ∷ 0 ∷ 0 ∷ f)) ≡ length (p ++ (k.tag ∷ kind ∷ 0 ∷ f)) = simp length-append in
      let n : length p + EVENT_ROW ≤ length o = rw (length_onto (p ++ (PLACEHOLDER ∷ 0 ∷ 0 ∷ f)) g.events h) (omega (arith, length-append p (PLACEHOLDER ∷ 0 ∷ 0 ∷ f))) in
      let t : put_start k kind o ≡ onto (p ++ (k.tag ∷ kind ∷ 0 ∷ f)) g.events =
      ap (λ (i : ℕ). cond (fits (length o) i EVENT_ROW) (sets o i (k.tag ∷ kind ∷ [])) o) e
      ∙ ap (λ (b : Bool). cond b (sets o (length p) (k.tag ∷ kind ∷ [])) o) (fits_true (length o) (length p) EVENT_ROW n)
      ∙ sets_onto p (0 ∷ 0 ∷ []) (0 ∷ f) (k.tag ∷ kind ∷ []) g.events refl in
      ap (λ (x : List ℕ). with_events (record { count = length (p ++ (PLACEHOLDER ∷ 0 ∷ 0 ∷ f)); numbers = x }) m) t
      ∙ ap (λ (i : ℕ). with_events (record { count = i; numbers = onto (p ++ (k.tag ∷ kind ∷ 0 ∷ f)) g.events }) m) c

  pub complete_is : (p f : List ℕ) (k : Marker) (kind : ℕ) → k.index ≡ length p → length (p ++ (PLACEHOLDER ∷ 0 ∷ 0 ∷ f)) ≤ length g.events
      → complete k kind (image g (p ++ (PLACEHOLDER ∷ 0 ∷ 0 ∷ f)) l s) ≡ push FINISH_NODE 0 (image g (p ++ (k.tag ∷ kind ∷ 0 ∷ f)) l s)
  unfolding complete push image
  complete_is p f k kind e h = ap (λ (m : Machine). push_row FINISH_NODE 0 m) (start_is p f k kind e h)

  -- ---------------------------------------------------------------- a marker preceded

  -- how many events lie between
  gap : (p f : List ℕ) (x y z : ℕ) → (length (p ++ (x ∷ y ∷ z ∷ f)) - length p) / EVENT_ROW ≡ suc (length f / EVENT_ROW)
  gap p f x y z = omega (arith, length-append p (x ∷ y ∷ z ∷ f))

  -- the start after p is linked to what comes next
  link_is : (p f : List ℕ) (x y z : ℕ) → length ((p ++ (x ∷ y ∷ z ∷ f)) ++ (PLACEHOLDER ∷ 0 ∷ 0 ∷ [])) ≤ length g.events
      → put_link (length p) (length (p ++ (x ∷ y ∷ z ∷ f))) (onto ((p ++ (x ∷ y ∷ z ∷ f)) ++ (PLACEHOLDER ∷ 0 ∷ 0 ∷ [])) g.events)
      ≡ onto ((p ++ (x ∷ y ∷ low (suc (length f / EVENT_ROW)) ∷ f)) ++ (PLACEHOLDER ∷ 0 ∷ 0 ∷ [])) g.events
  link_is p f x y z h =
      let r : List ℕ = PLACEHOLDER ∷ 0 ∷ 0 ∷ [] in
      let d = low ((length (p ++ (x ∷ y ∷ z ∷ f)) - length p) / EVENT_ROW) in
      let o = onto ((p ++ (x ∷ y ∷ z ∷ f)) ++ r) g.events in
      let q = p ++ (x ∷ y ∷ []) in
      let a : length (p ++ (x ∷ y ∷ z ∷ f)) ≡ length p + suc (suc (suc (length f))) = length-append p (x ∷ y ∷ z ∷ f) in
      let n : length p + EVENT_ROW ≤ length o = rw (length_onto ((p ++ (x ∷ y ∷ z ∷ f)) ++ r) g.events h) (omega (arith, h, a, length-append (p ++ (x ∷ y ∷ z ∷ f)) r)) in
      let c : (fits (length o) (length p) EVENT_ROW && leb (length p) (length (p ++ (x ∷ y ∷ z ∷ f)))) ≡ true =
      rw (fits_true (length o) (length p) EVENT_ROW n, le-leb (length p) (length (p ++ (x ∷ y ∷ z ∷ f))) (omega arith)) in
      let w : length p + EVENT_DISTANCE ≡ length q = simp length-append in
      let v : (i : ℕ) → (p ++ (x ∷ y ∷ i ∷ f)) ++ r ≡ q ++ ((i ∷ []) ++ (f ++ r)) = λ i. append_assoc p (x ∷ y ∷ i ∷ f) r ∙ sym (append_assoc p (x ∷ y ∷ []) (i ∷ (f ++ r))) in
      ap (λ (b : Bool). cond b (sets o (length p + EVENT_DISTANCE) (d ∷ [])) o) c
      ∙ ap (λ (i : ℕ). sets o i (d ∷ [])) w
      ∙ ap (λ (u : List ℕ). sets (onto u g.events) (length q) (d ∷ [])) (v z)
      ∙ sets_onto q (z ∷ []) (f ++ r) (d ∷ []) g.events refl
      ∙ ap (λ (u : List ℕ). onto u g.events) (sym (v d))
      ∙ ap (λ (i : ℕ). onto ((p ++ (x ∷ y ∷ low i ∷ f)) ++ r) g.events) (gap p f x y z)

  pub precede_fits : (p f : List ℕ) (x y z : ℕ) (k : Marker) → k.index ≡ length p → length (p ++ (x ∷ y ∷ z ∷ f)) + EVENT_ROW ≤ length g.events
      → precede k (image g (p ++ (x ∷ y ∷ z ∷ f)) l s) ≡ image g ((p ++ (x ∷ y ∷ low (suc (length f / EVENT_ROW)) ∷ f)) ++ (PLACEHOLDER ∷ 0 ∷ 0 ∷ [])) l s
  unfolding precede image
  precede_fits p f x y z k e h =
      let E = p ++ (x ∷ y ∷ z ∷ f) in
      let r : List ℕ = PLACEHOLDER ∷ 0 ∷ 0 ∷ [] in
      let D = p ++ (x ∷ y ∷ low (suc (length f / EVENT_ROW)) ∷ f) in
      let m = image g (E ++ r) l s in
      let c : length (E ++ r) ≡ length (D ++ r) = simp length-append in
      let b : length (E ++ r) ≤ length g.events = omega (arith, h, length-append E r) in
      ap (λ (q : Machine). cond (eqb q.refusal 0) (with_events (record { count = q.events.count; numbers = put_link k.index (length E) q.events.numbers }) q) q) (push_fits E PLACEHOLDER 0 h)
      ∙ ap (λ (i : ℕ). with_events (record { count = length (E ++ r); numbers = put_link i (length E) (onto (E ++ r) g.events) }) m) e
      ∙ ap (λ (o : List ℕ). with_events (record { count = length (E ++ r); numbers = o }) m) (link_is p f x y z b)
      ∙ ap (λ (i : ℕ). with_events (record { count = i; numbers = onto (D ++ r) g.events }) m) c

  pub precede_full : (e : List ℕ) (k : Marker) → length e ≤ length g.events → length g.events < length e + EVENT_ROW → precede k (image g e l s) ≡ refuse NO_EVENT_ROOM (image g e l s)
  unfolding precede image refuse
  precede_full e k a h =
      ap (λ (q : Machine). cond (eqb q.refusal 0) (with_events (record { count = q.events.count; numbers = put_link k.index (length e) q.events.numbers }) q) q) (push_full e PLACEHOLDER 0 a h)

  -- ---------------------------------------------------------------- a report written

  -- r: the report; the machine makes the same row of it
  pub report_fits : (e : List ℕ) (message hint : ℕ) (range lab : Span) (r : Report) → r.pool ≡ pool_of message s.pending
      → report_row message hint range lab (length g.tokens - length s.since) (length (pool l)) (pool_count message (held_of s.pending))
      ≡ low_rows (length g.tokens) (byte_count g.tokens) (0 + length (pool l)) (r ∷ [])
      → length (rows_of g l) + REPORT_ROW ≤ length g.reports → length (pool l) + length (pool_of message s.pending) ≤ length g.pool
      → write_report message hint range lab (image g e l s) ≡ image g e (l ++ (r ∷ [])) s
  unfolding write_report image pool
  report_fits e message hint range lab r same row h k =
      let n = length g.tokens in
      let codes = pool_of message s.pending in
      let m = image g e l s in
      let line : List ℕ = report_row message hint range lab (n - length s.since) (length (pool l)) (pool_count message (held_of s.pending)) in
      let rows = rows_of g l in
      let R : Buffer = record { count = length rows + REPORT_ROW; numbers = sets (onto rows g.reports) (length rows) line } in
      let P : Buffer = record { count = length (pool l) + length codes; numbers = sets (onto (pool l) g.pool) (length (pool l)) codes } in
      let t : (fits (length (onto rows g.reports)) (length rows) REPORT_ROW && fits (length (onto (pool l) g.pool)) (length (pool l)) (length codes)) ≡ true =
      rw (length_onto rows g.reports (omega arith), length_onto (pool l) g.pool (omega arith), fits_true (length g.reports) (length rows) REPORT_ROW h, fits_true (length g.pool) (length (pool l)) (length codes) k) in
      let u : rows ++ line ≡ rows_of g (l ++ (r ∷ [])) = ap (λ (x : List ℕ). rows ++ x) row ∙ sym (low_rows_append n (byte_count g.tokens) 0 l (r ∷ [])) in
      let v : pool l ++ codes ≡ pool (l ++ (r ∷ [])) = ap (λ (x : List ℕ). pool l ++ x) (sym same ∙ sym (append-nil r.pool)) ∙ sym (pool_append l (r ∷ [])) in
      ap (λ (b : Bool). cond b (with_reports R P m) (refuse NO_REPORT_ROOM m)) t
      ∙ ap (λ (x : Buffer). with_reports x P m) (row_after rows line g.reports REPORT_ROW refl h)
      ∙ ap (λ (x : Buffer). with_reports (written (rows ++ line) g.reports) x m) (row_after (pool l) codes g.pool (length codes) refl k)
      ∙ ap (λ (x : List ℕ). with_reports (written x g.reports) (written (pool l ++ codes) g.pool) m) u
      ∙ ap (λ (x : List ℕ). with_reports (written (rows_of g (l ++ (r ∷ []))) g.reports) (written x g.pool) m) v

  -- no room for the row, or none for its expectations
  pub report_full : (e : List ℕ) (message hint : ℕ) (range lab : Span)
      → (fits (length (onto (rows_of g l) g.reports)) (length (rows_of g l)) REPORT_ROW && fits (length (onto (pool l) g.pool)) (length (pool l)) (length (pool_of message s.pending))) ≡ false
      → write_report message hint range lab (image g e l s) ≡ refuse NO_REPORT_ROOM (image g e l s)
  unfolding write_report image
  report_full e message hint range lab c =
      let codes = pool_of message s.pending in
      let m = image g e l s in
      let rows = rows_of g l in
      let line : List ℕ = report_row message hint range lab (length g.tokens - length s.since) (length (pool l)) (pool_count message (held_of s.pending)) in
      let R : Buffer = record { count = length rows + REPORT_ROW; numbers = sets (onto rows g.reports) (length rows) line } in
      let P : Buffer = record { count = length (pool l) + length codes; numbers = sets (onto (pool l) g.pool) (length (pool l)) codes } in
      ap (λ (b : Bool). cond b (with_reports R P m) (refuse NO_REPORT_ROOM m)) c

  pub no_row : (n : ℕ) → length (rows_of g l) ≤ length g.reports → length g.reports < length (rows_of g l) + REPORT_ROW
      → (fits (length (onto (rows_of g l) g.reports)) (length (rows_of g l)) REPORT_ROW && fits (length (onto (pool l) g.pool)) (length (pool l)) n) ≡ false
  no_row n h k = rw (length_onto (rows_of g l) g.reports h, fits_false (length g.reports) (length (rows_of g l)) REPORT_ROW h k)

  pub no_codes : (n : ℕ) → length (rows_of g l) + REPORT_ROW ≤ length g.reports → length (pool l) ≤ length g.pool → length g.pool < length (pool l) + n
      → (fits (length (onto (rows_of g l) g.reports)) (length (rows_of g l)) REPORT_ROW && fits (length (onto (pool l) g.pool)) (length (pool l)) n) ≡ false
  no_codes n h k j =
      rw (length_onto (rows_of g l) g.reports (omega arith), length_onto (pool l) g.pool k, fits_true (length g.reports) (length (rows_of g l)) REPORT_ROW h, fits_false (length g.pool) (length (pool l)) n k j)
