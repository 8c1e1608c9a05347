-- Event rows as events: the events from a row on (like basics' TokenRows).
use Rattle.std.proofs.Common.{arith, ℕ, zero, suc, ◌+◌, ◌*◌, ◌/◌, ◌≤◌, ◌<◌, ◌≡◌, refl, List, [], ◌∷◌, length, drop}
use Rattle.definitions.specs.Layout.{EVENT_ROW, EVENT_TAG, EVENT_ARGUMENT}
use Rattle.labels.specs.Model.{event_at, shown}

pub events_cons : (events : List ℕ) (i : ℕ) → i < length events / EVENT_ROW
    → drop i (shown events) ≡ event_at events i ∷ drop (i + 1) (shown events)
unfolding shown
events_cons [] i h = absurd (omega (arith, h))
events_cons (t ∷ []) i h = absurd (omega (arith, h))
events_cons (t ∷ a ∷ []) i h = absurd (omega (arith, h))
events_cons (t ∷ a ∷ b ∷ l) zero h = refl
events_cons (t ∷ a ∷ b ∷ l) (suc i) h =
    let e : suc i * EVENT_ROW + EVENT_TAG ≡ suc (suc (suc (i * EVENT_ROW + EVENT_TAG))) = omega arith in
    let f : suc i * EVENT_ROW + EVENT_ARGUMENT ≡ suc (suc (suc (i * EVENT_ROW + EVENT_ARGUMENT))) = omega arith in
    let g : suc i + 1 ≡ suc (i + 1) = omega arith in
    let less : i < length l / EVENT_ROW = omega (arith, h) in
    rw (e, f, g) (events_cons l i less)

-- past the last row there are none
pub events_end : (events : List ℕ) (i : ℕ) → length events / EVENT_ROW ≤ i → drop i (shown events) ≡ []
unfolding shown
events_end [] zero h = refl
events_end [] (suc i) h = refl
events_end (t ∷ []) zero h = refl
events_end (t ∷ []) (suc i) h = refl
events_end (t ∷ a ∷ []) zero h = refl
events_end (t ∷ a ∷ []) (suc i) h = refl
events_end (t ∷ a ∷ b ∷ l) zero h = absurd (omega (arith, h))
events_end (t ∷ a ∷ b ∷ l) (suc i) h = events_end l i (omega (arith, h))
