-- What a step comes to by whether a parser has refused, and stores as the code makes them.
use Rattle.std.proofs.Common.{ℕ, ◌+◌, ◌≡◌, refl, sym, ◌∙◌, ap, Bool, true, false, List, [], ◌∷◌, length}
use Rattle.std.specs.Prelude.{eqb, cond}
use Rattle.std.proofs.lemmas.List.Edits.{sets}
use Rattle.definitions.specs.Layout.{EVENT_ROW, NO_EVENT_ROOM}
use Rattle.layout.specs.Rows.{put_row}
use Rattle.machine.specs.Machine.{Machine}
use Rattle.machine.specs.Machine as M

-- a step that is taken only where nothing was refused
pub push_open : (t a : ℕ) (m x : Machine) → eqb m.refusal 0 ≡ true → x ≡ M.push_row t a m → x ≡ M.push t a m
unfolding M.push
push_open t a m x e f = f ∙ sym (ap (λ (b : Bool). cond b (M.push_row t a m) m) e)

pub push_refused : (t a : ℕ) (m : Machine) → eqb m.refusal 0 ≡ false → m ≡ M.push t a m
unfolding M.push
push_refused t a m e = sym (ap (λ (b : Bool). cond b (M.push_row t a m) m) e)

-- the first refusal stays
pub refuse_first : (n : ℕ) (m : Machine) → eqb m.refusal 0 ≡ true → M.with_cursor M.PAST_THE_END m.byte (M.with_refusal n m.mark m) ≡ M.refuse n m
unfolding M.refuse
refuse_first n m e = sym (ap (λ (b : Bool). M.with_cursor M.PAST_THE_END m.byte (cond b (M.with_refusal n m.mark m) m)) e)

pub refuse_again : (n : ℕ) (m : Machine) → eqb m.refusal 0 ≡ false → M.with_cursor M.PAST_THE_END m.byte m ≡ M.refuse n m
unfolding M.refuse
refuse_again n m e = sym (ap (λ (b : Bool). M.with_cursor M.PAST_THE_END m.byte (cond b (M.with_refusal n m.mark m) m)) e)

-- an event's row, stored where it fits
pub row_stored : (l r : List ℕ) (i : ℕ) → M.fits (length l) i EVENT_ROW ≡ true → put_row EVENT_ROW i r l ≡ sets l i r
unfolding put_row
row_stored l r i e = ap (λ (b : Bool). cond b (sets l i r) l) e

pub row_pushed : (t n a : ℕ) (m : Machine) (l : List ℕ) → M.fits (length m.events.numbers) m.events.count EVENT_ROW ≡ true → n ≡ t → l ≡ put_row EVENT_ROW m.events.count (n ∷ a ∷ 0 ∷ []) m.events.numbers
    → M.with_events (record { count = m.events.count + EVENT_ROW; numbers = l }) m ≡ M.push_row t a m
unfolding M.push_row
row_pushed t n a m l e g f =
    let r : ℕ → List ℕ = λ x. x ∷ a ∷ 0 ∷ [] in
    ap (λ (x : List ℕ). M.with_events (record { count = m.events.count + EVENT_ROW; numbers = x }) m)
    (f ∙ row_stored m.events.numbers (r n) m.events.count e ∙ ap (λ (x : ℕ). sets m.events.numbers m.events.count (r x)) g)
    ∙ sym (ap (λ (b : Bool). cond b (M.with_events (record { count = m.events.count + EVENT_ROW; numbers = sets m.events.numbers m.events.count (r t) }) m) (M.refuse NO_EVENT_ROOM m)) e)

pub row_refused : (t a : ℕ) (m x : Machine) → M.fits (length m.events.numbers) m.events.count EVENT_ROW ≡ false → x ≡ M.refuse NO_EVENT_ROOM m → x ≡ M.push_row t a m
unfolding M.push_row
row_refused t a m x e f =
    f ∙ sym (ap (λ (b : Bool). cond b (M.with_events (record { count = m.events.count + EVENT_ROW; numbers = sets m.events.numbers m.events.count (t ∷ a ∷ 0 ∷ []) }) m) (M.refuse NO_EVENT_ROOM m)) e)
