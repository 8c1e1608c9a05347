-- The turns of the loop from one judged node to the next.
use Rattle.std.proofs.Common.{arith, ℕ, ◌+◌, ◌*◌, ◌/◌, ◌≤◌, ◌<◌, ◌≡◌, refl, sym, ◌∙◌, ap, Bool, true, false, cond, ◌&&◌, ◌||◌, List, ◌∷◌, eqb, length, get_or, drop, Result, Ok, Err}
use Rattle.basics.specs.Word.{low}
use Rattle.definitions.specs.Layout.{EVENT_ROW, EVENT_TAG, EVENT_ARGUMENT, START_NODE, ADD_TOKEN, ADD_COMBINED_TOKEN, FINISH_NODE, LINKED_START_NODE}
use Rattle.labels.specs.declared.event.Event.{Event}
use Rattle.labels.specs.declared.event.Event.TheVariants.{Start, Token as AddToken, Name, Finish, Other}
use Rattle.labels.specs.declared.scan.Found.{Found}
use Rattle.labels.specs.declared.scan.NoneFound.{NoneFound}
use Rattle.labels.specs.Model.{judged_kind, event_of, shown, found, none_found, next_judged}
use Rattle.labels.proofs.EventRows.{events_cons, events_end}

-- what the code computes
abbrev turned : List ℕ → ℕ → ℕ → ℕ → ℕ → Result Found NoneFound
turned events tag a i behind =
    let rest = drop ((i + EVENT_ROW) / EVENT_ROW) (shown events) in
    let next = (i + EVENT_ROW) / EVENT_ROW in
    cond (eqb tag ADD_TOKEN) (next_judged rest next (low (behind + 1)))
    (cond (eqb tag ADD_COMBINED_TOKEN) (next_judged rest next (low (behind + a)))
    (cond (judged_kind a && (eqb tag START_NODE || eqb tag LINKED_START_NODE)) (Ok (found (i / EVENT_ROW) a behind)) (next_judged rest next behind)))

-- i: the index of a row's first number
next_turn : (events : List ℕ) (i behind : ℕ) → i ≡ i / EVENT_ROW * EVENT_ROW → i < length events / EVENT_ROW * EVENT_ROW
    → next_judged (drop (i / EVENT_ROW) (shown events)) (i / EVENT_ROW) behind
    ≡ turned events (get_or events i 0) (get_or events (i + EVENT_ARGUMENT) 0) i behind
unfolding next_judged
next_turn events i behind e h =
    let j = i / EVENT_ROW in
    let less : i / EVENT_ROW < length events / EVENT_ROW = omega (arith, e, h) in
    let n : (i + EVENT_ROW) / EVENT_ROW ≡ i / EVENT_ROW + 1 = omega arith in
    let t : i / EVENT_ROW * EVENT_ROW + EVENT_TAG ≡ i = omega (arith, e) in
    let a : i / EVENT_ROW * EVENT_ROW + EVENT_ARGUMENT ≡ i + EVENT_ARGUMENT = omega (arith, e) in
    ap (λ es. next_judged es j behind) (events_cons events j less)
    ∙ ap (λ (k : ℕ). next_judged (event_of (get_or events k 0) (get_or events (j * EVENT_ROW + EVENT_ARGUMENT) 0) ∷ drop (j + 1) (shown events)) j behind) t
    ∙ ap (λ (k : ℕ). next_judged (event_of (get_or events i 0) (get_or events k 0) ∷ drop (j + 1) (shown events)) j behind) a
    ∙ ap (λ (k : ℕ). next_judged (event_of (get_or events i 0) (get_or events (i + EVENT_ARGUMENT) 0) ∷ drop k (shown events)) j behind) (sym n)
    ∙ by (eqb (get_or events i 0) ADD_TOKEN) (eqb (get_or events i 0) ADD_COMBINED_TOKEN) (eqb (get_or events i 0) START_NODE || eqb (get_or events i 0) LINKED_START_NODE)
    (eqb (get_or events i 0) FINISH_NODE) (get_or events (i + EVENT_ARGUMENT) 0) (drop ((i + EVENT_ROW) / EVENT_ROW) (shown events)) (sym n)
  where
    started : (b : Bool) (x y : Result Found NoneFound) → cond b x y ≡ cond (b && true) x y
    started true x y = refl
    started false x y = refl

    other : (b : Bool) (x y : Result Found NoneFound) → y ≡ cond (b && false) x y
    other true x y = refl
    other false x y = refl

    by : (b₁ b₂ b₃ b₄ : Bool) (a : ℕ) (es : List Event) {n : ℕ} → i / EVENT_ROW + 1 ≡ n
        → next_judged (cond b₁ AddToken (cond b₂ (Name a) (cond b₃ (Start a) (cond b₄ Finish Other))) ∷ es) (i / EVENT_ROW) behind
        ≡ cond b₁ (next_judged es n (low (behind + 1)))
        (cond b₂ (next_judged es n (low (behind + a)))
        (cond (judged_kind a && b₃) (Ok (found (i / EVENT_ROW) a behind)) (next_judged es n behind)))
    by true b₂ b₃ b₄ a es p = ap (λ (k : ℕ). next_judged es k (low (behind + 1))) p
    by false true b₃ b₄ a es p = ap (λ (k : ℕ). next_judged es k (low (behind + a))) p
    by false false true b₄ a es p =
        ap (λ (k : ℕ). cond (judged_kind a) (Ok (found (i / EVENT_ROW) a behind)) (next_judged es k behind)) p
        ∙ started (judged_kind a) (Ok (found (i / EVENT_ROW) a behind)) _
    by false false false true a es p = ap (λ (k : ℕ). next_judged es k behind) p ∙ other (judged_kind a) (Ok (found (i / EVENT_ROW) a behind)) _
    by false false false false a es p = ap (λ (k : ℕ). next_judged es k behind) p ∙ other (judged_kind a) (Ok (found (i / EVENT_ROW) a behind)) _

pub next_token : (events : List ℕ) (i behind behind' : ℕ) (g : Result Found NoneFound) → i ≡ i / EVENT_ROW * EVENT_ROW → i < length events / EVENT_ROW * EVENT_ROW
    → eqb (get_or events i 0) ADD_TOKEN ≡ true → behind' ≡ low (behind + 1)
    → next_judged (drop (i / EVENT_ROW) (shown events)) (i / EVENT_ROW) behind ≡ g
    → next_judged (drop ((i + EVENT_ROW) / EVENT_ROW) (shown events)) ((i + EVENT_ROW) / EVENT_ROW) behind' ≡ g
next_token events i behind behind' g e h t q p = rw q (sym (next_turn events i behind e h ∙ rw t) ∙ p)

pub next_name : (events : List ℕ) (i behind behind' : ℕ) (g : Result Found NoneFound) → i ≡ i / EVENT_ROW * EVENT_ROW → i < length events / EVENT_ROW * EVENT_ROW
    → eqb (get_or events i 0) ADD_TOKEN ≡ false → eqb (get_or events i 0) ADD_COMBINED_TOKEN ≡ true
    → behind' ≡ low (behind + get_or events (i + EVENT_ARGUMENT) 0)
    → next_judged (drop (i / EVENT_ROW) (shown events)) (i / EVENT_ROW) behind ≡ g
    → next_judged (drop ((i + EVENT_ROW) / EVENT_ROW) (shown events)) ((i + EVENT_ROW) / EVENT_ROW) behind' ≡ g
next_name events i behind behind' g e h t n q p = rw q (sym (next_turn events i behind e h ∙ rw (t, n)) ∙ p)

-- b: whether a judged node starts here
pub next_other : (events : List ℕ) (b : Bool) (i behind behind' : ℕ) (g : Result Found NoneFound) → i ≡ i / EVENT_ROW * EVENT_ROW → i < length events / EVENT_ROW * EVENT_ROW
    → eqb (get_or events i 0) ADD_TOKEN ≡ false → eqb (get_or events i 0) ADD_COMBINED_TOKEN ≡ false
    → b ≡ (judged_kind (get_or events (i + EVENT_ARGUMENT) 0) && (eqb (get_or events i 0) START_NODE || eqb (get_or events i 0) LINKED_START_NODE))
    → b ≡ false → behind' ≡ behind
    → next_judged (drop (i / EVENT_ROW) (shown events)) (i / EVENT_ROW) behind ≡ g
    → next_judged (drop ((i + EVENT_ROW) / EVENT_ROW) (shown events)) ((i + EVENT_ROW) / EVENT_ROW) behind' ≡ g
next_other events b i behind behind' g e h t n s y q p = rw q (sym (next_turn events i behind e h ∙ rw (t, n, ← s, y)) ∙ p)

pub next_found : (events : List ℕ) (b : Bool) (i behind : ℕ) (g : Result Found NoneFound) → i ≡ i / EVENT_ROW * EVENT_ROW → i < length events / EVENT_ROW * EVENT_ROW
    → eqb (get_or events i 0) ADD_TOKEN ≡ false → eqb (get_or events i 0) ADD_COMBINED_TOKEN ≡ false
    → b ≡ (judged_kind (get_or events (i + EVENT_ARGUMENT) 0) && (eqb (get_or events i 0) START_NODE || eqb (get_or events i 0) LINKED_START_NODE))
    → b ≡ true
    → next_judged (drop (i / EVENT_ROW) (shown events)) (i / EVENT_ROW) behind ≡ g
    → Ok (found (i / EVENT_ROW) (get_or events (i + EVENT_ARGUMENT) 0) behind) ≡ g
next_found events b i behind g e h t n s y p = sym (next_turn events i behind e h ∙ rw (t, n, ← s, y)) ∙ p

pub next_begin : (events : List ℕ) (from : ℕ)
    → next_judged (drop (from * EVENT_ROW / EVENT_ROW) (shown events)) (from * EVENT_ROW / EVENT_ROW) 0
    ≡ next_judged (drop from (shown events)) from 0
next_begin events from = let e : from * EVENT_ROW / EVENT_ROW ≡ from = omega arith in rw e

pub next_end : (events : List ℕ) (i behind : ℕ) (g : Result Found NoneFound) → length events / EVENT_ROW * EVENT_ROW ≤ i
    → next_judged (drop (i / EVENT_ROW) (shown events)) (i / EVENT_ROW) behind ≡ g → Err (none_found (i / EVENT_ROW) behind) ≡ g
unfolding next_judged
next_end events i behind g h p =
    let past : length events / EVENT_ROW ≤ i / EVENT_ROW = omega (arith, h) in
    sym (ap (λ es. next_judged es (i / EVENT_ROW) behind) (events_end events (i / EVENT_ROW) past)) ∙ p
