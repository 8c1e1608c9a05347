-- A marker completed and a node preceded on the literal machine, in plain variables.
use Rattle.std.proofs.Common.{◌≡◌, sym, ◌∙◌, ap, ℕ, List}
use Rattle.std.specs.Prelude.{Bool, true, false, cond, eqb}
use Rattle.definitions.specs.Layout.{PLACEHOLDER, FINISH_NODE}
use Rattle.machine.specs.Machine.{Machine, Marker, with_events, put_start, put_link}
use Rattle.machine.specs.Machine as M

-- events put-started, then a finish
pub complete_on : (k : Marker) (kind : ℕ) (m r : Machine) (l : List ℕ) → eqb m.refusal 0 ≡ true → l ≡ put_start k kind m.events.numbers
    → r ≡ M.push_row FINISH_NODE 0 (with_events (record { count = m.events.count; numbers = l }) m) → r ≡ M.complete k kind m
unfolding M.complete
complete_on k kind m r l e f g =
    g ∙ ap (λ (x : List ℕ). M.push_row FINISH_NODE 0 (with_events (record { count = m.events.count; numbers = x }) m)) f
    ∙ sym (ap (λ (z : Bool). cond z (M.push_row FINISH_NODE 0 (with_events (record { count = m.events.count; numbers = put_start k kind m.events.numbers }) m)) m) e)

pub complete_off : (k : Marker) (kind : ℕ) (m : Machine) → eqb m.refusal 0 ≡ false → m ≡ M.complete k kind m
unfolding M.complete
complete_off k kind m e = sym (ap (λ (z : Bool). cond z (M.push_row FINISH_NODE 0 (with_events (record { count = m.events.count; numbers = put_start k kind m.events.numbers }) m)) m) e)

abbrev preceded : Marker → Machine → Machine → Machine
preceded k m p = cond (eqb p.refusal 0) (with_events (record { count = p.events.count; numbers = put_link k.index m.events.count p.events.numbers }) p) p

pub precede_on : (k : Marker) (m p : Machine) (l : List ℕ) → p ≡ M.push PLACEHOLDER 0 m → eqb p.refusal 0 ≡ true → l ≡ put_link k.index m.events.count p.events.numbers
    → with_events (record { count = p.events.count; numbers = l }) p ≡ M.precede k m
unfolding M.precede
precede_on k m p l e f g =
    ap (λ (x : List ℕ). with_events (record { count = p.events.count; numbers = x }) p) g
    ∙ sym (ap (λ (z : Bool). cond z (with_events (record { count = p.events.count; numbers = put_link k.index m.events.count p.events.numbers }) p) p) f)
    ∙ ap (preceded k m) e

pub precede_off : (k : Marker) (m p : Machine) → p ≡ M.push PLACEHOLDER 0 m → eqb p.refusal 0 ≡ false → p ≡ M.precede k m
unfolding M.precede
precede_off k m p e f =
    sym (ap (λ (z : Bool). cond z (with_events (record { count = p.events.count; numbers = put_link k.index m.events.count p.events.numbers }) p) p) f) ∙ ap (preceded k m) e
