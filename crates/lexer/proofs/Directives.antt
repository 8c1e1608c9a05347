-- The words of directives, and a directive at a byte.
use Rattle.std.proofs.Common.{◌≡◌, ℕ, ◌+◌, ◌<◌, ◌≤◌, Bool, true, false, ◌∙◌, List, [], ◌∷◌, length, get_or, drop, refl, add-one, drop-cons, arith}
use Rattle.std.specs.Prelude.{◌&&◌, ◌||◌, eqb}
use Rattle.std.specs.List.{list_any, starts_with}
use borrow.Author.Tests.{ne_eqb}
use Rattle.basics.proofs.Tests.{eqb_swap}
use Rattle.definitions.specs.Text.{after_blanks, begins_with, begins_with_one, directive_words, is_directive}

starts : (w s : List ℕ) → starts_with eqb s w ≡ begins_with w s
unfolding begins_with
starts [] s = refl
starts (a ∷ w) [] = refl
starts (a ∷ w) (b ∷ s) = rw (eqb_swap a b, starts w s)

pub any_starts : (ws : List (List ℕ)) (s : List ℕ) → list_any (starts_with eqb s) ws ≡ begins_with_one ws s
unfolding begins_with_one
any_starts [] s = refl
any_starts (w ∷ ws) s = rw (starts w s, any_starts ws s)

or_false : (x : Bool) → x ≡ (x || false)
or_false true = refl
or_false false = refl

pub one_starts : (w s : List ℕ) → starts_with eqb s w ≡ begins_with_one (w ∷ []) s
unfolding begins_with_one
one_starts w s = starts w s ∙ or_false (begins_with w s)

pub first_starts : (v w s : List ℕ) → starts_with eqb s v ≡ true → true ≡ begins_with_one (v ∷ w ∷ []) s
unfolding begins_with_one
first_starts v w s e = rw (← starts v s, e)

pub second_starts : (v w s : List ℕ) → starts_with eqb s v ≡ false → starts_with eqb s w ≡ begins_with_one (v ∷ w ∷ []) s
unfolding begins_with_one
second_starts v w s e = rw (← starts v s, e) (one_starts w s)

-- the words that begin with a letter are enough
pub by_letter : (l : ℕ) (ws : List (List ℕ)) → ((s : List ℕ) → begins_with_one ws (l ∷ s) ≡ begins_with_one directive_words (l ∷ s))
    → (s : List ℕ) → 1 ≤ length s → get_or s 0 0 ≡ l → begins_with_one ws s ≡ begins_with_one directive_words s
by_letter l ws f [] h e = absurd (omega (arith, h))
by_letter l ws f (b ∷ s) h e = rw e (f s)

pub no_letter : (s : List ℕ) → length s < 1 → false ≡ begins_with_one directive_words s
unfolding begins_with_one begins_with
no_letter [] h = refl
no_letter (b ∷ s) h = absurd (omega (arith, h))

pub other_letter : (s : List ℕ) → 1 ≤ length s → (get_or s 0 0 ≡ 100 → ⊥) → (get_or s 0 0 ≡ 101 → ⊥) → (get_or s 0 0 ≡ 105 → ⊥)
    → (get_or s 0 0 ≡ 112 → ⊥) → (get_or s 0 0 ≡ 117 → ⊥) → false ≡ begins_with_one directive_words s
unfolding begins_with_one begins_with
other_letter [] k d e i p u = absurd (omega (arith, k))
other_letter (b ∷ s) k d e i p u = rw (ne_eqb b 100 d, ne_eqb b 101 e, ne_eqb b 105 i, ne_eqb b 112 p, ne_eqb b 117 u)

pub directive_at : (bytes : List ℕ) (at : ℕ) → at < length bytes
    → is_directive (drop at bytes) ≡ (eqb (get_or bytes at 0) 35 && begins_with_one directive_words (after_blanks (drop (at + 1) bytes)))
unfolding is_directive
directive_at bytes at h = rw (add-one at, drop-cons bytes at 0 h)
