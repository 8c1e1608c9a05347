-- The tails of a text. Who reads on and then on has read on; what is left is never more than it was.
use Rattle.std.proofs.Common.{◌≡◌, ℕ, ◌+◌, ◌≤◌, ◌++◌, List, length, drop, min, refl, sym, ap, ◌∙◌, arith, length-append, length-drop}
use Rattle.std.proofs.lemmas.List.{drop-drop, drop_at, drop_min}
use Rattle.cases.specs.Scanner.{IsTail}

-- one part is read, and then another
pub on : {a b c : List ℕ} → IsTail a b → IsTail b c → IsTail a c
on {a} f g =
    record {
      read = f.read + g.read;
      within = omega (arith, ap length f.left, length-drop f.read a);
      left = g.left ∙ ap (drop g.read) f.left ∙ drop-drop g.read f.read a;
    }

-- what stands after a front
pub past : {a b : List ℕ} (front : List ℕ) → a ≡ front ++ b → IsTail a b
past {a} {b} front e =
    record {
      read = length front;
      within = omega (arith, ap length e, length-append front b);
      left = sym (ap (drop (length front)) e ∙ drop_at front b (length front) refl);
    }

-- so many bytes are read, where there are as many
pub by_drop : {a b : List ℕ} (n : ℕ) → b ≡ drop n a → IsTail a b
by_drop {a} n e = record { read = min n (length a); within = omega arith; left = e ∙ sym (drop_min n a) }

pub shorter : {a b : List ℕ} → IsTail a b → length b ≤ length a
shorter {a} {b} f = omega (arith, ap length f.left, length-drop f.read a)
