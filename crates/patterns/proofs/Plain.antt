-- `and_then` and `or_else`, which leave out what is plain, fit what `then` and `or` fit.
use Prim.Native.Nat.{ℕ}
use mathlib.Core.Path.{◌≡◌, refl, ap, sym, ◌∙◌, subst}
use mathlib.Core.Bool.{Bool, true, false, cond, false≢true}
use mathlib.Core.Logic.{◌⊎◌, inl, inr}
use mathlib.Core.List.{List, [], ◌++◌}
use Rattle.definitions.specs.Pattern.{Pattern, nothing, empty, one, other, ◌then◌, ◌or◌, many}
use Rattle.patterns.specs.Textbook.{Fits}
use Rattle.patterns.specs.Remainder.{is_nothing, is_empty, and_then, or_else}

pub nothing_is : (p : Pattern) → is_nothing p ≡ true → p ≡ nothing
nothing_is nothing h = refl
nothing_is empty h = absurd (false≢true h)
nothing_is (one c) h = absurd (false≢true h)
nothing_is (other c) h = absurd (false≢true h)
nothing_is (p then q) h = absurd (false≢true h)
nothing_is (p or q) h = absurd (false≢true h)
nothing_is (many p) h = absurd (false≢true h)

empty_is : (p : Pattern) → is_empty p ≡ true → p ≡ empty
empty_is nothing h = absurd (false≢true h)
empty_is empty h = refl
empty_is (one c) h = absurd (false≢true h)
empty_is (other c) h = absurd (false≢true h)
empty_is (p then q) h = absurd (false≢true h)
empty_is (p or q) h = absurd (false≢true h)
empty_is (many p) h = absurd (false≢true h)

pub to_then : (p q : Pattern) (u : List ℕ) → Fits (and_then p q) u → Fits (p then q) u
unfolding Fits
to_then p q u h = go (is_nothing p) refl (is_empty p) refl h
  where
    go : (a : Bool) → is_nothing p ≡ a → (b : Bool) → is_empty p ≡ b → Fits (cond a nothing (cond b q (p then q))) u → Fits (p then q) u
    go true e b f x = absurd x
    go false e true f x = ([], u, refl, subst (λ (r : Pattern). Fits r []) (sym (empty_is p f)) refl, x)
    go false e false f x = x

pub from_then : (p q : Pattern) (u : List ℕ) → Fits (p then q) u → Fits (and_then p q) u
unfolding Fits
from_then p q u h = go (is_nothing p) refl (is_empty p) refl h
  where
    go : (a : Bool) → is_nothing p ≡ a → (b : Bool) → is_empty p ≡ b → Fits (p then q) u → Fits (cond a nothing (cond b q (p then q))) u
    go true e b f (s, t, x, y, z) = subst (λ (r : Pattern). Fits r s) (nothing_is p e) y
    go false e true f (s, t, x, y, z) =
        let n : s ≡ [] = subst (λ (r : Pattern). Fits r s) (empty_is p f) y in
        subst (Fits q) (sym (x ∙ ap (λ (l : List ℕ). l ++ t) n)) z
    go false e false f x = x

pub to_or : (p q : Pattern) (u : List ℕ) → Fits (or_else p q) u → Fits p u ⊎ Fits q u
unfolding Fits
to_or p q u h = go (is_nothing p) (is_nothing q) h
  where
    go : (a b : Bool) → Fits (cond a q (cond b p (p or q))) u → Fits p u ⊎ Fits q u
    go true b x = inr x
    go false true x = inl x
    go false false x = x

pub from_or : (p q : Pattern) (u : List ℕ) → Fits p u ⊎ Fits q u → Fits (or_else p q) u
unfolding Fits
from_or p q u h = go (is_nothing p) refl (is_nothing q) refl h
  where
    go : (a : Bool) → is_nothing p ≡ a → (b : Bool) → is_nothing q ≡ b → Fits p u ⊎ Fits q u → Fits (cond a q (cond b p (p or q))) u
    go true e b f (inl x) = absurd (subst (λ (r : Pattern). Fits r u) (nothing_is p e) x)
    go true e b f (inr x) = x
    go false e true f (inl x) = x
    go false e true f (inr x) = absurd (subst (λ (r : Pattern). Fits r u) (nothing_is q f) x)
    go false e false f x = x
