-- The searches of the definitions, `cut`, `times` and `up_to`, find just what there is.
use Prim.Native.Nat.{ℕ, zero, suc, ◌≤◌}
use native.Mathlib.Omega.{arith}
use mathlib.Core.Path.{◌≡◌, refl, sym, ap, subst}
use mathlib.Core.Logic.{◌⊎◌, inl, inr}
use mathlib.Core.Bool.{Bool, true, false, ◌&&◌, false≢true}
use mathlib.Core.List.{List, [], ◌∷◌, ◌++◌}
use lib.Dec.{eqb}
use lib.ListN.{length, length-append}
use borrow.Author.Tests.{eqb-true, eqb-false}
use Rattle.definitions.specs.Pattern.{no_byte, cut, times, up_to}
use Rattle.basics.proofs.Tests.{and_left, and_right, and_both}
use Rattle.patterns.specs.Textbook.{Times}
use Rattle.patterns.proofs.Either.{or_either, or_left, or_right}

-- ---------------------------------------------------------------- the empty text

pub no_byte_says : (u : List ℕ) → no_byte u ≡ true → u ≡ []
no_byte_says [] h = refl
no_byte_says (b ∷ u) h = absurd (false≢true h)

pub says_no_byte : (u : List ℕ) → u ≡ [] → no_byte u ≡ true
says_no_byte u e = subst (λ (l : List ℕ). no_byte l ≡ true) (sym e) refl

-- ---------------------------------------------------------------- a cut in two

abbrev Cut : (List ℕ → List ℕ → Bool) → List ℕ → Type 0
Cut f u = (s : List ℕ) × (t : List ℕ) × (u ≡ s ++ t) × (f s t ≡ true)

pub cut_says : (f : List ℕ → List ℕ → Bool) (u : List ℕ) → cut f u ≡ true → Cut f u
unfolding cut
cut_says f [] h = ([], [], refl, h)
cut_says f (b ∷ u) h = go (or_either (f [] (b ∷ u)) (cut rest u) h) (cut_says rest u)
  where
    rest : List ℕ → List ℕ → Bool
    rest s t = f (b ∷ s) t

    go : (f [] (b ∷ u) ≡ true) ⊎ (cut rest u ≡ true) → (cut rest u ≡ true → Cut rest u) → Cut f (b ∷ u)
    go (inl x) k = ([], b ∷ u, refl, x)
    go (inr x) k = let (s, t, e, y) = k x in (b ∷ s, t, ap (b ∷◌) e, y)

pub says_cut : (f : List ℕ → List ℕ → Bool) (u s t : List ℕ) → u ≡ s ++ t → f s t ≡ true → cut f u ≡ true
unfolding cut
says_cut f u s t e h = subst (λ (l : List ℕ). cut f l ≡ true) (sym e) (at f s t h)
  where
    at : (f : List ℕ → List ℕ → Bool) (s t : List ℕ) → f s t ≡ true → cut f (s ++ t) ≡ true
    at f [] [] h = h
    at f [] (b ∷ t) h = or_left (f [] (b ∷ t)) _ h
    at f (b ∷ s) t h = or_right (f [] (b ∷ (s ++ t))) _ (at (λ (s t : List ℕ). f (b ∷ s) t) s t h)

-- ---------------------------------------------------------------- a number of texts

pub times_says : (f : List ℕ → Bool) (P : List ℕ → Type 0) → ((s : List ℕ) → f s ≡ true → P s)
    → (n : ℕ) (u : List ℕ) → times f n u ≡ true → Times n P u
unfolding times Times
times_says f P k zero u h = no_byte_says u h
times_says f P k (suc n) u h =
    let (s, t, e, x) = cut_says (λ (s t : List ℕ). f s && times f n t) u h in
    (s, t, e, k s (and_left (f s) _ x), times_says f P k n t (and_right (f s) _ x))

pub says_times : (f : List ℕ → Bool) (P : List ℕ → Type 0) → ((s : List ℕ) → P s → f s ≡ true)
    → (n : ℕ) (u : List ℕ) → Times n P u → times f n u ≡ true
unfolding times Times
says_times f P k zero u h = says_no_byte u h
says_times f P k (suc n) u (s, t, e, x, y) =
    says_cut (λ (s t : List ℕ). f s && times f n t) u s t e (and_both (k s x) (says_times f P k n t y))

-- of so many texts, those that are not empty: they are no more than the bytes
abbrev pub Few : (List ℕ → Type 0) → List ℕ → Type 0
Few P u = (n : ℕ) × (n ≤ length u) × Times n P u

pub without_empty : (P : List ℕ → Type 0) (n : ℕ) (u : List ℕ) → Times n P u → Few P u
unfolding Times
without_empty P zero u h = (0, omega arith, h)
without_empty P (suc n) u (s, t, e, x, y) = go s e x (without_empty P n t y)
  where
    go : (s : List ℕ) → u ≡ s ++ t → P s → Few P t → Few P u
    go [] e x w = subst (Few P) (sym e) w
    go (b ∷ s) e x (m, k, z) = (suc m, omega (arith, ap length e, length-append s t), (b ∷ s, t, e, x, z))

pub up_to_says : (f : List ℕ → Bool) (n : ℕ) (u : List ℕ) → up_to f n u ≡ true → (m : ℕ) × (times f m u ≡ true)
unfolding up_to
up_to_says f zero u h = (0, h)
up_to_says f (suc n) u h = go (or_either (times f (suc n) u) (up_to f n u) h) (up_to_says f n u)
  where
    Some : Type 0
    Some = (m : ℕ) × (times f m u ≡ true)

    go : (times f (suc n) u ≡ true) ⊎ (up_to f n u ≡ true) → (up_to f n u ≡ true → Some) → Some
    go (inl x) k = (suc n, x)
    go (inr x) k = k x

pub says_up_to : (f : List ℕ → Bool) (n m : ℕ) (u : List ℕ) → m ≤ n → times f m u ≡ true → up_to f n u ≡ true
unfolding up_to
says_up_to f zero m u k h = let e : m ≡ 0 = omega arith in subst (λ (i : ℕ). times f i u ≡ true) e h
says_up_to f (suc n) m u k h = go (eqb m (suc n)) refl (λ j. says_up_to f n m u j h)
  where
    go : (x : Bool) → eqb m (suc n) ≡ x → (m ≤ n → up_to f n u ≡ true) → up_to f (suc n) u ≡ true
    go true e i = or_left (times f (suc n) u) _ (subst (λ (i : ℕ). times f i u ≡ true) (eqb-true m (suc n) e) h)
    go false e i =
        let d : ¬ m ≡ suc n = eqb-false m (suc n) e in
        or_right (times f (suc n) u) _ (i (omega arith))
