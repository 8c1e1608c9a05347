-- The token that a peek comes to: which of five classes it may be of.
use Prim.Native.Nat.{ℕ}
use mathlib.Core.Path.{◌≡◌, refl, ap, sym, subst}
use mathlib.Core.Bool.{Bool, true, false, cond, not, ◌||◌, false≢true}
use mathlib.Core.List.{List, [], ◌∷◌}
use lib.Dec.{eqb}
use borrow.Author.Tests.{eqb-true, eq-eqb}
use Rattle.definitions.specs.TokenKind as K
use Rattle.definitions.specs.Token.{Token, seen, one_of, first_in, ended}
use Rattle.laws.proofs.FactsHold.{or_left, or_right}
use Rattle.brackets.proofs.Bits.{at}

-- 0: none is left. 1: an LParen. 2: an LAngle. 3: an Ident. 4: another
abbrev pub class_of : ℕ → ℕ
class_of k = cond (eqb k K.LParen) 1 (cond (eqb k K.LAngle) 2 (cond (eqb k K.Ident) 3 4))

unfoldable pub class : List Token → ℕ
class [] = 0
class (t ∷ ts) = class_of (seen t)

-- by the class of a kind
pub by_class : (P : ℕ → ℕ → Type 0) (k : ℕ) → P K.LParen 1 → P K.LAngle 2 → P K.Ident 3
    → (eqb k K.LParen ≡ false → eqb k K.LAngle ≡ false → eqb k K.Ident ≡ false → P k 4) → P k (class_of k)
by_class P k p a i o = go (eqb k K.LParen) (eqb k K.LAngle) (eqb k K.Ident) refl refl refl
  where
    go : (x y z : Bool) → eqb k K.LParen ≡ x → eqb k K.LAngle ≡ y → eqb k K.Ident ≡ z → P k (cond x 1 (cond y 2 (cond z 3 4)))
    go true y z e f g = subst (λ (j : ℕ). P j 1) (sym (eqb-true k K.LParen e)) p
    go false true z e f g = subst (λ (j : ℕ). P j 2) (sym (eqb-true k K.LAngle f)) a
    go false false true e f g = subst (λ (j : ℕ). P j 3) (sym (eqb-true k K.Ident g)) i
    go false false false e f g = o e f g

-- ---------------------------------------------------------------- sets of classes

abbrev pub anything : List Bool
anything = true ∷ true ∷ true ∷ true ∷ true ∷ []

abbrev pub none_left : List Bool
none_left = true ∷ false ∷ false ∷ false ∷ false ∷ []

abbrev pub some_left : List Bool
some_left = false ∷ true ∷ true ∷ true ∷ true ∷ []

abbrev pub another : List Bool
another = false ∷ false ∷ false ∷ false ∷ true ∷ []

-- one of the kinds is of the class
unfoldable pub has_class : ℕ → List ℕ → Bool
has_class c [] = false
has_class c (k ∷ ks) = eqb (class_of k) c || has_class c ks

-- of the kinds, and not of the kinds
unfoldable pub seen_set : List ℕ → List Bool
unfolding has_class
seen_set ks = false ∷ has_class 1 ks ∷ has_class 2 ks ∷ has_class 3 ks ∷ has_class 4 ks ∷ []

unfoldable pub unseen_set : List ℕ → List Bool
unfolding one_of
unseen_set ks = true ∷ not (one_of ks K.LParen) ∷ not (one_of ks K.LAngle) ∷ not (one_of ks K.Ident) ∷ true ∷ []

-- the first token is of a class of the set
abbrev pub Allows : List Bool → List Token → Type 0
Allows n l = at (class l) n ≡ true

eqb_same : (k : ℕ) → eqb k k ≡ true
eqb_same k = eq-eqb k k refl

class_in : (ks : List ℕ) (k : ℕ) → one_of ks k ≡ true → has_class (class_of k) ks ≡ true
unfolding one_of has_class
class_in [] k e = absurd (false≢true e)
class_in (x ∷ ks) k e = go (eqb x k) refl e (class_in ks k)
  where
    go : (b : Bool) → eqb x k ≡ b → cond b true (one_of ks k) ≡ true → (one_of ks k ≡ true → has_class (class_of k) ks ≡ true)
        → (eqb (class_of x) (class_of k) || has_class (class_of k) ks) ≡ true
    go true f h ih = or_left _ _ (subst (λ (j : ℕ). eqb (class_of x) (class_of j) ≡ true) (eqb-true x k f) (eqb_same (class_of x)))
    go false f h ih = or_right (eqb (class_of x) (class_of k)) _ (ih h)

pub allows_seen : (ks : List ℕ) (l : List Token) → first_in ks l ≡ true → Allows (seen_set ks) l
unfolding first_in class seen_set
allows_seen ks [] e = absurd (false≢true e)
allows_seen ks (t ∷ ts) e =
    by_class (λ (k c : ℕ). has_class c ks ≡ true → at c (seen_set ks) ≡ true) (seen t) (λ h. h) (λ h. h) (λ h. h) (λ _ _ _ h. h) (class_in ks (seen t) e)

pub allows_unseen : (ks : List ℕ) (l : List Token) → first_in ks l ≡ false → Allows (unseen_set ks) l
unfolding first_in class unseen_set
allows_unseen ks [] e = refl
allows_unseen ks (t ∷ ts) e =
    by_class (λ (k c : ℕ). one_of ks k ≡ false → at c (unseen_set ks) ≡ true) (seen t) (λ h. ap not h) (λ h. ap not h) (λ h. ap not h) (λ _ _ _ h. refl) e

pub allows_anything : (l : List Token) → Allows anything l
unfolding class
allows_anything [] = refl
allows_anything (t ∷ ts) = by_class (λ (k c : ℕ). at c anything ≡ true) (seen t) refl refl refl (λ _ _ _. refl)

pub allows_ended : (l : List Token) → ended l ≡ true → Allows none_left l
unfolding class
allows_ended [] e = refl
allows_ended (t ∷ ts) e = absurd (false≢true e)

pub allows_there : (l : List Token) → ended l ≡ false → Allows some_left l
unfolding class
allows_there [] e = absurd (false≢true (sym e))
allows_there (t ∷ ts) e = by_class (λ (k c : ℕ). at c some_left ≡ true) (seen t) refl refl refl (λ _ _ _. refl)
