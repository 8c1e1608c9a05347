-- What a push makes of what is pending, and of the test for separators. An expectation that is pending already is not
-- pushed again. Where it may be pushed (`may_push`), the list is then no list of separators alone, nor becomes one.
use Prim.Native.Nat.{ℕ}
use mathlib.Core.Path.{◌≡◌, refl, sym, ap, subst, ◌∙◌}
use mathlib.Core.Bool.{Bool, true, false, cond, ◌&&◌, ◌||◌, false≢true}
use mathlib.Core.List.{List, [], ◌∷◌, ◌++◌, append_assoc, append-nil}
use lib.Dec.{eqb}
use borrow.Author.Tests.{eqb-true}
use Rattle.definitions.specs.TokenKind as K
use Rattle.definitions.specs.Token.{Token, one_of}
use Rattle.definitions.specs.Once.{pushed_once}
use Rattle.definitions.specs.Run.{only_separators}
use Rattle.basics.proofs.Tests.{cond-with, and_left, and_right}
use Rattle.facts.proofs.Known.{is_never}
use Rattle.facts.proofs.Facts.{Pend, empty, semi, comma, both, other, push_semi, push_comma, push, pend_from, By, nowhere, these, pick, may_push}
use Rattle.facts.proofs.Holds.{Told, told_nowhere, ruled_out}

-- ---------------------------------------------------------------- which lists are told apart

-- the lists that a `Pend` stands for
abbrev Exact : Pend → List ℕ → Type 0
Exact empty l = l ≡ []
Exact semi l = l ≡ K.Semicolon ∷ []
Exact comma l = l ≡ K.Comma ∷ []
Exact both l = l ≡ K.Comma ∷ K.Semicolon ∷ []
Exact other l = Unit {0}

exact_semi : (m : Pend) (l : List ℕ) → Exact m l → Exact (push_semi m) (l ++ (K.Semicolon ∷ []))
unfolding push_semi
exact_semi empty l h = ap (◌++ (K.Semicolon ∷ [])) h
exact_semi semi l h = tt
exact_semi comma l h = ap (◌++ (K.Semicolon ∷ [])) h
exact_semi both l h = tt
exact_semi other l h = tt

exact_comma : (m : Pend) (l : List ℕ) → Exact m l → Exact (push_comma m) (l ++ (K.Comma ∷ []))
unfolding push_comma
exact_comma empty l h = ap (◌++ (K.Comma ∷ [])) h
exact_comma semi l h = tt
exact_comma comma l h = tt
exact_comma both l h = tt
exact_comma other l h = tt

exact_push : (k : ℕ) (m : Pend) (l : List ℕ) → Exact m l → Exact (push k m) (l ++ (k ∷ []))
unfolding push
exact_push k m l h =
    cond-with (λ (x : Pend). Exact x (l ++ (k ∷ []))) (eqb k K.Semicolon) {x = push_semi m} {y = cond (eqb k K.Comma) (push_comma m) other}
    (λ e. subst (λ (j : ℕ). Exact (push_semi m) (l ++ (j ∷ []))) (sym (eqb-true k K.Semicolon e)) (exact_semi m l h))
    (λ _.
    cond-with (λ (x : Pend). Exact x (l ++ (k ∷ []))) (eqb k K.Comma) {x = push_comma m} {y = other}
    (λ e. subst (λ (j : ℕ). Exact (push_comma m) (l ++ (j ∷ []))) (sym (eqb-true k K.Comma e)) (exact_comma m l h))
    (λ _. tt))

exact_from : (m : Pend) (a l : List ℕ) → Exact m a → Exact (pend_from m l) (a ++ l)
unfolding pend_from
exact_from m a [] h = subst (Exact m) (sym (append-nil a)) h
exact_from m a (k ∷ l) h = subst (Exact (pend_from (push k m) l)) (append_assoc a (k ∷ []) l) (exact_from (push k m) (a ++ (k ∷ [])) l (exact_push k m a h))

-- ---------------------------------------------------------------- a push

pub pend_append : (m : Pend) (l u : List ℕ) → pend_from m (l ++ u) ≡ pend_from (pend_from m l) u
unfolding pend_from
pend_append m [] u = refl
pend_append m (k ∷ l) u = pend_append (push k m) l u

push_other : (k : ℕ) → push k other ≡ other
unfolding push push_semi push_comma
push_other k = same (eqb k K.Semicolon) (eqb k K.Comma)
  where
    same : (a b : Bool) → cond a other (cond b other other) ≡ other
    same true b = refl
    same false true = refl
    same false false = refl

-- after `pushed_once` a list counts as after a plain push, if it counts as `other` where the push is left out
pub pend_once : (k : ℕ) (l : List ℕ) → (one_of l k ≡ true → pend_from empty l ≡ other) → pend_from empty (pushed_once k l) ≡ push k (pend_from empty l)
unfolding pushed_once pend_from
pend_once k l h =
    cond-with (λ (u : List ℕ). pend_from empty u ≡ push k (pend_from empty l)) (one_of l k) {x = l} {y = l ++ (k ∷ [])}
    (λ e. h e ∙ sym (push_other k) ∙ ap (push k) (sym (h e)))
    (λ _. pend_append empty l (k ∷ []))

-- what holds of each number of a list holds of one that is in it
Each : (ℕ → Type 0) → List ℕ → Type 0
Each P [] = Unit {0}
Each P (j ∷ l) = P j × Each P l

among : (P : ℕ → Type 0) (l : List ℕ) (k : ℕ) → Each P l → one_of l k ≡ true → P k
unfolding Each one_of
among P [] k h e = absurd (false≢true e)
among P (j ∷ l) k h e =
    cond-with (λ (b : Bool). b ≡ true → P k) (eqb j k) {x = true} {y = one_of l k} (λ i _. subst P (eqb-true j k i) h.0) (λ _ i. among P l k h.1 i) e

-- at the tokens ts, where f is known and m pending: if k may be pushed, more than separators is pending
abbrev Apart : By → List Token → Pend → ℕ → Type 0
Apart f ts m k = may_push k f ≡ true → Told m f ts → m ≡ other

-- that is so if it is pending already
apart : (f : By) (ts : List Token) (m : Pend) (l : List ℕ) (k : ℕ) → Exact m l → one_of l k ≡ true → Apart f ts m k
unfolding Each one_of may_push pick
apart nowhere ts m l k h i e t = told_nowhere m ts t
apart (these f) ts empty l k h i e t = among (Apart (these f) ts empty) [] k tt (subst (λ (u : List ℕ). one_of u k ≡ true) h i) e t
apart (these f) ts semi l k h i e t =
    among (Apart (these f) ts semi) (K.Semicolon ∷ []) k (λ x y. ruled_out f.if_semi ts (and_left (is_never f.if_semi) _ x) y, tt) (subst (λ (u : List ℕ). one_of u k ≡ true) h i) e t
apart (these f) ts comma l k h i e t =
    among (Apart (these f) ts comma) (K.Comma ∷ []) k (λ x y. ruled_out f.if_comma ts (and_left (is_never f.if_comma) _ x) y, tt) (subst (λ (u : List ℕ). one_of u k ≡ true) h i) e t
apart (these f) ts both l k h i e t =
    among (Apart (these f) ts both) (K.Comma ∷ K.Semicolon ∷ []) k
    (λ x y. ruled_out f.if_both ts (and_right (is_never f.if_comma) _ x) y, (λ x y. ruled_out f.if_both ts (and_right (is_never f.if_semi) _ x) y, tt))
    (subst (λ (u : List ℕ). one_of u k ≡ true) h i) e t
apart (these f) ts other l k h i e t = refl

pub repeat_other : (f : By) (ts : List Token) (l : List ℕ) (k : ℕ) → may_push k f ≡ true → Told (pend_from empty l) f ts → one_of l k ≡ true → pend_from empty l ≡ other
repeat_other f ts l k e t i = apart f ts (pend_from empty l) l k (exact_from empty [] l refl) i e t

-- ---------------------------------------------------------------- the test for separators

other_stays : (u : List ℕ) → pend_from other u ≡ other
unfolding pend_from
other_stays [] = refl
other_stays (k ∷ u) = ap (λ (m : Pend). pend_from m u) (push_other k) ∙ other_stays u

other_test : (l : List ℕ) → pend_from empty l ≡ other → only_separators l ≡ false
unfolding only_separators
other_test [] h = refl
other_test (a ∷ []) h = one (eqb a K.Semicolon) (eqb a K.Comma) (unfold pend_from push push_semi push_comma in h)
  where
    one : (x y : Bool) → cond x semi (cond y comma other) ≡ other → (x || y) ≡ false
    one true y e = cc
    one false true e = cc
    one false false e = refl
other_test (a ∷ b ∷ []) h = two (eqb a K.Comma) (eqb b K.Semicolon) refl refl
  where
    two : (x y : Bool) → eqb a K.Comma ≡ x → eqb b K.Semicolon ≡ y → (x && y) ≡ false
    two true true e f =
        let g : both ≡ other = unfold pend_from push push_semi push_comma in
        (subst (λ (j : ℕ). pend_from empty (K.Comma ∷ j ∷ []) ≡ other) (eqb-true b K.Semicolon f) (subst (λ (j : ℕ). pend_from empty (j ∷ b ∷ []) ≡ other) (eqb-true a K.Comma e) h)) in
        cc g
    two true false e f = refl
    two false y e f = refl
other_test (a ∷ b ∷ c ∷ l) h = refl

-- more than separators is pending, and so it stays whatever is pushed
pub other_settled : (l u : List ℕ) → pend_from empty l ≡ other → only_separators (l ++ u) ≡ false
other_settled l u h = other_test (l ++ u) (pend_append empty l u ∙ ap (λ (m : Pend). pend_from m u) h ∙ other_stays u)
