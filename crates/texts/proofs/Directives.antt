-- `is_directive` finds what the statement calls a directive, and nothing else.
use Prim.Native.Nat.{ℕ}
use mathlib.Core.Path.{◌≡◌, refl, sym, ap, ◌∙◌, subst}
use mathlib.Core.Bool.{Bool, true, false, cond, ◌||◌, false≢true}
use mathlib.Core.Logic.{◌⊎◌, inl, inr, ◌↔◌}
use mathlib.Core.List.{List, [], ◌∷◌, ◌++◌}
use lib.Dec.{eqb}
use borrow.Author.Tests.{eqb-true, eq-eqb}
use Rattle.definitions.specs.Text.{after_blanks, begins_with, begins_with_one, is_directive}
use Rattle.basics.proofs.Tests.{and_left, and_right, and_both}
use Rattle.texts.specs.Plain.{In, words, Blanks, none, space, tab, Directive}

-- ---------------------------------------------------------------- words

or_either : (a b : Bool) → (a || b) ≡ true → (a ≡ true) ⊎ (b ≡ true)
or_either true b e = inl refl
or_either false b e = inr e

or_right : (a b : Bool) → b ≡ true → (a || b) ≡ true
or_right true b e = refl
or_right false b e = e

begins : (w behind : List ℕ) → begins_with w (w ++ behind) ≡ true
unfolding begins_with
begins [] behind = refl
begins (a ∷ w) behind = and_both (eq-eqb a a refl) (begins w behind)

begun : (w s : List ℕ) → begins_with w s ≡ true → (behind : List ℕ) × (s ≡ w ++ behind)
unfolding begins_with
begun [] s e = (s, refl)
begun (a ∷ w) [] e = absurd (false≢true e)
begun (a ∷ w) (b ∷ s) e =
    let more = begun w s (and_right (eqb b a) (begins_with w s) e) in
    let same = eqb-true b a (and_left (eqb b a) (begins_with w s) e) in
    (more.0, λ i. same i ∷ more.1 i)

-- a text that begins with one of some words
abbrev BeginsWithOne : List (List ℕ) → List ℕ → Type 0
BeginsWithOne ws s = (w : List ℕ) × (behind : List ℕ) × In w ws × (s ≡ w ++ behind)

begins_one : (ws : List (List ℕ)) (w behind : List ℕ) → In w ws → begins_with_one ws (w ++ behind) ≡ true
unfolding begins_with_one
begins_one [] w behind h = absurd h
begins_one (x ∷ ws) w behind (inl e) =
    subst (λ (y : List ℕ). (begins_with y (w ++ behind) || begins_with_one ws (w ++ behind)) ≡ true) e (rw (begins w behind))
begins_one (x ∷ ws) w behind (inr h) = or_right (begins_with x (w ++ behind)) (begins_with_one ws (w ++ behind)) (begins_one ws w behind h)

begun_one : (ws : List (List ℕ)) (s : List ℕ) → begins_with_one ws s ≡ true → BeginsWithOne ws s
unfolding begins_with_one
begun_one [] s e = absurd (false≢true e)
begun_one (x ∷ ws) s e = by (or_either (begins_with x s) (begins_with_one ws s) e) (begun_one ws s)
  where
    by : (begins_with x s ≡ true) ⊎ (begins_with_one ws s ≡ true) → (begins_with_one ws s ≡ true → BeginsWithOne ws s)
        → BeginsWithOne (x ∷ ws) s
    by (inl h) more = let g = begun x s h in (x, g.0, inl refl, g.1)
    by (inr h) more = let g = more h in (g.0, g.1, inr g.2, g.3)

-- ---------------------------------------------------------------- blanks

-- what is passed over
passed : (s : List ℕ) → (blanks : List ℕ) × Blanks blanks × (s ≡ blanks ++ after_blanks s)
unfolding after_blanks
passed [] = ([], none, refl)
passed (b ∷ s) = by (eqb b 32) refl (eqb b 9) refl (passed s)
  where
    by : (x : Bool) → eqb b 32 ≡ x → (y : Bool) → eqb b 9 ≡ y → (blanks : List ℕ) × Blanks blanks × (s ≡ blanks ++ after_blanks s)
        → (blanks : List ℕ) × Blanks blanks × (b ∷ s ≡ blanks ++ cond (x || y) (after_blanks s) (b ∷ s))
    by true e y f p = (32 ∷ p.0, space p.0 p.1, λ i. eqb-true b 32 e i ∷ p.2 i)
    by false e true f p = (9 ∷ p.0, tab p.0 p.1, λ i. eqb-true b 9 f i ∷ p.2 i)
    by false e false f p = ([], none, refl)

pass : {blanks : List ℕ} → Blanks blanks → (t : List ℕ) → after_blanks (blanks ++ t) ≡ after_blanks t
unfolding after_blanks
pass none t = refl
pass (space s h) t = pass h t
pass (tab s h) t = pass h t

-- what holds of each word holds of any
abbrev All : (List ℕ → Type 0) → List (List ℕ) → Type 0
All P [] = Unit
All P (w ∷ ws) = P w × All P ws

of_any : (P : List ℕ → Type 0) (ws : List (List ℕ)) → All P ws → (w : List ℕ) → In w ws → P w
of_any P [] a w h = absurd h
of_any P (x ∷ ws) a w (inl e) = subst P (sym e) a.0
of_any P (x ∷ ws) a w (inr h) = of_any P ws a.1 w h

-- no word begins with a blank
at_word : (w behind : List ℕ) → In w words → after_blanks (w ++ behind) ≡ w ++ behind
unfolding after_blanks
at_word w behind h =
    of_any (λ (x : List ℕ). after_blanks (x ++ behind) ≡ x ++ behind) words
    (refl, (refl, (refl, (refl, (refl, (refl, (refl, (refl, (refl, tt))))))))) w h

-- ---------------------------------------------------------------- both ways

pub found_directive : (s : List ℕ) → is_directive s ≡ true → Directive s
unfolding is_directive
found_directive [] e = absurd (false≢true e)
found_directive (b ∷ s) e =
    let p = passed s in
    let w = begun_one words (after_blanks s) (and_right (eqb b 35) (begins_with_one words (after_blanks s)) e) in
    record {
      blanks = p.0;
      word = w.0;
      behind = w.1;
      stands = (λ i. eqb-true b 35 (and_left (eqb b 35) (begins_with_one words (after_blanks s)) e) i ∷ (p.2 ∙ ap (p.0 ++◌) w.3) i);
      are_blanks = p.1;
      a_word = w.2;
    }

pub finds_directive : (s : List ℕ) → Directive s → is_directive s ≡ true
unfolding is_directive
finds_directive s d =
    let t = d.word ++ d.behind in
    subst (λ (u : List ℕ). is_directive u ≡ true) (sym d.stands)
    (subst (λ (u : List ℕ). begins_with_one words u ≡ true) (sym (pass d.are_blanks t ∙ at_word d.word d.behind d.a_word))
    (begins_one words d.word d.behind d.a_word))

pub directive_exactly : (s : List ℕ) → (is_directive s ≡ true) ↔ Directive s
directive_exactly s = (found_directive s, finds_directive s)
