-- Walking along a list in search of the first member of which a property does not hold; and that there is only one
-- first.
use mathlib.Core.Path.{◌≡◌, refl, sym, ap, subst, subst₂, ◌∙◌}
use mathlib.Core.List.{List, [], ◌∷◌, ◌++◌, append-nil, append_assoc}
use Rattle.basics.proofs.Lists.{first_same, rest_same, none_some}
use Rattle.refusals.specs.First.{Each, First}

module _ {A : Type 0} (P : List A → A → Type 0) where
  -- the same two, of a list after other members
  abbrev pub EachAfter : List A → List A → Type 0
  EachAfter pre l = (before : List A) (x : A) (after : List A) → l ≡ before ++ (x ∷ after) → P (pre ++ before) x

  pub record First-after (pre l before : List A) (x : A) : Type 0 where
    pub after : List A
    pub stands : l ≡ before ++ (x ∷ after)
    pub each_before : EachAfter pre before
    pub fails : ¬ P (pre ++ before) x

  pub each_nil : (pre : List A) → EachAfter pre []
  each_nil pre [] x after e = absurd (none_some e)
  each_nil pre (y ∷ before) x after e = absurd (none_some e)

  pub each_cons : (pre : List A) (x : A) (l : List A) → P pre x → EachAfter (pre ++ (x ∷ [])) l → EachAfter pre (x ∷ l)
  each_cons pre x l h g [] y after e = subst₂ P (sym (append-nil pre)) (first_same e) h
  each_cons pre x l h g (z ∷ before) y after e =
      subst (λ (w : List A). P w y) (append_assoc pre (x ∷ []) before ∙ ap (λ (w : A). pre ++ (w ∷ before)) (first_same e))
      (g before y after (rest_same e))

  pub each_rest : (pre : List A) (x : A) (l : List A) → EachAfter pre (x ∷ l) → EachAfter (pre ++ (x ∷ [])) l
  each_rest pre x l h before y after e = subst (λ (w : List A). P w y) (sym (append_assoc pre (x ∷ []) before)) (h (x ∷ before) y after (ap (x ∷◌) e))

  pub first_here : (pre : List A) (x : A) (l : List A) → ¬ P pre x → First-after pre (x ∷ l) [] x
  first_here pre x l h =
      record { after = l; stands = refl; each_before = each_nil pre; fails = λ (p : P (pre ++ []) x). h (subst (λ (w : List A). P w x) (append-nil pre) p) }

  pub first_later : (pre : List A) (x : A) (l before : List A) (y : A) → P pre x → First-after (pre ++ (x ∷ [])) l before y → First-after pre (x ∷ l) (x ∷ before) y
  first_later pre x l before y h f =
      record {
        after = f.after;
        stands = ap (x ∷◌) f.stands;
        each_before = each_cons pre x before h f.each_before;
        fails = λ (p : P (pre ++ (x ∷ before)) y). f.fails (subst (λ (w : List A). P w y) (sym (append_assoc pre (x ∷ []) before)) p);
      }

  pub from_nothing : (l before : List A) (x : A) → First-after [] l before x → First P l before x
  from_nothing l before x f = record { after = f.after; stands = f.stands; each_before = f.each_before; fails = f.fails }

-- two ways to cut one list
data Cuts {A : Type 0} (before before' : List A) (x x' : A) : Type 0 where
  same : before ≡ before' → x ≡ x' → Cuts before before' x x'
  earlier : (rest : List A) → before' ≡ before ++ (x ∷ rest) → Cuts before before' x x'
  later : (rest : List A) → before ≡ before' ++ (x' ∷ rest) → Cuts before before' x x'

cuts : {A : Type 0} (before before' after after' : List A) (x x' : A) → before ++ (x ∷ after) ≡ before' ++ (x' ∷ after') → Cuts before before' x x'
cuts [] [] after after' x x' e = same refl (first_same e)
cuts [] (y ∷ before') after after' x x' e = earlier before' (ap (◌∷ before') (sym (first_same e)))
cuts (y ∷ before) [] after after' x x' e = later before (ap (◌∷ before) (first_same e))
cuts {A} (y ∷ before) (y' ∷ before') after after' x x' e =
    longer (first_same e)
    (cuts before before' after after' x x' (rest_same e))
  where
    longer : y ≡ y' → Cuts before before' x x' → Cuts (y ∷ before) (y' ∷ before') x x'
    longer h (same p q) = same (ap (y ∷◌) p ∙ ap (◌∷ before') h) q
    longer h (earlier rest p) = earlier rest (ap (◌∷ before') (sym h) ∙ ap (y ∷◌) p)
    longer h (later rest p) = later rest (ap (◌∷ before) h ∙ ap (y' ∷◌) p)

-- ONLY ONE FIRST
pub only_first : {A : Type 0} (P : List A → A → Type 0) (l before before' : List A) (x x' : A) → First P l before x → First P l before' x' → (before ≡ before') × (x ≡ x')
only_first P l before before' x x' f g = by (cuts before before' f.after g.after x x' (sym f.stands ∙ g.stands))
  where
    by : Cuts before before' x x' → (before ≡ before') × (x ≡ x')
    by (same p q) = (p, q)
    by (earlier rest p) = absurd (f.fails (g.each_before before x rest p))
    by (later rest p) = absurd (g.fails (f.each_before before' x' rest p))

pub first_each : {A : Type 0} (P : List A → A → Type 0) (l before : List A) (x : A) → First P l before x → Each P l → ⊥
first_each P l before x f h = f.fails (h before x f.after f.stands)
