-- What holds of each member of a list, and the first of which it does not hold. A member is judged by what stands
-- before it.
use Rattle.std.specs.Prelude.{◌≡◌, List, ◌∷◌, ◌++◌}

-- P holds of each member
abbrev pub Each : {A : Type 0} → (List A → A → Type 0) → List A → Type 0
Each {A} P l = (before : List A) (x : A) (after : List A) → l ≡ before ++ (x ∷ after) → P before x

-- x, which stands after `before`, is the first of which P does not hold
pub record First {A : Type 0} (P : List A → A → Type 0) (l before : List A) (x : A) : Type 0 where
  pub after : List A
  pub stands : l ≡ before ++ (x ∷ after)
  pub each_before : Each P before
  pub fails : ¬ P before x
