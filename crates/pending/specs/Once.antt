-- A list without repeats, each number at its first place.
use Rattle.std.specs.Prelude.{ℕ, cond, List, [], ◌∷◌, eqb}

-- a list without one number
unfoldable pub without : ℕ → List ℕ → List ℕ
without k [] = []
without k (j ∷ js) = let r = without k js in cond (eqb k j) r (j ∷ r)

unfoldable pub once : List ℕ → List ℕ
unfolding without
once [] = []
once (k ∷ ks) = k ∷ without k (once ks)
