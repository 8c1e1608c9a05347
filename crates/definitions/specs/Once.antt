-- Document 02, 6/14: each expectation once.
use Rattle.std.specs.Prelude.{ℕ, cond, List, [], ◌∷◌, ◌++◌}
use Rattle.definitions.specs.Token.{one_of}

-- "A pending expectation that is already there isn't pushed again; first arrivals keep their order." The code k pushed
-- onto what is pending.
unfoldable pub pushed_once : ℕ → List ℕ → List ℕ
unfolding one_of
pushed_once k l = cond (one_of l k) l (l ++ (k ∷ []))
