-- What is known of the token that a peek comes to: whether there may be none, and which kinds it may have.
use Prim.Native.Nat.{ℕ}
use mathlib.Core.Bool.{Bool, true, false, cond, not, ◌&&◌, ◌||◌}
use mathlib.Core.List.{List, [], ◌∷◌}
use Rattle.definitions.specs.Token.{Token, seen, one_of}

pub data Kinds : Type 0 where
  some : List ℕ → Kinds
  all : Kinds

-- ended: there may be no token left
pub record Known : Type 0 where
  pub ended : Bool
  pub kinds : Kinds

abbrev pub known : Bool → Kinds → Known
known e k = record { ended = e; kinds = k }

-- this is not reached; nothing is known; a token is there
abbrev pub never : Known
never = known false (some [])

abbrev pub nothing : Known
nothing = known true all

abbrev pub there : Known
there = known false all

-- ---------------------------------------------------------------- sets of kinds

unfoldable pub is_among : Kinds → ℕ → Bool
unfolding one_of
is_among (some js) k = one_of js k
is_among all k = true

-- each of js that is not in ks, and ks
unfoldable pub merge : List ℕ → List ℕ → List ℕ
unfolding one_of
merge [] ks = ks
merge (j ∷ js) ks = let r = merge js ks in cond (one_of ks j) r (j ∷ r)

unfoldable pub union : Kinds → Kinds → Kinds
unfolding merge
union all e = all
union (some js) all = all
union (some js) (some ks) = some (merge js ks)

-- those of js for which the test comes out so
unfoldable pub sift : Bool → List ℕ → List ℕ → List ℕ
unfolding one_of
sift true ks [] = []
sift false ks [] = []
sift true ks (j ∷ js) = let r = sift true ks js in cond (one_of ks j) (j ∷ r) r
sift false ks (j ∷ js) = let r = sift false ks js in cond (one_of ks j) r (j ∷ r)

-- a test for ks came out true, or false
unfoldable pub keep : List ℕ → Kinds → Kinds
unfolding sift
keep ks all = some ks
keep ks (some js) = some (sift true ks js)

unfoldable pub leave : List ℕ → Kinds → Kinds
unfolding sift
leave ks all = all
leave ks (some js) = some (sift false ks js)

unfoldable pub inside : List ℕ → List ℕ → Bool
unfolding one_of
inside [] ks = true
inside (j ∷ js) ks = let r = inside js ks in cond (one_of ks j) r false

unfoldable pub kinds_within : Kinds → Kinds → Bool
unfolding inside
kinds_within d all = true
kinds_within all (some ks) = false
kinds_within (some js) (some ks) = inside js ks

-- ---------------------------------------------------------------- what is known

infixr 30 ◌∪◌
unfoldable pub ◌∪◌ : Known → Known → Known
unfolding union
d ∪ e = known (d.ended || e.ended) (union d.kinds e.kinds)

unfoldable pub within : Known → Known → Bool
unfolding kinds_within
within d e = (not d.ended || e.ended) && kinds_within d.kinds e.kinds

unfoldable pub is_never : Known → Bool
unfolding within kinds_within inside
is_never d = within d never

-- after a test for kinds, and after one for the end
unfoldable pub seen_in : List ℕ → Known → Known
unfolding keep
seen_in ks d = known false (keep ks d.kinds)

unfoldable pub not_in : List ℕ → Known → Known
unfolding leave
not_in ks d = known d.ended (leave ks d.kinds)

unfoldable pub at_end : Known → Known
at_end d = known d.ended (some [])

unfoldable pub not_at_end : Known → Known
not_at_end d = known false d.kinds

-- ---------------------------------------------------------------- what it means

unfoldable pub knows : Known → List Token → Bool
unfolding is_among seen
knows d [] = d.ended
knows d (t ∷ ts) = is_among d.kinds (seen t)
