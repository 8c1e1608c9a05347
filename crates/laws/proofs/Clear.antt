-- A run without refusal 5: no 65th open call in what it makes.
use Prim.Native.Nat.{ℕ}
use mathlib.Core.Path.{subst}
use mathlib.Core.List.{List, [], ◌∷◌, ◌++◌}
use Rattle.definitions.specs.Skeleton.{Skeleton, ◌⧺◌}
use Rattle.definitions.specs.Run.{closed}
use Rattle.definitions.specs.Report.{Push, event, reported, exceeded, pushes}
use Rattle.laws.proofs.Skeleton.{pushes_join, pushes_closed}
use Rattle.laws.proofs.Pieces.{Pieces}
use Rattle.laws.specs.Pushes.{NoneExceeded}

pub clear_append : (l m : List Push) → NoneExceeded (l ++ m) → NoneExceeded l × NoneExceeded m
clear_append [] m h = (tt, h)
clear_append (event x ∷ l) m h = clear_append l m h
clear_append (reported r ∷ l) m h = clear_append l m h
clear_append (exceeded x ∷ l) m h = absurd h

pub append_clear : (l m : List Push) → NoneExceeded l → NoneExceeded m → NoneExceeded (l ++ m)
append_clear [] m h g = g
append_clear (event x ∷ l) m h g = append_clear l m h g
append_clear (reported r ∷ l) m h g = append_clear l m h g
append_clear (exceeded x ∷ l) m h g = absurd h

-- a run's result without refusal 5
pub record BelowLimits (p : Skeleton) : Type 0 where
  pub clear : NoneExceeded (pushes p)

pub join_within : (p q : Skeleton) → BelowLimits (p ⧺ q) → BelowLimits p × BelowLimits q
join_within p q h =
    let c : NoneExceeded (pushes p) × NoneExceeded (pushes q) = clear_append (pushes p) (pushes q) (subst NoneExceeded (pushes_join p q) h.clear) in
    (record { clear = c.0 }, record { clear = c.1 })

pub closed_within : (k m m' : ℕ) (a i : Skeleton) → BelowLimits (closed k m m' a i) → BelowLimits a × BelowLimits i
closed_within k m m' a i h =
    let c : NoneExceeded (pushes a) × NoneExceeded (event m ∷ (pushes i ++ (event m' ∷ []))) = clear_append (pushes a) (event m ∷ (pushes i ++ (event m' ∷ []))) (subst NoneExceeded (pushes_closed k m m' a i) h.clear) in
    let d : NoneExceeded (pushes i) × NoneExceeded (event m' ∷ []) = clear_append (pushes i) (event m' ∷ []) c.1 in
    (record { clear = c.0 }, record { clear = d.0 })

-- a result without it has no piece with it
pub within_pieces : Pieces BelowLimits
within_pieces = record { join = join_within; closing = closed_within }
