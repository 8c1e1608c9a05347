-- What a run pushes: no limit exceeded (`Clear` of the laws), nothing reported, or a certain report. Each is read off a
-- join's parts and a marker's insides.
use Prim.Native.Nat.{ℕ}
use mathlib.Core.List.{List, [], ◌∷◌, ◌++◌}
use Rattle.definitions.specs.Skeleton.{Report, Skeleton, done, ◌⧺◌}
use Rattle.definitions.specs.Run.{closed}
use Rattle.definitions.specs.Report.{Push, event, reported, exceeded, pushes}
use Rattle.laws.specs.Pushes.{NoneExceeded}
use Rattle.laws.proofs.Clear.{clear_append}
use Rattle.laws.proofs.Skeleton.{pushes_join, pushes_closed}

-- no report
abbrev pub Quiet : List Push → Type 0
Quiet [] = Unit {0}
Quiet (event m ∷ l) = Quiet l
Quiet (reported r ∷ l) = ⊥
Quiet (exceeded m ∷ l) = Quiet l

-- this report is among them
pub data Reported (r : Report) : List Push → Type 0 where
  here : {l : List Push} → Reported r (reported r ∷ l)
  there : {x : Push} {l : List Push} → Reported r l → Reported r (x ∷ l)

-- ---------------------------------------------------------------- lists

pub quiet_append : (k l : List Push) → Quiet k → Quiet l → Quiet (k ++ l)
quiet_append [] l p q = q
quiet_append (event m ∷ k) l p q = quiet_append k l p q
quiet_append (reported r ∷ k) l p q = absurd p
quiet_append (exceeded m ∷ k) l p q = quiet_append k l p q

pub reported_left : {r : Report} {k : List Push} (l : List Push) → Reported r k → Reported r (k ++ l)
reported_left l here = here
reported_left l (there h) = there (reported_left l h)

pub reported_right : {r : Report} (k : List Push) {l : List Push} → Reported r l → Reported r (k ++ l)
reported_right [] h = h
reported_right (x ∷ k) h = there (reported_right k h)

-- ---------------------------------------------------------------- skeletons

pub clear_first : (p q : Skeleton) → NoneExceeded (pushes (p ⧺ q)) → NoneExceeded (pushes p)
clear_first p q c = (clear_append (pushes p) (pushes q) (rw pushes_join at c)).0

pub clear_second : (p q : Skeleton) → NoneExceeded (pushes (p ⧺ q)) → NoneExceeded (pushes q)
clear_second p q c = (clear_append (pushes p) (pushes q) (rw pushes_join at c)).1

pub quiet_join : (p q : Skeleton) → Quiet (pushes p) → Quiet (pushes q) → Quiet (pushes (p ⧺ q))
quiet_join p q a b = rw pushes_join (quiet_append (pushes p) (pushes q) a b)

pub reported_first : {r : Report} (p q : Skeleton) → Reported r (pushes p) → Reported r (pushes (p ⧺ q))
reported_first p q h = rw pushes_join (reported_left (pushes q) h)

pub reported_second : {r : Report} (p q : Skeleton) → Reported r (pushes q) → Reported r (pushes (p ⧺ q))
reported_second p q h = rw pushes_join (reported_right (pushes p) h)

pub quiet_done : Quiet (pushes done)
unfolding pushes
quiet_done = tt

-- a marker around a skeleton i, made to precede a
pub clear_inside : (k m m' : ℕ) (a i : Skeleton) → NoneExceeded (pushes (closed k m m' a i)) → NoneExceeded (pushes i)
clear_inside k m m' a i c =
    (clear_append (pushes i) (event m' ∷ []) (clear_append (pushes a) (event m ∷ (pushes i ++ (event m' ∷ []))) (rw pushes_closed at c)).1).0

pub clear_before : (k m m' : ℕ) (a i : Skeleton) → NoneExceeded (pushes (closed k m m' a i)) → NoneExceeded (pushes a)
clear_before k m m' a i c = (clear_append (pushes a) (event m ∷ (pushes i ++ (event m' ∷ []))) (rw pushes_closed at c)).0

pub quiet_closed : (k m m' : ℕ) (a i : Skeleton) → Quiet (pushes a) → Quiet (pushes i) → Quiet (pushes (closed k m m' a i))
quiet_closed k m m' a i p q =
    rw pushes_closed (quiet_append (pushes a) (event m ∷ (pushes i ++ (event m' ∷ []))) p (quiet_append (pushes i) (event m' ∷ []) q tt))

pub reported_before : {r : Report} (k m m' : ℕ) (a i : Skeleton) → Reported r (pushes a) → Reported r (pushes (closed k m m' a i))
reported_before k m m' a i h = rw pushes_closed (reported_left (event m ∷ (pushes i ++ (event m' ∷ []))) h)

pub reported_inside : {r : Report} (k m m' : ℕ) (a i : Skeleton) → Reported r (pushes i) → Reported r (pushes (closed k m m' a i))
reported_inside k m m' a i h = rw pushes_closed (reported_right (pushes a) (there (reported_left (event m' ∷ []) h)))
