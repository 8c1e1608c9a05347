-- The reports of a skeleton, in order: those of a join, and the marks of a run's.
use Prim.Native.Nat.{ℕ, ◌≤◌, ◌<◌}
use native.Mathlib.Nat.{le_trans}
use mathlib.Core.Path.{◌≡◌, ap, sym, ◌∙◌, subst}
use mathlib.Core.List.{List, [], ◌∷◌, ◌++◌, append-nil}
use Rattle.definitions.specs.Skeleton.{Report, Skeleton, ◌⧺◌}
use Rattle.definitions.specs.Run.{closed}
use Rattle.definitions.specs.Report.{Push, event, reported, exceeded, pushes, reports}
use Rattle.laws.proofs.Skeleton.{pushes_join, pushes_closed, reports_append}
use Rattle.laws.proofs.Marks.{Falls, Within, falls_within}

-- a fact of each
abbrev pub All : {A : Type 0} → (A → Type 0) → List A → Type 0
All P [] = Unit {0}
All P (r ∷ l) = P r × All P l

pub all_append : {A : Type 0} (P : A → Type 0) (l m : List A) → All P l → All P m → All P (l ++ m)
all_append P [] m h g = g
all_append P (r ∷ l) m h g = (h.0, all_append P l m h.1 g)

-- the reports of a skeleton, in order
abbrev pub told : Skeleton → List Report
told p = reports (pushes p)

pub told_join : (p q : Skeleton) → told (p ⧺ q) ≡ told p ++ told q
told_join p q = ap reports (pushes_join p q) ∙ reports_append (pushes p) (pushes q)

pub told_closed : (k m m' : ℕ) (a i : Skeleton) → told (closed k m m' a i) ≡ told a ++ told i
unfolding reports
told_closed k m m' a i =
    ap reports (pushes_closed k m m' a i) ∙ reports_append (pushes a) _ ∙ ap (told a ++◌) (reports_append (pushes i) (event m' ∷ []) ∙ append-nil (told i))

pub told_all : (P : Report → Type 0) (p q : Skeleton) → All P (told p) → All P (told q) → All P (told (p ⧺ q))
told_all P p q h g = subst (All P) (sym (told_join p q)) (all_append P (told p) (told q) h g)

-- made with more than n tokens left
abbrev pub Above : ℕ → Report → Type 0
Above n r = n < r.mark

-- the marks of a run's reports lie between the marks at its ends
within_all : (a b : ℕ) (l : List Push) → Within a l b → All (λ r. (r.mark ≤ a) × (b ≤ r.mark)) (reports l)
unfolding reports
within_all a b [] w = tt
within_all a b (event x ∷ l) w = within_all a b l w.2
within_all a b (reported r ∷ l) w = ((w.0, w.1), within_all a b l w.2)
within_all a b (exceeded x ∷ l) w = within_all a b l w.2

pub all_map : (P Q : Report → Type 0) → ((r : Report) → P r → Q r) → (l : List Report) → All P l → All Q l
all_map P Q f [] h = tt
all_map P Q f (r ∷ l) h = (f r h.0, all_map P Q f l h.1)

pub falls_above : (n a b : ℕ) (p : Skeleton) → n < b → Falls a (pushes p) b → All (Above n) (told p)
falls_above n a b p h f = all_map _ (Above n) (λ r w. le_trans h w.1) (told p) (within_all a b (pushes p) (falls_within a b (pushes p) f))

pub falls_below : (a b : ℕ) (p : Skeleton) → Falls a (pushes p) b → All (λ r. r.mark ≤ a) (told p)
falls_below a b p f = all_map _ (λ r. r.mark ≤ a) (λ r w. w.0) (told p) (within_all a b (pushes p) (falls_within a b (pushes p) f))
