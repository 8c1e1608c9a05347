-- What holds of each step of two parts, one after the other: of the first, and, if refusal 5 is not among its steps, of
-- the second.
use mathlib.Core.List.{List, [], ◌∷◌, ◌++◌}
use Rattle.run_steps.specs.Steps.{Step, begun, branched, turned, linked, spent, exceeded, EveryStep}
use Rattle.facts.proofs.Good.{Free}

pub each_first : (P : Step → Type 0) (l m : List Step) → EveryStep P (l ++ m) → EveryStep P l
each_first P [] m h = tt
each_first P (begun p s ∷ l) m h = (h.0, each_first P l m h.1)
each_first P (branched a ∷ l) m h = (h.0, each_first P l m h.1)
each_first P (turned s o ∷ l) m h = (h.0, each_first P l m h.1)
each_first P (linked s o ∷ l) m h = (h.0, each_first P l m h.1)
each_first P (spent ∷ l) m h = (h.0, each_first P l m h.1)
each_first P (exceeded ∷ l) m h = tt

pub each_second : (P : Step → Type 0) (l m : List Step) → EveryStep P (l ++ m) → Free l → EveryStep P m
each_second P [] m h f = h
each_second P (begun p s ∷ l) m h f = each_second P l m h.1 f
each_second P (branched a ∷ l) m h f = each_second P l m h.1 f
each_second P (turned s o ∷ l) m h f = each_second P l m h.1 f
each_second P (linked s o ∷ l) m h f = each_second P l m h.1 f
each_second P (spent ∷ l) m h f = each_second P l m h.1 f
each_second P (exceeded ∷ l) m h f = absurd f

pub free_both : (l m : List Step) → Free l → Free m → Free (l ++ m)
free_both [] m f g = g
free_both (begun p s ∷ l) m f g = free_both l m f g
free_both (branched a ∷ l) m f g = free_both l m f g
free_both (turned s o ∷ l) m f g = free_both l m f g
free_both (linked s o ∷ l) m f g = free_both l m f g
free_both (spent ∷ l) m f g = free_both l m f g
free_both (exceeded ∷ l) m f g = absurd f
