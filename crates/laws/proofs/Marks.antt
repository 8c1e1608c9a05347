-- Marks never fall. Counted from the end of the file, as the definitions count them: what is pushed, in order, has
-- marks that only go down, from the mark at the start of a run to the mark at its end.
use Prim.Native.Nat.{ℕ, ◌≤◌}
use native.Mathlib.Nat.{le_trans, le_refl}
use native.Mathlib.Omega.{arith}
use mathlib.Core.Path.{ap}
use mathlib.Core.List.{List, [], ◌∷◌, ◌++◌}
use lib.ListN.{length, length-append}
use Rattle.definitions.specs.Layout.{MOST_OPEN_CALLS}
use Rattle.definitions.specs.Token.{Token}
use Rattle.definitions.specs.Prog.{Rule, Prog}
use Rattle.definitions.specs.Grammar.{Entry, whole}
use Rattle.definitions.specs.Skeleton.{Label, no_label, Skeleton, ◌⧺◌}
use Rattle.definitions.specs.Run.{State, mark_of, taken, closed, exec, run}
use Rattle.definitions.specs.Report.{Push, event, reported, exceeded, pushes}
use Rattle.definitions.specs.Call.{run_entry}
use Rattle.laws.proofs.Trivia.{passes_length}
use Rattle.laws.proofs.Skeleton.{pushes_join, pushes_closed}
use Rattle.laws.proofs.Kept.{Stands, Kept, run_kept, exec_kept, whole_kept}

-- a push's mark
abbrev pub push_mark : Push → ℕ
push_mark (event m) = m
push_mark (reported r) = r.mark
push_mark (exceeded m) = m

-- from a, through the marks of l, down to b
abbrev pub Falls : ℕ → List Push → ℕ → Type 0
Falls a [] b = b ≤ a
Falls a (x ∷ l) b = (push_mark x ≤ a) × Falls (push_mark x) l b

pub falls_le : (a b : ℕ) (l : List Push) → Falls a l b → b ≤ a
falls_le a b [] h = h
falls_le a b (x ∷ l) h = le_trans (falls_le (push_mark x) b l h.1) h.0

pub falls_append : (a b c : ℕ) (l m : List Push) → Falls a l b → Falls b m c → Falls a (l ++ m) c
falls_append a b c [] [] p q = le_trans q p
falls_append a b c [] (y ∷ m) p q = (le_trans q.0 p, q.1)
falls_append a b c (x ∷ l) m p q = (p.0, falls_append (push_mark x) b c l m p.1 q)

-- every push's mark lies between the two ends
abbrev pub Within : ℕ → List Push → ℕ → Type 0
Within a [] b = Unit {0}
Within a (x ∷ l) b = (push_mark x ≤ a) × (b ≤ push_mark x) × Within a l b

within_wider : (a a' b : ℕ) (l : List Push) → a ≤ a' → Within a l b → Within a' l b
within_wider a a' b [] h w = tt
within_wider a a' b (x ∷ l) h w = (le_trans w.0 h, w.1, within_wider a a' b l h w.2)

pub falls_within : (a b : ℕ) (l : List Push) → Falls a l b → Within a l b
falls_within a b [] h = tt
falls_within a b (x ∷ l) h = (h.0, falls_le (push_mark x) b l h.1, within_wider (push_mark x) a b l h.0 (falls_within (push_mark x) b l h.1))

-- ---------------------------------------------------------------- every run

-- what p pushes falls from the mark at s to the mark at u
pub record Down (s : State) (p : Skeleton) (u : State) : Type 0 where
  pub falls : Falls (mark_of s) (pushes p) (mark_of u)

-- the cursor is not before the last token taken
pub stands_within : (s : State) → Stands s → length s.rest ≤ mark_of s
stands_within s h = passes_length s.since s.rest h.passed

down_join : (s u v : State) (p q : Skeleton) → Down s p u → Down u q v → Down s (p ⧺ q) v
down_join s u v p q a b = record { falls = rw pushes_join (falls_append (mark_of s) (mark_of u) (mark_of v) (pushes p) (pushes q) a.falls b.falls) }

down_close : (s u v : State) (k : ℕ) (a i : Skeleton) → Down s a u → Down u i v → Down s (closed k (mark_of u) (mark_of v) a i) v
down_close s u v k a i d e =
    record {
      falls =
          rw pushes_closed
          (falls_append (mark_of s) (mark_of u) (mark_of v) (pushes a) _ d.falls
          (le_refl _, falls_append (mark_of u) (mark_of v) (mark_of v) (pushes i) _ e.falls (le_refl _, le_refl _)));
    }

pub marks_kept : Kept Down
unfolding pushes
marks_kept =
    record {
      pass = λ s ts h p. record { falls = le_refl _ };
      expect = λ s k h. record { falls = le_refl (mark_of s) };
      token = λ s t ts h e d. let w : length s.rest ≤ mark_of s = stands_within s h in record { falls = (omega (arith, ap length e), le_refl _) };
      name = λ s ks t raw ts h e d i. let w : length s.rest ≤ mark_of s = stands_within s h in record { falls = (omega (arith, simp length-append at (ap length e)), le_refl _) };
      report = λ s m k l h d. record { falls = (le_refl _, le_refl _) };
      over = λ s h. record { falls = (le_refl _, le_refl _) };
      join = down_join;
      close = down_close;
    }

-- MARKS NEVER FALL: of every call
pub run_marks : (n : ℕ) (r : Rule) (s : State) → Stands s → Falls (mark_of s) (pushes (run n r s).made) (mark_of (run n r s).state)
run_marks n r s h = (run_kept Down marks_kept n r s h).1.falls

-- of every program over such calls
pub exec_marks : (n : ℕ) (b : Label) (p : Prog) (s : State) → Stands s → Falls (mark_of s) (pushes (exec (run n) b p s).made) (mark_of (exec (run n) b p s).state)
exec_marks n b p s h = (exec_kept Down marks_kept (run n) (run_kept Down marks_kept n) b p s h).1.falls

-- and of a whole file
pub entry_marks : (e : Entry) (ts : List Token) → Falls (length ts) (pushes (run_entry e ts)) (mark_of (exec (run MOST_OPEN_CALLS) no_label (whole e) (taken ts)).state)
entry_marks e ts = (whole_kept Down marks_kept e ts).falls
