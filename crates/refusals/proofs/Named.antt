-- What `names_fit` finds is what the statement says: the report of every Name fits, or the refusal is that of the first
-- that does not.
use Prim.Native.Nat.{ℕ, zero, suc, ◌+◌, ◌-◌, ◌/◌}
use native.Mathlib.Omega.{arith}
use mathlib.Core.Path.{◌≡◌, refl, ap}
use mathlib.Core.List.{List, [], ◌∷◌, ◌++◌}
use lib.ListN.{length, length-append}
use Rattle.definitions.specs.Layout.{REPORT_ROW}
use Rattle.definitions.specs.Grammar.{Entry}
use Rattle.definitions.specs.Report.{Room}
use Rattle.definitions.specs.Refusal.{no_report_room, Verdict, accepted, refused}
use Rattle.definitions.specs.Strict.{NameAt, names_fit}
use Rattle.definitions.specs.Call.{Buffers}
use Rattle.refusals.specs.First.{Each, First}
use Rattle.refusals.specs.Refusals.{reports_in, happens, NameFits}
use Rattle.refusals.proofs.Firsts.{EachAfter, First-after, each_nil, each_cons, first_here, first_later, from_nothing, only_first, first_each}
use Rattle.refusals.proofs.Judged.{RowsLeft}

data Walked (e : Entry) (tokens : List ℕ) (b : Buffers) (pre l : List NameAt) : Verdict → Type 0 where
  all : EachAfter (NameFits e tokens b) pre l → Walked e tokens b pre l accepted
  first : (before : List NameAt) (x : NameAt) → First-after (NameFits e tokens b) pre l before x → Walked e tokens b pre l (refused (no_report_room x.first_token))

pub data Names (e : Entry) (tokens : List ℕ) (b : Buffers) (l : List NameAt) : Verdict → Type 0 where
  all_reported : Each (NameFits e tokens b) l → Names e tokens b l accepted
  first_left : (before : List NameAt) (x : NameAt) → First (NameFits e tokens b) l before x → Names e tokens b l (refused (no_report_room x.first_token))

module _ (e : Entry) (tokens : List ℕ) (b : Buffers) where
  later : (pre l : List NameAt) (x : NameAt) (v : Verdict) → NameFits e tokens b pre x → Walked e tokens b (pre ++ (x ∷ [])) l v → Walked e tokens b pre (x ∷ l) v
  later pre l x v h (all g) = all (each_cons (NameFits e tokens b) pre x l h g)
  later pre l x v h (first before y g) = first (x ∷ before) y (first_later (NameFits e tokens b) pre x l before y h g)

  -- the room that is left after the run and the Names before
  walk : (pre l : List NameAt) (room : ℕ) → room ≡ length b.reports / REPORT_ROW - (reports_in (happens e tokens) + length pre) → Walked e tokens b pre l (names_fit room l)
  unfolding names_fit
  walk pre [] room h = all (each_nil (NameFits e tokens b) pre)
  walk pre (x ∷ l) zero h = first [] x (first_here (NameFits e tokens b) pre x l (λ (a : NameFits e tokens b pre x). omega (arith, a, h)))
  walk pre (x ∷ l) (suc room) h =
      later pre l x (names_fit room l) (omega (arith, h)) (walk (pre ++ (x ∷ [])) l room (omega (arith, h, length-append pre (x ∷ []))))

  ended : (l : List NameAt) (v : Verdict) → Walked e tokens b [] l v → Names e tokens b l v
  ended l v (all h) = all_reported h
  ended l v (first before x h) = first_left before x (from_nothing (NameFits e tokens b) l before x h)

  -- WHICH NAME'S REPORT IS THE FIRST THAT DOES NOT FIT
  pub judged_names : (z : Room) → RowsLeft b (happens e tokens) z → (l : List NameAt) → Names e tokens b l (names_fit z.reports l)
  judged_names z r l = ended l _ (walk [] l z.reports (omega (arith, r)))

  pub names_pass : (l : List NameAt) → Each (NameFits e tokens b) l → (v : Verdict) → Names e tokens b l v → v ≡ accepted
  names_pass l h v (all_reported g) = refl
  names_pass l h v (first_left before x f) = absurd (first_each (NameFits e tokens b) l before x f h)

  pub names_fail : (l before : List NameAt) (x : NameAt) → First (NameFits e tokens b) l before x → (v : Verdict) → Names e tokens b l v → v ≡ refused (no_report_room x.first_token)
  names_fail l before x f v (all_reported g) = absurd (first_each (NameFits e tokens b) l before x f g)
  names_fail l before x f v (first_left before' x' f') = ap (λ (y : NameAt). refused (no_report_room y.first_token)) (only_first (NameFits e tokens b) l before' before x' x f' f).1
