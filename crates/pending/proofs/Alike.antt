-- What two runs make, side by side: first the run as it is, then one with another pending list. The pieces are the
-- same, and the reports alike. Of `Alike`'s two flags the first says whether this run was refused 5 before these
-- pieces, and the second whether it was after them; once it was, nothing is said of the ranges.
use Prim.Native.Nat.{ℕ, zero, suc}
use mathlib.Core.Path.{◌≡◌, ap, ◌∙◌}
use mathlib.Core.Bool.{Bool, true, false}
use mathlib.Core.List.{List}
use Rattle.definitions.specs.Token.{Token}
use Rattle.definitions.specs.Skeleton.{Span, Report, Skeleton, done, token, name, node, ignored, report, over, ◌⧺◌}
use Rattle.definitions.specs.Run.{closed}
use Rattle.pending.specs.AsBefore.{unranged}

-- How the two compare. list: the list of a report here, by that of the other run. Limited: whether the other run may be
-- refused 5 where this one is not.
pub record Terms : Type 1 where
  pub list : List ℕ → List ℕ
  pub Limited : Type 0

abbrev pub listed : Terms → Report → Report
listed c r = record { message = r.message; range = r.range; mark = r.mark; hint = r.hint; labelled = r.labelled; pool = c.list r.pool }

pub record Reports (c : Terms) (refused : Bool) (r q : Report) : Type 0 where
  pub but_range : unranged r ≡ unranged (listed c q)
  pub range : refused ≡ false → r.range ≡ q.range

pub data Alike (c : Terms) : Bool → Bool → Skeleton → Skeleton → Type 0 where
  no_more : {f : Bool} → Alike c f f done done
  tokens : {f g : Bool} {p q : Skeleton} (t : Token) (m : ℕ) → Alike c f g p q → Alike c f g (token t m p) (token t m q)
  names : {f g : Bool} {p q : Skeleton} (ts : List Token) (m : ℕ) → Alike c f g p q → Alike c f g (name ts m p) (name ts m q)
  nodes : {f g h j : Bool} {a b i o p q : Skeleton} (k m m' : ℕ) → Alike c f g a b → Alike c g h i o → Alike c h j p q → Alike c f j (node k m m' a i p) (node k m m' b o q)
  ignoreds : {f g h j : Bool} {a b i o p q : Skeleton} (m m' : ℕ) → Alike c f g a b → Alike c g h i o → Alike c h j p q → Alike c f j (ignored m m' a i p) (ignored m m' b o q)
  reports : {f g : Bool} {p q : Skeleton} {r s : Report} → Reports c f r s → Alike c f g p q → Alike c f g (report r p) (report s q)
  overs : {f g : Bool} {p q : Skeleton} (m : ℕ) → Alike c true g p q → Alike c f g (over m p) (over m q)
  -- an expectation too many, in the other run
  limit : {f g : Bool} {p q : Skeleton} (m : ℕ) → c.Limited → Alike c f g p q → Alike c f g p (over m q)

-- one after the other
pub alike_join : {c : Terms} {f g h : Bool} {p q p' q' : Skeleton} → Alike c f g p q → Alike c g h p' q' → Alike c f h (p ⧺ p') (q ⧺ q')
unfolding ◌⧺◌
alike_join no_more y = y
alike_join (tokens t m x) y = tokens t m (alike_join x y)
alike_join (names ts m x) y = names ts m (alike_join x y)
alike_join (nodes k m m' a i x) y = nodes k m m' a i (alike_join x y)
alike_join (ignoreds m m' a i x) y = ignoreds m m' a i (alike_join x y)
alike_join (reports r x) y = reports r (alike_join x y)
alike_join (overs m x) y = overs m (alike_join x y)
alike_join (limit m l x) y = limit m l (alike_join x y)

-- a marker closed
pub alike_closed : {c : Terms} {f g h : Bool} {a b i o : Skeleton} (k m m' : ℕ) → Alike c f g a b → Alike c g h i o → Alike c f h (closed k m m' a i) (closed k m m' b o)
unfolding closed
alike_closed zero m m' x y = ignoreds m m' x y no_more
alike_closed (suc k) m m' x y = nodes (suc k) m m' x y no_more

-- the range given back to a report
abbrev ranged : Span → Report → Report
ranged s r = record { message = r.message; range = s; mark = r.mark; hint = r.hint; labelled = r.labelled; pool = r.pool }

pub reports_same : {c : Terms} {f : Bool} {r q : Report} → f ≡ false → Reports c f r q → r ≡ listed c q
reports_same {r} {q} e h = ap (λ (s : Span). ranged s (unranged r)) (h.range e) ∙ ap (ranged q.range) h.but_range
