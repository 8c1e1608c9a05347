-- What two runs make, read off: their events and their trees are the same, and without refusal 5 the skeletons are, but
-- for the lists of the reports.
use Prim.Native.Nat.{ℕ}
use mathlib.Core.Path.{◌≡◌, refl, ap}
use mathlib.Core.Bool.{Bool, true, false}
use mathlib.Core.List.{List, ◌∷◌}
use lib.ListN.{length}
use Rattle.definitions.specs.Token.{Token, drop_trivia}
use Rattle.definitions.specs.Skeleton.{Skeleton, done, token, name, node, ignored, report, over}
use Rattle.definitions.specs.Event.{AddToken, AddCombinedToken, Error, events}
use Rattle.definitions.specs.Place.{after, place, root}
use Rattle.definitions.specs.Report.{pushes}
use Rattle.laws.specs.Pushes.{NoneExceeded}
use Rattle.laws.proofs.Clear.{clear_append}
use Rattle.pending.proofs.Alike.{Terms, listed, reports_same, Alike, no_more, tokens, names, nodes, ignoreds, reports, overs, limit}

pub same_events : {c : Terms} {f g : Bool} {p q : Skeleton} (b : Bool) → Alike c f g p q → events b p ≡ events b q
unfolding events
same_events b no_more = refl
same_events b (tokens t m x) = ap (AddToken ∷◌) (same_events b x)
same_events b (names ts m x) = ap (AddCombinedToken (length ts) ∷◌) (same_events b x)
same_events b (nodes k m m' a i x) = rw (same_events true a, same_events false i, same_events b x)
same_events b (ignoreds m m' a i x) = rw (same_events true a, same_events false i, same_events b x)
same_events b (reports r x) = ap (Error ∷◌) (same_events b x)
same_events b (overs m x) = same_events b x
same_events b (limit m l x) = same_events b x

same_after : {c : Terms} {f g : Bool} {p q : Skeleton} → Alike c f g p q → (ts : List Token) → after p ts ≡ after q ts
unfolding after
same_after no_more ts = refl
same_after (tokens t m x) ts = same_after x _
same_after (names raw m x) ts = same_after x _
same_after (nodes k m m' a i x) ts = rw (same_after a (drop_trivia ts), same_after i _) (same_after x _)
same_after (ignoreds m m' a i x) ts = rw (same_after a ts, same_after i _) (same_after x _)
same_after (reports r x) ts = same_after x ts
same_after (overs m x) ts = same_after x ts
same_after (limit m l x) ts = same_after x ts

same_place : {c : Terms} {f g : Bool} {p q : Skeleton} → Alike c f g p q → (ts : List Token) → place p ts ≡ place q ts
unfolding place
same_place no_more ts = refl
same_place (tokens t m x) ts = rw (same_place x _)
same_place (names raw m x) ts = rw (same_place x _)
same_place (nodes k m m' a i x) ts = rw (same_place a (drop_trivia ts), same_after a (drop_trivia ts), same_place i _, same_after i _, same_place x _)
same_place (ignoreds m m' a i x) ts = rw (same_place a ts, same_after a ts, same_place i _, same_after i _, same_place x _)
same_place (reports r x) ts = same_place x ts
same_place (overs m x) ts = same_place x ts
same_place (limit m l x) ts = same_place x ts

pub same_tree : {c : Terms} {f g : Bool} {p q : Skeleton} (k : ℕ) → Alike c f g p q → (ts : List Token) → root k p ts ≡ root k q ts
unfolding root
same_tree k x ts = rw (same_place x ts, same_after x ts)

-- ---------------------------------------------------------------- without refusal 5

-- a skeleton, each report with its list as the terms have it
unfoldable pub relisted : Terms → Skeleton → Skeleton
relisted c done = done
relisted c (token t m o) = token t m (relisted c o)
relisted c (name ts m o) = name ts m (relisted c o)
relisted c (node k m m' a i o) = node k m m' (relisted c a) (relisted c i) (relisted c o)
relisted c (ignored m m' a i o) = ignored m m' (relisted c a) (relisted c i) (relisted c o)
relisted c (report r o) = report (listed c r) (relisted c o)
relisted c (over m o) = over m (relisted c o)

-- p: what the run makes; and it is not refused after it
pub record Same (c : Terms) (g : Bool) (p q : Skeleton) : Type 0 where
  pub made : p ≡ relisted c q
  pub not_refused : g ≡ false

pub same_made : {c : Terms} {f g : Bool} {p q : Skeleton} → Alike c f g p q → f ≡ false → NoneExceeded (pushes q) → Same c g p q
unfolding relisted pushes
same_made no_more e n = record { made = refl; not_refused = e }
same_made (tokens t m x) e n = let w = same_made x e n in record { made = ap (token t m) w.made; not_refused = w.not_refused }
same_made (names ts m x) e n = let w = same_made x e n in record { made = ap (name ts m) w.made; not_refused = w.not_refused }
same_made (nodes {b} {o} k m m' a i x) e n =
    let l = clear_append (pushes b) _ n in
    let r = clear_append (pushes o) _ l.1 in
    let u = same_made a e l.0 in
    let v = same_made i u.not_refused r.0 in
    let w = same_made x v.not_refused r.1 in
    record { made = rw (u.made, v.made, w.made); not_refused = w.not_refused }
same_made (ignoreds {b} {o} m m' a i x) e n =
    let l = clear_append (pushes b) _ n in
    let r = clear_append (pushes o) _ l.1 in
    let u = same_made a e l.0 in
    let v = same_made i u.not_refused r.0 in
    let w = same_made x v.not_refused r.1 in
    record { made = rw (u.made, v.made, w.made); not_refused = w.not_refused }
same_made (reports h x) e n = let w = same_made x e n in record { made = rw (reports_same e h, w.made); not_refused = w.not_refused }
same_made (overs m x) e n = absurd n
same_made (limit m l x) e n = absurd n
