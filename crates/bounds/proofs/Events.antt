-- The numbers in the events: kinds, distances to the marker that precedes, and how many raw tokens a name has.
use Prim.Native.Nat.{ℕ, suc, ◌+◌, ◌≤◌, zero-le}
use native.Mathlib.Nat.{le_trans, le_refl}
use native.Mathlib.Omega.{arith}
use mathlib.Core.Path.{◌≡◌, ap}
use mathlib.Core.Bool.{Bool, true, false}
use mathlib.Core.List.{List, [], ◌∷◌, ◌++◌}
use lib.ListN.{length, drop, length-append}
use Rattle.definitions.specs.Token.{Token, drop_trivia, past}
use Rattle.definitions.specs.Skeleton.{Skeleton, done, token, name, node, ignored, report, over}
use Rattle.definitions.specs.Event.{Event, forward, events}
use Rattle.definitions.specs.Place.{after}
use Rattle.laws.proofs.Trivia.{drop_trivia_length}
use Rattle.laws.proofs.Placed.{place_whole}
use Rattle.laws.proofs.Between.{Reads}
use Rattle.bounds.specs.Numbers.{AllFit}
use Rattle.bounds.proofs.Codes.{Coded}

forward_le : (b : Bool) (x : ℕ) → forward b x ≤ x
forward_le true x = le_refl x
forward_le false x = zero-le

past_length : (ts : List Token) → length (past ts) ≤ length ts
past_length [] = le_refl _
past_length (t ∷ ts) = omega arith

after_length : (p : Skeleton) (ts : List Token) → length (after p ts) ≤ length ts
after_length p ts = omega (arith, simp length-append at (ap length (place_whole p ts)))

-- d: a bound on the events. n: a bound on the tokens
module _ (d n : ℕ) where
  fit_append : (l m : List Event) → AllFit d n l → AllFit d n m → AllFit d n (l ++ m)
  fit_append [] m h g = g
  fit_append (x ∷ l) m h g = (h.0, fit_append l m h.1 g)

  -- EVERY NUMBER IN THE EVENTS
  pub events_fit : (b : Bool) (o : Skeleton) (ts : List Token) → Coded o → Reads o ts → length ts ≤ n → length (events b o) ≤ d → AllFit d n (events b o)
  unfolding events Coded Reads after
  events_fit b done ts c r h l = tt
  events_fit b (token t m o) ts c r h l = (tt, events_fit b o (past (drop_trivia ts)) c r.2 (le_trans (past_length (drop_trivia ts)) (le_trans (drop_trivia_length ts) h)) (omega arith))
  events_fit b (name raw m o) ts c r h l =
      let x : length (drop_trivia ts) ≤ length ts = drop_trivia_length ts in
      let y : length (drop_trivia ts) ≡ length raw + length (drop (length raw) (drop_trivia ts)) = simp length-append at (ap length r.0) in
      (omega arith, events_fit b o (drop (length raw) (drop_trivia ts)) c r.2 (omega arith) (omega arith))
  events_fit b (node k m m' a i o) ts c r h l =
      let x : length (drop_trivia ts) ≤ length ts = drop_trivia_length ts in
      let u : length (after a (drop_trivia ts)) ≤ length (drop_trivia ts) = after_length a (drop_trivia ts) in
      let v : length (after i (after a (drop_trivia ts))) ≤ length (after a (drop_trivia ts)) = after_length i (after a (drop_trivia ts)) in
      let w : length (events true a) + suc (length (events false i) + suc (length (events b o))) ≤ d = simp length-append at l in
      fit_append (events true a) _ (events_fit true a (drop_trivia ts) c.1 r.0 (omega arith) (omega arith)) (
        (c.0, le_trans (forward_le b _) (omega arith)),
        fit_append (events false i) _ (events_fit false i (after a (drop_trivia ts)) c.2 r.1 (omega arith) (omega arith))
            (tt, events_fit b o (after i (after a (drop_trivia ts))) c.3 r.2 (omega arith) (omega arith)),
      )
  events_fit b (ignored m m' a i o) ts c r h l =
      let u : length (after a ts) ≤ length ts = after_length a ts in
      let v : length (after i (after a ts)) ≤ length (after a ts) = after_length i (after a ts) in
      let w : length (events true a) + suc (length (events false i) + suc (length (events b o))) ≤ d = simp length-append at l in
      fit_append (events true a) _ (events_fit true a ts c.0 r.0 h (omega arith))
      (tt, fit_append (events false i) _ (events_fit false i (after a ts) c.1 r.1 (omega arith) (omega arith)) (tt, events_fit b o (after i (after a ts)) c.2 r.2 (omega arith) (omega arith)))
  events_fit b (report x o) ts c r h l = (tt, events_fit b o ts c.1 r h (omega arith))
  events_fit b (over m o) ts c r h l = events_fit b o ts c r h l
