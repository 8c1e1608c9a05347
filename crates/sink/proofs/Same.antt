-- How many rows there are does not depend on the lent buffer, nor on what it holds: those that do not fit are counted
-- too.
use Prim.Native.Nat.{ℕ, zero, suc, ◌+◌, ◌-◌, ◌/◌}
use mathlib.Core.List.{List}
use mathlib.Core.Path.{◌≡◌, refl, ap, subst}
use mathlib.Core.Bool.{Bool, true, false, cond}
use lib.ListN.{length}
use lib.Dec.{ltb, eqb}
use Rattle.basics.specs.Word.{low}
use Rattle.definitions.specs.Layout.{TOKEN_ROW, EVENT_ROW, EVENT_TAG, EVENT_ARGUMENT, START_NODE, ADD_TOKEN, ADD_COMBINED_TOKEN, FINISH_NODE}
use Rattle.sink_rows.specs.Rows.{field, links}
use Rattle.sink_tokens.specs.Tokens.{at_most, trivia_here}
use Rattle.sink.specs.Model.{On, on, sink_of, moved, leaf_on, token_on, triviaN, trivia_on, combined_on, start_on, finish_on, event_on, eventsN, root_on, events_on}

-- the cursor and the number of rows are alike
pub record Like (x y : On) : Type 0 where
  pub cursor : (sink_of x).cursor ≡ (sink_of y).cursor
  pub rows : (sink_of x).rows ≡ (sink_of y).rows

like_cond : (b : Bool) (x y p q : On) → Like x p → Like y q → Like (cond b x y) (cond b p q)
like_cond true x y p q h g = h
like_cond false x y p q h g = g

like_test : (b c : Bool) (x y p q : On) → b ≡ c → Like x p → Like y q → Like (cond b x y) (cond c p q)
like_test b c x y p q e h g = subst (λ d. Like (cond b x y) (cond d p q)) e (like_cond b x y p q h g)

like_leaf : (k w n j v m : ℕ) (x y : On) → Like x y → Like (leaf_on k w n x) (leaf_on j v m y)
unfolding leaf_on
like_leaf k w n j v m (on s t) (on q u) h = record { cursor = h.cursor; rows = ap (λ z. low (z + 1)) h.rows }

like_moved : (n : ℕ) (x y : On) → Like x y → Like (moved n x) (moved n y)
like_moved n (on s t) (on q u) h = record { cursor = refl; rows = h.rows }

module _ (tokens : List ℕ) where
  like_token : (x y : On) → Like x y → Like (token_on tokens x) (token_on tokens y)
  unfolding token_on
  like_token x y h =
      let a = (sink_of y).cursor in
      rw h.cursor (like_cond (ltb a (length tokens / TOKEN_ROW)) _ _ _ _ (like_leaf _ _ 1 _ _ 1 (moved (a + 1) x) (moved (a + 1) y) (like_moved (a + 1) x y h)) h)

  like_triviaN : (n : ℕ) (x y : On) → Like x y → Like (triviaN n tokens x) (triviaN n tokens y)
  unfolding triviaN
  like_triviaN zero x y h = h
  like_triviaN (suc n) x y h =
      like_test (trivia_here tokens (sink_of x).cursor) (trivia_here tokens (sink_of y).cursor) (triviaN n tokens (token_on tokens x)) x (triviaN n tokens (token_on tokens y)) y
      (ap (trivia_here tokens) h.cursor) (like_triviaN n (token_on tokens x) (token_on tokens y) (like_token x y h)) h

  like_trivia : (x y : On) → Like x y → Like (trivia_on tokens x) (trivia_on tokens y)
  unfolding trivia_on
  like_trivia x y h = rw h.cursor (like_triviaN (length tokens / TOKEN_ROW - (sink_of y).cursor) x y h)

  like_combined : (n : ℕ) (x y : On) → Like x y → Like (combined_on tokens n x) (combined_on tokens n y)
  unfolding combined_on
  like_combined n x y h =
      let a = (sink_of y).cursor in
      let k = at_most n (length tokens / TOKEN_ROW - a) in
      rw h.cursor (like_leaf _ _ _ _ _ _ (moved (a + k) x) (moved (a + k) y) (like_moved (a + k) x y h))

  like_start : (events : List ℕ) (i : ℕ) (x y : On) → Like x y → Like (start_on events i x) (start_on events i y)
  unfolding start_on
  like_start events i (on s t) (on q u) h = record { cursor = h.cursor; rows = ap (λ z. low (low (z + low (links events i)) + 1)) h.rows }

  like_finish : (x y : On) → Like x y → Like (finish_on x) (finish_on y)
  unfolding finish_on
  like_finish (on s t) (on q u) h = record { cursor = h.cursor; rows = h.rows }

  like_event : (events : List ℕ) (i : ℕ) (x y : On) → Like x y → Like (event_on tokens events i x) (event_on tokens events i y)
  unfolding event_on
  like_event events i x y h =
      let t : Like (trivia_on tokens x) (trivia_on tokens y) = like_trivia x y h in
      like_cond (eqb (field events i EVENT_TAG) START_NODE) _ _ _ _ (like_start events i (trivia_on tokens x) (trivia_on tokens y) t)
      (like_cond (eqb (field events i EVENT_TAG) ADD_TOKEN) _ _ _ _ (like_token (trivia_on tokens x) (trivia_on tokens y) t)
      (like_cond (eqb (field events i EVENT_TAG) ADD_COMBINED_TOKEN) _ _ _ _ (like_combined (field events i EVENT_ARGUMENT) (trivia_on tokens x) (trivia_on tokens y) t)
      (like_cond (eqb (field events i EVENT_TAG) FINISH_NODE) _ _ _ _ (like_finish x y h) h)))

  like_events : (n : ℕ) (events : List ℕ) (i : ℕ) (x y : On) → Like x y → Like (eventsN n tokens events i x) (eventsN n tokens events i y)
  unfolding eventsN
  like_events zero events i x y h = h
  like_events (suc n) events i x y h = like_events n events (i + 1) (event_on tokens events i x) (event_on tokens events i y) (like_event events i x y h)

  pub rows_alike : (k : ℕ) (events t u : List ℕ) → (sink_of (events_on k tokens events t)).rows ≡ (sink_of (events_on k tokens events u)).rows
  unfolding events_on root_on
  rows_alike k events t u =
      let n = length events / EVENT_ROW in
      (like_finish (trivia_on tokens (eventsN n tokens events 0 (root_on k t))) (trivia_on tokens (eventsN n tokens events 0 (root_on k u)))
      (like_trivia (eventsN n tokens events 0 (root_on k t)) (eventsN n tokens events 0 (root_on k u))
      (like_events n events 0 (root_on k t) (root_on k u) (record { cursor = refl; rows = refl })))).rows
