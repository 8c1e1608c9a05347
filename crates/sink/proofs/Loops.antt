-- The turns of the loops over trivia and over events.
use native.Mathlib.Omega.{arith}
use Prim.Native.Nat.{ℕ, zero, suc, ◌+◌, ◌-◌, ◌/◌, ◌≤◌, ◌<◌}
use mathlib.Core.List.{List}
use mathlib.Core.Path.{◌≡◌, refl, ◌∙◌}
use mathlib.Core.Bool.{Bool, true, false, false≢true}
use lib.ListN.{length}
use lib.Dec.{ltb}
use borrow.Author.Tests.{ltb-true}
use Rattle.basics.proofs.Flags.{flags}
use Rattle.definitions.specs.Layout.{TOKEN_ROW}
use Rattle.sink_tokens.specs.Tokens.{trivia_here}
use Rattle.sink.specs.Model.{On, on, sink_of, moved, leaf_on, token_on, triviaN, trivia_on, event_on, eventsN}

-- ---------------------------------------------------------------- trivia

leaf_cursor : (k w n : ℕ) (x : On) → (sink_of (leaf_on k w n x)).cursor ≡ (sink_of x).cursor
unfolding leaf_on
leaf_cursor k w n (on s t) = refl

moved_cursor : (n : ℕ) (x : On) → (sink_of (moved n x)).cursor ≡ n
moved_cursor n (on s t) = refl

token_cursor : (tokens : List ℕ) (x : On) → ltb (sink_of x).cursor (length tokens / TOKEN_ROW) ≡ true → (sink_of (token_on tokens x)).cursor ≡ (sink_of x).cursor + 1
unfolding token_on
token_cursor tokens x h = rw h (leaf_cursor _ _ _ (moved ((sink_of x).cursor + 1) x) ∙ moved_cursor ((sink_of x).cursor + 1) x)

trivia_inside : (tokens : List ℕ) (i : ℕ) → trivia_here tokens i ≡ true → ltb i (length tokens / TOKEN_ROW) ≡ true
unfolding trivia_here
trivia_inside tokens i h = go (ltb i (length tokens / TOKEN_ROW)) refl
  where
    go : (b : Bool) → ltb i (length tokens / TOKEN_ROW) ≡ b → ltb i (length tokens / TOKEN_ROW) ≡ true
    go true e = e
    go false e = absurd (false≢true (rw e at h))

pub trivia_lt : (tokens : List ℕ) (i : ℕ) → trivia_here tokens i ≡ true → i < length tokens / TOKEN_ROW
trivia_lt tokens i h = ltb-true _ _ (trivia_inside tokens i h)

pub trivia_more : (tokens : List ℕ) (x : On) → trivia_here tokens (sink_of x).cursor ≡ true → trivia_on tokens (token_on tokens x) ≡ trivia_on tokens x
unfolding trivia_on triviaN
trivia_more tokens x h =
    let i : ltb (sink_of x).cursor (length tokens / TOKEN_ROW) ≡ true = trivia_inside tokens (sink_of x).cursor h in
    let l : length tokens / TOKEN_ROW - (sink_of x).cursor ≡ suc (length tokens / TOKEN_ROW - ((sink_of x).cursor + 1)) = omega flags in
    rw (token_cursor tokens x i, l, h)

pub trivia_done : (tokens : List ℕ) (x : On) → trivia_here tokens (sink_of x).cursor ≡ false → trivia_on tokens x ≡ x
unfolding trivia_on triviaN
trivia_done tokens x h = go (length tokens / TOKEN_ROW - (sink_of x).cursor)
  where
    go : (n : ℕ) → triviaN n tokens x ≡ x
    go zero = refl
    go (suc n) = rw (h, triviaN)

-- what a turn over trivia asks
pub ruleset trivia = (trivia_lt, trivia_more, trivia_done)

-- ---------------------------------------------------------------- events

pub events_more : (n : ℕ) (tokens events : List ℕ) (i : ℕ) (x : On) → i < n → eventsN (n - (i + 1)) tokens events (i + 1) (event_on tokens events i x) ≡ eventsN (n - i) tokens events i x
unfolding eventsN
events_more n tokens events i x h = let l : n - i ≡ suc (n - (i + 1)) = omega arith in rw l

pub events_done : (n : ℕ) (tokens events : List ℕ) (i : ℕ) (x : On) → n ≤ i → eventsN (n - i) tokens events i x ≡ x
unfolding eventsN
events_done n tokens events i x h = let l : n - i ≡ 0 = omega arith in rw l
