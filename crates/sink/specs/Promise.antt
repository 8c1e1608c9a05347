-- What the sink promises of events that encode a skeleton: its rows are those of the definitions' tree, its lexical
-- errors those of the definitions, or it says that they do not fit.
use Rattle.std.specs.Prelude.{ℕ, suc, ◌+◌, ◌/◌, ◌<◌, ◌≡◌, Bool, true, false, cond, ◌&&◌, List, ◌++◌, Ok, Err, leb, length, drop}
use Rattle.definitions.specs.Layout.{TREE_ROW, ERROR_ROW, TWO_TO_32}
use Rattle.definitions.specs.Token.{tokens_of, byte_count}
use Rattle.definitions.specs.Skeleton.{Skeleton}
use Rattle.definitions.specs.Event.{events}
use Rattle.definitions.specs.Refusal.{no_tree_room, number_of}
use Rattle.definitions.specs.Place.{root, lexical_errors}
use Rattle.definitions.specs.Parent.{rows}
use Rattle.sink.specs.Sunk.{Sunk, written, no_room}
use Rattle.machine.specs.Encode.{encode}
use Rattle.sink.specs.Encode.{Chained}

-- no number is too large for 32 bits: the tokens', their bytes', and that of the tree's rows, which are no more than
-- the tokens, the events and one
pub record Small (o : Skeleton) (tokens : List ℕ) : Type 0 where
  pub numbers : length tokens < TWO_TO_32
  pub bytes : byte_count (tokens_of tokens) < TWO_TO_32
  pub rows : suc (length (tokens_of tokens) + length (events false o)) < TWO_TO_32

-- whether both buffers are long enough: cause 8
abbrev pub enough : List ℕ → List ℕ → List ℕ → List ℕ → Bool
enough r l trees errors = leb (length r) (length trees) && leb (length l) (length errors)

-- r, l: the rows and the lexical errors to write. trees, errors: the buffers before. Then what the sink answers, and
-- the buffers after.
pub record WrittenOut (r l trees errors : List ℕ) (sunk : Sunk) (trees' errors' : List ℕ) : Type 0 where
  pub counts : sunk ≡ written (length r / TREE_ROW) (length l / ERROR_ROW)
  pub rows : trees' ≡ r ++ drop (length r) trees
  pub lexical : errors' ≡ l ++ drop (length l) errors

-- in document 01's numbers: 0, or that of refusal 8
unfoldable pub number : Sunk → ℕ
unfolding number_of
number (Ok w) = 0
number (Err e) = number_of no_tree_room

-- k: the root's kind. o, tokens: the skeleton, and the token rows that it was read from.
pub record Placed (k : ℕ) (o : Skeleton) (tokens trees errors : List ℕ) (sunk : Sunk) (trees' errors' : List ℕ) : Type 0 where
  pub fits : enough (rows (root k o (tokens_of tokens))) (lexical_errors 0 (tokens_of tokens)) trees errors ≡ true
      → WrittenOut (rows (root k o (tokens_of tokens))) (lexical_errors 0 (tokens_of tokens)) trees errors sunk trees' errors'
  pub lacks : enough (rows (root k o (tokens_of tokens))) (lexical_errors 0 (tokens_of tokens)) trees errors ≡ false → sunk ≡ no_room
  pub refusal : number sunk ≡ cond (enough (rows (root k o (tokens_of tokens)))
      (lexical_errors 0 (tokens_of tokens)) trees errors) 0 (number_of no_tree_room)

-- for every skeleton that the events encode
abbrev pub Promise : ℕ → List ℕ → List ℕ → List ℕ → List ℕ → Sunk → List ℕ → List ℕ → Type 0
Promise k tokens events trees errors sunk trees' errors' =
    (o : Skeleton) → events ≡ encode false o → Chained o → Small o tokens → Placed k o tokens trees errors sunk trees' errors'
