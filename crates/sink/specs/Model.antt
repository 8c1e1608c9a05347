-- What the code does, step by step, over the numbers of the lent buffers, whatever they are. Each definition is the
-- model of the function whose contract cites it. Those of the rows are in the crates `sink_rows` and `sink_tokens`.
use Rattle.std.specs.Prelude.{ℕ, zero, suc, ◌+◌, ◌-◌, ◌*◌, ◌/◌, cond, ◌&&◌, List, [], length, get_or, ltb, leb, eqb}
use Rattle.basics.specs.Word.{low}
use Rattle.definitions.specs.Layout.{TOKEN_ROW, TOKEN_LENGTH, TREE_ROW, TREE_KIND, TREE_PARENT, NODE, LEAF, EVENT_ROW, EVENT_TAG, EVENT_ARGUMENT, ERROR_ROW, START_NODE, ADD_TOKEN, ADD_COMBINED_TOKEN, FINISH_NODE}
use Rattle.definitions.specs.Parent.{tree_row}
use Rattle.definitions.specs.TokenKind as K
use Rattle.sink_rows.specs.Rows.{FIRST_BYTE, CHILDREN_BEFORE, put, tree_field, field, links, open_rows}
use Rattle.sink_tokens.specs.Tokens.{kind_seen, trivia_here, at_most, widthN, Log, log, errors_on}
use Rattle.sink.specs.declared.Sink.{Sink}
use Rattle.sink.specs.Sunk.{Sunk, written, no_room}

-- ---------------------------------------------------------------- the sink with the tree rows

pub data On : Type 0 where
  on : Sink → List ℕ → On

abbrev pub sink_of : On → Sink
sink_of (on s trees) = s

abbrev pub moved : ℕ → On → On
moved at (on s trees) = on (record { cursor = at; byte = s.byte; rows = s.rows; node = s.node; children = s.children }) trees

unfoldable pub leaf_on : ℕ → ℕ → ℕ → On → On
leaf_on k w n (on s trees) =
    on (record { cursor = s.cursor; byte = low (s.byte + w); rows = low (s.rows + 1); node = s.node; children = low (s.children + 1) })
    (put s.rows (tree_row LEAF k w n s.node []) trees)

unfoldable pub token_on : List ℕ → On → On
unfolding kind_seen leaf_on
token_on tokens x =
    let at = (sink_of x).cursor in
    let taken = leaf_on (kind_seen (get_or tokens (at * TOKEN_ROW) 0)) (get_or tokens (at * TOKEN_ROW + TOKEN_LENGTH) 0) 1 (moved (at + 1) x) in
    cond (ltb at (length tokens / TOKEN_ROW)) taken x

unfoldable pub triviaN : ℕ → List ℕ → On → On
unfolding token_on trivia_here
triviaN zero tokens x = x
triviaN (suc n) tokens x = let r = triviaN n tokens (token_on tokens x) in cond (trivia_here tokens (sink_of x).cursor) r x

unfoldable pub trivia_on : List ℕ → On → On
unfolding triviaN
trivia_on tokens x = triviaN (length tokens / TOKEN_ROW - (sink_of x).cursor) tokens x

unfoldable pub combined_on : List ℕ → ℕ → On → On
unfolding at_most widthN leaf_on
combined_on tokens n x =
    let at = (sink_of x).cursor in
    let k = at_most n (length tokens / TOKEN_ROW - at) in
    leaf_on K.Name (widthN k tokens at 0) (low k) (moved (at + k) x)

unfoldable pub start_on : List ℕ → ℕ → On → On
unfolding links open_rows
start_on events i (on s trees) =
    let n = low (links events i) in
    on (record { cursor = s.cursor; byte = s.byte; rows = low (low (s.rows + n) + 1); node = low (s.rows + n); children = 0 })
    (open_rows n events i s.rows s.byte s.node s.children trees)

unfoldable pub finish_on : On → On
finish_on (on s trees) =
    on (record {
      cursor = s.cursor;
      byte = s.byte;
      rows = s.rows;
      node = tree_field s.node TREE_PARENT trees;
      children = low (tree_field s.node CHILDREN_BEFORE trees + 1);
    })
    (put s.node (tree_row NODE (tree_field s.node TREE_KIND trees) (s.byte - tree_field s.node FIRST_BYTE trees)
    s.children (tree_field s.node TREE_PARENT trees) []) trees)

unfoldable pub event_on : List ℕ → List ℕ → ℕ → On → On
unfolding trivia_on start_on token_on combined_on finish_on
event_on tokens events i x =
    let tag = field events i EVENT_TAG in
    cond (eqb tag START_NODE) (start_on events i (trivia_on tokens x))
    (cond (eqb tag ADD_TOKEN) (token_on tokens (trivia_on tokens x))
    (cond (eqb tag ADD_COMBINED_TOKEN) (combined_on tokens (field events i EVENT_ARGUMENT) (trivia_on tokens x))
    (cond (eqb tag FINISH_NODE) (finish_on x) x)))

-- n events from i on
unfoldable pub eventsN : ℕ → List ℕ → List ℕ → ℕ → On → On
unfolding event_on
eventsN zero tokens events i x = x
eventsN (suc n) tokens events i x = eventsN n tokens events (i + 1) (event_on tokens events i x)

unfoldable pub root_on : ℕ → List ℕ → On
root_on k trees = on (record { cursor = 0; byte = 0; rows = 1; node = 0; children = 0 }) (put 0 (tree_row NODE k 0 0 0 []) trees)

unfoldable pub events_on : ℕ → List ℕ → List ℕ → List ℕ → On
unfolding finish_on trivia_on eventsN root_on
events_on k tokens events trees = finish_on (trivia_on tokens (eventsN (length events / EVENT_ROW) tokens events 0 (root_on k trees)))

-- ---------------------------------------------------------------- the whole

-- the answer, the tree rows and the lexical errors
pub data Finished : Type 0 where
  finished : Sunk → List ℕ → List ℕ → Finished

-- in buffers of so many numbers
unfoldable pub finished_in : ℕ → ℕ → On → Log → Finished
finished_in tree-numbers error-numbers (on s trees) (log n errors) =
    finished (cond (leb (s.rows * TREE_ROW) tree-numbers && leb (n * ERROR_ROW) error-numbers) (written s.rows n) no_room) trees errors

unfoldable pub finish_all : ℕ → List ℕ → List ℕ → List ℕ → List ℕ → Finished
unfolding finished_in events_on errors_on
finish_all k tokens events trees errors =
    finished_in (length trees) (length errors) (events_on k tokens events trees) (errors_on tokens errors)
