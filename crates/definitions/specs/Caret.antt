-- Document 02, 5/14: what is under the caret, and the parts that share a byte with a range. "Both parse first, with the
-- parser's refusals; a list that doesn't fit is refusal 8."
use Rattle.std.specs.Prelude.{ℕ, suc, ◌+◌, Bool, cond, ◌&&◌, List, [], ◌∷◌, ◌++◌, ltb, leb, eqb, length}
use Rattle.definitions.specs.Token.{Token, tokens_of, byte_count}
use Rattle.definitions.specs.Grammar.{SourceFile, root_kind}
use Rattle.definitions.specs.Place.{Tree, nil, leaf, subtree, root, width, row_count}
use Rattle.definitions.specs.Refusal.{Verdict, accepted, refused, no_tree_room, number_of, place_of}
use Rattle.definitions.specs.RowCauses.{check_input}
use Rattle.definitions.specs.Call.{Buffers, Answer, Result, untouched, cleared, zeros, written, run_entry, parse}

-- ---------------------------------------------------------------- the chain to a leaf

-- a leaf of a file: "the chain of tree rows, by number, from the root to the leaf", its first byte and its end
pub record LeafAt : Type 0 where
  pub chain : List ℕ
  pub start : ℕ
  pub end : ℕ

-- the leaves of parts side by side, in order. above: the rows from the root to these; row, start: number and first byte
-- of the first
unfoldable pub leaves_at : List ℕ → ℕ → ℕ → Tree → List LeafAt
unfolding byte_count width row_count
leaves_at above row start nil = []
leaves_at above row start (leaf k ts f) =
    let end = start + byte_count ts in
    record { chain = above ++ (row ∷ []); start = start; end = end } ∷ leaves_at above (suc row) end f
leaves_at above row start (subtree k c f) =
    leaves_at (above ++ (row ∷ [])) (suc row) start c ++ leaves_at above (suc row + row_count c) (start + width c) f

-- "A leaf owns its first byte and not its end."
abbrev pub owns : LeafAt → ℕ → Bool
owns l offset = leb l.start offset && ltb offset l.end

-- the chain to the leaf that owns an offset
unfoldable pub chain_to : ℕ → List LeafAt → List ℕ
chain_to offset [] = []
chain_to offset (l ∷ ls) =
    let more = chain_to offset ls in
    cond (owns l offset) l.chain more

-- the chain to the last leaf; c if there is none
unfoldable pub chain_to_last : List ℕ → List LeafAt → List ℕ
chain_to_last c [] = c
chain_to_last c (l ∷ ls) = chain_to_last l.chain ls

-- In a file of so many bytes. "An offset equal to the file's length belongs to the last leaf; in an empty file it gives
-- the root only; an offset past the length gives no row."
unfoldable pub rows_at : ℕ → ℕ → Tree → List ℕ
unfolding leaves_at chain_to chain_to_last
rows_at size offset t =
    let leaves = leaves_at [] 0 0 t in
    let there = chain_to offset leaves in
    let last = chain_to_last (0 ∷ []) leaves in
    cond (ltb offset size) there (cond (eqb offset size) last [])

-- ---------------------------------------------------------------- the parts in a range

-- what is at the top level: the root's children
unfoldable pub top_level : Tree → Tree
top_level nil = nil
top_level (leaf k ts f) = nil
top_level (subtree k c f) = c

-- "share a byte with a range, its end excluded": each of the two starts comes before each of the two ends
abbrev pub share : ℕ → ℕ → ℕ → ℕ → Bool
share from to start end = ltb from to && ltb from end && ltb start to && ltb start end

-- the parts that do, by number, in order; row, start: number and first byte of the first part
unfoldable pub sharing : ℕ → ℕ → ℕ → ℕ → Tree → List ℕ
unfolding byte_count width row_count
sharing from to row start nil = []
sharing from to row start (leaf k ts f) =
    let end = start + byte_count ts in
    let more = sharing from to (suc row) end f in
    cond (share from to start end) (row ∷ more) more
sharing from to row start (subtree k c f) =
    let end = start + width c in
    let more = sharing from to (suc row + row_count c) end f in
    cond (share from to start end) (row ∷ more) more

-- ---------------------------------------------------------------- the two queries

-- a byte offset; or a range, from its first byte to its end
pub data Query : Type 0 where
  caret : ℕ → Query
  range : ℕ → ℕ → Query

-- the rows that a query lists, of the tree of a file of so many bytes; the root is row 0
unfoldable pub listed : Query → ℕ → Tree → List ℕ
unfolding rows_at top_level sharing
listed (caret offset) size t = rows_at size offset t
listed (range from to) size t = sharing from to 1 0 (top_level t)

-- the tree of a source file
unfoldable pub source_tree : List Token → Tree
unfolding root root_kind run_entry
source_tree ts = root (root_kind SourceFile) (run_entry SourceFile ts) ts

-- the answer, and what the lent buffers hold, that of the list among them
pub record ListResult : Type 0 where
  pub answer : Answer
  pub list_count : ℕ
  pub list : List ℕ
  pub buffers : Buffers

-- a result without a list, and what its buffer holds
abbrev pub listless : Result → List ℕ → ListResult
listless r list = record { answer = r.answer; list_count = 0; list = list; buffers = r.buffers }

-- After the parse of a call lent b and a list's buffer: refused with 5 to 8 as it was, or "a list that doesn't fit is
-- refusal 8", and all is zero; else the list stands at the front of its buffer, and the rest is zero.
unfoldable pub with_list : List ℕ → List ℕ → Buffers → Result → ListResult
unfolding number_of place_of
with_list l list b r =
    let kept : ListResult = record { answer = r.answer; list_count = length l; list = written l list; buffers = r.buffers } in
    let full : ListResult = listless (cleared no_tree_room b) (zeros list) in
    let stopped : ListResult = listless r (zeros list) in
    cond (eqb r.answer.number 0) (cond (leb (length l) (length list)) kept full) stopped

-- refused before the parse: every buffer is as it was, the list's too
unfoldable pub checked_query : Verdict → Query → ℕ → List ℕ → List ℕ → Buffers → List ℕ → ListResult
unfolding number_of place_of tokens_of source_tree listed parse with_list
checked_query (refused r) q setting bytes tokens b list = listless (untouched r b) list
checked_query accepted q setting bytes tokens b list =
    let ts = tokens_of tokens in
    with_list (listed q (length bytes) (source_tree ts)) list b (parse SourceFile setting bytes ts b)

-- query, setting, input bytes, token numbers, and the lent buffers as they are at entry: those of the parse, and the
-- list's
unfoldable pub query_call : Query → ℕ → List ℕ → List ℕ → Buffers → List ℕ → ListResult
unfolding check_input checked_query
query_call q setting bytes tokens b list = checked_query (check_input bytes tokens) q setting bytes tokens b list
