-- NOTHING LOST. For every accepted call of each of the four entries, in either setting, what holds of the numbers that
-- it leaves in the buffers. It is a claim about the rows, not about a tree inside the definitions: the tree here is
-- the one that a reader of the rows finds. It excludes a parser that drops or doubles a token or trivia, invents a
-- width, a child count or a parent, or loses or shifts a lexical error.
use Rattle.std.specs.Prelude.{ℕ, suc, ◌+◌, ◌*◌, ◌≡◌, true, cond, List, [], ◌∷◌, ◌++◌, length, take, drop}
use Rattle.definitions.specs.Layout.{TREE_ROW, ERROR_ROW}
use Rattle.definitions.specs.TokenKind as K
use Rattle.definitions.specs.Token.{Token, tokens_of, is_error, seen, one_of, byte_count}
use Rattle.definitions.specs.Check.{NAME_SET}
use Rattle.definitions.specs.Grammar.{Entry, root_kind}
use Rattle.definitions.specs.Call.{Buffers, Result, for, entry_of, call}
use Rattle.laws.specs.TreeRows.{Rows, end, leaf, node, preorder, Counts, Widths, read}

-- ---------------------------------------------------------------- leaves and tokens

-- what a leaf's row says
pub record Leaf : Type 0 where
  pub kind : ℕ
  pub width : ℕ
  pub count : ℕ

-- the leaves of rows, in order
unfoldable pub leaves : Rows → List Leaf
leaves end = []
leaves (leaf k w n f) = record { kind = k; width = w; count = n } ∷ leaves f
leaves (node k w n c f) = leaves c ++ leaves f

-- each of these tokens is an Ident, a Number, a Comma or a Minus
abbrev pub OfName : List Token → Type 0
OfName [] = Unit {0}
OfName (t ∷ ts) = (one_of NAME_SET (seen t) ≡ true) × OfName ts

-- the kind of a leaf that stands for some raw tokens: the kind of its one token, which is 25 (Unrecognized) for an
-- error token;
-- or 26 (Name), for the raw tokens of a name
pub data KindOf (k : ℕ) : List Token → Type 0 where
  one_token : (t : Token) → k ≡ seen t → KindOf k (t ∷ [])
  a_name : (t : Token) (ts : List Token) → k ≡ K.Name → OfName (t ∷ ts) → KindOf k (t ∷ ts)

-- a leaf stands for these raw tokens: its count is their number, its width the sum of their lengths
pub record StandsFor (l : Leaf) (raw : List Token) : Type 0 where
  pub kind : KindOf l.kind raw
  pub width : l.width ≡ byte_count raw
  pub count : l.count ≡ length raw

-- the leaves, in order, stand for all the tokens: each for the next ones, as many as its count says
unfoldable pub LeavesAre : List Leaf → List Token → Type 0
LeavesAre [] ts = ts ≡ []
LeavesAre (l ∷ ls) ts = StandsFor l (take l.count ts) × LeavesAre ls (drop l.count ts)

-- ---------------------------------------------------------------- lexical errors

-- how many of the tokens are error tokens
unfoldable pub errors_in : List Token → ℕ
unfolding is_error
errors_in [] = 0
errors_in (t ∷ ts) = cond (is_error t.kind) (suc (errors_in ts)) (errors_in ts)

-- Each error token among ts has the row whose index is the number of error tokens before it: its number, and its byte
-- range, which starts at the sum of the lengths of the tokens before it.
abbrev pub ErrorsOf : List Token → List ℕ → Type 0
ErrorsOf ts l =
    (before after : List Token) (t : Token) → ts ≡ before ++ (t ∷ after) → is_error t.kind ≡ true
    → take ERROR_ROW (drop (ERROR_ROW * errors_in before) l) ≡ t.kind ∷ byte_count before ∷ (byte_count before + t.len) ∷ []

-- ---------------------------------------------------------------- the claim

-- of a call's result r, for the entry e, the input bytes bytes and the tokens ts
pub record Lossless (e : Entry) (bytes : List ℕ) (ts : List Token) (r : Result) : Type 0 where
  -- the tree that the rows are
  pub tree : Rows
  -- the rows that the call says it has written are that tree's, in preorder, each with its parent's row
  pub written : take (TREE_ROW * r.answer.tree_count) r.buffers.trees ≡ preorder tree
  -- read as a preorder they give it back, and no other tree with true counts has these rows
  pub read_back : read (take (TREE_ROW * r.answer.tree_count) r.buffers.trees) ≡ tree
  pub only_one : (other : Rows) → Counts other → preorder other ≡ take (TREE_ROW * r.answer.tree_count) r.buffers.trees → other ≡ tree
  -- it has one root, of the entry's kind, and the root's width is the length of the input
  pub root_count : ℕ
  pub root_children : Rows
  pub root : tree ≡ node (root_kind e) (length bytes) root_count root_children end
  -- each node's width is the sum of its children's, and its count their number
  pub widths : Widths tree
  pub counts : Counts tree
  -- the leaves, in order, are the tokens
  pub covers : LeavesAre (leaves tree) ts
  -- the lexical errors are the error tokens, in order
  pub error_count : r.answer.error_count ≡ errors_in ts
  pub error_rows : ErrorsOf ts r.buffers.errors

-- for every accepted call, in either setting
abbrev pub NothingLost : Type 0
NothingLost =
    (n setting : ℕ) (bytes tokens : List ℕ) (b : Buffers) → (call n setting bytes tokens b).answer.number ≡ 0
    → (e : Entry) × (entry_of n ≡ for e) × Lossless e bytes (tokens_of tokens) (call n setting bytes tokens b)
