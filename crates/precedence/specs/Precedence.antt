-- C'S TABLE. For every accepted call and every DtExpr among the rows that it leaves in the buffers, whether the cell is
-- a property's value, stands in a conditional or comes from entries 3 and 4: the tokens between its LParen and the
-- RParen that balances it are judged as C's precedence table judges them. It excludes a parser that groups an operator
-- the wrong way round, that takes a malformed expression without a report, or that reports a sound one.
use Rattle.std.specs.Prelude.{ℕ, zero, suc, ◌+◌, ◌*◌, ◌≤◌, ◌<◌, ◌≡◌, false, cond, List, [], ◌∷◌, ◌++◌, eqb, length, get_or, take, drop}
use Rattle.definitions.specs.Layout.{TREE_ROW, NODE, LEAF, REPORT_ROW, REPORT_MARK}
use Rattle.definitions.specs.TokenKind as K
use Rattle.definitions.specs.NodeKind as N
use Rattle.definitions.specs.Token.{Token, tokens_of}
use Rattle.definitions.specs.C.{Symbol, symbols, Balanced, Expr, Gives}
use Rattle.definitions.specs.Place.{place}
use Rattle.definitions.specs.Parent.{rows_under}
use Rattle.definitions.specs.Call.{Buffers, Result, call}
use Rattle.precedence.specs.Nodes.{cell}

-- ---------------------------------------------------------------- rows

-- the numbers of tree row p: class, kind, width, count, the parent's row
abbrev pub tree_row_at : ℕ → List ℕ → List ℕ
tree_row_at p l = take TREE_ROW (drop (TREE_ROW * p) l)

-- how many raw tokens stand before tree row p: the counts of the leaves before it
unfoldable pub tokens_before : ℕ → List ℕ → ℕ
tokens_before zero l = 0
tokens_before (suc p) [] = 0
tokens_before (suc p) (c ∷ []) = 0
tokens_before (suc p) (c ∷ k ∷ []) = 0
tokens_before (suc p) (c ∷ k ∷ w ∷ []) = 0
tokens_before (suc p) (c ∷ k ∷ w ∷ n ∷ []) = 0
tokens_before (suc p) (c ∷ k ∷ w ∷ n ∷ parent ∷ l) = cond (eqb c LEAF) n 0 + tokens_before p l

-- the mark in report row q
abbrev pub mark_in : ℕ → List ℕ → ℕ
mark_in q l = get_or (drop (REPORT_ROW * q) l) REPORT_MARK 0

-- ---------------------------------------------------------------- cells

-- tree row p is a DtExpr
pub record DtExprAt (p : ℕ) (r : Result) : Type 0 where
  pub written : p < r.answer.tree_count
  pub width : ℕ
  pub count : ℕ
  pub parent : ℕ
  pub row : tree_row_at p r.buffers.trees ≡ NODE ∷ N.DtExpr ∷ width ∷ count ∷ parent ∷ []

-- "Starts a cell": the DtExpr's first child is the leaf of an LParen, and the index of that LParen is the number of
-- tokens before the DtExpr.
pub record StartsCell (ts : List Token) (p : ℕ) (r : Result) : Type 0 where
  pub width : ℕ
  pub row : tree_row_at (suc p) r.buffers.trees ≡ LEAF ∷ K.LParen ∷ width ∷ 1 ∷ p ∷ []
  pub bracket : Token
  pub after : List Token
  pub token_is : drop (tokens_before p r.buffers.trees) ts ≡ bracket ∷ after
  pub kind_is : bracket.kind ≡ K.LParen

-- "Balances": an LParen, the RParen that balances it, and the tokens before, between and after them
pub record Brackets (ts : List Token) : Type 0 where
  pub before : List Token
  pub opening : Token
  pub inner : List Token
  pub closing : Token
  pub after : List Token
  pub tokens_are : ts ≡ before ++ (opening ∷ (inner ++ (closing ∷ after)))
  pub opens : opening.kind ≡ K.LParen
  pub closes : closing.kind ≡ K.RParen
  pub balanced : Balanced (symbols false inner)

-- the token indexes of the two
abbrev pub opening_index : (ts : List Token) → Brackets ts → ℕ
opening_index ts b = length b.before

abbrev pub closing_index : (ts : List Token) → Brackets ts → ℕ
closing_index ts b = length b.before + 1 + length b.inner

-- report row q has its mark above the LParen's index and at most the RParen's
pub record Between (ts : List Token) (b : Brackets ts) (r : Result) (q : ℕ) : Type 0 where
  pub written : q < r.answer.report_count
  pub above : opening_index ts b < mark_in q r.buffers.reports
  pub at_most : mark_in q r.buffers.reports ≤ closing_index ts b

-- the rows from p on are those of the DtExpr that holds the tree e, whoever its parent is, the trivia among the tokens
-- being where the sink puts them
pub record HoldsTree (ts : List Token) (b : Brackets ts) (r : Result) (p : ℕ) (e : Expr) : Type 0 where
  pub parent : ℕ
  pub more : List ℕ
  pub rows_are : drop (TREE_ROW * p) r.buffers.trees
      ≡ rows_under parent p (place (cell e) (b.opening ∷ (b.inner ++ (b.closing ∷ b.after)))) ++ more

-- the judgement of the tokens between the brackets
pub record Judged (ts : List Token) (b : Brackets ts) (r : Result) (p : ℕ) : Type 0 where
  -- if C's table gives them a tree, no report has such a mark, and the DtExpr holds that tree
  pub tree : (e : Expr) → Gives (symbols false b.inner) e → ((q : ℕ) → Between ts b r q → ⊥) × HoldsTree ts b r p e
  -- otherwise some report has
  pub no_tree : ((e : Expr) → Gives (symbols false b.inner) e → ⊥) → (q : ℕ) × Between ts b r q

-- ---------------------------------------------------------------- the claims

-- Every DtExpr of an accepted call starts a cell, and is judged, in the old setting and in the strict one: a report row
-- is any of the call's, message 8 of document 02 included.
abbrev pub CTable : Type 0
CTable =
    (n setting : ℕ) (bytes tokens : List ℕ) (l : Buffers) → (call n setting bytes tokens l).answer.number ≡ 0 → (p : ℕ)
    → DtExprAt p (call n setting bytes tokens l)
    → StartsCell (tokens_of tokens) p (call n setting bytes tokens l)
    × ((b : Brackets (tokens_of tokens))
    → opening_index (tokens_of tokens) b ≡ tokens_before p (call n setting bytes tokens l).buffers.trees
    → Judged (tokens_of tokens) b (call n setting bytes tokens l) p)

-- the tree that C's table gives is unique
abbrev pub OneTree : Type 0
OneTree = (xs : List Symbol) (e f : Expr) → Gives xs e → Gives xs f → e ≡ f
