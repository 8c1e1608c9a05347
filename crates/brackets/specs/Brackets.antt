-- WHERE AN LPAREN STANDS. For every accepted call of each of the four entries, of the tree that its rows are read as,
-- trivia passed over: which parents an LParen can have, and that an LParen which a cell starts with is the first child
-- of a DtExpr. It excludes a parser that leaves a bracket as a bare leaf of a list, or that reads a bracketed cell as
-- anything but a DtExpr, so that C's table says nothing of it.
use Rattle.std.specs.Prelude.{ℕ, ◌*◌, ◌≡◌, Bool, true, false, cond, not, ◌&&◌, ◌||◌, List, [], ◌∷◌, eqb, take}
use Rattle.definitions.specs.Layout.{TREE_ROW}
use Rattle.definitions.specs.TokenKind as K
use Rattle.definitions.specs.NodeKind as N
use Rattle.definitions.specs.Token.{one_of, is_trivia}
use Rattle.definitions.specs.Call.{Buffers, call}
use Rattle.laws.specs.TreeRows.{Rows, read}
use Rattle.laws.specs.TreeRows as R

-- ---------------------------------------------------------------- kinds

-- the kinds of rows side by side, trivia passed over, each with what follows it; a node has its children
pub data Outline : Type 0 where
  end : Outline
  leaf : ℕ → Outline → Outline
  node : ℕ → Outline → Outline → Outline

unfoldable pub outline : Rows → Outline
outline R.end = end
outline (R.leaf k w n f) = cond (is_trivia k) (outline f) (leaf k (outline f))
outline (R.node k w n c f) = node k (outline c) (outline f)

unfoldable pub is_end : Outline → Bool
is_end end = true
is_end (leaf k f) = false
is_end (node k c f) = false

-- the first leaf, at whatever depth; d if there is none
unfoldable pub first_leaf : Outline → ℕ → ℕ
first_leaf end d = d
first_leaf (leaf k f) d = k
first_leaf (node k c f) d = first_leaf c (first_leaf f d)

-- the first leaf is an LParen
unfoldable pub starts_open : Outline → Bool
unfolding first_leaf
starts_open c = eqb (first_leaf c K.Whitespace) K.LParen

-- the first child is an LParen
unfoldable pub begins : Outline → Bool
begins end = false
begins (leaf k f) = eqb k K.LParen
begins (node k c f) = false

-- an LAngle is among them
unfoldable pub has_angle : Outline → Bool
has_angle end = false
has_angle (leaf k f) = eqb k K.LAngle || has_angle f
has_angle (node k c f) = has_angle f

-- none of them is a node
unfoldable pub leaves_only : Outline → Bool
leaves_only end = true
leaves_only (leaf k f) = leaves_only f
leaves_only (node k c f) = false

-- ---------------------------------------------------------------- the parents of an LParen

-- none of them is an LParen
unfoldable pub no_bracket : Outline → Bool
no_bracket end = true
no_bracket (leaf k f) = not (eqb k K.LParen) && no_bracket f
no_bracket (node k c f) = no_bracket f

-- none but the first is
unfoldable pub first_only : Outline → Bool
unfolding no_bracket
first_only end = true
first_only (leaf k f) = no_bracket f
first_only (node k c f) = no_bracket f

-- none is, but the one after an Ident that stands first
unfoldable pub after_name : Outline → Bool
unfolding no_bracket first_only
after_name end = true
after_name (leaf k f) = (eqb k K.Ident && first_only f) || no_bracket (leaf k f)
after_name (node k c f) = no_bracket f

-- none but the last is
unfoldable pub last_only : Outline → Bool
unfolding is_end
last_only end = true
last_only (leaf k f) = (is_end f || not (eqb k K.LParen)) && last_only f
last_only (node k c f) = last_only f

-- the children c of a node of kind k
unfoldable pub children_proper : ℕ → Outline → Bool
unfolding no_bracket first_only after_name last_only one_of
children_proper k c =
    cond (one_of (N.DtExpr ∷ N.ParenExpr ∷ []) k) (first_only c)
    (cond (eqb k N.MacroInvocation) (after_name c) (cond (eqb k N.MacroArgument) true
    (cond (eqb k N.ParseError) (last_only c) (no_bracket c))))

-- ---------------------------------------------------------------- lists of cells

-- where rows stand side by side: in a list of cells, in a list of values, among the branches of a conditional in one of
-- these, in a DtExpr at whatever depth, or elsewhere
pub data ListOf : Type 0 where
  cells values cell_branches value_branches expression elsewhere : ListOf

-- A node of kind k stands in x; where do its children stand? angle: an LAngle is among them. A list of cells that was
-- cut off is a ParseError in a list of values, and has its LAngle as a child, as no other ParseError there does.
abbrev pub inside_other : ListOf → ℕ → Bool → ListOf
inside_other cells k angle = cond (eqb k N.PreprocessorConditional) cell_branches elsewhere
inside_other values k angle = cond (eqb k N.PreprocessorConditional) value_branches (cond (eqb k N.ParseError && angle) cells elsewhere)
inside_other cell_branches k angle = cond (eqb k N.PreprocessorBranch) cells elsewhere
inside_other value_branches k angle = cond (eqb k N.PreprocessorBranch) values elsewhere
inside_other expression k angle = expression
inside_other elsewhere k angle = elsewhere

unfoldable pub list_below : ListOf → ℕ → Bool → ListOf
unfolding one_of
list_below x k angle =
    cond (one_of (N.DtCellList ∷ N.EntryCells ∷ []) k) cells
    (cond (one_of (N.PropValueList ∷ N.EntryPropValues ∷ []) k) values (cond (eqb k N.DtExpr) expression (inside_other x k angle)))

-- no LParen is itself a child of a list of cells
abbrev pub leaf_proper : ListOf → ℕ → Bool
leaf_proper cells k = not (eqb k K.LParen)
leaf_proper values k = true
leaf_proper cell_branches k = true
leaf_proper value_branches k = true
leaf_proper expression k = true
leaf_proper elsewhere k = true

-- A cell whose first leaf is an LParen is a DtExpr, and the LParen its first child. In a DtExpr no LParen goes into a
-- ParseError.
abbrev pub node_proper : ListOf → ℕ → Outline → Bool
node_proper cells k c = not (starts_open c) || (eqb k N.DtExpr && begins c)
node_proper values k c = true
node_proper cell_branches k c = true
node_proper value_branches k c = true
node_proper expression k c = not (eqb k N.ParseError) || no_bracket c
node_proper elsewhere k c = true

-- what stands side by side in x, with all that is under it
unfoldable pub proper : ListOf → Outline → Bool
unfolding starts_open begins has_angle no_bracket children_proper list_below
proper x end = true
proper x (leaf k f) = leaf_proper x k && proper x f
proper x (node k c f) = node_proper x k c && (children_proper k c && (proper (list_below x k (has_angle c)) c && proper x f))

-- ---------------------------------------------------------------- the tree

-- What an entry left over goes into one ParseError, the root's last child, that has leaves only: LParens at any place.
-- A source file has none, and what cells left over does not start with an LParen.
unfoldable pub left_over : ℕ → ℕ → Outline → Bool
unfolding leaves_only starts_open
left_over r k c = not (eqb r N.SourceFile) && (eqb k N.ParseError && (leaves_only c && not (eqb r N.EntryCells && starts_open c)))

-- the children of a root of kind r
unfoldable pub root_proper : ℕ → Outline → Bool
unfolding proper is_end left_over list_below
root_proper r end = true
root_proper r (leaf k f) = not (eqb k K.LParen) && root_proper r f
root_proper r (node k c f) = ((is_end f && left_over r k c) || proper (list_below elsewhere r false) (node k c end)) && root_proper r f

unfoldable pub tree_proper : Outline → Bool
unfolding root_proper is_end
tree_proper end = false
tree_proper (leaf k f) = false
tree_proper (node r c f) = is_end f && root_proper r c

-- for every accepted call, in either setting
abbrev pub BracketsProper : Type 0
BracketsProper =
    (n setting : ℕ) (bytes tokens : List ℕ) (b : Buffers) → (call n setting bytes tokens b).answer.number ≡ 0
    → tree_proper (outline (read (take (TREE_ROW * (call n setting bytes tokens b).answer.tree_count)
    (call n setting bytes tokens b).buffers.trees))) ≡ true
