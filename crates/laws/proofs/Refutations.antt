-- Wrong answers are refused by the crate's statements: for each sentence a case in which it does not hold, computed. A
-- statement that allows more under the same name is refused by this file.
use Prim.Native.Nat.{ℕ}
use native.Mathlib.Omega.{arith}
use mathlib.Core.Path.{◌≡◌, refl, ap, sym, ◌∙◌, subst}
use mathlib.Core.Bool.{false≢true, true≢false}
use mathlib.Core.List.{List, [], ◌∷◌}
use mathlib.Core.Logic.{◌⊎◌, inl, inr}
use lib.ListN.{length, get_or, replicate}
use Rattle.definitions.specs.TokenKind as K
use Rattle.definitions.specs.NodeKind as N
use Rattle.definitions.specs.Token.{Token, is_error, seen, one_of, byte_count}
use Rattle.definitions.specs.Grammar.{SourceFile, root_kind}
use Rattle.definitions.specs.Call.{Result}
use Rattle.laws.specs.TreeRows.{Rows, end, leaf, node, Counts, Widths, preorder, preorder_under, read}
use Rattle.laws.specs.Lossless.{Leaf, leaves, OfName, KindOf, one_token, a_name, StandsFor, LeavesAre, errors_in, Lossless}
use Rattle.laws.specs.Limits.{Moment, Limited}
use Rattle.laws.specs.Once.{is_expectation, Listed, ListedAtEach}

abbrev token : ℕ → ℕ → Token
token k n = record { kind = k; len = n }

abbrev a_leaf : ℕ → ℕ → ℕ → Leaf
a_leaf k w n = record { kind = k; width = w; count = n }

-- ---------------------------------------------------------------- leaves

-- all that a leaf's kind may be
abbrev Allowed : ℕ → List Token → Type 0
Allowed k [] = ⊥
Allowed k (t ∷ []) = (k ≡ seen t) ⊎ ((k ≡ K.Name) × OfName (t ∷ []))
Allowed k (t ∷ u ∷ ts) = (k ≡ K.Name) × OfName (t ∷ u ∷ ts)

named : (k : ℕ) (t : Token) (ts : List Token) → k ≡ K.Name → OfName (t ∷ ts) → Allowed k (t ∷ ts)
named k t [] e n = inr (e, n)
named k t (u ∷ ts) e n = (e, n)

allowed : (k : ℕ) (raw : List Token) → KindOf k raw → Allowed k raw
allowed k _ (one_token t e) = inl e
allowed k _ (a_name t ts e n) = named k t ts e n

-- an Ident's leaf that is an Equals
another_kind : StandsFor (a_leaf K.Equals 1 1) (token K.Ident 1 ∷ []) → ⊥
unfolding seen
another_kind s = go (allowed _ _ s.kind) where
  go : (K.Equals ≡ K.Ident) ⊎ ((K.Equals ≡ K.Name) × OfName (token K.Ident 1 ∷ [])) → ⊥
  go (inl e) = omega arith
  go (inr e) = omega arith

-- an error token's leaf that keeps its number
error_number : StandsFor (a_leaf 74 1 1) (token 74 1 ∷ []) → ⊥
unfolding seen
error_number s = go (allowed _ _ s.kind) where
  go : (◌≡◌ {A = ℕ} 74 K.Unrecognized) ⊎ ((◌≡◌ {A = ℕ} 74 K.Name) × OfName (token 74 1 ∷ [])) → ⊥
  go (inl e) = omega arith
  go (inr e) = omega arith

-- a Name that is a semicolon
not_a_name : StandsFor (a_leaf K.Name 1 1) (token K.Semicolon 1 ∷ []) → ⊥
unfolding seen one_of
not_a_name s = go (allowed _ _ s.kind) where
  go : (K.Name ≡ K.Semicolon) ⊎ ((K.Name ≡ K.Name) × OfName (token K.Semicolon 1 ∷ [])) → ⊥
  go (inl e) = omega arith
  go (inr e) = false≢true e.1.0

-- two tokens under one leaf that is not a Name
two_in_one : StandsFor (a_leaf K.Ident 2 2) (token K.Ident 1 ∷ token K.Ident 1 ∷ []) → ⊥
two_in_one s = let e : K.Ident ≡ K.Name = (allowed _ _ s.kind).0 in omega arith

-- a width, and a count, that are not the tokens'
too_wide : StandsFor (a_leaf K.Ident 2 1) (token K.Ident 1 ∷ []) → ⊥
unfolding byte_count
too_wide s = omega (arith, s.width)

too_many : StandsFor (a_leaf K.Ident 1 2) (token K.Ident 1 ∷ []) → ⊥
too_many s = omega (arith, s.count)

-- a token without a leaf, and a leaf without a token
lost : LeavesAre [] (token K.Ident 1 ∷ []) → ⊥
unfolding LeavesAre
lost e = let n : ◌≡◌ {A = ℕ} 1 0 = ap length e in omega arith

doubled : LeavesAre (a_leaf K.Ident 1 1 ∷ a_leaf K.Ident 1 1 ∷ []) (token K.Ident 1 ∷ []) → ⊥
unfolding LeavesAre byte_count
doubled c = let e : ◌≡◌ {A = ℕ} 1 0 = c.1.0.width in omega arith

-- ---------------------------------------------------------------- whole answers

-- what a call wrote: so many tree rows, and so many lexical errors
abbrev wrote : ℕ → List ℕ → ℕ → List ℕ → Result
wrote nt t ne e =
    record {
      answer = record { number = 0; place = 0; tree_count = nt; error_count = ne; report_count = 0; expectation_count = 0 };
      buffers = record { events = []; trees = t; errors = e; reports = []; pool = [] };
    }

-- `a;`
abbrev tokens : List Token
tokens = token K.Ident 1 ∷ token K.Semicolon 1 ∷ []

abbrev Answers : List ℕ → Type 0
Answers t = Lossless SourceFile (97 ∷ 59 ∷ []) tokens (wrote 4 t 0 [])

root_kinds : Rows → ℕ
root_kinds end = 0
root_kinds (leaf k w n f) = k
root_kinds (node k w n c f) = k

root_widths : Rows → ℕ
root_widths end = 0
root_widths (leaf k w n f) = w
root_widths (node k w n c f) = w

-- a root of another kind
another_root : Answers (0 ∷ N.EntryCells ∷ 2 ∷ 1 ∷ 0 ∷ 0 ∷ 16 ∷ 2 ∷ 2 ∷ 0 ∷ 1 ∷ 26 ∷ 1 ∷ 1 ∷ 1 ∷ 1 ∷ 29 ∷ 1 ∷ 1 ∷ 1 ∷ []) → ⊥
unfolding read root_kind root_kinds
another_root x = let e : N.EntryCells ≡ N.SourceFile = ap root_kinds (x.read_back ∙ x.root) in omega arith

-- the right rows, for an input of another length
another_length : Lossless SourceFile (97 ∷ 59 ∷ 32 ∷ []) tokens (wrote 4 (0 ∷ 0 ∷ 2 ∷ 1 ∷ 0 ∷ 0 ∷ 16 ∷ 2 ∷ 2 ∷ 0 ∷ 1 ∷ 26 ∷ 1 ∷ 1 ∷ 1 ∷ 1 ∷ 29 ∷ 1 ∷ 1 ∷ 1 ∷ []) 0 []) → ⊥
unfolding read root_widths
another_length x = let e : ◌≡◌ {A = ℕ} 2 3 = ap root_widths (x.read_back ∙ x.root) in omega arith

-- a property of three children that has two
invented_count : Answers (0 ∷ 0 ∷ 2 ∷ 1 ∷ 0 ∷ 0 ∷ 16 ∷ 2 ∷ 3 ∷ 0 ∷ 1 ∷ 26 ∷ 1 ∷ 1 ∷ 1 ∷ 1 ∷ 29 ∷ 1 ∷ 1 ∷ 1 ∷ []) → ⊥
unfolding read Counts
invented_count x = let e : ◌≡◌ {A = ℕ} 3 2 = (subst Counts (sym x.read_back) x.counts).1.0 in omega arith

-- a property that is narrower than its leaves
invented_width : Answers (0 ∷ 0 ∷ 2 ∷ 1 ∷ 0 ∷ 0 ∷ 16 ∷ 1 ∷ 2 ∷ 0 ∷ 1 ∷ 26 ∷ 1 ∷ 1 ∷ 1 ∷ 1 ∷ 29 ∷ 1 ∷ 1 ∷ 1 ∷ []) → ⊥
unfolding read Widths
invented_width x = let e : ◌≡◌ {A = ℕ} 2 1 = (subst Widths (sym x.read_back) x.widths).0 in omega arith

-- the semicolon lost, its byte given to the name
lost_token : Lossless SourceFile (97 ∷ 59 ∷ []) tokens (wrote 3 (0 ∷ 0 ∷ 2 ∷ 1 ∷ 0 ∷ 0 ∷ 16 ∷ 2 ∷ 1 ∷ 0 ∷ 1 ∷ 26 ∷ 2 ∷ 1 ∷ 1 ∷ []) 0 []) → ⊥
unfolding read leaves LeavesAre byte_count
lost_token x = let e : ◌≡◌ {A = ℕ} 2 1 = (subst (λ (t : Rows). LeavesAre (leaves t) tokens) (sym x.read_back) x.covers).0.width in omega arith

-- a row that is neither a node nor a leaf
third_class : Answers (0 ∷ 0 ∷ 2 ∷ 1 ∷ 0 ∷ 0 ∷ 16 ∷ 2 ∷ 2 ∷ 0 ∷ 1 ∷ 26 ∷ 1 ∷ 1 ∷ 1 ∷ 2 ∷ 29 ∷ 1 ∷ 1 ∷ 1 ∷ []) → ⊥
unfolding read preorder_under
third_class x = let e : ◌≡◌ {A = ℕ} 2 1 = ap (λ (l : List ℕ). get_or l 15 0) (x.written ∙ ap preorder (sym x.read_back)) in omega arith

-- the row before in the place of the parent; a root that does not name itself
row_before : Answers (0 ∷ 0 ∷ 2 ∷ 1 ∷ 0 ∷ 0 ∷ 16 ∷ 2 ∷ 2 ∷ 0 ∷ 1 ∷ 26 ∷ 1 ∷ 1 ∷ 1 ∷ 1 ∷ 29 ∷ 1 ∷ 1 ∷ 2 ∷ []) → ⊥
unfolding read preorder_under
row_before x = let e : ◌≡◌ {A = ℕ} 2 1 = ap (λ (l : List ℕ). get_or l 19 0) (x.written ∙ ap preorder (sym x.read_back)) in omega arith

root_names_another : Answers (0 ∷ 0 ∷ 2 ∷ 1 ∷ 1 ∷ 0 ∷ 16 ∷ 2 ∷ 2 ∷ 0 ∷ 1 ∷ 26 ∷ 1 ∷ 1 ∷ 1 ∷ 1 ∷ 29 ∷ 1 ∷ 1 ∷ 1 ∷ []) → ⊥
unfolding read preorder_under
root_names_another x = let e : ◌≡◌ {A = ℕ} 1 0 = ap (λ (l : List ℕ). get_or l 4 0) (x.written ∙ ap preorder (sym x.read_back)) in omega arith

-- a lexical error too many, and one whose range is not its token's
invented_error : Lossless SourceFile (97 ∷ 59 ∷ []) tokens (wrote 4 (0 ∷ 0 ∷ 2 ∷ 1 ∷ 0 ∷ 0 ∷ 16 ∷ 2 ∷ 2 ∷ 0 ∷ 1 ∷ 26 ∷ 1 ∷ 1 ∷ 1 ∷ 1 ∷ 29 ∷ 1 ∷ 1 ∷ 1 ∷ []) 1 (74 ∷ 0 ∷ 1 ∷ [])) → ⊥
unfolding errors_in
invented_error x = omega (arith, x.error_count)

-- (`ab` and a backtick, the error said to start at its token's index)
shifted_error : Lossless SourceFile (97 ∷ 98 ∷ 96 ∷ []) (token K.Ident 2 ∷ token 74 1 ∷ []) (wrote 3 (0 ∷ 0 ∷ 3 ∷ 2 ∷ 0 ∷ 1 ∷ 27 ∷ 2 ∷ 1 ∷ 0 ∷ 1 ∷ 25 ∷ 1 ∷ 1 ∷ 0 ∷ []) 1 (74 ∷ 1 ∷ 2 ∷ [])) → ⊥
unfolding is_error errors_in byte_count
shifted_error x = let e : ◌≡◌ {A = ℕ} 1 2 = ap (λ (l : List ℕ). get_or l 1 0) (x.error_rows (token K.Ident 2 ∷ []) [] (token 74 1) refl refl) in omega arith

-- ---------------------------------------------------------------- limits

abbrev at : ℕ → ℕ → Moment
at n p = record { open_calls = n; state = record { rest = []; since = []; pending = replicate p 0 } }

-- a 65th open call
too_deep : Limited 64 (at 65 0 ∷ []) → ⊥
too_deep l = omega (arith, l.0)

-- ---------------------------------------------------------------- each expectation once

-- `;` twice; a 70th, whatever it is; a lexical error's number, and 100 and 109, beside the others
twice : Listed (29 ∷ 2 ∷ 29 ∷ []) → ⊥
unfolding one_of
twice l = true≢false l.different.0

a_70th : ListedAtEach (at 0 70 ∷ []) → ⊥
a_70th l = omega (arith, l.0.few)

error_expected : Listed (64 ∷ []) → ⊥
unfolding is_expectation
error_expected l = false≢true l.expectations.0

before_the_others : Listed (100 ∷ []) → ⊥
unfolding is_expectation
before_the_others l = false≢true l.expectations.0

after_the_others : Listed (109 ∷ []) → ⊥
unfolding is_expectation
after_the_others l = false≢true l.expectations.0
