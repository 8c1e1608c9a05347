-- The premises of `StaysLocal` can be met in either setting by every kind of statement on either side: properties,
-- nodes and directives of different lengths, in different places, with different buffers, and after each the same `}`.
-- A statement that leaves one of these pairs out is refused here.
use mathlib.Core.Path.{◌≡◌, refl, sym, ◌∙◌}
use Prim.Native.Nat.{ℕ, suc}
use mathlib.Core.Bool.{Bool, true, false}
use mathlib.Core.List.{List, [], ◌∷◌, ◌++◌}
use lib.Dec.{eqb}
use lib.ListN.{drop, replicate}
use Rattle.definitions.specs.NodeKind as N
use Rattle.definitions.specs.Token.{tokens_of}
use Rattle.definitions.specs.Call.{Buffers, call}
use Rattle.rows.specs.ResultRows.{Row, class, kind, count, tree_rows, Subtrees, none, leaf, node, over_leaves}
use Rattle.recovery.specs.Recovery.{File, result, Accepted, is_statement, Semicolon, token_index, start_byte, row_number, Shared}
use Rattle.recovery.proofs.Local.{stays_local}

-- buffers of n numbers each, full of sevens
abbrev pub lent : ℕ → Buffers
lent n = let l : List ℕ = replicate n 7 in record { events = l; trees = l; errors = l; reports = l; pool = l }

-- in some setting a statement's bytes and token numbers, and after them `}`
abbrev file : ℕ → ℕ → List ℕ → List ℕ → File
file s n i k = record { setting = s; bytes = i ++ (125 ∷ []); tokens = k ++ (38 ∷ 1 ∷ []); buffers = lent n }

-- its rows, of which the first has number n
abbrev stray : ℕ → List Row
stray n = (0 ∷ 10 ∷ 1 ∷ 1 ∷ 0 ∷ []) ∷ (1 ∷ 38 ∷ 1 ∷ 1 ∷ n ∷ []) ∷ []

-- a file, in the old setting or not, that is accepted, the semicolon of a statement of some kind in it, and what stands
-- after that
record Case (old : Bool) (k : ℕ) : Type 0 where
  source : File
  setting_is : eqb source.setting 0 ≡ old
  is_accepted : Accepted source
  semicolon : Semicolon (tree_rows (result source))
  part_is : kind semicolon.part ≡ k
  later_tokens : drop (suc (token_index semicolon)) (tokens_of source.tokens) ≡ record { kind = 38; len = 1 } ∷ []
  later_bytes : drop (suc (start_byte semicolon)) source.bytes ≡ 125 ∷ []
  later_parts : semicolon.later ≡ stray (suc (row_number semicolon))

-- any two of them in the same setting, by the theorem
abbrev Pair : {old : Bool} {k m : ℕ} → Case old k → Case old m → Type 0
Pair f g = Shared f.source g.source f.semicolon g.semicolon

shared : {old : Bool} {k m : ℕ} (f : Case old k) (g : Case old m) → Pair f g
shared f g =
    stays_local f.source g.source (f.setting_is ∙ sym g.setting_is) f.is_accepted g.is_accepted f.semicolon g.semicolon
    (record { same_tokens = f.later_tokens ∙ sym g.later_tokens; same_bytes = f.later_bytes ∙ sym g.later_bytes })

-- ---------------------------------------------------------------- the files

-- the semicolon of a statement that stands first, with n parts before it
abbrev pub first : {l : List Row} (root part : Row) (inside later : List Row) (n : ℕ) → l ≡ root ∷ (part ∷ (inside ++ ((1 ∷ 29 ∷ 1 ∷ 1 ∷ 1 ∷ []) ∷ later)))
    → class part ≡ 0 → is_statement (kind part) ≡ true → Subtrees n inside → count part ≡ suc n → Semicolon l
first root part inside later n e c s w k =
    record {
      root = root;
      before = [];
      part = part;
      inside = inside;
      leaf = (1 ∷ 29 ∷ 1 ∷ 1 ∷ 1 ∷ []);
      later = later;
      is = e;
      parts_before = 0;
      before_whole = none;
      part_node = c;
      part_kind = s;
      children_inside = n;
      inside_whole = w;
      leaf_last = k;
      leaf_leaf = refl;
      leaf_kind = refl;
    }

-- `a;`
property : Case true N.DtProperty
unfolding tree_rows call is_statement token_index start_byte row_number over_leaves tokens_of
property =
    record {
      source = file 0 60 (97 ∷ 59 ∷ []) (27 ∷ 1 ∷ 29 ∷ 1 ∷ []);
      setting_is = refl;
      is_accepted = refl;
      semicolon = first (0 ∷ 0 ∷ 3 ∷ 2 ∷ 0 ∷ []) (0 ∷ 16 ∷ 2 ∷ 2 ∷ 0 ∷ []) ((1 ∷ 26 ∷ 1 ∷ 1 ∷ 1 ∷ []) ∷ []) (stray 4) 1 refl refl refl (leaf refl none) refl;
      part_is = refl;
      later_tokens = refl;
      later_bytes = refl;
      later_parts = refl;
    }

-- `b,c=<1>;`
long_property : Case true N.DtProperty
unfolding tree_rows call is_statement token_index start_byte row_number over_leaves tokens_of
long_property =
    record {
      source = file 0 90 (98 ∷ 44 ∷ 99 ∷ 61 ∷ 60 ∷ 49 ∷ 62 ∷ 59 ∷ []) (27 ∷ 1 ∷ 2 ∷ 1 ∷ 27 ∷ 1 ∷ 28 ∷ 1 ∷ 39 ∷ 1 ∷ 35 ∷ 1 ∷ 40 ∷ 1 ∷ 29 ∷ 1 ∷ []);
      setting_is = refl;
      is_accepted = refl;
      semicolon = first (0 ∷ 0 ∷ 9 ∷ 2 ∷ 0 ∷ []) (0 ∷ 16 ∷ 8 ∷ 4 ∷ 0 ∷ []) ((1 ∷ 26 ∷ 3 ∷ 3 ∷ 1 ∷ []) ∷ (1 ∷ 28 ∷ 1 ∷ 1 ∷ 1 ∷ []) ∷ (0 ∷ 20 ∷ 3 ∷ 1 ∷ 1 ∷ []) ∷ (0 ∷ 17 ∷ 3 ∷ 3 ∷ 4 ∷ []) ∷ (1 ∷ 39 ∷ 1 ∷ 1 ∷ 5 ∷ []) ∷ (1 ∷ 35 ∷ 1 ∷ 1 ∷ 5 ∷ []) ∷ (1 ∷ 40 ∷ 1 ∷ 1 ∷ 5 ∷ []) ∷ []) (stray 10) 3 refl refl refl (leaf refl (leaf refl (node refl (node refl (leaf refl (leaf refl (leaf refl none))) none) none))) refl;
      part_is = refl;
      later_tokens = refl;
      later_bytes = refl;
      later_parts = refl;
    }

-- `/{};`
node_of_the_root : Case true N.DtNode
unfolding tree_rows call is_statement token_index start_byte row_number over_leaves tokens_of
node_of_the_root =
    record {
      source = file 0 70 (47 ∷ 123 ∷ 125 ∷ 59 ∷ []) (46 ∷ 1 ∷ 37 ∷ 1 ∷ 38 ∷ 1 ∷ 29 ∷ 1 ∷ []);
      setting_is = refl;
      is_accepted = refl;
      semicolon = first (0 ∷ 0 ∷ 5 ∷ 2 ∷ 0 ∷ []) (0 ∷ 15 ∷ 4 ∷ 4 ∷ 0 ∷ []) ((1 ∷ 46 ∷ 1 ∷ 1 ∷ 1 ∷ []) ∷ (1 ∷ 37 ∷ 1 ∷ 1 ∷ 1 ∷ []) ∷ (1 ∷ 38 ∷ 1 ∷ 1 ∷ 1 ∷ []) ∷ []) (stray 6) 3 refl refl refl (leaf refl (leaf refl (leaf refl none))) refl;
      part_is = refl;
      later_tokens = refl;
      later_bytes = refl;
      later_parts = refl;
    }

-- `b {c;};`
long_node : Case true N.DtNode
unfolding tree_rows call is_statement token_index start_byte row_number over_leaves tokens_of
long_node =
    record {
      source = file 0 80 (98 ∷ 32 ∷ 123 ∷ 99 ∷ 59 ∷ 125 ∷ 59 ∷ []) (27 ∷ 1 ∷ 0 ∷ 1 ∷ 37 ∷ 1 ∷ 27 ∷ 1 ∷ 29 ∷ 1 ∷ 38 ∷ 1 ∷ 29 ∷ 1 ∷ []);
      setting_is = refl;
      is_accepted = refl;
      semicolon = first (0 ∷ 0 ∷ 8 ∷ 2 ∷ 0 ∷ []) (0 ∷ 15 ∷ 7 ∷ 6 ∷ 0 ∷ []) ((1 ∷ 26 ∷ 1 ∷ 1 ∷ 1 ∷ []) ∷ (1 ∷ 0 ∷ 1 ∷ 1 ∷ 1 ∷ []) ∷ (1 ∷ 37 ∷ 1 ∷ 1 ∷ 1 ∷ []) ∷ (0 ∷ 16 ∷ 2 ∷ 2 ∷ 1 ∷ []) ∷ (1 ∷ 26 ∷ 1 ∷ 1 ∷ 5 ∷ []) ∷ (1 ∷ 29 ∷ 1 ∷ 1 ∷ 5 ∷ []) ∷ (1 ∷ 38 ∷ 1 ∷ 1 ∷ 1 ∷ []) ∷ []) (stray 10) 5 refl refl refl (leaf refl (leaf refl (leaf refl (node refl (leaf refl (leaf refl none)) (leaf refl none))))) refl;
      part_is = refl;
      later_tokens = refl;
      later_bytes = refl;
      later_parts = refl;
    }

-- `/plugin/;`
directive : Case true N.DtsDirective
unfolding tree_rows call is_statement token_index start_byte row_number over_leaves tokens_of
directive =
    record {
      source = file 0 60 (47 ∷ 112 ∷ 108 ∷ 117 ∷ 103 ∷ 105 ∷ 110 ∷ 47 ∷ 59 ∷ []) (24 ∷ 8 ∷ 29 ∷ 1 ∷ []);
      setting_is = refl;
      is_accepted = refl;
      semicolon = first (0 ∷ 0 ∷ 10 ∷ 2 ∷ 0 ∷ []) (0 ∷ 11 ∷ 9 ∷ 2 ∷ 0 ∷ []) ((1 ∷ 24 ∷ 8 ∷ 1 ∷ 1 ∷ []) ∷ []) (stray 4) 1 refl refl refl (leaf refl none) refl;
      part_is = refl;
      later_tokens = refl;
      later_bytes = refl;
      later_parts = refl;
    }

-- `/delete-node/ &a;`
long_directive : Case true N.DtsDirective
unfolding tree_rows call is_statement token_index start_byte row_number over_leaves tokens_of
long_directive =
    record {
      source = file 0 80 (47 ∷ 100 ∷ 101 ∷ 108 ∷ 101 ∷ 116 ∷ 101 ∷ 45 ∷ 110 ∷ 111 ∷ 100 ∷ 101 ∷ 47 ∷ 32 ∷ 38 ∷ 97 ∷ 59 ∷ []) (21 ∷ 13 ∷ 0 ∷ 1 ∷ 30 ∷ 1 ∷ 27 ∷ 1 ∷ 29 ∷ 1 ∷ []);
      setting_is = refl;
      is_accepted = refl;
      semicolon = first (0 ∷ 0 ∷ 18 ∷ 2 ∷ 0 ∷ []) (0 ∷ 11 ∷ 17 ∷ 4 ∷ 0 ∷ []) ((1 ∷ 21 ∷ 13 ∷ 1 ∷ 1 ∷ []) ∷ (1 ∷ 0 ∷ 1 ∷ 1 ∷ 1 ∷ []) ∷ (0 ∷ 12 ∷ 2 ∷ 1 ∷ 1 ∷ []) ∷ (0 ∷ 21 ∷ 2 ∷ 2 ∷ 4 ∷ []) ∷ (1 ∷ 30 ∷ 1 ∷ 1 ∷ 5 ∷ []) ∷ (1 ∷ 26 ∷ 1 ∷ 1 ∷ 5 ∷ []) ∷ []) (stray 9) 3 refl refl refl (leaf refl (leaf refl (node refl (node refl (leaf refl (leaf refl none)) none) none))) refl;
      part_is = refl;
      later_tokens = refl;
      later_bytes = refl;
      later_parts = refl;
    }

-- `a;`, strict
strict_property : Case false N.DtProperty
unfolding tree_rows call is_statement token_index start_byte row_number over_leaves tokens_of
strict_property =
    record {
      source = file 1 60 (97 ∷ 59 ∷ []) (27 ∷ 1 ∷ 29 ∷ 1 ∷ []);
      setting_is = refl;
      is_accepted = refl;
      semicolon = first (0 ∷ 0 ∷ 3 ∷ 2 ∷ 0 ∷ []) (0 ∷ 16 ∷ 2 ∷ 2 ∷ 0 ∷ []) ((1 ∷ 26 ∷ 1 ∷ 1 ∷ 1 ∷ []) ∷ []) (stray 4) 1 refl refl refl (leaf refl none) refl;
      part_is = refl;
      later_tokens = refl;
      later_bytes = refl;
      later_parts = refl;
    }

-- `1a:b{};`, strict by another number, with a report on `1a`
strict_node : Case false N.DtNode
unfolding tree_rows call is_statement token_index start_byte row_number over_leaves tokens_of
strict_node =
    record {
      source = file 2 80 (49 ∷ 97 ∷ 58 ∷ 98 ∷ 123 ∷ 125 ∷ 59 ∷ []) (35 ∷ 1 ∷ 27 ∷ 1 ∷ 31 ∷ 1 ∷ 27 ∷ 1 ∷ 37 ∷ 1 ∷ 38 ∷ 1 ∷ 29 ∷ 1 ∷ []);
      setting_is = refl;
      is_accepted = refl;
      semicolon = first (0 ∷ 0 ∷ 8 ∷ 2 ∷ 0 ∷ []) (0 ∷ 15 ∷ 7 ∷ 5 ∷ 0 ∷ []) ((0 ∷ 19 ∷ 3 ∷ 2 ∷ 1 ∷ []) ∷ (1 ∷ 26 ∷ 2 ∷ 2 ∷ 2 ∷ []) ∷ (1 ∷ 31 ∷ 1 ∷ 1 ∷ 2 ∷ []) ∷ (1 ∷ 26 ∷ 1 ∷ 1 ∷ 1 ∷ []) ∷ (1 ∷ 37 ∷ 1 ∷ 1 ∷ 1 ∷ []) ∷ (1 ∷ 38 ∷ 1 ∷ 1 ∷ 1 ∷ []) ∷ []) (stray 9) 4 refl refl refl (node refl (leaf refl (leaf refl none)) (leaf refl (leaf refl (leaf refl none)))) refl;
      part_is = refl;
      later_tokens = refl;
      later_bytes = refl;
      later_parts = refl;
    }

-- `/delete-node/ &1a;`, strict by the largest number, with a report on `1a`
strict_directive : Case false N.DtsDirective
unfolding tree_rows call is_statement token_index start_byte row_number over_leaves tokens_of
strict_directive =
    record {
      source = file 4294967295 80 (47 ∷ 100 ∷ 101 ∷ 108 ∷ 101 ∷ 116 ∷ 101 ∷ 45 ∷ 110 ∷ 111 ∷ 100 ∷ 101 ∷ 47 ∷ 32 ∷ 38 ∷ 49 ∷ 97 ∷ 59 ∷ []) (21 ∷ 13 ∷ 0 ∷ 1 ∷ 30 ∷ 1 ∷ 27 ∷ 2 ∷ 29 ∷ 1 ∷ []);
      setting_is = refl;
      is_accepted = refl;
      semicolon = first (0 ∷ 0 ∷ 19 ∷ 2 ∷ 0 ∷ []) (0 ∷ 11 ∷ 18 ∷ 4 ∷ 0 ∷ []) ((1 ∷ 21 ∷ 13 ∷ 1 ∷ 1 ∷ []) ∷ (1 ∷ 0 ∷ 1 ∷ 1 ∷ 1 ∷ []) ∷ (0 ∷ 12 ∷ 3 ∷ 1 ∷ 1 ∷ []) ∷ (0 ∷ 21 ∷ 3 ∷ 2 ∷ 4 ∷ []) ∷ (1 ∷ 30 ∷ 1 ∷ 1 ∷ 5 ∷ []) ∷ (1 ∷ 26 ∷ 2 ∷ 1 ∷ 5 ∷ []) ∷ []) (stray 9) 3 refl refl refl (leaf refl (leaf refl (node refl (node refl (leaf refl (leaf refl none)) none) none))) refl;
      part_is = refl;
      later_tokens = refl;
      later_bytes = refl;
      later_parts = refl;
    }

-- ---------------------------------------------------------------- pairs of one kind, and of two

of_one_kind : Pair property long_property × Pair node_of_the_root long_node × Pair directive long_directive
of_one_kind = (shared property long_property, shared node_of_the_root long_node, shared directive long_directive)

of_two_kinds : Pair property long_node × Pair node_of_the_root directive × Pair long_directive property
of_two_kinds = (shared property long_node, shared node_of_the_root directive, shared long_directive property)

strict_too : Pair strict_property strict_node × Pair strict_node strict_directive × Pair strict_directive strict_property
strict_too = (shared strict_property strict_node, shared strict_node strict_directive, shared strict_directive strict_property)
