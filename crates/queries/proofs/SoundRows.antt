-- The rows that an accepted source file leaves: those of its tree, sound for one pass, each leaf with a byte.
use Prim.Native.Nat.{ℕ, suc, ◌+◌, ◌<◌}
use native.Mathlib.Omega.{arith}
use mathlib.Core.Path.{◌≡◌, refl, ap, sym, ◌∙◌, subst}
use mathlib.Core.List.{List, [], ◌∷◌, ◌++◌}
use lib.ListN.{length, drop}
use Rattle.definitions.specs.Token.{Token, tokens_of, byte_count}
use Rattle.definitions.specs.Grammar.{SourceFile, root_kind}
use Rattle.definitions.specs.Place.{Tree, nil, leaf, subtree, ◌⊕◌, lead, after, place, root, width, row_count}
use Rattle.definitions.specs.Refusal.{accepted}
use Rattle.definitions.specs.RowCauses.{check_input}
use Rattle.definitions.specs.Call.{run_entry}
use Rattle.definitions.specs.Caret.{Query, listed, source_tree}
use Rattle.laws.specs.Lossless.{KindOf, one_token, a_name}
use Rattle.laws.proofs.Tree.{leaves, width_leaves}
use Rattle.laws.proofs.Leaves.{Right}
use Rattle.laws.proofs.Input.{AllGood, Checked, checked_input}
use Rattle.laws.proofs.Lossless.{lossless}
use Rattle.bounds.proofs.TreeRows.{tree_right, few_rows}
use Rattle.rows.specs.ResultRows.{Row, over_leaves, raw_bytes}
use Rattle.rows.specs.OnePass.{found, Classes, AddsUp, Sound}
use Rattle.rows.proofs.Written.{rows_of, rows_counted, bytes_counted}
use Rattle.rows.proofs.Last.{LeavesWide}
use Rattle.rows.proofs.Parts.{adds_parts}
use Rattle.queries.proofs.Found.{found_listed}

-- ---------------------------------------------------------------- each leaf has a byte

good_left : (l m : List Token) → AllGood (l ++ m) → AllGood l
good_left [] m h = tt
good_left (t ∷ l) m h = (h.0, good_left l m h.1)

good_right : (l m : List Token) → AllGood (l ++ m) → AllGood m
good_right [] m h = h
good_right (t ∷ l) m h = good_right l m h.1

some_byte : (t : Token) (ts : List Token) → AllGood (t ∷ ts) → 0 < byte_count (t ∷ ts)
unfolding byte_count
some_byte t ts h = omega (arith, h.0.len)

kind_byte : (k : ℕ) (raw : List Token) → KindOf k raw → AllGood raw → 0 < byte_count raw
kind_byte k _ (one_token t e) h = some_byte t [] h
kind_byte k _ (a_name t ts e f) h = some_byte t ts h

pub wide_leaves : (t : Tree) → Right t → AllGood (leaves t) → LeavesWide t
unfolding Right leaves LeavesWide
wide_leaves nil r g = tt
wide_leaves (leaf k raw f) r g = (kind_byte k raw r.0 (good_left raw (leaves f) g), wide_leaves f r.1 (good_right raw (leaves f) g))
wide_leaves (subtree k c f) r g = (wide_leaves c r.0 (good_left (leaves c) (leaves f) g), wide_leaves f r.1 (good_right (leaves c) (leaves f) g))

-- ---------------------------------------------------------------- rows of a tree

classes_append : (l m : List Row) → Classes l → Classes m → Classes (l ++ m)
unfolding Classes
classes_append [] m h g = g
classes_append (r ∷ l) m h g = (h.0, classes_append l m h.1 g)

classes_rows : (f : Tree) (p i : ℕ) → Classes (rows_of p i f)
unfolding Classes rows_of
classes_rows nil p i = tt
classes_rows (leaf k ts f) p i = (omega arith, classes_rows f p (suc i))
classes_rows (subtree k c f) p i =
    (omega arith, classes_append (rows_of i (suc i) c) (rows_of p (suc i + row_count c) f) (classes_rows c i (suc i)) (classes_rows f p (suc i + row_count c)))

parts_add : (k size : ℕ) (c : Tree) → width (subtree k c nil) ≡ size → AddsUp 0 size (rows_of 0 1 c ++ [])
unfolding AddsUp width
parts_add k size c e = adds_parts c 0 1 size [] (omega (arith, e)) refl

-- ---------------------------------------------------------------- a source file

-- what its root has under it
abbrev pub inside : List Token → Tree
inside ts = place (run_entry SourceFile ts) ts ⊕ lead (after (run_entry SourceFile ts) ts)

pub tree_is : (ts : List Token) → source_tree ts ≡ subtree (root_kind SourceFile) (inside ts) nil
unfolding source_tree root
tree_is ts = refl

parts_of : (ts : List Token) (size : ℕ) → width (source_tree ts) ≡ size → AddsUp 0 size (drop 1 (rows_of 0 0 (source_tree ts)))
unfolding source_tree root rows_of
parts_of ts size e = parts_add (root_kind SourceFile) size (inside ts) e

-- the root's own bytes are none
under_bytes : (ts : List Token) → raw_bytes (rows_of 0 0 (source_tree ts)) ≡ raw_bytes (drop 1 (rows_of 0 0 (source_tree ts)))
unfolding source_tree root rows_of over_leaves
under_bytes ts = omega arith

pub record FileRows (bytes : List ℕ) (ts : List Token) : Type 0 where
  pub wide : LeavesWide (source_tree ts)
  pub size : width (source_tree ts) ≡ length bytes
  pub bytes_in : raw_bytes (rows_of 0 0 (source_tree ts)) ≡ length bytes
  pub sound : Sound (length bytes) (rows_of 0 0 (source_tree ts))
  pub lists : (q : Query) → found q (length bytes) (rows_of 0 0 (source_tree ts)) ≡ listed q (length bytes) (source_tree ts)

pub file_rows : (bytes tokens : List ℕ) → check_input bytes tokens ≡ accepted → FileRows bytes (tokens_of tokens)
unfolding source_tree
file_rows bytes tokens ok =
    let ts = tokens_of tokens in
    let c : Checked bytes tokens = checked_input bytes tokens ok in
    let t = source_tree ts in
    let e : leaves t ≡ ts = lossless SourceFile ts in
    let wide : LeavesWide t = wide_leaves t (tree_right SourceFile ts) (subst AllGood (sym e) c.good) in
    let size : width t ≡ length bytes = width_leaves t ∙ ap byte_count e ∙ c.covered in
    let raw : raw_bytes (rows_of 0 0 t) ≡ length bytes = bytes_counted t 0 0 ∙ ap byte_count e ∙ c.covered in
    let few = few_rows SourceFile ts in
    let n = rows_counted t 0 0 in
    record {
      wide = wide;
      size = size;
      bytes_in = raw;
      sound =
          record {
            classes = classes_rows t 0 0;
            covered = omega (arith, raw);
            under_root = (let u = under_bytes ts in omega (arith, raw, u));
            parts = parts_of ts (length bytes) size;
            small = omega (arith, c.bytes_limit);
            few = omega (arith, n, few, c.pairs, c.numbers_limit);
          };
      lists = λ q. found_listed q (root_kind SourceFile) (length bytes) (inside ts) size wide;
    }
