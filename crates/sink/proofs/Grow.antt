-- A sink whose buffer is filled up to a place, and what writing a forest's rows makes of it.
use native.Mathlib.Omega.{arith}
use native.Mathlib.Nat.{mod-eq_of_lt}
use Prim.Native.Nat.{ℕ, ◌+◌, ◌*◌, ◌≤◌, ◌<◌}
use mathlib.Core.List.{List, [], ◌++◌, append_assoc, append-nil}
use mathlib.Core.Path.{◌≡◌, refl, sym, ◌∙◌, ap}
use mathlib.Core.Bool.{true}
use lib.ListN.{length, get_or, drop, length-append, length-drop}
use lib.Seq.{sets-eq, take_at, drop_at, drop-drop, get_or-append-add}
use borrow.Author.Tests.{le-leb}
use Rattle.basics.specs.Word.{low}
use Rattle.definitions.specs.Layout.{TREE_ROW, LEAF, TWO_TO_32}
use Rattle.definitions.specs.Token.{Token, byte_count}
use Rattle.definitions.specs.Place.{Tree, nil, leaf, ◌⊕◌, width, count, row_count}
use Rattle.definitions.specs.Parent.{tree_row, rows_under}
use Rattle.laws.proofs.Tree.{rows_beside, row_count_beside, width_beside, count_beside}
use Rattle.layout.specs.Rows.{fits, put_row, field as row_field}
use Rattle.layout.proofs.Room.{fits_sum, row_inside}
use Rattle.sink_rows.specs.Rows.{put, tree_field}
use Rattle.sink.specs.Model.{On, on, moved, leaf_on}
use Rattle.laws.proofs.Decode.{rows_length}
use Rattle.sink.proofs.Trees.{raw, raw_beside}

-- written: the numbers written. free: the rest of the buffer. The other fields are the sink's.
pub record Filled : Type 0 where
  pub written : List ℕ
  pub free : List ℕ
  pub cursor : ℕ
  pub byte : ℕ
  pub rows : ℕ
  pub node : ℕ
  pub children : ℕ

unfoldable pub state : Filled → On
state s = on (record { cursor = s.cursor; byte = s.byte; rows = s.rows; node = s.node; children = s.children }) (s.written ++ s.free)

-- with a forest's rows after what is written, as children of the open node
unfoldable pub grow : Tree → Filled → Filled
grow f s =
    record {
      written = s.written ++ rows_under s.node s.rows f;
      free = drop (TREE_ROW * row_count f) s.free;
      cursor = s.cursor + raw f;
      byte = s.byte + width f;
      rows = s.rows + row_count f;
      node = s.node;
      children = s.children + count f;
    }

pub grow_grow : (f g : Tree) (s : Filled) → grow g (grow f s) ≡ grow (f ⊕ g) s
unfolding grow
grow_grow f g s =
    let p : s.cursor + raw f + raw g ≡ s.cursor + raw (f ⊕ g) = omega (arith, raw_beside f g) in
    let q : s.byte + width f + width g ≡ s.byte + width (f ⊕ g) = omega (arith, width_beside f g) in
    let n : s.rows + row_count f + row_count g ≡ s.rows + row_count (f ⊕ g) = omega (arith, row_count_beside f g) in
    let r : s.children + count f + count g ≡ s.children + count (f ⊕ g) = omega (arith, count_beside f g) in
    let d : TREE_ROW * row_count f + TREE_ROW * row_count g ≡ TREE_ROW * row_count (f ⊕ g) = omega (arith, row_count_beside f g) in
    rw (
      p,
      q,
      n,
      r,
      drop-drop (TREE_ROW * row_count g) (TREE_ROW * row_count f) s.free,
      d,
      append_assoc s.written (rows_under s.node s.rows f) (rows_under s.node (s.rows + row_count f) g),
      ← (rows_beside f g s.node s.rows),
    )

pub grow_nil : (s : Filled) → grow nil s ≡ s
unfolding grow rows_under width count raw row_count
grow_nil s =
    let p : s.cursor + 0 ≡ s.cursor = omega arith in
    let q : s.byte + 0 ≡ s.byte = omega arith in
    let n : s.rows + 0 ≡ s.rows = omega arith in
    let r : s.children + 0 ≡ s.children = omega arith in
    rw (p, q, n, r, append-nil s.written)

-- A forest fits, and no tree-field in it is too large. What is written are whole rows.
pub record Fits (f : Tree) (s : Filled) : Type 0 where
  pub free : TREE_ROW * row_count f ≤ length s.free
  pub whole : length s.written ≡ s.rows * TREE_ROW
  pub byte : s.byte + width f < TWO_TO_32
  pub rows : s.rows + row_count f < TWO_TO_32
  pub children : s.children + count f < TWO_TO_32

pub fits_front : (f g : Tree) (s : Filled) → Fits (f ⊕ g) s → Fits f s
fits_front f g s r =
    record {
      free = omega (arith, r.free, row_count_beside f g);
      whole = r.whole;
      byte = omega (arith, r.byte, width_beside f g);
      rows = omega (arith, r.rows, row_count_beside f g);
      children = omega (arith, r.children, count_beside f g);
    }

pub fits_back : (f g : Tree) (s : Filled) → Fits (f ⊕ g) s → Fits g (grow f s)
unfolding grow
fits_back f g s r =
    record {
      free = omega (arith, r.free, row_count_beside f g, length-drop (TREE_ROW * row_count f) s.free);
      whole = omega (arith, r.whole, rows_length f s.node s.rows, length-append s.written (rows_under s.node s.rows f));
      byte = omega (arith, r.byte, width_beside f g);
      rows = omega (arith, r.rows, row_count_beside f g);
      children = omega (arith, r.children, count_beside f g);
    }

-- ---------------------------------------------------------------- a row at the seam

pub low_small : (x : ℕ) → x < TWO_TO_32 → low x ≡ x
low_small x h = mod-eq_of_lt h

pub row_seam : (n at : ℕ) (t r x : List ℕ) → length t ≡ at → length r ≡ n → n ≤ length x → put_row n at r (t ++ x) ≡ t ++ (r ++ drop n x)
unfolding put_row
row_seam n at t r x e l h =
    let inside : at + n ≤ length (t ++ x) = omega (arith, length-append t x) in
    let fit : fits (length (t ++ x)) at n ≡ true = fits_sum (length (t ++ x)) at n ∙ le-leb (at + n) (length (t ++ x)) inside in
    let rest : drop (at + n) (t ++ x) ≡ drop n x = sym (drop-drop n at (t ++ x)) ∙ ap (λ l. drop n l) (drop_at t x at e) in
    rw fit (sets-eq r (t ++ x) at (rw l inside) ∙ rw (l, rest, take_at t x at e, append_assoc t r (drop n x)))

pub put_seam : (row : ℕ) (t r x : List ℕ) → length t ≡ row * TREE_ROW → length r ≡ TREE_ROW → TREE_ROW ≤ length x → put row r (t ++ x) ≡ t ++ (r ++ drop TREE_ROW x)
put_seam row t r x e n h = row_seam TREE_ROW (row * TREE_ROW) t r x e n h

pub field_seam : (row j : ℕ) (t x : List ℕ) → length t ≡ row * TREE_ROW → TREE_ROW ≤ length x → tree_field row j (t ++ x) ≡ get_or x j 0
unfolding row_field
field_seam row j t x e h =
    let inside : row * TREE_ROW + TREE_ROW ≤ length (t ++ x) = omega (arith, length-append t x) in
    rw (← row_inside TREE_ROW (length (t ++ x)) row (omega arith), le-leb (row * TREE_ROW + TREE_ROW) (length (t ++ x)) inside) (rw (← e) (get_or-append-add t x j 0))

-- ---------------------------------------------------------------- a leaf

module _ (k : ℕ) (ts : List Token) (n w : ℕ) (hn : length ts ≡ n) (hw : byte_count ts ≡ w) (s : Filled) (r : Fits (leaf k ts nil) s) where
  pub leaf_runs : leaf_on k w n (moved (s.cursor + n) (state s)) ≡ state (grow (leaf k ts nil) s)
  unfolding rows_under width count raw row_count grow state leaf_on
  leaf_runs =
      let b : low (s.byte + w) ≡ s.byte + (byte_count ts + 0) = low_small (s.byte + w) (omega (arith, r.byte)) ∙ (let z : s.byte + w ≡ s.byte + (byte_count ts + 0) = omega arith in z) in
      let m : low (s.rows + 1) ≡ s.rows + 1 = low_small (s.rows + 1) (omega (arith, r.rows)) in
      let c : low (s.children + 1) ≡ s.children + 1 = low_small (s.children + 1) (omega (arith, r.children)) in
      let a : s.cursor + n ≡ s.cursor + (length ts + 0) = omega arith in
      rw (
        put_seam s.rows s.written (tree_row LEAF k w n s.node []) s.free r.whole refl r.free,
        b,
        m,
        c,
        a,
        ← hn,
        ← hw,
        append_assoc s.written (tree_row LEAF k (byte_count ts) (length ts) s.node []) (drop TREE_ROW s.free),
      )
