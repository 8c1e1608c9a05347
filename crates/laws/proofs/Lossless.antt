-- Nothing lost: the statement of specs/Lossless.antt, proved for every accepted call.
use Prim.Native.Nat.{ℕ, suc, ◌-◌, ◌*◌, ◌/◌}
use native.Mathlib.Nat.{add-zero, div-eq_of_eq-mul_right}
use native.Mathlib.Omega.{arith}
use mathlib.Core.Path.{◌≡◌, refl, ap, sym, ◌∙◌, subst}
use mathlib.Core.List.{List, ◌++◌}
use lib.Dec.{lit<}
use lib.ListN.{length, take, replicate}
use lib.Seq.{take_at}
use Rattle.definitions.specs.Layout.{TREE_ROW}
use Rattle.definitions.specs.Token.{Token, tokens_of, byte_count}
use Rattle.definitions.specs.Grammar.{Entry, root_kind}
use Rattle.definitions.specs.Place.{Tree, lead, after, place, ◌⊕◌, root, width, count, row_count}
use Rattle.definitions.specs.Parent.{rows}
use Rattle.definitions.specs.Strict.{NameAt}
use Rattle.definitions.specs.Call.{Buffers, sheets, kept, run_entry, names_of}
use Rattle.laws.specs.TreeRows.{end, node, preorder, read}
use Rattle.laws.specs.Lossless.{LeavesAre, Lossless, NothingLost}
use Rattle.laws.specs.Lossless as L
use Rattle.laws.proofs.Tree.{leaves, width_leaves}
use Rattle.laws.proofs.Placed.{root_whole}
use Rattle.laws.proofs.Between.{entry_reads}
use Rattle.laws.proofs.Swept.{entry_leaves}
use Rattle.laws.proofs.Names.{entry_names}
use Rattle.laws.proofs.Decode.{read_back, preorder_once, shown, shown_preorder, shown_counts, shown_widths, rows_length}
use Rattle.laws.proofs.Leaves.{right_root, leaves_cover}
use Rattle.laws.proofs.LexicalErrors.{errors_length, errors_of}
use Rattle.laws.proofs.Input.{Checked, checked_input}
use Rattle.laws.proofs.Accepted.{Accepted, accepted_call}

-- THE LEAVES OF THE TREE, in order, are the tokens: for every entry and every list of tokens
pub lossless : (e : Entry) (ts : List Token) → leaves (root (root_kind e) (run_entry e ts) ts) ≡ ts
lossless e ts = root_whole (root_kind e) (run_entry e ts) ts (entry_leaves e ts)

-- and the leaves' rows cover them
pub root_covers : (e : Entry) (ts : List Token) → LeavesAre (L.leaves (shown (root (root_kind e) (run_entry e ts) ts))) ts
root_covers e ts =
    subst (LeavesAre (L.leaves (shown (root (root_kind e) (run_entry e ts) ts)))) (lossless e ts)
    (leaves_cover (root (root_kind e) (run_entry e ts) ts) (right_root (root_kind e) (run_entry e ts) ts ((entry_reads e ts).reads ts refl) (entry_names e ts)))

-- whole rows at the front of a buffer, found again by their count
rows_in_front : (k n : ℕ) (l z : List ℕ) → length l ≡ suc k * n → take (suc k * (length l / suc k)) (l ++ z) ≡ l
rows_in_front k n l z e =
    let d : length l / suc k ≡ n = div-eq_of_eq-mul_right (omega arith) e in
    take_at l z (suc k * (length l / suc k)) (e ∙ ap (suc k *◌) (sym d))

-- ---------------------------------------------------------------- what an accepted call writes

module _ (e : Entry) (bytes : List ℕ) (ts : List Token) (b : Buffers) (full : byte_count ts ≡ length bytes) where
  abbrev t : Tree
  t = root (root_kind e) (run_entry e ts) ts

  pub in_front : take (TREE_ROW * (length (rows t) / TREE_ROW)) (rows t ++ replicate (length b.trees - length (rows t)) 0) ≡ preorder (shown t)
  in_front = rows_in_front 4 (row_count t) (rows t) _ (rows_length t 0 0) ∙ sym (shown_preorder t 0 0)

  -- the root's width is the length of the input
  root_width : width t ≡ length bytes
  root_width = width_leaves t ∙ ap byte_count (lossless e ts) ∙ full

  abbrev inside : Tree
  inside = place (run_entry e ts) ts ⊕ lead (after (run_entry e ts) ts)

  root_shown : shown t ≡ node (root_kind e) (length bytes) (count inside) (shown inside) end
  unfolding shown root width
  root_shown = ap (λ (w : ℕ). node (root_kind e) w (count inside) (shown inside) end) (sym (add-zero (width inside)) ∙ root_width)

  -- whatever Names are reported
  pub writes_lossless : (l : List NameAt) → Lossless e bytes ts (kept (sheets e ts (run_entry e ts) l) b)
  unfolding sheets
  writes_lossless l =
      record {
        tree = shown t;
        written = in_front;
        read_back = ap read in_front ∙ read_back (shown t) (shown_counts t);
        only_one = λ other h q. preorder_once other (shown t) h (shown_counts t) (q ∙ in_front);
        root_count = count inside;
        root_children = shown inside;
        root = root_shown;
        widths = shown_widths t;
        counts = shown_counts t;
        covers = root_covers e ts;
        error_count = div-eq_of_eq-mul_right (lit< tt) (errors_length 0 ts);
        error_rows = errors_of ts _;
      }

-- NOTHING LOST
pub nothing_lost : NothingLost
nothing_lost n setting bytes tokens b h =
    let a : Accepted n setting bytes tokens b = accepted_call n setting bytes tokens b h in
    let c : Checked bytes tokens = checked_input bytes tokens a.input in
    (a.entry, a.asked_for, subst (Lossless a.entry bytes (tokens_of tokens)) (sym a.returns) (writes_lossless a.entry bytes (tokens_of tokens) b c.covered (names_of setting a.entry bytes (tokens_of tokens))))
