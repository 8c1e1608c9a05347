-- The parse of a source file that passed the checks: it is the call of entry 1, and what it leaves once it is accepted.
use Prim.Native.Nat.{ℕ, ◌-◌, ◌*◌, ◌/◌, ◌≤◌}
use native.Mathlib.Omega.{arith}
use native.Mathlib.Nat.{div-eq_of_eq-mul_right}
use mathlib.Core.Path.{◌≡◌, refl, ap, sym, ◌∙◌, subst}
use mathlib.Core.List.{List}
use lib.Dec.{lit<}
use lib.ListN.{length, take, replicate}
use lib.Seq.{take_at}
use Rattle.definitions.specs.Layout.{TREE_ROW}
use Rattle.definitions.specs.Token.{tokens_of}
use Rattle.definitions.specs.Grammar.{Entry, SourceFile}
use Rattle.definitions.specs.Place.{row_count}
use Rattle.definitions.specs.Parent.{rows}
use Rattle.definitions.specs.Refusal.{Verdict, accepted}
use Rattle.definitions.specs.RowCauses.{check_input}
use Rattle.definitions.specs.Call.{Buffers, Result, Sheets, sheets, kept, parse, for, entry_of, checked, asked, call}
use Rattle.definitions.specs.Caret.{source_tree}
use Rattle.laws.proofs.Accepted.{Accepted, accepted_call, written_by}
use Rattle.laws.proofs.Decode.{rows_length}
use Rattle.rows.specs.OnePass.{tree_rows_of}
use Rattle.rows.proofs.Written.{rows_of, rows_wide, rows_flat}
use Rattle.rows.proofs.Numbers.{rows_flat_of}

pub parse_is_call : (setting : ℕ) (bytes tokens : List ℕ) (b : Buffers) → check_input bytes tokens ≡ accepted
    → call 1 setting bytes tokens b ≡ parse SourceFile setting bytes (tokens_of tokens) b
unfolding call asked entry_of checked
parse_is_call setting bytes tokens b ok = ap (λ (v : Verdict). checked v SourceFile setting bytes tokens b) ok

entry_one : (e : Entry) → entry_of 1 ≡ for e → e ≡ SourceFile
unfolding entry_of
entry_one e h = cc

-- what an accepted call of entry 1 leaves
pub record Left (setting : ℕ) (bytes tokens : List ℕ) (b : Buffers) (r : Result) : Type 0 where
  pub input : check_input bytes tokens ≡ accepted
  pub sheets_are : Sheets
  pub returns : r ≡ kept sheets_are b
  pub trees_are : sheets_are.trees ≡ rows (source_tree (tokens_of tokens))
  pub trees_fit : length sheets_are.trees ≤ length b.trees

pub what_is_left : (setting : ℕ) (bytes tokens : List ℕ) (b : Buffers) → (call 1 setting bytes tokens b).answer.number ≡ 0 → Left setting bytes tokens b (call 1 setting bytes tokens b)
unfolding sheets source_tree
what_is_left setting bytes tokens b h =
    let a : Accepted 1 setting bytes tokens b = accepted_call 1 setting bytes tokens b h in
    let e : a.entry ≡ SourceFile = entry_one a.entry a.asked_for in
    record {
      input = a.input;
      sheets_are = written_by setting SourceFile bytes (tokens_of tokens);
      returns = a.returns ∙ ap (λ (x : Entry). kept (written_by setting x bytes (tokens_of tokens)) b) e;
      trees_are = refl;
      trees_fit = subst (λ (x : Entry). length (written_by setting x bytes (tokens_of tokens)).trees ≤ length b.trees) e a.trees_fit;
    }

module _ (setting : ℕ) (bytes tokens : List ℕ) (b : Buffers) (r : Result) (w : Left setting bytes tokens b r) where
  -- how many rows, and that they stand in the buffer
  pub count_is : r.answer.tree_count ≡ row_count (source_tree (tokens_of tokens))
  count_is =
      ap (λ (x : Result). x.answer.tree_count) w.returns
      ∙ ap (λ (l : List ℕ). length l / TREE_ROW) w.trees_are
      ∙ div-eq_of_eq-mul_right (lit< tt) (rows_length (source_tree (tokens_of tokens)) 0 0)

  numbers_are : length w.sheets_are.trees ≡ TREE_ROW * r.answer.tree_count
  numbers_are = ap length w.trees_are ∙ rows_length (source_tree (tokens_of tokens)) 0 0 ∙ ap (TREE_ROW *◌) (sym count_is)

  pub rows_fit : TREE_ROW * r.answer.tree_count ≤ length b.trees
  rows_fit = omega (arith, numbers_are, w.trees_fit)

  -- read from the buffer they are the rows of the tree
  pub rows_read : tree_rows_of (take (TREE_ROW * r.answer.tree_count) r.buffers.trees) ≡ rows_of 0 0 (source_tree (tokens_of tokens))
  rows_read =
      ap (λ (l : List ℕ). tree_rows_of (take (TREE_ROW * r.answer.tree_count) l)) (ap (λ (x : Result). x.buffers.trees) w.returns)
      ∙ ap tree_rows_of (take_at w.sheets_are.trees (replicate (length b.trees - length w.sheets_are.trees) 0) (TREE_ROW * r.answer.tree_count) numbers_are)
      ∙ ap tree_rows_of (w.trees_are ∙ rows_flat (source_tree (tokens_of tokens)) 0 0)
      ∙ rows_flat_of (rows_of 0 0 (source_tree (tokens_of tokens))) (rows_wide (source_tree (tokens_of tokens)) 0 0)
