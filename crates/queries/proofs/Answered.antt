-- The two queries answered: what an accepted one leaves, and by it the statements of specs/.
use Prim.Native.Nat.{ℕ, ◌-◌, ◌≤◌}
use native.Mathlib.Omega.{arith}
use mathlib.Core.Path.{◌≡◌, refl, ap, sym, ◌∙◌, subst}
use mathlib.Core.Bool.{Bool, true, false}
use mathlib.Core.List.{List, ◌++◌}
use lib.Dec.{leb, eqb}
use lib.ListN.{length, take, replicate}
use lib.Seq.{take-append_seam}
use borrow.Author.Tests.{eqb-true, eqb-false, leb-true, leb-false}
use Rattle.definitions.specs.Layout.{TREE_ROW}
use Rattle.definitions.specs.Token.{Token, tokens_of}
use Rattle.definitions.specs.Grammar.{SourceFile, root_kind}
use Rattle.definitions.specs.Place.{Tree, nil, subtree, width}
use Rattle.definitions.specs.Call.{Buffers, Answer, Result, call}
use Rattle.definitions.specs.Caret.{Query, caret, range, listed, top_level, source_tree, ListResult, query_call}
use Rattle.rows.specs.ResultRows.{Row, tree_rows, raw_bytes}
use Rattle.rows.specs.OnePass.{found}
use Rattle.rows.proofs.Written.{rows_of, rows_wide, rows_flat, written_rows}
use Rattle.rows.proofs.Last.{LeavesWide}
use Rattle.queries.specs.AsParsed.{EndsAsParsed}
use Rattle.queries.specs.UnderCaret.{rows_left, on_list, UnderCaret, CaretAnswered}
use Rattle.queries.specs.PartsListed.{PartsListed, PartsAnswered}
use Rattle.queries.proofs.SoundRows.{inside, tree_is, FileRows, file_rows}
use Rattle.queries.proofs.Parsed.{Left, what_is_left}
use Rattle.queries.proofs.Carets.{under_caret}
use Rattle.queries.proofs.Shared.{parts_listed}
use Rattle.queries.proofs.Ending.{as_parsed}

module _ (q : Query) (setting : ℕ) (bytes tokens : List ℕ) (b : Buffers) (list : List ℕ) (ok : (query_call q setting bytes tokens b list).answer.number ≡ 0) where
  abbrev ts : List Token
  ts = tokens_of tokens

  abbrev r : Result
  r = call 1 setting bytes tokens b

  abbrev x : ListResult
  x = query_call q setting bytes tokens b list

  abbrev l : List ℕ
  l = listed q (length bytes) (source_tree ts)

  ends : EndsAsParsed b list l r x
  ends = as_parsed q setting bytes tokens b list

  -- the parse was accepted, and the list fits
  parse_accepted : r.answer.number ≡ 0
  parse_accepted = go (eqb r.answer.number 0) refl
    where
      go : (t : Bool) → eqb r.answer.number 0 ≡ t → r.answer.number ≡ 0
      go true e = eqb-true r.answer.number 0 e
      go false e = absurd (eqb-false r.answer.number 0 e (ap (λ (a : Answer). a.number) (sym (ends.refused (eqb-false r.answer.number 0 e)).0) ∙ ok))

  list_fits : length l ≤ length list
  list_fits = go (leb (length l) (length list)) refl
    where
      go : (t : Bool) → leb (length l) (length list) ≡ t → length l ≤ length list
      go true e = leb-true (length l) (length list) e
      go false e = absurd (let n = (ends.full parse_accepted (leb-false (length l) (length list) e)).0.number in omega (arith, n, ok))

  all_kept : (x.answer ≡ r.answer) × ((x.buffers ≡ r.buffers) × ((x.list_count ≡ length l) × (x.list ≡ l ++ replicate (length list - length l) 0)))
  all_kept = ends.kept parse_accepted list_fits

  -- what is on the list
  pub listed_is : on_list x ≡ l
  listed_is = (λ i. take (all_kept.1.1.0 i) (all_kept.1.1.1 i)) ∙ take-append_seam l _

  left : Left setting bytes tokens b r
  left = what_is_left setting bytes tokens b parse_accepted

  -- the rows beside it
  pub rows_are : rows_left x ≡ rows_of 0 0 (source_tree ts)
  unfolding tree_rows
  rows_are =
      (λ i. tree_rows (record { answer = all_kept.0 i; buffers = all_kept.1.0 i }))
      ∙ ap tree_rows left.returns
      ∙ written_rows TREE_ROW (rows_of 0 0 (source_tree ts)) left.sheets_are.trees b.trees (omega arith) (rows_wide (source_tree ts) 0 0) (left.trees_are ∙ rows_flat (source_tree ts) 0 0)

  pub of_file : FileRows bytes ts
  of_file = file_rows bytes tokens left.input

-- WHAT IS UNDER THE CARET
pub caret_answered : CaretAnswered
caret_answered offset setting bytes tokens b list ok =
    let q = caret offset in
    let ts = tokens_of tokens in
    let f = of_file q setting bytes tokens b list ok in
    let k = root_kind SourceFile in
    let e = tree_is ts in
    let t = subtree k (inside ts) nil in
    let u : UnderCaret (rows_of 0 0 t) (length bytes) offset (on_list (query_call q setting bytes tokens b list)) =
    under_caret k (inside ts) (length bytes) (ap (λ (y : Tree). raw_bytes (rows_of 0 0 y)) (sym e) ∙ f.bytes_in) (ap width (sym e) ∙ f.size) (subst LeavesWide e f.wide) offset _
    (listed_is q setting bytes tokens b list ok ∙ sym (f.lists q) ∙ ap (λ (y : Tree). found q (length bytes) (rows_of 0 0 y)) e) in
    subst (λ (y : List Row). UnderCaret y (length bytes) offset (on_list (query_call q setting bytes tokens b list)))
    (ap (rows_of 0 0) (sym e) ∙ sym (rows_are q setting bytes tokens b list ok)) u

-- THE PARTS IN A RANGE
pub parts_answered : PartsAnswered
unfolding listed top_level
parts_answered from to setting bytes tokens b list ok =
    let q = range from to in
    let ts = tokens_of tokens in
    let k = root_kind SourceFile in
    let e = tree_is ts in
    let u : PartsListed (rows_of 0 0 (subtree k (inside ts) nil)) from to (listed q (length bytes) (subtree k (inside ts) nil)) = parts_listed k from to (inside ts) in
    (moved (sym e) (rows_are q setting bytes tokens b list ok) (listed_is q setting bytes tokens b list ok) u)
  where
    moved : {t y : Tree} {a : List Row} {o : List ℕ} → t ≡ y → a ≡ rows_of 0 0 y → o ≡ listed (range from to) (length bytes) y
        → PartsListed (rows_of 0 0 t) from to (listed (range from to) (length bytes) t) → PartsListed a from to o
    moved {t} {y} {a} {o} e f g h =
        subst (λ (z : List Row). PartsListed z from to o) (sym f)
        (subst (PartsListed (rows_of 0 0 y) from to) (sym g) (subst (λ (z : Tree). PartsListed (rows_of 0 0 z) from to (listed (range from to) (length bytes) z)) e h))
