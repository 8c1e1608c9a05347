-- A query, put together as the code does: refused by the parse, or its list found in the rows that the parse left.
use Prim.Native.Nat.{ℕ, ◌*◌, ◌≤◌}
use native.Mathlib.Omega.{arith}
use mathlib.Core.Path.{◌≡◌, refl, ap, sym, ◌∙◌, subst}
use mathlib.Core.Bool.{Bool, true, false, cond}
use mathlib.Core.List.{List, [], ◌∷◌}
use lib.Dec.{leb, eqb}
use lib.ListN.{length, take}
use borrow.Author.Tests.{eqb-true, leb-true}
use Rattle.std.proofs.lemmas.Grind.{common_steps}
use Rattle.definitions.specs.Layout.{TREE_ROW, NO_TREE_ROOM}
use Rattle.definitions.specs.Token.{tokens_of}
use Rattle.definitions.specs.Grammar.{SourceFile}
use Rattle.definitions.specs.Refusal.{accepted, no_tree_room, number_of, place_of}
use Rattle.definitions.specs.RowCauses.{check_input}
use Rattle.definitions.specs.Call.{Buffers, Result, cleared, zeros, written, parse, call}
use Rattle.definitions.specs.Caret.{Query, listed, source_tree, ListResult, listless, with_list}
use Rattle.rows.specs.OnePass.{tree_rows_of, found, Sound}
use Rattle.rows.proofs.Written.{rows_of}
use Rattle.queries.proofs.SoundRows.{FileRows, file_rows}
use Rattle.queries.proofs.Parsed.{parse_is_call, Left, what_is_left, rows_fit, rows_read}
use Rattle.caret.specs.Walk.{laid}
use Rattle.caret.proofs.Chains.{laid_length}
use Rattle.refinement.specs.Ends.{wiped, SameLengths}
use Rattle.call.specs.declared.Answer.{Answer}
use Rattle.call.specs.declared.list.ListAnswer.{ListAnswer}
use Rattle.call.specs.Ended.{refused_with}
use Rattle.call.specs.Result.{answer_of, buffers_of, result_of, list_result_of}
use Rattle.refinement.proofs.Wiped.{wiped_whole, wiped_written}
use Rattle.listing.specs.Listed.{counted, ended, list_ends}

-- a list that fits stands whole at the front of its buffer
front_laid : (l b : List ℕ) → length l ≤ length b → take (length l) (laid l b) ≡ l
unfolding laid
front_laid [] b h = grind (arith, common_steps)
front_laid (x ∷ l) [] h = absurd (omega (arith, h))
front_laid (x ∷ l) (y ∷ b) h = ap (x ∷◌) (front_laid l b (omega (arith, h)))

module _ (q : Query) (setting : ℕ) (bytes tokens : List ℕ) (b : Buffers) (list : List ℕ) (ok : check_input bytes tokens ≡ accepted)
    (a : Answer) (c : Buffers) (parsed : result_of a c ≡ parse SourceFile setting bytes (tokens_of tokens) b) where
  abbrev lists : List ℕ
  lists = listed q (length bytes) (source_tree (tokens_of tokens))

  abbrev wanted : Result → ListResult
  wanted = with_list lists list b

  -- refused by the parse
  pub parse_refused : (x : ListAnswer) (list' : List ℕ) → eqb a.number 0 ≡ false → x ≡ counted a 0 → list' ≡ wiped 0 list
      → list_result_of x list' c ≡ wanted (parse SourceFile setting bytes (tokens_of tokens) b)
  unfolding with_list
  parse_refused x list' n e f =
      (λ i. list_result_of (e i) (f i) c)
      ∙ ap (λ (l : List ℕ). list_result_of (counted a 0) l c) (wiped_whole list list refl)
      ∙ sym
      (ap
      (λ (t : Bool).
      cond t
      (cond (leb (length lists) (length list)) (record { answer = answer_of a; list_count = length lists; list = written lists list; buffers = c }) (listless (cleared no_tree_room b) (zeros list)))
      (listless (result_of a c) (zeros list)))
      n)
      ∙ ap wanted parsed

  -- what an accepted one left
  module _ (n : eqb a.number 0 ≡ true) where
    is_call : result_of a c ≡ call 1 setting bytes tokens b
    is_call = parsed ∙ sym (parse_is_call setting bytes tokens b ok)

    left : Left setting bytes tokens b (result_of a c)
    left =
        subst (Left setting bytes tokens b) (sym is_call)
        (what_is_left setting bytes tokens b (ap (λ (r : Result). r.answer.number) (sym is_call) ∙ eqb-true a.number 0 n))

    of_file : FileRows bytes (tokens_of tokens)
    of_file = file_rows bytes tokens ok

    numbers : a.tree_count * TREE_ROW ≡ TREE_ROW * a.tree_count
    numbers = omega arith

    rows_are : tree_rows_of (take (a.tree_count * TREE_ROW) c.trees) ≡ rows_of 0 0 (source_tree (tokens_of tokens))
    rows_are = ap (λ (k : ℕ). tree_rows_of (take k c.trees)) numbers ∙ rows_read setting bytes tokens b (result_of a c) left

    -- what the walk needs
    pub walk_needs : length c.trees ≡ length b.trees
        → (a.tree_count * TREE_ROW ≤ length c.trees) × Sound (length bytes) (tree_rows_of (take (a.tree_count * TREE_ROW) c.trees))
    walk_needs e = (
      (let f = rows_fit setting bytes tokens b (result_of a c) left in omega (arith, f, e)),
      subst (Sound (length bytes)) (sym rows_are) of_file.sound,
    )

    found_is : found q (length bytes) (tree_rows_of (take (a.tree_count * TREE_ROW) c.trees)) ≡ lists
    found_is = ap (found q (length bytes)) rows_are ∙ of_file.lists q

    events_zero : c.events ≡ zeros b.events
    events_zero = ap (λ (r : Result). r.buffers.events) left.returns

    by_room : (s : SameLengths b c) (t : Bool) → leb (length lists) (length list) ≡ t
        → cond t (list_result_of (counted a (length lists)) (wiped (length lists) (laid lists list)) c)
        (list_result_of (counted (refused_with NO_TREE_ROOM 0) 0) (wiped 0 (laid lists list)) (buffers_of c.events (wiped 0 c.trees) (wiped 0 c.errors) (wiped 0 c.reports) (wiped 0 c.pool)))
        ≡ cond t (record { answer = answer_of a; list_count = length lists; list = written lists list; buffers = c }) (listless (cleared no_tree_room b) (zeros list))
    unfolding number_of place_of
    by_room s true e =
        ap (λ (l : List ℕ). list_result_of (counted a (length lists)) l c)
        (wiped_written lists list (laid lists list) (length lists) (laid_length lists list) refl (front_laid lists list (leb-true _ _ e)))
    by_room s false e =
        λ i.
        list_result_of (counted (refused_with NO_TREE_ROOM 0) 0) (wiped_whole list (laid lists list) (laid_length lists list) i)
        (buffers_of (events_zero i) (wiped_whole b.trees c.trees s.trees i) (wiped_whole b.errors c.errors s.errors i) (wiped_whole b.reports c.reports s.reports i) (wiped_whole b.pool c.pool s.pool i))

    -- accepted: its list is kept, or nothing is
    pub parse_listed : (s : SameLengths b c) (y : ListResult) → y ≡ list_ends q a (length bytes) list c → y ≡ wanted (parse SourceFile setting bytes (tokens_of tokens) b)
    unfolding with_list
    parse_listed s y e =
        e
        ∙ ap (λ (l : List ℕ). ended a (length l) (laid l list) c) found_is
        ∙ ap
        (λ (k : ℕ).
        cond (leb (length lists) k) (list_result_of (counted a (length lists)) (wiped (length lists) (laid lists list)) c)
        (list_result_of (counted (refused_with NO_TREE_ROOM 0) 0) (wiped 0 (laid lists list)) (buffers_of c.events (wiped 0 c.trees) (wiped 0 c.errors) (wiped 0 c.reports) (wiped 0 c.pool))))
        (laid_length lists list)
        ∙ by_room s (leb (length lists) (length list)) refl
        ∙ sym
        (ap
        (λ (t : Bool).
        cond t
        (cond (leb (length lists) (length list)) (record { answer = answer_of a; list_count = length lists; list = written lists list; buffers = c }) (listless (cleared no_tree_room b) (zeros list)))
        (listless (result_of a c) (zeros list)))
        n)
        ∙ ap wanted parsed
