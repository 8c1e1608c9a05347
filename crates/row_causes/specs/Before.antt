-- The call as it was before 4/14, when refusal 3 stood for everything that is wrong with the rows.
-- What 4/14 changed of the checks of a call's input stands here letter by letter as it was; the rest is cited from the
-- definitions.
use Rattle.std.specs.Prelude.{ℕ, suc, ◌-◌, cond, ◌&&◌, List, [], ◌∷◌, leb, eqb, length}
use Rattle.definitions.specs.Token.{tokens_of}
use Rattle.definitions.specs.Refusal.{Refusal, unknown_entry, odd_count, number_of, place_of, Verdict, refused, ◌or_else◌, unless, check_sizes, check_texts}
use Rattle.definitions.specs.RowCauses.{is_kind}
use Rattle.definitions.specs.Call.{Buffers, Result, untouched, checked, Asked, for, unknown, entry_of}

-- number 3, with a place: the case that has both today
abbrev pub bad_row : ℕ → Refusal
bad_row i = odd_count i

-- cause 3, from row i on, with so many bytes not yet covered: the first bad row, else the count of whole rows
unfoldable pub check_rows : ℕ → ℕ → List ℕ → Verdict
unfolding is_kind
check_rows i left [] = unless (eqb left 0) (bad_row i)
check_rows i left (k ∷ []) = refused (bad_row i)
check_rows i left (k ∷ n ∷ l) =
    let r = check_rows (suc i) (left - n) l in
    cond (is_kind k && leb 1 n && leb n left) r (refused (bad_row i))

-- causes 2 to 4, in that order
unfoldable pub check_input : List ℕ → List ℕ → Verdict
unfolding ◌or_else◌ check_sizes check_rows check_texts tokens_of
check_input bytes tokens =
    check_sizes bytes tokens or_else check_rows 0 (length bytes) tokens or_else check_texts 0 bytes (tokens_of tokens)

unfoldable pub asked : Asked → ℕ → List ℕ → List ℕ → Buffers → Result
unfolding checked check_input number_of place_of
asked unknown setting bytes tokens b = untouched unknown_entry b
asked (for e) setting bytes tokens b = checked (check_input bytes tokens) e setting bytes tokens b

-- entry, setting, input bytes, token numbers, and the lent buffers as they are at entry
unfoldable pub call : ℕ → ℕ → List ℕ → List ℕ → Buffers → Result
unfolding asked entry_of
call n setting bytes tokens b = asked (entry_of n) setting bytes tokens b
