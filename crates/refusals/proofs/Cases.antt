-- Calls on both sides of every limit, computed: each has the cause that is listed and no other. The sizes of the lent
-- buffers are given as events, tree rows, lexical errors, reports, expectations, in numbers.
use Prim.Native.Nat.{ℕ, zero, suc}
use native.Mathlib.Omega.{arith}
use mathlib.Core.Path.{◌≡◌, refl, sym, ◌∙◌}
use mathlib.Core.Bool.{Bool, true, ◌&&◌}
use mathlib.Core.List.{List, [], ◌∷◌, ◌++◌}
use lib.Dec.{eqb}
use lib.ListN.{length, replicate}
use borrow.Author.Tests.{eqb-true}
use Rattle.definitions.specs.Token.{tokens_of, byte_count}
use Rattle.definitions.specs.Grammar.{SourceFile, Cells}
use Rattle.definitions.specs.Call.{Buffers, Answer, call}
use Rattle.basics.proofs.Tests.{and_left, and_right}
use Rattle.refusals.specs.Trace.{call_opened, event_pushed, report_written, trace}
use Rattle.refusals.specs.Refusals.{GoodRow, happens, Cause, over_size, short_total}
use Rattle.refusals.proofs.Firsts.{each_nil}
use Rattle.refusals.proofs.Refusals.{refusals}

record Case : Type 0 where
  entry : ℕ
  setting : ℕ
  bytes : List ℕ
  rows : List ℕ
  lent : Buffers
  number : ℕ
  place : ℕ

-- so many times, and then
abbrev times : ℕ → List ℕ → List ℕ → List ℕ
times zero l k = k
times (suc n) l k = l ++ times n l k

abbrev room : ℕ → ℕ → ℕ → ℕ → ℕ → Buffers
room e t x r p = record { events = replicate e 7; trees = replicate t 7; errors = replicate x 7; reports = replicate r 7; pool = replicate p 7 }

abbrev enough : Buffers
enough = room 6000 3000 9 9000 9000

abbrev in_setting : ℕ → ℕ → List ℕ → List ℕ → Buffers → ℕ → ℕ → Case
in_setting s e bytes tokens b n p = record { entry = e; setting = s; bytes = bytes; rows = tokens; lent = b; number = n; place = p }

-- in the old setting
abbrev on : ℕ → List ℕ → List ℕ → Buffers → ℕ → ℕ → Case
on = in_setting 0

-- #if so many times, and then: conditionals, each inside the one before. Where they end each pushes expectations, and
-- nothing is taken
abbrev directives : ℕ → List ℕ → List ℕ
directives n = times n (35 ∷ 105 ∷ 102 ∷ [])

abbrev directive_rows : ℕ → List ℕ → List ℕ
directive_rows n = times n (4 ∷ 3 ∷ [])

-- and then `;`
abbrev only_directives : ℕ → ℕ → ℕ → Case
only_directives n = on 4 (directives n (59 ∷ [])) (directive_rows n (29 ∷ 1 ∷ [])) enough

-- 1 in so many brackets
abbrev brackets : ℕ → List ℕ
brackets n = times n (40 ∷ []) (49 ∷ times n (41 ∷ []) [])

abbrev bracket_rows : ℕ → List ℕ
bracket_rows n = times n (41 ∷ 1 ∷ []) (35 ∷ 1 ∷ times n (42 ∷ 1 ∷ []) [])

abbrev with_error : Buffers → ℕ → ℕ → Case
with_error = on 1 (97 ∷ 59 ∷ 97 ∷ []) (27 ∷ 1 ∷ 29 ∷ 1 ∷ 74 ∷ 1 ∷ [])

-- `1a:&2b{};`, whose two Names break the rule, in a setting
abbrev labelled : ℕ → Buffers → ℕ → ℕ → Case
labelled s =
    in_setting s 1 (49 ∷ 97 ∷ 58 ∷ 38 ∷ 50 ∷ 98 ∷ 123 ∷ 125 ∷ 59 ∷ [])
    (35 ∷ 1 ∷ 27 ∷ 1 ∷ 31 ∷ 1 ∷ 30 ∷ 1 ∷ 35 ∷ 1 ∷ 27 ∷ 1 ∷ 37 ∷ 1 ∷ 38 ∷ 1 ∷ 29 ∷ 1 ∷ [])

-- `1:c{};}`: the run reports the last brace, and then the label is reported
abbrev after_report : ℕ → Buffers → ℕ → ℕ → Case
after_report s =
    in_setting s 1 (49 ∷ 58 ∷ 99 ∷ 123 ∷ 125 ∷ 59 ∷ 125 ∷ []) (35 ∷ 1 ∷ 31 ∷ 1 ∷ 27 ∷ 1 ∷ 37 ∷ 1 ∷ 38 ∷ 1 ∷ 29 ∷ 1 ∷ 38 ∷ 1 ∷ [])

-- without a Name that breaks the rule
abbrev unlabelled : List Case
unlabelled =
    -- 1: entry 0 and entry 5, whatever else is wrong
    on 0 [] [] enough 1 0
    ∷ on 5 [] (27 ∷ []) enough 1 0
    -- 2: one number too many, an odd count too; at the limit the first row is judged; one below it the count is odd
    ∷ on 1 [] (replicate 131073 0) enough 2 0
    ∷ on 1 [] (replicate 131072 0) enough 12 0
    ∷ on 1 [] (replicate 131071 0) enough 3 65535
    -- 3: an odd count, whatever the rows before it are
    ∷ on 1 (97 ∷ []) (27 ∷ 1 ∷ 27 ∷ []) enough 3 1
    ∷ on 1 (97 ∷ []) (99 ∷ 0 ∷ 27 ∷ []) enough 3 1
    ∷ on 1 [] (99 ∷ []) enough 3 0
    -- 11: kinds 25, 26, 61 and 75, also with a length of 0 or an end past the input
    ∷ on 1 (97 ∷ []) (25 ∷ 1 ∷ []) enough 11 0
    ∷ on 1 (97 ∷ []) (26 ∷ 0 ∷ []) enough 11 0
    ∷ on 1 (97 ∷ 98 ∷ []) (27 ∷ 1 ∷ 61 ∷ 2 ∷ []) enough 11 1
    ∷ on 1 (97 ∷ []) (75 ∷ 1 ∷ []) enough 11 0
    -- 12: length 0, also where the input is at its end
    ∷ on 1 (97 ∷ []) (27 ∷ 0 ∷ []) enough 12 0
    ∷ on 1 (97 ∷ []) (27 ∷ 1 ∷ 27 ∷ 0 ∷ []) enough 12 1
    -- 13: an end past the input, by one byte; and by a sum that is the input's length in 32 bits
    ∷ on 1 (97 ∷ []) (27 ∷ 1 ∷ 27 ∷ 1 ∷ []) enough 13 1
    ∷ on 1 (97 ∷ 98 ∷ []) (27 ∷ 1 ∷ 27 ∷ 4294967295 ∷ 27 ∷ 2 ∷ []) enough 13 1
    -- the first bad row, whatever is wrong with it
    ∷ on 1 (97 ∷ []) (27 ∷ 2 ∷ 27 ∷ 0 ∷ 26 ∷ 1 ∷ []) enough 13 0
    ∷ on 1 (97 ∷ []) (27 ∷ 0 ∷ 27 ∷ 2 ∷ 26 ∷ 1 ∷ []) enough 12 0
    -- 13, last: a short total, also without a row; a bad row comes before it, though the total is short
    ∷ on 1 (97 ∷ 98 ∷ []) (27 ∷ 1 ∷ []) enough 13 1
    ∷ on 1 (97 ∷ []) [] enough 13 0
    ∷ on 1 (97 ∷ 98 ∷ 99 ∷ []) (27 ∷ 1 ∷ 26 ∷ 1 ∷ []) enough 11 1
    -- all of these before 4: a later row, and a short total
    ∷ on 1 (97 ∷ 98 ∷ []) (29 ∷ 1 ∷ 26 ∷ 1 ∷ []) enough 11 1
    ∷ on 1 (97 ∷ 98 ∷ []) (29 ∷ 1 ∷ []) enough 13 1
    -- 4: a row of kind Semicolon whose byte is not `;`
    ∷ on 1 (97 ∷ 98 ∷ []) (27 ∷ 1 ∷ 29 ∷ 1 ∷ []) enough 4 1
    -- 5: 64 and 65 open calls, of brackets and of directives; and fewer, however often something is expected
    ∷ only_directives 51 0 0
    ∷ only_directives 63 0 0
    ∷ only_directives 64 5 64
    ∷ on 4 (directives 50 (40 ∷ 49 ∷ 59 ∷ [])) (directive_rows 50 (41 ∷ 1 ∷ 35 ∷ 1 ∷ 29 ∷ 1 ∷ [])) enough 0 0
    ∷ on 4 (directives 63 (97 ∷ 59 ∷ [])) (directive_rows 63 (27 ∷ 1 ∷ 29 ∷ 1 ∷ [])) enough 0 0
    ∷ on 4 (directives 64 (97 ∷ 59 ∷ [])) (directive_rows 64 (27 ∷ 1 ∷ 29 ∷ 1 ∷ [])) enough 5 64
    ∷ on 4 (brackets 63) (bracket_rows 63) enough 0 0
    ∷ on 4 (brackets 64) (bracket_rows 64) enough 5 64
    -- 6 to 8: `a;` and an error token, with just enough room, and with one number fewer of each
    ∷ with_error (room 36 30 3 9 11) 0 0
    ∷ with_error (room 35 30 3 9 11) 6 3
    ∷ with_error (room 36 30 3 8 11) 7 2
    ∷ with_error (room 36 30 3 9 10) 7 2
    ∷ with_error (room 36 29 3 9 11) 8 0
    ∷ with_error (room 36 30 2 9 11) 8 0
    -- 7, by different expectations: `#else` is reported with one; cells, `;`, are reported twice, with four each time
    ∷ on 1 (35 ∷ 101 ∷ 108 ∷ 115 ∷ 101 ∷ []) (10 ∷ 5 ∷ []) (room 99 99 0 18 1) 0 0
    ∷ on 1 (35 ∷ 101 ∷ 108 ∷ 115 ∷ 101 ∷ []) (10 ∷ 5 ∷ []) (room 99 99 0 18 0) 7 1
    ∷ on 4 (59 ∷ []) (29 ∷ 1 ∷ []) (room 99 99 0 18 8) 0 0
    ∷ on 4 (59 ∷ []) (29 ∷ 1 ∷ []) (room 99 99 0 18 7) 7 0
    -- of two that do not fit, the one that is met first: the ninth event is the report's, before its row; 8 comes last
    ∷ with_error (room 26 30 3 0 0) 6 2
    ∷ with_error (room 27 30 3 0 0) 7 2
    ∷ with_error (room 36 0 0 9 10) 7 2
    ∷ with_error (room 2 0 0 0 0) 6 0
    ∷ []

-- with such Names
abbrev labels : List Case
labels =
    -- 7 for the first Name whose report does not fit, with its first token and not with its `&`, before 8; with room
    -- for both 8, or none
    labelled 1 (room 99 3 0 17 0) 7 4
    ∷ labelled 1 (room 99 3 0 9 0) 7 4
    ∷ labelled 1 (room 99 3 0 8 0) 7 0
    ∷ labelled 1 (room 99 3 0 18 0) 8 0
    ∷ labelled 1 (room 99 54 0 18 0) 8 0
    ∷ labelled 1 (room 99 55 0 18 0) 0 0
    -- 6 before it
    ∷ labelled 1 (room 2 3 0 17 0) 6 0
    -- any number but 0 is that setting, and 0 reports no Name
    ∷ labelled 4294967295 (room 99 3 0 17 0) 7 4
    ∷ labelled 4294967295 (room 99 55 0 18 0) 0 0
    ∷ labelled 0 (room 99 3 0 17 0) 8 0
    ∷ labelled 0 (room 99 55 0 0 0) 0 0
    -- the run's own report comes first, and its row takes room
    ∷ after_report 1 (room 99 3 0 8 0) 7 6
    ∷ after_report 1 (room 99 3 0 17 0) 7 0
    ∷ after_report 1 (room 99 99 0 18 0) 0 0
    ∷ after_report 0 (room 99 99 0 9 0) 0 0
    -- `_a1:c{};` keeps the rule, and needs no report; entry 2, `1a`
    ∷ in_setting 1 1 (95 ∷ 97 ∷ 49 ∷ 58 ∷ 99 ∷ 123 ∷ 125 ∷ 59 ∷ []) (27 ∷ 3 ∷ 31 ∷ 1 ∷ 27 ∷ 1 ∷ 37 ∷ 1 ∷ 38 ∷ 1 ∷ 29 ∷ 1 ∷ []) (room 99 99 0 0 0) 0 0
    ∷ in_setting 1 2 (49 ∷ 97 ∷ []) (27 ∷ 2 ∷ []) (room 99 99 0 8 0) 7 0
    ∷ in_setting 1 2 (49 ∷ 97 ∷ []) (27 ∷ 2 ∷ []) (room 99 99 0 9 0) 0 0
    ∷ []

-- the same in the strict setting
abbrev strictly : List Case → List Case
strictly [] = []
strictly (c ∷ l) = record { entry = c.entry; setting = 1; bytes = c.bytes; rows = c.rows; lent = c.lent; number = c.number; place = c.place } ∷ strictly l

abbrev cases : List Case
cases = unlabelled ++ (strictly unlabelled ++ labels)

abbrev said : Answer → ℕ → ℕ → Bool
said a n p = eqb a.number n && eqb a.place p

right : Case → Bool
unfolding call
right c = said (call c.entry c.setting c.bytes c.rows c.lent).answer c.number c.place

all_right : List Case → Bool
unfolding right
all_right [] = true
all_right (c ∷ l) = right c && all_right l

computed : all_right cases ≡ true
unfolding all_right
computed = refl

-- its cause holds, and no other
abbrev Only : Case → Type 0
Only c =
    Cause c.entry c.setting c.bytes c.rows c.lent c.number c.place
    × ((number place : ℕ) → Cause c.entry c.setting c.bytes c.rows c.lent number place → (number ≡ c.number) × (place ≡ c.place))

abbrev AllOnly : List Case → Type 0
AllOnly [] = Unit {0}
AllOnly (c ∷ l) = Only c × AllOnly l

only : (c : Case) → right c ≡ true → Only c
unfolding right
only c h = ((refusals c.entry c.setting c.bytes c.rows c.lent c.number c.place).0 (n, p), others)
  where
    n : (call c.entry c.setting c.bytes c.rows c.lent).answer.number ≡ c.number
    n = eqb-true _ _ (and_left _ _ h)

    p : (call c.entry c.setting c.bytes c.rows c.lent).answer.place ≡ c.place
    p = eqb-true _ _ (and_right (eqb (call c.entry c.setting c.bytes c.rows c.lent).answer.number c.number) _ h)

    others : (number place : ℕ) → Cause c.entry c.setting c.bytes c.rows c.lent number place → (number ≡ c.number) × (place ≡ c.place)
    others number place q =
        let r : ((call c.entry c.setting c.bytes c.rows c.lent).answer.number ≡ number) × ((call c.entry c.setting c.bytes c.rows c.lent).answer.place ≡ place) =
        (refusals c.entry c.setting c.bytes c.rows c.lent number place).1 q in
        (sym r.0 ∙ n, sym r.1 ∙ p)

all_only : (l : List Case) → all_right l ≡ true → AllOnly l
unfolding all_right
all_only [] h = tt
all_only (c ∷ l) h = (only c (and_left (right c) _ h), all_only l (and_right (right c) _ h))

-- THE CASES
pub cases_hold : AllOnly cases
cases_hold = all_only cases computed

-- 5 is said of open calls alone: of 51 directives at no place
pub not_five : (place : ℕ) → ¬ Cause 4 0 (directives 51 (59 ∷ [])) (directive_rows 51 (29 ∷ 1 ∷ [])) enough 5 place
unfolding call
not_five place c =
    let e : ◌≡◌ {A = ℕ} 0 5 = ((refusals 4 0 (directives 51 (59 ∷ [])) (directive_rows 51 (29 ∷ 1 ∷ [])) enough 5 place).1 c).0 in omega (arith, e)

-- both sides of the limit on bytes, which are too many to compute with: one too many; and none too many, where no row
-- covers them
pub bytes_over : (setting : ℕ) (bytes : List ℕ) (b : Buffers) → length bytes ≡ 1048577 → (call 1 setting bytes [] b).answer.number ≡ 2
bytes_over setting bytes b h = ((refusals 1 setting bytes [] b 2 0).1 (over_size SourceFile refl (λ s. omega (arith, h, s.0)))).0

pub bytes_kept : (setting : ℕ) (bytes : List ℕ) (b : Buffers) → length bytes ≡ 1048576 → (call 1 setting bytes [] b).answer.number ≡ 13
unfolding tokens_of byte_count
bytes_kept setting bytes b h =
    ((refusals 1 setting bytes [] b 13 0).1 (short_total SourceFile ((refl, (omega (arith, h), omega arith)), omega arith) (each_nil (GoodRow bytes) []) (omega (arith, h)))).0

-- ---------------------------------------------------------------- what happens in a run, written out

-- cells, `;`: a report with four expectations, the end of input among them; the end of input is expected once more,
-- and what is left over is reported with the same four
pub semicolon_in_cells :
    happens Cells (29 ∷ 1 ∷ [])
    ≡ call_opened 1 1 ∷ event_pushed 1 ∷ report_written 4 1 ∷ event_pushed 1 ∷ event_pushed 1 ∷ report_written 4 1 ∷ event_pushed 0 ∷ event_pushed 0 ∷ []
unfolding trace tokens_of
semicolon_in_cells = refl

-- source file, `}`: message 2 has no expectations; then the marker, the token and the marker's end
pub unmatched_brace : happens SourceFile (38 ∷ 1 ∷ []) ≡ event_pushed 1 ∷ report_written 0 1 ∷ event_pushed 1 ∷ event_pushed 0 ∷ event_pushed 0 ∷ []
unfolding trace tokens_of
unmatched_brace = refl
