-- The statements, computed: short texts with their tokens, which meet the premises; and wrong tokens, rules and rows,
-- for each sentence one that it excludes.
use Prim.Native.Nat.{ℕ}
use Prim.Native.String.{String}
use native.Mathlib.Omega.{arith}
use mathlib.Core.Path.{◌≡◌, refl, ap, sym, ◌∙◌}
use mathlib.Core.Bool.{◌&&◌, false≢true}
use mathlib.Core.List.{List, [], ◌∷◌}
use lib.Dec.{leb}
use lib.ListN.{length, take, drop, get_or}
use borrow.Author.Tests.{leb-true}
use Rattle.definitions.specs.Token.{Token, byte_count}
use Rattle.definitions.specs.Pattern.{within}
use Rattle.definitions.specs.Rules.{Rule, rules, token, ascii}
use Rattle.definitions.specs.Lex.{a_token, lex_after, lex}
use Rattle.definitions.specs.Text.{numbers_of}
use Rattle.definitions.specs.Refusal.{too_long, odd_count, bad_kind, zero_length, past_input, short_total, bad_text, accepted, refused, check_sizes}
use Rattle.definitions.specs.RowCauses.{check_input}
use Rattle.patterns.specs.Textbook.{Fits}
use Rattle.basics.proofs.Tests.{and_left, and_right}
use Rattle.basics.proofs.Verdicts.{or_else_left, unless_holds}
use Rattle.lexing.specs.ByRules.{Member, Matches, Wins, Lexing}
use Rattle.lexing.specs.Joined.{texts, join}
use Rattle.lexing.proofs.ByRules.{by_rules}
use Rattle.lexing.proofs.Joined.{joined}
use Rattle.lexing.proofs.Spelled.{keeps, every_keeps, member_keeps}
use Rattle.lexing.proofs.RowsPass.{rows_pass}

-- ---------------------------------------------------------------- texts and their tokens

record Example : Type 0 where
  text : String
  tokens : List Token

example : String → List Token → Example
example s ts = record { text = s; tokens = ts }

examples : List Example
unfolding example
examples =
    example "" []
    -- no digit follows the base: the number is its first digit
    ∷ example "0x" (a_token 35 1 ∷ a_token 27 1 ∷ [])
    ∷ example "0x_" (a_token 35 3 ∷ [])
    ∷ example "0b12" (a_token 35 3 ∷ a_token 35 1 ∷ [])
    -- suffixes, the longest that there is
    ∷ example "1lul" (a_token 35 3 ∷ a_token 27 1 ∷ [])
    ∷ example "1u1" (a_token 35 2 ∷ a_token 35 1 ∷ [])
    ∷ example "1u16" (a_token 35 4 ∷ [])
    -- the star that opens a comment does not close it
    ∷ example "/*/" (a_token 73 3 ∷ [])
    ∷ example "/**/" (a_token 1 4 ∷ [])
    ∷ example "//\n" (a_token 3 2 ∷ a_token 0 1 ∷ [])
    -- a backslash is blank before a line's end alone
    ∷ example "\\\r" (a_token 74 1 ∷ a_token 0 1 ∷ [])
    ∷ example "\\\r\n" (a_token 0 3 ∷ [])
    -- a quote that is escaped, one that is not since the backslash is, none
    ∷ example "\"\\\"\"" (a_token 33 4 ∷ [])
    ∷ example "'\\\\'" (a_token 34 4 ∷ [])
    ∷ example "'\\'" (a_token 72 3 ∷ [])
    ∷ example "\"" (a_token 70 1 ∷ [])
    ∷ example "[]" (a_token 36 2 ∷ [])
    ∷ example "[(" (a_token 71 2 ∷ [])
    -- # may stand in a name
    ∷ example "a#if" (a_token 27 4 ∷ [])
    -- the longest match, and what a longer one leaves behind that fails
    ∷ example "===" (a_token 58 2 ∷ a_token 28 1 ∷ [])
    ∷ example "/bits/" (a_token 17 6 ∷ [])
    ∷ example "/bit/" (a_token 46 1 ∷ a_token 27 3 ∷ a_token 46 1 ∷ [])
    ∷ []

lexed : List Example → List (List Token)
lexed [] = []
lexed (e ∷ es) = lex (ascii e.text) ∷ lexed es

told : List Example → List (List Token)
told [] = []
told (e ∷ es) = e.tokens ∷ told es

examples_hold : lexed examples ≡ told examples
unfolding lexed told examples lex_after
examples_hold = refl

-- ---------------------------------------------------------------- BY RULES

-- a match has a byte at least, and ends inside the text
no_byte : (s : List ℕ) (r : Rule) → Matches s 0 r → ⊥
no_byte s r m = omega (arith, m.some)

past_the_end : (r : Rule) → Matches (ascii ",") 2 r → ⊥
past_the_end r m = omega (arith, m.inside)

-- the third rule, `,`, and the 47th, `==`
comma : Member (token "," 2) rules (take 2 rules)
comma = record { behind = drop 3 rules; stands = refl }

comma_matches : Matches (ascii ",") 1 (token "," 2)
unfolding Fits within
comma_matches = record { some = omega arith; inside = omega arith; fits = (44, refl, refl) }

equal : Member (token "==" 58) rules (take 46 rules)
equal = record { behind = drop 47 rules; stands = refl }

equal_matches : Matches (ascii "==") 2 (token "==" 58)
unfolding Fits within
equal_matches =
    record { some = omega arith; inside = omega arith; fits = (61 ∷ [], 61 ∷ [], refl, (61, refl, refl), (61, refl, refl)) }

-- a shorter match does not win, whatever its rule
a_shorter_match : (before : List Rule) (r : Rule) → Wins (ascii "==") 1 before r → ⊥
a_shorter_match before r w = w.none_longer 2 (token "==" 58) (take 46 rules) (omega arith) equal equal_matches

shorter_tokens : Lexing (ascii "==") (a_token 28 1 ∷ a_token 28 1 ∷ []) → ⊥
unfolding lex_after
shorter_tokens l = let e : ◌≡◌ {A = ℕ} 2 1 = ap length (by_rules.no_other (ascii "==") (a_token 28 1 ∷ a_token 28 1 ∷ []) l) in omega arith

-- nor does a rule after one that matches as much
a_later_rule : (r : Rule) → Wins (ascii ",") 1 (take 3 rules) r → ⊥
a_later_rule r w = w.none_before (token "," 2) (take 2 rules) (record { behind = []; stands = refl }) comma_matches

-- nor one that is not among the rules: here `,` for an Equals
no_such_rule : (before : List Rule) → Wins (ascii ",") 1 before (token "," 28) → ⊥
unfolding keeps
no_such_rule before w = false≢true (member_keeps rules before (token "," 28) every_keeps w.a_rule)

-- an error stands only where no rule matches
an_error : ((m : ℕ) (q : Rule) (others : List Rule) → Member q rules others → ¬ Matches (ascii ",") m q) → ⊥
an_error none = none 1 (token "," 2) (take 2 rules) comma comma_matches

error_token : Lexing (ascii ",") (a_token 74 1 ∷ []) → ⊥
unfolding lex_after numbers_of
error_token l =
    let e : ◌≡◌ {A = ℕ} 74 2 = ap (λ (ts : List Token). get_or (numbers_of ts) 0 0) (by_rules.no_other (ascii ",") (a_token 74 1 ∷ []) l) in
    omega arith

-- a comment that is not closed is no comment
open_comment : Lexing (ascii "/*/") (a_token 1 3 ∷ []) → ⊥
unfolding lex_after numbers_of
open_comment l =
    let e : ◌≡◌ {A = ℕ} 1 73 = ap (λ (ts : List Token). get_or (numbers_of ts) 0 0) (by_rules.no_other (ascii "/*/") (a_token 1 3 ∷ []) l) in
    omega arith

-- a text has tokens, and none after its end
no_tokens : (b : ℕ) (s : List ℕ) → Lexing (b ∷ s) [] → ⊥
no_tokens b s l = elim l [ ]

after_the_end : (t : Token) (ts : List Token) → Lexing [] (t ∷ ts) → ⊥
after_the_end t ts l = elim l [ ]

-- ---------------------------------------------------------------- JOINED

cut_off : texts (lex (ascii "a=1;")) (ascii "a=1;") ≡ ascii "a" ∷ ascii "=" ∷ ascii "1" ∷ ascii ";" ∷ []
unfolding texts lex_after
cut_off = refl

-- a token left out is missed
left_out : join (texts (a_token 27 1 ∷ []) (ascii "a=")) ≡ ascii "a=" → ⊥
unfolding texts join
left_out e = let n : ◌≡◌ {A = ℕ} 1 2 = ap length e in omega arith

-- an empty one, or one that ends past the end, gives back the text too; the other two sentences exclude them
an_empty_token : (join (texts (a_token 27 0 ∷ a_token 27 1 ∷ []) (ascii "a")) ≡ ascii "a") × (lex (ascii "a") ≡ a_token 27 0 ∷ a_token 27 1 ∷ [] → ⊥)
unfolding texts join
an_empty_token = (refl, λ e. let h = joined.not_empty (ascii "a") [] (a_token 27 0) (a_token 27 1 ∷ []) e in omega (arith, h))

a_long_token : (join (texts (a_token 27 2 ∷ []) (ascii "a")) ≡ ascii "a") × (lex (ascii "a") ≡ a_token 27 2 ∷ [] → ⊥)
unfolding texts join byte_count
a_long_token = (refl, λ e. let n : ◌≡◌ {A = ℕ} 1 2 = sym (joined.sum (ascii "a")) ∙ ap byte_count e in omega arith)

-- ---------------------------------------------------------------- ROWS PASS

-- a text within the limits
they_pass : check_input (ascii "a=<1>;\n") (numbers_of (lex (ascii "a=<1>;\n"))) ≡ accepted
unfolding lex_after numbers_of
they_pass = rows_pass (ascii "a=<1>;\n") (omega arith) (omega arith)

-- a number left over, a row of a kind that no token has, one of no bytes, one that ends past the text, rows that end
-- before it, and one with another kind's text do not
refusals : (check_input (ascii ",") (2 ∷ 1 ∷ 2 ∷ []) ≡ refused (odd_count 1))
    × (check_input (ascii ",") (25 ∷ 1 ∷ []) ≡ refused (bad_kind 0))
    × (check_input (ascii ",") (2 ∷ 0 ∷ []) ≡ refused (zero_length 0))
    × (check_input (ascii ",") (2 ∷ 2 ∷ []) ≡ refused (past_input 0))
    × (check_input (ascii ",,") (2 ∷ 1 ∷ []) ≡ refused (short_total 1))
    × (check_input (ascii ",") (28 ∷ 1 ∷ []) ≡ refused (bad_text 0))
unfolding check_input
refusals = (refl, refl, refl, refl, refl, refl)

-- nor does a text of one byte more than the limit, or rows of one number more
a_long_text : (s tokens : List ℕ) → length s ≡ 1048577 → check_input s tokens ≡ accepted → ⊥
unfolding check_input check_sizes
a_long_text s tokens h e =
    let text = leb (length s) 1048576 in
    let rows = leb (length tokens) 131072 in
    let f = unless_holds (text && rows) too_long (or_else_left (check_sizes s tokens) _ e) in
    omega (arith, h, leb-true (length s) 1048576 (and_left text rows f))

many_tokens : (s tokens : List ℕ) → length tokens ≡ 131073 → check_input s tokens ≡ accepted → ⊥
unfolding check_input check_sizes
many_tokens s tokens h e =
    let text = leb (length s) 1048576 in
    let rows = leb (length tokens) 131072 in
    let f = unless_holds (text && rows) too_long (or_else_left (check_sizes s tokens) _ e) in
    omega (arith, h, leb-true (length tokens) 131072 (and_right text rows f))
