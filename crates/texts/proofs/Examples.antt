-- The statements, computed: short texts on both sides of each sentence, which meet the premises, each with its cause
-- and no other; and wrong conclusions, each refuted by the sentence that excludes it. Lent buffers hold sevens.
use Prim.Native.Nat.{ℕ}
use native.Mathlib.Omega.{arith}
use mathlib.Core.Path.{◌≡◌, refl, sym, ap, ◌∙◌}
use mathlib.Core.Bool.{Bool, true, ◌&&◌}
use mathlib.Core.Logic.{inl, inr}
use mathlib.Core.List.{List, [], ◌∷◌, ◌++◌}
use lib.Dec.{eqb}
use lib.ListN.{length, get_or, replicate}
use borrow.Author.Tests.{eqb-true}
use Rattle.definitions.specs.Token.{Token, byte_count}
use Rattle.definitions.specs.Grammar.{SourceFile}
use Rattle.definitions.specs.Rules.{ascii}
use Rattle.definitions.specs.Lex.{a_token, lex_after}
use Rattle.definitions.specs.Call.{Buffers, Result, call}
use Rattle.definitions.specs.Text.{numbers_of, TextResult, text_call}
use Rattle.basics.proofs.Tests.{and_left, and_right}
use Rattle.basics.proofs.Lists.{rest_same, none_some}
use Rattle.rows.specs.ResultRows.{Row, tree_rows, none, leaf, over_leaves}
use Rattle.recovery.specs.Recovery.{result, is_statement, Semicolon, start_byte, Shared}
use Rattle.recovery.proofs.Witnesses.{lent, first}
use Rattle.texts.specs.Plain.{none as no_blanks, Directive, DirectiveAt, Plain}
use Rattle.texts.specs.TextRefusals.{TextCause, too_many_bytes}
use Rattle.texts.specs.TextAnswered.{BeforeTheParse, TextReturns}
use Rattle.texts.specs.TextsLocal.{TextFile, of_tokens}
use Rattle.texts.proofs.Plain.{accepted_is_plain}
use Rattle.texts.proofs.TextRefusals.{text_refusals}
use Rattle.texts.proofs.TextsLocal.{texts_stay_local}

-- ---------------------------------------------------------------- texts, and what is returned for them

record Case : Type 0 where
  entry : ℕ
  bytes : List ℕ
  tokens : List ℕ
  lent : Buffers
  number : ℕ
  place : ℕ

-- an entry, a text, how many token numbers fit, buffers; number and place
abbrev on : ℕ → List ℕ → ℕ → Buffers → ℕ → ℕ → Case
on e bytes n b k p = record { entry = e; bytes = bytes; tokens = replicate n 7; lent = b; number = k; place = p }

-- buffers with room for all but tree rows
abbrev no_trees : Buffers
no_trees = let l : List ℕ = replicate 60 7 in record { events = l; trees = []; errors = l; reports = l; pool = l }

abbrev cases : List Case
cases =
    on 1 [] 0 (lent 60) 0 0
    -- four numbers: into four, into five; into three they do not fit
    ∷ on 1 (ascii "a;") 4 (lent 60) 0 0
    ∷ on 1 (ascii "a;") 5 (lent 60) 0 0
    ∷ on 1 (ascii "a;") 3 (lent 60) 2 0
    -- all else is that of the tokens
    ∷ on 1 (ascii "a;") 4 (lent 0) 6 0
    ∷ on 1 (ascii "a;") 4 no_trees 8 0
    -- 1 comes before all, 9 and 10 before 2 for token numbers
    ∷ on 0 (128 ∷ []) 0 (lent 60) 1 0
    ∷ on 5 (ascii "#if") 0 (lent 60) 1 0
    ∷ on 1 (128 ∷ []) 0 (lent 60) 9 0
    ∷ on 1 (127 ∷ []) 2 (lent 60) 0 0
    ∷ on 1 (97 ∷ 255 ∷ []) 2 (lent 60) 9 1
    ∷ on 1 (ascii "#if") 0 (lent 60) 10 0
    -- of both, the lower
    ∷ on 1 (128 ∷ 32 ∷ ascii "#if") 9 (lent 60) 9 0
    ∷ on 1 (35 ∷ 105 ∷ 102 ∷ 128 ∷ []) 9 (lent 60) 10 0
    -- text that begins with a word; blanks before it; the word's end missing, another blank
    ∷ on 1 (ascii "#iface") 9 (lent 60) 10 0
    ∷ on 1 (ascii ";# \tif") 9 (lent 60) 10 1
    ∷ on 1 (ascii "#i") 9 (lent 60) 0 0
    ∷ on 1 (ascii "#\nif") 9 (lent 60) 0 0
    -- `#` that starts no token
    ∷ on 1 (ascii "a#if") 2 (lent 60) 0 0
    ∷ on 1 (ascii "//#if") 2 (lent 60) 0 0
    ∷ []

right : Case → Bool
unfolding text_call
right c =
    let a = (text_call c.entry 0 c.bytes c.tokens c.lent).answer in
    eqb a.number c.number && eqb a.place c.place

all_right : List Case → Bool
unfolding right
all_right [] = true
all_right (c ∷ l) = right c && all_right l

computed : all_right cases ≡ true
unfolding all_right
computed = refl

-- its cause holds, and no other
abbrev Only : Case → Type 0
Only c =
    TextCause c.entry 0 c.bytes c.tokens c.lent c.number c.place
    × ((number place : ℕ) → TextCause c.entry 0 c.bytes c.tokens c.lent number place → (number ≡ c.number) × (place ≡ c.place))

abbrev AllOnly : List Case → Type 0
AllOnly [] = Unit {0}
AllOnly (c ∷ l) = Only c × AllOnly l

only : (c : Case) → right c ≡ true → Only c
unfolding right
only c h = ((text_refusals.by_cause c.entry 0 c.bytes c.tokens c.lent c.number c.place).0 (n, p), others)
  where
    n : (text_call c.entry 0 c.bytes c.tokens c.lent).answer.number ≡ c.number
    n = eqb-true _ _ (and_left _ _ h)

    p : (text_call c.entry 0 c.bytes c.tokens c.lent).answer.place ≡ c.place
    p = eqb-true _ _ (and_right (eqb (text_call c.entry 0 c.bytes c.tokens c.lent).answer.number c.number) _ h)

    others : (number place : ℕ) → TextCause c.entry 0 c.bytes c.tokens c.lent number place → (number ≡ c.number) × (place ≡ c.place)
    others number place q =
        let r = (text_refusals.by_cause c.entry 0 c.bytes c.tokens c.lent number place).1 q in
        (sym r.0 ∙ n, sym r.1 ∙ p)

all_only : (l : List Case) → all_right l ≡ true → AllOnly l
unfolding all_right
all_only [] h = tt
all_only (c ∷ l) h = (only c (and_left (right c) _ h), all_only l (and_right (right c) _ h))

-- THE CASES
pub cases_hold : AllOnly cases
cases_hold = all_only cases computed

-- one byte too many, too many to compute with; whatever else is wrong with them
pub bytes_over : (bytes tokens : List ℕ) (b : Buffers) → length bytes ≡ 1048577 → (text_call 1 0 bytes tokens b).answer.number ≡ 2
bytes_over bytes tokens b h = ((text_refusals.by_cause 1 0 bytes tokens b 2 0).1 (too_many_bytes SourceFile refl (λ s. omega (arith, h, s)))).0

-- 10 where a 9 is lower
pub not_10 : ¬ TextCause 1 0 (128 ∷ 32 ∷ ascii "#if") (replicate 9 7) (lent 60) 10 2
unfolding text_call
not_10 c =
    let e : ◌≡◌ {A = ℕ} 9 10 = ((text_refusals.by_cause 1 0 (128 ∷ 32 ∷ ascii "#if") (replicate 9 7) (lent 60) 10 2).1 c).0 in
    omega (arith, e)

-- ---------------------------------------------------------------- what is plain, and what a directive is

pub plain : Plain (ascii "a;")
unfolding text_call
plain = accepted_is_plain 1 0 (ascii "a;") (replicate 4 7) (lent 60) refl

-- `#iface` is one, and so is not accepted
iface : Directive (ascii "#iface")
iface =
    record { blanks = []; word = ascii "if"; behind = ascii "ace"; stands = refl; are_blanks = no_blanks; a_word = inl refl }

pub iface_refused : (n setting : ℕ) (tokens : List ℕ) (b : Buffers) → ¬ ((text_call n setting (ascii "#iface") tokens b).answer.number ≡ 0)
unfolding byte_count lex_after
iface_refused n setting tokens b h =
    (accepted_is_plain n setting (ascii "#iface") tokens b h).no_directive 0
    (record { before = []; token = a_token 27 6; behind = []; starts = refl; offset = refl; directive = iface })

-- `#if` inside of an Ident is none: no token starts there
pub not_inside : ¬ DirectiveAt (ascii "a#if") 1
unfolding lex_after byte_count
not_inside d = by d.before d.starts d.offset
  where
    by : (l : List Token) → a_token 27 4 ∷ [] ≡ l ++ (d.token ∷ d.behind) → ¬ (byte_count l ≡ 1)
    by [] e o = omega (arith, o)
    by (x ∷ []) e o = none_some (rest_same e)
    by (x ∷ y ∷ l) e o = none_some (rest_same e)

-- ---------------------------------------------------------------- what a call leaves

-- a result with no counts but this one of token rows, for `a;` in five token numbers
abbrev gives : ℕ → ℕ → List ℕ → Buffers → TextResult
gives k n tokens b =
    record {
      answer = record { number = k; place = 0; tree_count = 0; error_count = 0; report_count = 0; expectation_count = 0 };
      token_count = n;
      tokens = tokens;
      buffers = b;
    }

abbrev Returns : TextResult → Type 0
Returns = TextReturns 1 0 (ascii "a;") (replicate 5 7) (lent 1)

-- rows left in the buffer at 8
pub left_at_8 : ¬ Returns (gives 8 0 (27 ∷ 1 ∷ 29 ∷ 1 ∷ 0 ∷ []) (lent 1))
left_at_8 h = let e : ◌≡◌ {A = ℕ} 27 0 = ap (λ (l : List ℕ). get_or l 0 0) (h.all_zero (omega arith) (omega arith)).1 in omega (arith, e)

-- the token buffer written at 10, and cleared at 9 and at 2
pub written_at_10 : ¬ Returns (gives 10 0 (27 ∷ 1 ∷ 29 ∷ 1 ∷ 0 ∷ []) (lent 1))
written_at_10 h = let e : ◌≡◌ {A = ℕ} 27 7 = ap (λ (l : List ℕ). get_or l 0 0) (h.as_it_was (inr (inr (inr refl)))).1 in omega (arith, e)

pub cleared_at_9 : ¬ Returns (gives 9 0 (replicate 5 0) (lent 1))
cleared_at_9 h = let e : ◌≡◌ {A = ℕ} 0 7 = ap (λ (l : List ℕ). get_or l 0 0) (h.as_it_was (inr (inr (inl refl)))).1 in omega (arith, e)

pub cleared_at_2 : ¬ Returns (gives 2 0 (replicate 5 7) (record { events = 0 ∷ []; trees = 7 ∷ []; errors = 7 ∷ []; reports = 7 ∷ []; pool = 7 ∷ [] }))
cleared_at_2 h = let e : ◌≡◌ {A = ℕ} 0 7 = ap (λ (b : Buffers). get_or b.events 0 0) (h.as_it_was (inr (inl refl))).0 in omega (arith, e)

-- a number that there is not, one that a text never has, and a count with a refusal
pub number_11 : ¬ Returns (gives 11 0 (replicate 5 7) (lent 1))
number_11 h = omega (arith, h.at_most_10)

not_3 : ¬ BeforeTheParse 3
not_3 (inl e) = omega (arith, e)
not_3 (inr (inl e)) = omega (arith, e)
not_3 (inr (inr (inl e))) = omega (arith, e)
not_3 (inr (inr (inr e))) = omega (arith, e)

pub number_3 : ¬ Returns (gives 3 0 (replicate 5 7) (lent 1))
unfolding call lex_after numbers_of
number_3 h = let e : ◌≡◌ {A = ℕ} 3 6 = ap (λ (r : Result). r.answer.number) (h.all_else not_3) in omega (arith, e)

pub counted_at_10 : ¬ Returns (gives 10 2 (replicate 5 7) (lent 1))
counted_at_10 h = omega (arith, (h.no_counts (omega arith)).1)

-- accepted: a fifth number that is not zero, one row too few, rows of another text, a buffer that is shorter
pub odd_left : ¬ Returns (gives 0 2 (27 ∷ 1 ∷ 29 ∷ 1 ∷ 7 ∷ []) (lent 1))
unfolding lex_after numbers_of
odd_left h = let e : ◌≡◌ {A = ℕ} 7 0 = ap (λ (l : List ℕ). get_or l 4 0) (h.accepted refl).3.then_zeros in omega (arith, e)

pub one_row : ¬ Returns (gives 0 1 (27 ∷ 1 ∷ 29 ∷ 1 ∷ 0 ∷ []) (lent 1))
unfolding lex_after numbers_of
one_row h = omega (arith, (h.accepted refl).3.whole_rows)

pub other_rows : ¬ Returns (gives 0 2 (27 ∷ 1 ∷ 28 ∷ 1 ∷ 0 ∷ []) (lent 1))
unfolding lex_after numbers_of
other_rows h = let e : ◌≡◌ {A = ℕ} 28 29 = ap (λ (l : List ℕ). get_or l 2 0) (h.accepted refl).3.then_zeros in omega (arith, e)

pub shorter : ¬ Returns (gives 0 2 (27 ∷ 1 ∷ 29 ∷ 1 ∷ []) (lent 1))
shorter h = omega (arith, h.lengths.1)

-- ---------------------------------------------------------------- two texts alike after a semicolon

-- `a;}` and `b,c;}`, with other buffers
abbrev text : List ℕ → ℕ → TextFile
text bytes n = record { setting = 0; bytes = bytes; tokens = replicate n 7; buffers = lent n }

abbrev short : TextFile
short = text (ascii "a;}") 60

abbrev long : TextFile
long = text (ascii "b,c;}") 80

abbrev stray : List Row
stray = (0 ∷ 10 ∷ 1 ∷ 1 ∷ 0 ∷ []) ∷ (1 ∷ 38 ∷ 1 ∷ 1 ∷ 4 ∷ []) ∷ []

in_short : Semicolon (tree_rows (result (of_tokens short)))
unfolding tree_rows call is_statement lex_after numbers_of
in_short = first (0 ∷ 0 ∷ 3 ∷ 2 ∷ 0 ∷ []) (0 ∷ 16 ∷ 2 ∷ 2 ∷ 0 ∷ []) ((1 ∷ 26 ∷ 1 ∷ 1 ∷ 1 ∷ []) ∷ []) stray 1 refl refl refl (leaf refl none) refl

in_long : Semicolon (tree_rows (result (of_tokens long)))
unfolding tree_rows call is_statement lex_after numbers_of
in_long = first (0 ∷ 0 ∷ 5 ∷ 2 ∷ 0 ∷ []) (0 ∷ 16 ∷ 4 ∷ 2 ∷ 0 ∷ []) ((1 ∷ 26 ∷ 3 ∷ 3 ∷ 1 ∷ []) ∷ []) stray 1 refl refl refl (leaf refl none) refl

alike : Shared (of_tokens short) (of_tokens long) in_short in_long
unfolding text_call in_short in_long start_byte over_leaves
alike = texts_stay_local short long refl refl refl in_short in_long refl
