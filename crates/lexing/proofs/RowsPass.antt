-- `rows_pass`: row after row, what is left is what follows the token, and each token passes (Spelled).
use Prim.Native.Nat.{ℕ, suc, ◌+◌, ◌*◌, ◌/◌, ◌%◌}
use native.Mathlib.Omega.{arith}
use mathlib.Core.Bool.{Bool}
use mathlib.Core.Path.{◌≡◌, refl, ap, subst}
use mathlib.Core.List.{List, [], ◌∷◌}
use lib.ListN.{length, length-drop}
use borrow.Author.Tests.{le-leb, eq-eqb}
use Rattle.definitions.specs.Layout.{TOKEN_ROW}
use Rattle.definitions.specs.Token.{Token, tokens_of}
use Rattle.definitions.specs.Refusal.{odd_count, accepted, unless, ◌or_else◌, check_sizes, check_texts}
use Rattle.definitions.specs.RowCauses.{check_count, check_row, check_rows, check_input}
use Rattle.definitions.specs.Lex.{next_token, lex}
use Rattle.definitions.specs.Text.{numbers_of}
use Rattle.lexing.specs.RowsPass.{RowsPass}
use Rattle.lexing.proofs.Lengths.{next_in, past_first, by_tokens}
use Rattle.lexing.proofs.ByRules.{next_starts}
use Rattle.lexing.proofs.Spelled.{passes}

-- the rows of tokens say these tokens
pub read_back : (ts : List Token) → tokens_of (numbers_of ts) ≡ ts
unfolding tokens_of numbers_of
read_back [] = refl
read_back (t ∷ ts) = ap (λ (l : List Token). t ∷ l) (read_back ts)

-- of this text and tokens, from any row on, wherever the text starts
abbrev Rows : List ℕ → List Token → Type 0
Rows s ts = (i start : ℕ) → check_rows i start (start + length s) ts ≡ accepted

abbrev Texts : List ℕ → List Token → Type 0
Texts s ts = (i : ℕ) → check_texts i s ts ≡ accepted

-- two numbers a token, so that none is left over
pub numbers_length : (ts : List Token) → length (numbers_of ts) ≡ TOKEN_ROW * length ts
unfolding numbers_of
numbers_length [] = refl
numbers_length (t ∷ ts) = omega (arith, numbers_length ts)

even : (ts : List Token) → check_count (numbers_of ts) ≡ accepted
unfolding check_count
even ts = ap (λ (b : Bool). unless b (odd_count (length (numbers_of ts) / TOKEN_ROW))) (eq-eqb (length (numbers_of ts) % TOKEN_ROW) 0 (omega (arith, numbers_length ts)))

rows : (s : List ℕ) → Rows s (lex s)
unfolding check_rows check_row ◌or_else◌
rows s = by_tokens Rows (λ i start. rw (eq-eqb start (start + 0) (omega arith))) at_first s
  where
    at_first : (b : ℕ) (s : List ℕ) → Rows (past_first b s) (lex (past_first b s)) → Rows (b ∷ s) (next_token (b ∷ s) ∷ lex (past_first b s))
    at_first b s h i start =
        let n = (next_token (b ∷ s)).len in
        let p = passes (b ∷ s) (next_token (b ∷ s)) (next_starts (b ∷ s)) in
        let l : start + n + length (past_first b s) ≡ start + suc (length s) = omega (arith, length-drop n (b ∷ s), (next_in b s).1) in
        rw (p.a_kind, le-leb 1 n (next_in b s).0, le-leb (start + n) (start + suc (length s)) (omega (arith, (next_in b s).1)))
        (subst (λ (size : ℕ). check_rows (suc i) (start + n) size (lex (past_first b s)) ≡ accepted) l (h (suc i) (start + n)))

texts : (s : List ℕ) → Texts s (lex s)
unfolding check_texts
texts s = by_tokens Texts (λ i. refl) at_first s
  where
    at_first : (b : ℕ) (s : List ℕ) → Texts (past_first b s) (lex (past_first b s)) → Texts (b ∷ s) (next_token (b ∷ s) ∷ lex (past_first b s))
    at_first b s h i = rw (passes (b ∷ s) (next_token (b ∷ s)) (next_starts (b ∷ s))).its_text (h (suc i))

pub rows_pass : RowsPass
unfolding check_input check_sizes ◌or_else◌
rows_pass s h i =
    let z : 0 + length s ≡ length s = omega arith in
    let r : check_rows 0 0 (length s) (lex s) ≡ accepted = subst (λ (size : ℕ). check_rows 0 0 size (lex s) ≡ accepted) z (rows s 0 0) in
    rw (le-leb (length s) 1048576 h, le-leb (length (numbers_of (lex s))) 131072 i, even (lex s), read_back (lex s), r) (texts s 0)
