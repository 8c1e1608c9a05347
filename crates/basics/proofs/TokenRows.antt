-- Token rows as tokens: how many there are, and the tokens from a row on.
use Prim.Native.Nat.{ℕ, zero, suc, ◌+◌, ◌*◌, ◌/◌, ◌≤◌, ◌<◌}
use native.Mathlib.Omega.{arith}
use mathlib.Core.Path.{◌≡◌, refl, sym, ap, ◌∙◌}
use mathlib.Core.List.{List, [], ◌∷◌}
use lib.ListN.{length, get_or, drop, length-drop}
use lib.Seq.{drop-cons, drop-nil}
use Rattle.definitions.specs.Layout.{TOKEN_ROW, TOKEN_LENGTH}
use Rattle.definitions.specs.Token.{Token, tokens_of}

-- as many tokens as whole rows
pub tokens_length : (tokens : List ℕ) → length (tokens_of tokens) ≡ length tokens / TOKEN_ROW
unfolding tokens_of
tokens_length [] = refl
tokens_length (k ∷ []) = refl
tokens_length (k ∷ n ∷ l) = ap suc (tokens_length l) ∙ omega arith

-- row i, and the rows after it
pub row_cons : (tokens : List ℕ) (i : ℕ) → i < length tokens / TOKEN_ROW
    → drop (i * TOKEN_ROW) tokens ≡ get_or tokens (i * TOKEN_ROW) 0 ∷ get_or tokens (i * TOKEN_ROW + TOKEN_LENGTH) 0 ∷ drop ((i + 1) * TOKEN_ROW) tokens
row_cons tokens i h =
    let a : i * TOKEN_ROW < length tokens = omega (arith, h) in
    let b : suc (i * TOKEN_ROW) < length tokens = omega (arith, h) in
    let e : suc (i * TOKEN_ROW) ≡ i * TOKEN_ROW + TOKEN_LENGTH = omega arith in
    let f : suc (suc (i * TOKEN_ROW)) ≡ (i + 1) * TOKEN_ROW = omega arith in
    drop-cons tokens (i * TOKEN_ROW) 0 a
    ∙ ap (λ (r : List ℕ). get_or tokens (i * TOKEN_ROW) 0 ∷ r) (drop-cons tokens (suc (i * TOKEN_ROW)) 0 b)
    ∙ ap (λ (j : ℕ). get_or tokens (i * TOKEN_ROW) 0 ∷ get_or tokens j 0 ∷ drop (suc (suc (i * TOKEN_ROW))) tokens) e
    ∙ ap (λ (j : ℕ). get_or tokens (i * TOKEN_ROW) 0 ∷ get_or tokens (i * TOKEN_ROW + TOKEN_LENGTH) 0 ∷ drop j tokens) f

-- the tokens from row i on are those of the numbers from there on
pub tokens_drop : (i : ℕ) (tokens : List ℕ) → tokens_of (drop (i * TOKEN_ROW) tokens) ≡ drop i (tokens_of tokens)
unfolding tokens_of
tokens_drop zero tokens = refl
tokens_drop (suc i) [] = ap tokens_of (drop-nil {A = ℕ} (suc i * TOKEN_ROW))
tokens_drop (suc i) (k ∷ []) =
    let e : suc i * TOKEN_ROW ≡ suc (suc (i * TOKEN_ROW)) = omega arith in
    ap (λ (n : ℕ). tokens_of (drop n (k ∷ []))) e
tokens_drop (suc i) (k ∷ n ∷ l) =
    let e : suc i * TOKEN_ROW ≡ suc (suc (i * TOKEN_ROW)) = omega arith in
    ap (λ (j : ℕ). tokens_of (drop j (k ∷ n ∷ l))) e ∙ tokens_drop i l

-- row i as a token
abbrev pub token_at : List ℕ → ℕ → Token
token_at tokens i = record { kind = get_or tokens (i * TOKEN_ROW) 0; len = get_or tokens (i * TOKEN_ROW + TOKEN_LENGTH) 0 }

pub tokens_cons : (tokens : List ℕ) (i : ℕ) → i < length tokens / TOKEN_ROW → drop i (tokens_of tokens) ≡ token_at tokens i ∷ drop (i + 1) (tokens_of tokens)
unfolding tokens_of
tokens_cons tokens i h =
    sym (tokens_drop i tokens) ∙ ap tokens_of (row_cons tokens i h) ∙ ap (λ (l : List Token). token_at tokens i ∷ l) (tokens_drop (i + 1) tokens)

-- past the last row there are none
pub tokens_end : (tokens : List ℕ) (i : ℕ) → length tokens / TOKEN_ROW ≤ i → drop i (tokens_of tokens) ≡ []
unfolding tokens_of
tokens_end tokens i h = sym (tokens_drop i tokens) ∙ short (drop (i * TOKEN_ROW) tokens) (let e = length-drop (i * TOKEN_ROW) tokens in omega (arith, h, e))
  where
    short : (l : List ℕ) → length l < TOKEN_ROW → tokens_of l ≡ []
    short [] e = refl
    short (a ∷ []) e = refl
    short (a ∷ b ∷ l) e = absurd (omega (arith, e))
