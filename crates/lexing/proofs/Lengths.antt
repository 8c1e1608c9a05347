-- Each token has a byte at least and ends inside the text; the tokens of a text are its first and those of what
-- follows.
use Prim.Native.Nat.{ℕ, zero, suc, pred, ◌+◌, ◌-◌, ◌<◌, ◌≤◌}
use native.Mathlib.Omega.{arith}
use mathlib.Core.Path.{◌≡◌, refl, sym, ◌∙◌, ap, subst}
use mathlib.Core.Bool.{Bool, true, false, cond, not, ◌&&◌}
use mathlib.Core.List.{List, [], ◌∷◌}
use lib.Dec.{eqb}
use lib.ListN.{length, take, drop, length-drop, drop_of_length-le}
use lib.Seq.{drop-drop}
use Rattle.definitions.specs.LexError as L
use Rattle.definitions.specs.Token.{Token}
use Rattle.definitions.specs.Pattern.{fits}
use Rattle.definitions.specs.Rules.{Callback, no_callback, lex_block_comment, lex_string, lex_char, lex_bytestring, Rule, rules}
use Rattle.definitions.specs.Lex.{Match, no_match, matched, else, first_rule, longest, End, ended, unexpected_end, one_more, comment_end, quote_end, bracket_end, a_token, close, finish, made_of, next_token, lex_after, lex}

-- ---------------------------------------------------------------- a match

-- a match of 1 to n bytes, or none
abbrev pub UpTo : ℕ → Match → Type 0
UpTo n no_match = Unit
UpTo n (matched k kind c) = (1 ≤ k) × (k ≤ n)

longer : (n k : ℕ) (m : Match) → n ≤ k → UpTo n m → UpTo k m
longer n k no_match h u = tt
longer n k (matched i kind c) h u = (u.0, omega (arith, h, u.1))

first_up_to : (n : ℕ) (rs : List Rule) (u : List ℕ) → UpTo (suc n) (first_rule (suc n) rs u)
unfolding first_rule
first_up_to n [] u = tt
first_up_to n (r ∷ rs) u = go (fits r.pattern u) (first_up_to n rs u)
  where
    go : (f : Bool) → UpTo (suc n) (first_rule (suc n) rs u)
        → UpTo (suc n) (cond f (matched (suc n) r.kind r.callback) (first_rule (suc n) rs u))
    go true i = (omega arith, omega arith)
    go false i = i

else_up_to : (n : ℕ) (m k : Match) → UpTo (suc n) m → UpTo n k → UpTo (suc n) (else m k)
else_up_to n no_match k u v = longer n (suc n) k (omega arith) v
else_up_to n (matched i kind c) k u v = u

pub longest_up_to : (n : ℕ) (s : List ℕ) → UpTo n (longest n s)
unfolding longest
longest_up_to zero s = tt
longest_up_to (suc n) s =
    else_up_to n (first_rule (suc n) rules (take (suc n) s)) (longest n s) (first_up_to n rules (take (suc n) s)) (longest_up_to n s)

-- ---------------------------------------------------------------- what a callback finds

abbrev EndsIn : ℕ → End → Type 0
EndsIn n (ended m) = m ≤ n
EndsIn n unexpected_end = Unit

-- one byte more
one_in : (f : Bool) (k n : ℕ) (e : End) → k ≤ suc n → EndsIn n e → EndsIn (suc n) (cond f (ended k) (one_more e))
one_in true k n e h i = h
one_in false k n (ended m) h i = omega (arith, i)
one_in false k n unexpected_end h i = tt

bracket_in : (s : List ℕ) → EndsIn (length s) (bracket_end s)
unfolding bracket_end
bracket_in [] = tt
bracket_in (b ∷ s) = one_in (eqb b 93) 1 (length s) (bracket_end s) (omega arith) (bracket_in s)

quote_in : (q : ℕ) (x : Bool) (s : List ℕ) → EndsIn (length s) (quote_end q x s)
unfolding quote_end
quote_in q x [] = tt
quote_in q x (b ∷ s) =
    one_in (not x && eqb b q) 1 (length s) (quote_end q (not x && eqb b 92) s) (omega arith) (quote_in q (not x && eqb b 92) s)

comment_in : (s : List ℕ) → EndsIn (length s) (comment_end s)
unfolding comment_end
comment_in [] = tt
comment_in (b ∷ []) = go (eqb b 42)
  where
    go : (f : Bool) → EndsIn 1 (cond (f && false) (ended 2) unexpected_end)
    go true = tt
    go false = tt
comment_in (b ∷ c ∷ s) =
    one_in (eqb b 42 && eqb c 47) 2 (suc (length s)) (comment_end (c ∷ s)) (omega arith) (comment_in (c ∷ s))

-- ---------------------------------------------------------------- a token

-- one of 1 to n bytes
abbrev pub Long : ℕ → Token → Type 0
Long n t = (1 ≤ t.len) × (t.len ≤ n)

close_in : (k error n : ℕ) (rest : List ℕ) (e : End) → 1 ≤ n → EndsIn (length rest) e → Long (n + length rest) (close k error n rest e)
close_in k error n rest (ended m) h i = (omega (arith, h), omega (arith, i))
close_in k error n rest unexpected_end h i = (omega (arith, h), omega arith)

pub finish_in : (n k : ℕ) (c : Callback) (rest : List ℕ) → 1 ≤ n → Long (n + length rest) (finish n k c rest)
unfolding finish
finish_in n k no_callback rest h = (h, omega arith)
finish_in n k lex_block_comment rest h = close_in k L.UnexpectedEndBlockComment n rest (comment_end rest) h (comment_in rest)
finish_in n k lex_string rest h = close_in k L.UnexpectedEndString n rest (quote_end 34 false rest) h (quote_in 34 false rest)
finish_in n k lex_char rest h = close_in k L.UnexpectedEndChar n rest (quote_end 39 false rest) h (quote_in 39 false rest)
finish_in n k lex_bytestring rest h = close_in k L.UnexpectedEndBytestring n rest (bracket_end rest) h (bracket_in rest)

made_in : (m : Match) (s : List ℕ) → 1 ≤ length s → UpTo (length s) m → Long (length s) (made_of m s)
unfolding made_of
made_in no_match s h u = (omega arith, h)
made_in (matched n k c) s h u =
    let f = finish_in n k c (drop n s) u.0 in
    let l = length-drop n s in
    (f.0, omega (arith, f.1, l, u.1))

-- a token has a byte, and no more than there are
pub next_in : (b : ℕ) (s : List ℕ) → (1 ≤ (next_token (b ∷ s)).len) × ((next_token (b ∷ s)).len ≤ suc (length s))
unfolding next_token
next_in b s = made_in (longest (suc (length s)) (b ∷ s)) (b ∷ s) (omega arith) (longest_up_to (suc (length s)) (b ∷ s))

-- ---------------------------------------------------------------- all tokens

-- the bytes of a token already given are passed over
pub lex_drop : (k : ℕ) (s : List ℕ) → lex_after k s ≡ lex (drop k s)
unfolding lex_after
lex_drop zero [] = refl
lex_drop (suc k) [] = refl
lex_drop zero (b ∷ s) = refl
lex_drop (suc k) (b ∷ s) = lex_drop k s

pub lex_next : (b : ℕ) (s : List ℕ) → lex (b ∷ s) ≡ next_token (b ∷ s) ∷ lex (drop (next_token (b ∷ s)).len (b ∷ s))
unfolding lex_after
lex_next b s =
    let n = (next_token (b ∷ s)).len in
    ap (λ (ts : List Token). next_token (b ∷ s) ∷ ts) (lex_drop (pred n) s ∙ go n (next_in b s).0)
  where
    go : (n : ℕ) → 1 ≤ n → lex (drop (pred n) s) ≡ lex (drop n (b ∷ s))
    go zero h = absurd (omega (arith, h))
    go (suc n) h = refl

-- what follows the first token
abbrev pub past_first : ℕ → List ℕ → List ℕ
past_first b s = drop (next_token (b ∷ s)).len (b ∷ s)

-- an induction over the tokens of a text: what holds at the end, and at a token if it holds behind it
pub by_tokens : (P : List ℕ → List Token → Type 0) → P [] []
    → ((b : ℕ) (s : List ℕ) → P (past_first b s) (lex (past_first b s)) → P (b ∷ s) (next_token (b ∷ s) ∷ lex (past_first b s)))
    → (s : List ℕ) → P s (lex s)
unfolding lex_after
by_tokens P at_last at_first s = go (length s) s (omega arith)
  where
    go : (n : ℕ) (s : List ℕ) → length s ≤ n → P s (lex s)
    go zero [] h = at_last
    go zero (b ∷ s) h = absurd (omega (arith, h))
    go (suc n) [] h = at_last
    go (suc n) (b ∷ s) h =
        let i = next_in b s in
        let l = length-drop (next_token (b ∷ s)).len (b ∷ s) in
        subst (P (b ∷ s)) (sym (lex_next b s)) (at_first b s (go n (past_first b s) (omega (arith, h, i.0, l))))

-- ---------------------------------------------------------------- the same, as the code's loops hold it

first_of : (s : List ℕ) → 1 ≤ length s
    → (1 ≤ (next_token s).len) × ((next_token s).len ≤ length s) × (lex s ≡ next_token s ∷ lex (drop (next_token s).len s))
first_of [] h = absurd (omega (arith, h))
first_of (b ∷ s) h = ((next_in b s).0, (next_in b s).1, lex_next b s)

-- the token of kind k and n bytes that starts at a byte
pub record TokenAt (bytes : List ℕ) (at k n : ℕ) : Type 0 where
  pub some : 1 ≤ n
  pub inside : at + n ≤ length bytes
  pub first : lex (drop at bytes) ≡ a_token k n ∷ lex (drop (at + n) bytes)

pub token_at : (bytes : List ℕ) (at k n : ℕ) → at < length bytes → a_token k n ≡ next_token (drop at bytes) → TokenAt bytes at k n
token_at bytes at k n h e =
    let s = drop at bytes in
    let l : length s ≡ length bytes - at = length-drop at bytes in
    let f = first_of s (omega (arith, l, h)) in
    let m : n ≡ (next_token s).len = ap (λ (t : Token). t.len) e in
    record {
      some = omega (arith, m, f.0);
      inside = omega (arith, m, f.1, l, h);
      first = f.2 ∙ (λ i. sym e i ∷ lex (drop (sym m i) s)) ∙ ap (λ (r : List ℕ). a_token k n ∷ lex r) (drop-drop n at bytes);
    }

pub at_end : (bytes : List ℕ) (at : ℕ) → length bytes ≤ at → lex (drop at bytes) ≡ []
unfolding lex_after
at_end bytes at h = rw (drop_of_length-le bytes h)
