-- Laws of the first of some tokens, as the code reads it.
use Rattle.std.proofs.Common.{◌≡◌, ℕ, ◌+◌, ◌*◌, ◌/◌, ◌≤◌, ◌<◌, Bool, true, false, cond, Option, None, Some, MatchOption, is_some, List, [], ◌∷◌, ◌||◌, eqb, leb, length, drop, get_or, refl, sym, ◌∙◌, ap, arith}
use Rattle.std.proofs.lemmas.Bool.Decides.{nat_tests}
use Rattle.std.specs.List.{list_any}
use Rattle.basics.specs.Word.{low}
use Rattle.basics.proofs.TokenRows.{token_at, tokens_cons, tokens_end}
use Rattle.definitions.specs.Layout.{TOKEN_ROW, TOKEN_LENGTH}
use Rattle.definitions.specs.LexError as L
use Rattle.definitions.specs.TokenKind as K
use Rattle.definitions.specs.Token.{Token, tokens_of, is_error, seen, is_trivia, trivia, past, one_of, first_in}
use Rattle.machine.specs.Machine.{Machine, with_cursor, skip, range_at}
use Rattle.layout.specs.Rows.{IsRow}
use Rattle.token_rows.specs.Tokens.{SEEN_AT_END, kind_of, token_of}
use Rattle.token_rows.specs.declared.token.Token.{Token as Row}

pub seen_is : (t : Token) → seen t ≡ cond (leb L.UnexpectedEndIncbin t.kind) K.Unrecognized t.kind
unfolding seen is_error
seen_is t = refl

-- how an error token is told from the others
pub ruleset seen_tests = (nat_tests, seen_is)

-- l begins with the row, or is empty where there is none
abbrev pub Reads : Option Row → List Token → List Token → Type 0
Reads r l rest = MatchOption r (l ≡ []) (λ t. l ≡ token_of t ∷ rest)

pub kind_read : (r : Option Row) (l rest : List Token) (k : ℕ) → Reads r l rest → MatchOption r (k ≡ SEEN_AT_END) (λ t. k ≡ seen (token_of t)) → k ≡ kind_of l
unfolding kind_of
kind_read None l rest k e f = f ∙ sym (ap kind_of e)
kind_read (Some t) l rest k e f = f ∙ sym (ap kind_of e)

pub first_read : (ks : List ℕ) (r : Option Row) (l rest : List Token) (b : Bool) → Reads r l rest → MatchOption r (b ≡ false) (λ t. b ≡ one_of ks (seen (token_of t))) → b ≡ first_in ks l
unfolding first_in
first_read ks None l rest b e f = f ∙ sym (ap (first_in ks) e)
first_read ks (Some t) l rest b e f = f ∙ sym (ap (first_in ks) e)

pub one_of_one : (k x : ℕ) → one_of (k ∷ []) x ≡ eqb k x
unfolding one_of
one_of_one k x = go (eqb k x)
  where
    go : (b : Bool) → cond b true false ≡ b
    go true = refl
    go false = refl

pub is_read : (k : ℕ) (r : Option Row) (l rest : List Token) (b : Bool) → Reads r l rest → MatchOption r (b ≡ false) (λ t. b ≡ eqb k (seen (token_of t))) → b ≡ first_in (k ∷ []) l
unfolding first_in
is_read k None l rest b e f = f ∙ sym (ap (first_in (k ∷ [])) e)
is_read k (Some t) l rest b e f = f ∙ (sym (one_of_one k (seen (token_of t))) ∙ sym (ap (first_in (k ∷ [])) e))

pub none_next : (ks : List ℕ) (r : Option Row) (l rest : List Token) → Reads r l rest → false ≡ is_some r → false ≡ first_in ks (past l)
unfolding first_in
none_next ks None l rest e f = sym (ap (λ x. first_in ks (past x)) e)
none_next ks (Some t) l rest e f = cc

pub end_read : (r : Option Row) (l rest : List Token) (a k : ℕ) → Reads r l rest → MatchOption r (k ≡ a) (λ t. k ≡ low (a + t.len)) → (m : Machine) → m.byte ≡ a → k ≡ (range_at l m).to
unfolding range_at
end_read None l rest a k e f m h = f ∙ (sym h ∙ sym (ap (λ x. (range_at x m).to) e))
end_read (Some t) l rest a k e f m h = f ∙ (ap (λ x. low (x + t.len)) (sym h) ∙ sym (ap (λ x. (range_at x m).to) e))

pub any_one_of : (ks : List ℕ) (k : ℕ) → list_any (λ y. eqb y k) ks ≡ one_of ks k
unfolding one_of
any_one_of [] k = refl
any_one_of (x ∷ xs) k = ap (λ b. (eqb x k) || b) (any_one_of xs k) ∙ either (eqb x k)
  where
    either : (b : Bool) → b || one_of xs k ≡ cond b true (one_of xs k)
    either true = refl
    either false = refl

-- a row's numbers are the token there
pub row_token : (tokens : List ℕ) (at : ℕ) (r : List ℕ) → IsRow TOKEN_ROW tokens at r → drop at (tokens_of tokens) ≡ record { kind = get_or r 0 0; len = get_or r TOKEN_LENGTH 0 } ∷ drop (at + 1) (tokens_of tokens)
row_token tokens at r x =
    let e : at * TOKEN_ROW + 0 ≡ at * TOKEN_ROW = omega arith in
    let k : get_or r 0 0 ≡ get_or tokens (at * TOKEN_ROW) 0 = x.numbers 0 (omega arith) ∙ ap (λ i. get_or tokens i 0) e in
    let n : get_or r TOKEN_LENGTH 0 ≡ get_or tokens (at * TOKEN_ROW + TOKEN_LENGTH) 0 = x.numbers TOKEN_LENGTH (omega arith) in
    rw (k, n) (tokens_cons tokens at x.inside)

-- ---------------------------------------------------------------- trivia

pub skip_more : (l rest : List Token) (t : Row) (i a : ℕ) → l ≡ token_of t ∷ rest → true ≡ is_trivia t.kind → (m : Machine) → skip rest (with_cursor (i + 1) (low (a + t.len)) m) ≡ skip l (with_cursor i a m)
unfolding skip trivia
skip_more l rest t i a p q m = rw (p, ← q)

pub skip_solid : (l rest : List Token) (t : Row) (m : Machine) → l ≡ token_of t ∷ rest → false ≡ is_trivia t.kind → m ≡ skip l m
unfolding skip trivia
skip_solid l rest t m p q = rw (p, ← q)

pub skip_none : (l : List Token) (m : Machine) → l ≡ [] → m ≡ skip l m
unfolding skip
skip_none l m p = sym (ap (λ x. skip x m) p)

-- ---------------------------------------------------------------- rows by their index, for the crates above

kind_in : (tokens : List ℕ) (i : ℕ) → i < length tokens / TOKEN_ROW → kind_of (drop i (tokens_of tokens)) ≡ seen (token_at tokens i)
unfolding kind_of
kind_in tokens i h = ap kind_of (tokens_cons tokens i h)

first_in_rows : (ks : List ℕ) (tokens : List ℕ) (i : ℕ) → i < length tokens / TOKEN_ROW → first_in ks (drop i (tokens_of tokens)) ≡ one_of ks (kind_of (drop i (tokens_of tokens)))
unfolding first_in kind_of
first_in_rows ks tokens i h = ap (first_in ks) (tokens_cons tokens i h) ∙ sym (ap (one_of ks) (kind_in tokens i h))

pub first_past_rows : (ks : List ℕ) (tokens : List ℕ) (i : ℕ) → length tokens / TOKEN_ROW ≤ i → false ≡ first_in ks (drop i (tokens_of tokens))
unfolding first_in
first_past_rows ks tokens i h = sym (ap (first_in ks) (tokens_end tokens i h))

pub is_one_of_rows : (tokens ks : List ℕ) (i x : ℕ) (b : Bool) → i < length tokens / TOKEN_ROW → x ≡ kind_of (drop i (tokens_of tokens)) → b ≡ one_of ks x → b ≡ first_in ks (drop i (tokens_of tokens))
is_one_of_rows tokens ks i x b h e f = f ∙ ap (one_of ks) e ∙ sym (first_in_rows ks tokens i h)

pub end_row : (tokens : List ℕ) (i a e : ℕ) → i < length tokens / TOKEN_ROW → ((m : Machine) → m.byte ≡ a → e ≡ (range_at (drop i (tokens_of tokens)) m).to) → (m : Machine) → m.byte ≡ a → e ≡ low (a + get_or tokens (i * TOKEN_ROW + TOKEN_LENGTH) 0)
unfolding range_at
end_row tokens i a e h g m f = g m f ∙ ap (λ (l : List Token). (range_at l m).to) (tokens_cons tokens i h) ∙ ap (λ (x : ℕ). low (x + get_or tokens (i * TOKEN_ROW + TOKEN_LENGTH) 0)) f
