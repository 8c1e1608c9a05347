-- `joined`: the tokens' lengths add up to the text's, so the tokens' texts are cut off it until nothing is left.
use Prim.Native.Nat.{ℕ, ◌≤◌}
use native.Mathlib.Omega.{arith}
use mathlib.Core.Path.{◌≡◌, refl, subst}
use mathlib.Core.List.{List, [], ◌∷◌, ◌++◌}
use lib.ListN.{length, drop, length-drop, take-append-drop}
use Rattle.definitions.specs.Token.{Token, byte_count}
use Rattle.definitions.specs.Lex.{next_token, lex}
use Rattle.basics.proofs.Lists.{first_same, rest_same, none_some}
use Rattle.lexing.specs.Joined.{texts, join, Joined}
use Rattle.lexing.proofs.Lengths.{next_in, past_first, by_tokens}

-- the lengths add up to a text's
pub sums : (s : List ℕ) → byte_count (lex s) ≡ length s
unfolding byte_count
sums s = by_tokens (λ (s : List ℕ) (ts : List Token). byte_count ts ≡ length s) refl at_first s
  where
    at_first : (b : ℕ) (s : List ℕ)
        → byte_count (lex (past_first b s)) ≡ length (past_first b s)
        → byte_count (next_token (b ∷ s) ∷ lex (past_first b s)) ≡ length (b ∷ s)
    at_first b s e =
        let i = next_in b s in
        let l = length-drop (next_token (b ∷ s)).len (b ∷ s) in
        omega (arith, i.1, e, l)

-- whatever tokens do so give back the text
pub cut_up : (ts : List Token) (s : List ℕ) → byte_count ts ≡ length s → join (texts ts s) ≡ s
unfolding texts join byte_count
cut_up [] [] h = refl
cut_up [] (b ∷ s) h = absurd (omega (arith, h))
cut_up (t ∷ ts) s h =
    let l = length-drop t.len s in
    rw (cut_up ts (drop t.len s) (omega (arith, h, l))) (take-append-drop t.len s)

-- every token of a list has a byte
abbrev SomeBytes : List Token → Type 0
SomeBytes ts = (before : List Token) (t : Token) (behind : List Token) → ts ≡ before ++ (t ∷ behind) → 1 ≤ t.len

some_bytes : (s : List ℕ) → SomeBytes (lex s)
some_bytes s = by_tokens (λ (s : List ℕ) (ts : List Token). SomeBytes ts) at_last at_first s
  where
    at_last : SomeBytes []
    at_last [] t behind e = absurd (none_some e)
    at_last (x ∷ before) t behind e = absurd (none_some e)

    at_first : (b : ℕ) (s : List ℕ) → SomeBytes (lex (past_first b s))
        → SomeBytes (next_token (b ∷ s) ∷ lex (past_first b s))
    at_first b s h [] t behind e = subst (λ (t : Token). 1 ≤ t.len) (first_same e) (next_in b s).0
    at_first b s h (x ∷ before) t behind e = h before t behind (rest_same e)

pub joined : Joined
joined = record { give_back = λ s. cut_up (lex s) s (sums s); not_empty = some_bytes; sum = sums }
