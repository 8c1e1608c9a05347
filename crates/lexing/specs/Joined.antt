-- JOINED: "Joined, the tokens give back the input". Each has a byte at least, and they end where the text ends.
use Rattle.std.specs.Prelude.{ℕ, ◌≤◌, ◌≡◌, List, [], ◌∷◌, ◌++◌, length, take, drop}
use Rattle.definitions.specs.Token.{Token, byte_count}
use Rattle.definitions.specs.Lex.{lex}

-- the texts of tokens, cut off one after the other
unfoldable pub texts : List Token → List ℕ → List (List ℕ)
texts [] s = []
texts (t ∷ ts) s = take t.len s ∷ texts ts (drop t.len s)

unfoldable pub join : List (List ℕ) → List ℕ
join [] = []
join (u ∷ us) = u ++ join us

pub record Joined : Type 0 where
  pub give_back : (s : List ℕ) → join (texts (lex s) s) ≡ s
  pub not_empty : (s : List ℕ) (before : List Token) (t : Token) (behind : List Token) → lex s ≡ before ++ (t ∷ behind) → 1 ≤ t.len
  pub sum : (s : List ℕ) → byte_count (lex s) ≡ length s
