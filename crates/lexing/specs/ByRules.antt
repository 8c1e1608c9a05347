-- BY RULES: the tokens are what the rules give, and no other list is. Said with `Fits`, the textbook's meaning of a
-- pattern, and without the definitions' search. It excludes a shorter match, a later rule where an earlier one
-- matches as much, an error token where a rule matches, tokens after the end, and a text that has no tokens at all.
use Rattle.std.specs.Prelude.{ℕ, ◌≤◌, ◌<◌, ◌≡◌, List, [], ◌∷◌, ◌++◌, length, take, drop}
use Rattle.definitions.specs.Token.{Token}
use Rattle.definitions.specs.Rules.{Rule, rules}
use Rattle.definitions.specs.Lex.{a_token, finish, lex}
use Rattle.patterns.specs.Textbook.{Fits}

-- a list has a member, after others
pub record Member (r : Rule) (rs before : List Rule) : Type 0 where
  pub behind : List Rule
  pub stands : rs ≡ before ++ (r ∷ behind)

-- the first n bytes of s, one at least, fit a rule
pub record Matches (s : List ℕ) (n : ℕ) (r : Rule) : Type 0 where
  pub some : 1 ≤ n
  pub inside : n ≤ length s
  pub fits : Fits r.pattern (take n s)

-- "the longest match wins": r, which stands after the rules `before`, matches n bytes; no rule matches more, and none
-- before it as many
pub record Wins (s : List ℕ) (n : ℕ) (before : List Rule) (r : Rule) : Type 0 where
  pub a_rule : Member r rules before
  pub it_matches : Matches s n r
  pub none_longer : (m : ℕ) (q : Rule) (others : List Rule) → n < m → Member q rules others → ¬ Matches s m q
  pub none_before : (q : Rule) (others : List Rule) → Member q before others → ¬ Matches s n q

-- the token that a text starts with
pub data Starts (s : List ℕ) : Token → Type 0 where
  by_rule : (n : ℕ) (before : List Rule) (r : Rule) → Wins s n before r → Starts s (finish n r.kind r.callback (drop n s))
  -- "a byte where no rule matches is a Default error token of length 1"
  by_none : ((m : ℕ) (q : Rule) (others : List Rule) → Member q rules others → ¬ Matches s m q) → Starts s (a_token 74 1)

-- the tokens of a text
pub data Lexing : List ℕ → List Token → Type 0 where
  at_end : Lexing [] []
  at_token : (b : ℕ) (s : List ℕ) (t : Token) (ts : List Token) → Starts (b ∷ s) t → Lexing (drop t.len (b ∷ s)) ts
      → Lexing (b ∷ s) (t ∷ ts)

pub record ByRules : Type 0 where
  pub they_are : (s : List ℕ) → Lexing s (lex s)
  pub no_other : (s : List ℕ) (ts : List Token) → Lexing s ts → ts ≡ lex s
