-- What a text is refused for, as propositions, and what an accepted one is free of. Limits, bytes and words are written
-- out and not cited from the definitions: another number there would otherwise change the statements with it.
use Rattle.std.specs.Prelude.{ℕ, ◌≤◌, ◌≡◌, ◌⊎◌, List, [], ◌∷◌, ◌++◌, length, drop}
use Rattle.definitions.specs.Token.{Token, byte_count}
use Rattle.definitions.specs.Rules.{ascii}
use Rattle.definitions.specs.Lex.{lex}
use Rattle.definitions.specs.Call.{Buffers}
use Rattle.definitions.specs.Text.{text_call}

-- "byte of 128 or more", at an offset
pub record HighAt (bytes : List ℕ) (i : ℕ) : Type 0 where
  pub before : List ℕ
  pub byte : ℕ
  pub behind : List ℕ
  pub stands : bytes ≡ before ++ (byte ∷ behind)
  pub offset : length before ≡ i
  pub high : 128 ≤ byte

-- a member of a list
abbrev pub In : List ℕ → List (List ℕ) → Type 0
In w [] = ⊥
In w (x ∷ xs) = (w ≡ x) ⊎ In w xs

abbrev pub words : List (List ℕ)
words =
    ascii "if" ∷ ascii "elif" ∷ ascii "else" ∷ ascii "endif" ∷ ascii "pragma" ∷ ascii "define" ∷ ascii "undef" ∷ ascii "include"
    ∷ ascii "error" ∷ []

-- spaces and tabs
pub data Blanks : List ℕ → Type 0 where
  none : Blanks []
  space : (s : List ℕ) → Blanks s → Blanks (32 ∷ s)
  tab : (s : List ℕ) → Blanks s → Blanks (9 ∷ s)

-- "`#` .., any spaces or tabs, then text that begins with if, elif, else, endif, pragma, define, undef, include or
-- error"
pub record Directive (s : List ℕ) : Type 0 where
  pub blanks : List ℕ
  pub word : List ℕ
  pub behind : List ℕ
  pub stands : s ≡ 35 ∷ (blanks ++ (word ++ behind))
  pub are_blanks : Blanks blanks
  pub a_word : In word words

-- ".. at a token start": at an offset
pub record DirectiveAt (bytes : List ℕ) (i : ℕ) : Type 0 where
  pub before : List Token
  pub token : Token
  pub behind : List Token
  pub starts : lex bytes ≡ before ++ (token ∷ behind)
  pub offset : byte_count before ≡ i
  pub directive : Directive (drop i bytes)

-- neither of them
pub record Plain (bytes : List ℕ) : Type 0 where
  pub no_high_byte : (i : ℕ) → ¬ HighAt bytes i
  pub no_directive : (i : ℕ) → ¬ DirectiveAt bytes i

-- an accepted text has no byte above 127, and no directive at a token start
abbrev pub AcceptedIsPlain : Type 0
AcceptedIsPlain =
    (n setting : ℕ) (bytes tokens : List ℕ) (b : Buffers) → (text_call n setting bytes tokens b).answer.number ≡ 0 → Plain bytes
