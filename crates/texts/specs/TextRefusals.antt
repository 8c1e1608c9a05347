-- TEXT REFUSALS: document 02's causes for a text, in their order. Each number is returned, with its place, if and
-- only if its condition holds. It excludes 10 before a lower 9, 2 for token numbers before 9 and 10, a buffer that is
-- one row too small, and 3, 4 or 11 to 13 for a text.
use Rattle.std.specs.Prelude.{ℕ, ◌*◌, ◌≤◌, ◌<◌, ◌≡◌, ◌↔◌, List, length}
use Rattle.definitions.specs.Grammar.{Entry}
use Rattle.definitions.specs.Lex.{lex}
use Rattle.definitions.specs.Call.{Buffers}
use Rattle.definitions.specs.Text.{numbers_of, text_call}
use Rattle.refusals.specs.Refusals.{Passes1, Cause}
use Rattle.texts.specs.Plain.{HighAt, DirectiveAt, Plain}

-- "After 1, refusal 2 for bytes comes first"
abbrev pub FewBytes : ℕ → List ℕ → Entry → Type 0
FewBytes n bytes e = Passes1 n e × (length bytes ≤ 1048576)

-- "for token numbers, over the limit or the buffer, it comes after 9 and 10"
abbrev pub Room : List ℕ → List ℕ → Type 0
Room bytes tokens = (2 * length (lex bytes) ≤ 131072) × (2 * length (lex bytes) ≤ length tokens)

pub data TextCause (n setting : ℕ) (bytes tokens : List ℕ) (b : Buffers) : ℕ → ℕ → Type 0 where
  unknown_entry : ¬ ((1 ≤ n) × (n ≤ 4)) → TextCause n setting bytes tokens b 1 0
  too_many_bytes : (e : Entry) → Passes1 n e → ¬ (length bytes ≤ 1048576) → TextCause n setting bytes tokens b 2 0
  -- "the lower offset first"
  high_byte : (e : Entry) → FewBytes n bytes e → (i : ℕ) → HighAt bytes i → ((j : ℕ) → j < i → ¬ HighAt bytes j)
      → ((j : ℕ) → j < i → ¬ DirectiveAt bytes j) → TextCause n setting bytes tokens b 9 i
  directive : (e : Entry) → FewBytes n bytes e → (i : ℕ) → DirectiveAt bytes i → ((j : ℕ) → j < i → ¬ DirectiveAt bytes j)
      → ((j : ℕ) → j < i → ¬ HighAt bytes j) → TextCause n setting bytes tokens b 10 i
  too_many_numbers : (e : Entry) → FewBytes n bytes e → Plain bytes → ¬ Room bytes tokens → TextCause n setting bytes tokens b 2 0
  -- "all else is that of the tokens": what a call over them returns, refused or accepted
  as_its_tokens : (e : Entry) → FewBytes n bytes e → Plain bytes → Room bytes tokens → (number place : ℕ)
      → Cause n setting bytes (numbers_of (lex bytes)) b number place → TextCause n setting bytes tokens b number place

pub record TextRefusals : Type 0 where
  pub by_cause : (n setting : ℕ) (bytes tokens : List ℕ) (b : Buffers) (number place : ℕ)
      → (((text_call n setting bytes tokens b).answer.number ≡ number)
      × ((text_call n setting bytes tokens b).answer.place ≡ place)) ↔ TextCause n setting bytes tokens b number place
  -- what is wrong with token rows alone: never
  pub not_3 : (n setting : ℕ) (bytes tokens : List ℕ) (b : Buffers) → ¬ ((text_call n setting bytes tokens b).answer.number ≡ 3)
  pub not_4 : (n setting : ℕ) (bytes tokens : List ℕ) (b : Buffers) → ¬ ((text_call n setting bytes tokens b).answer.number ≡ 4)
  pub not_11_to_13 : (n setting : ℕ) (bytes tokens : List ℕ) (b : Buffers)
      → ¬ ((11 ≤ (text_call n setting bytes tokens b).answer.number) × ((text_call n setting bytes tokens b).answer.number ≤ 13))
