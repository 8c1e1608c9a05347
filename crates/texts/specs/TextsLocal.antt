-- TEXTS STAY LOCAL: the third promise for texts. Two accepted texts whose bytes are alike after a semicolon, where it
-- ends a top-level property, node or directive in both, have the same parts, lexical errors and reports after it.
-- Nothing is asked of their tokens: a lexer that starts again after the same semicolon finds the same ones.
use Rattle.std.specs.Prelude.{ℕ, suc, ◌≡◌, List, drop}
use Rattle.definitions.specs.Lex.{lex}
use Rattle.definitions.specs.Call.{Buffers}
use Rattle.definitions.specs.Text.{numbers_of, text_call}
use Rattle.rows.specs.ResultRows.{tree_rows}
use Rattle.recovery.specs.Recovery.{File, result, SameSetting, Semicolon, start_byte, Shared}

-- what a call of entry 1 over a text is given: setting, input bytes, lent buffers
pub record TextFile : Type 0 where
  pub setting : ℕ
  pub bytes : List ℕ
  pub tokens : List ℕ
  pub buffers : Buffers

abbrev pub TextAccepted : TextFile → Type 0
TextAccepted f = (text_call 1 f.setting f.bytes f.tokens f.buffers).answer.number ≡ 0

-- the call over its tokens, whose answer and buffers are the text's (TextAnswered.antt, `all_else`)
abbrev pub of_tokens : TextFile → File
of_tokens f = record { setting = f.setting; bytes = f.bytes; tokens = numbers_of (lex f.bytes); buffers = f.buffers }

abbrev pub TextsStayLocal : Type 0
TextsStayLocal =
    (f g : TextFile) → SameSetting (of_tokens f) (of_tokens g) → TextAccepted f → TextAccepted g
    → (a : Semicolon (tree_rows (result (of_tokens f)))) (b : Semicolon (tree_rows (result (of_tokens g))))
    → drop (suc (start_byte a)) f.bytes ≡ drop (suc (start_byte b)) g.bytes → Shared (of_tokens f) (of_tokens g) a b
