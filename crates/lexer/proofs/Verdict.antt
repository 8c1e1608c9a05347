-- The verdict on a text, put together as the code does: the lower of two offsets, room, all of it.
use Prim.Native.Nat.{ℕ, ◌<◌, ◌≤◌}
use mathlib.Core.Path.{◌≡◌, refl, sym, ◌∙◌, ap}
use mathlib.Core.List.{List}
use lib.ListN.{length}
use borrow.Author.Tests.{le-leb, lt-leb}
use Rattle.std.specs.Prelude.{Option, Some, None, Result, Ok, Err}
use Rattle.definitions.specs.Layout.{MOST_BYTES}
use Rattle.definitions.specs.Lex.{lex}
use Rattle.definitions.specs.Text.{high_byte, TextVerdict, lower, ◌or_then◌, numbers_of, check_text}
use Rattle.lexer.specs.Found.{offset_of, Lexes, verdict_of, FitsRoom, Lower, Checks}
use Rattle.lexer.specs.declared.rows.Directive.{Directive}
use Rattle.lexer.specs.declared.check.Cause.{Cause}
use Rattle.lexer.specs.declared.check.Cause.TheVariants as C

-- ---------------------------------------------------------------- the lower of two offsets

module _ (high : Option ℕ) (lexed : Result ℕ Directive) where
  pub neither : (n : ℕ) → high ≡ None → lexed ≡ Ok n → Lower high lexed (Ok n)
  unfolding lower
  neither n e f = record { verdict = rw (e, f); counted = λ m i. let j : n ≡ m = cc in f ∙ ap Ok j }

  pub only_directive : (d : Directive) → high ≡ None → lexed ≡ Err d → Lower high lexed (Err (C.Directive d.at))
  unfolding lower
  only_directive d e f = record { verdict = rw (e, f); counted = λ n i. cc }

  pub directive_first : (h : ℕ) (d : Directive) → high ≡ Some h → lexed ≡ Err d → d.at < h → Lower high lexed (Err (C.Directive d.at))
  unfolding lower
  directive_first h d e f l = record { verdict = rw (e, f, lt-leb h d.at l); counted = λ n i. cc }

  pub only_high : (h n : ℕ) → high ≡ Some h → lexed ≡ Ok n → Lower high lexed (Err (C.HighByte h))
  unfolding lower
  only_high h n e f = record { verdict = rw (e, f); counted = λ n i. cc }

  pub high_first : (h : ℕ) (d : Directive) → high ≡ Some h → lexed ≡ Err d → h ≤ d.at → Lower high lexed (Err (C.HighByte h))
  unfolding lower
  high_first h d e f l = record { verdict = rw (e, f, le-leb h d.at l); counted = λ n i. cc }

-- ---------------------------------------------------------------- the text

pub many_bytes : (bytes : List ℕ) (room : ℕ) → MOST_BYTES < length bytes → Checks bytes room (Err C.TooLong)
unfolding check_text
many_bytes bytes room h = record { verdict = rw (lt-leb (length bytes) MOST_BYTES h); counted = λ n i. cc }

-- what is refused stays so
stays : (x : Cause) (v : TextVerdict) → (verdict_of (Err x) or_then v) ≡ verdict_of (Err x)
unfolding ◌or_then◌
stays C.TooLong v = refl
stays (C.HighByte i) v = refl
stays (C.Directive i) v = refl

module _ {rows rows' : List ℕ} (bytes : List ℕ) (high : Option ℕ) (lexed : Result ℕ Directive) (room : ℕ) (h : length bytes ≤ MOST_BYTES)
    (e : offset_of high ≡ high_byte 0 bytes) (l : Lexes bytes rows rows' lexed) where
  pub refused : (x : Cause) → Lower high lexed (Err x) → Checks bytes room (Err x)
  unfolding check_text ◌or_then◌
  refused x v =
      record {
        verdict = rw (le-leb (length bytes) MOST_BYTES h, ← e, ← l.found, ← v.verdict) (sym (stays x _));
        counted = λ n i. cc;
      }

  pub all_checked : (n : ℕ) (r : Result ℕ Cause) → Lower high lexed (Ok n) → FitsRoom n room r → Checks bytes room r
  unfolding check_text ◌or_then◌
  all_checked n r v f =
      let c : n ≡ length (numbers_of (lex bytes)) = l.counted n (v.counted n refl) in
      record {
        verdict = rw (le-leb (length bytes) MOST_BYTES h, ← e, ← l.found, ← v.verdict, ← c) f.verdict;
        counted = λ m i. f.counted m i ∙ c;
      }
