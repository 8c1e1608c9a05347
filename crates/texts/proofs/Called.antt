-- Every way that a call over a text goes, once; and what `check_text` finds in each.
use Prim.Native.Nat.{ℕ, ◌*◌, ◌≤◌}
use native.Mathlib.Omega.{arith}
use mathlib.Core.Path.{sym, subst}
use mathlib.Core.Bool.{Bool, ◌&&◌}
use mathlib.Core.List.{List}
use lib.Dec.{leb}
use lib.ListN.{length}
use Rattle.definitions.specs.Grammar.{Entry}
use Rattle.definitions.specs.Lex.{lex}
use Rattle.definitions.specs.Call.{Buffers, Asked, call}
use Rattle.definitions.specs.Text.{TextRefusal, unknown_entry, too_long, has_high_byte, has_directive, TextVerdict, sound, unsound, ◌or_then◌, fit, numbers_of, check_text, TextResult, unchanged, with_rows, checked_text, asked_text, text_call}
use Rattle.refusals.specs.Refusals.{Passes1}
use Rattle.refusals.proofs.Tests.{Decides, holds, not_so, both, leb_decides}
use Rattle.refusals.proofs.Entries.{Asks, known, not_known, asks}
use Rattle.lexing.proofs.RowsPass.{numbers_length, rows_pass}
use Rattle.texts.specs.Plain.{HighAt, DirectiveAt, Plain}
use Rattle.texts.specs.TextRefusals.{FewBytes, Room}
use Rattle.texts.proofs.Judged.{NotBelow, Judged, plain, high, directs, judged}
use Rattle.refusals.proofs.Late.{Late, late}

-- ---------------------------------------------------------------- the checks

-- the numbers of the tokens are within the limit, and fit the buffer
pub room_decides : (bytes tokens : List ℕ)
    → Decides (Room bytes tokens) (leb (length (numbers_of (lex bytes))) 131072 && leb (length (numbers_of (lex bytes))) (length tokens))
room_decides bytes tokens =
    subst (λ (n : ℕ). Decides (Room bytes tokens) (leb n 131072 && leb n (length tokens))) (sym (numbers_length (lex bytes)))
    (both _ _ (leb_decides (2 * length (lex bytes)) 131072) (leb_decides (2 * length (lex bytes)) (length tokens)))

-- what is found, in order
pub data Checked (bytes tokens : List ℕ) : TextVerdict → Type 0 where
  many_bytes : ¬ (length bytes ≤ 1048576) → Checked bytes tokens (unsound too_long)
  high_first : length bytes ≤ 1048576 → (i : ℕ) → HighAt bytes i → NotBelow i (HighAt bytes) → NotBelow i (DirectiveAt bytes)
      → Checked bytes tokens (unsound (has_high_byte i))
  directive_first : length bytes ≤ 1048576 → (i : ℕ) → DirectiveAt bytes i → NotBelow i (DirectiveAt bytes) → NotBelow i (HighAt bytes)
      → Checked bytes tokens (unsound (has_directive i))
  many_numbers : length bytes ≤ 1048576 → Plain bytes → ¬ Room bytes tokens → Checked bytes tokens (unsound too_long)
  all_right : length bytes ≤ 1048576 → Plain bytes → Room bytes tokens → Checked bytes tokens sound

pub checked : (bytes tokens : List ℕ) → Checked bytes tokens (check_text bytes (lex bytes) (length tokens))
unfolding check_text ◌or_then◌
checked bytes tokens = by _ _ _ (leb_decides (length bytes) 1048576) (judged bytes) (room_decides bytes tokens)
  where
    by : (s : Bool) (v : TextVerdict) (t : Bool) → Decides (length bytes ≤ 1048576) s → Judged bytes v → Decides (Room bytes tokens) t
        → Checked bytes tokens (fit s or_then v or_then fit t)
    by s v t (not_so h) j r = many_bytes h
    by s v t (holds h) (high i x m n) r = high_first h i x m n
    by s v t (holds h) (directs i x m n) r = directive_first h i x m n
    by s v t (holds h) (plain p) (not_so r) = many_numbers h p r
    by s v t (holds h) (plain p) (holds r) = all_right h p r

-- ---------------------------------------------------------------- the call

abbrev pub rows : List ℕ → List ℕ
rows bytes = numbers_of (lex bytes)

pub data Called (n setting : ℕ) (bytes tokens : List ℕ) (b : Buffers) : TextResult → Type 0 where
  not_an_entry : ¬ ((1 ≤ n) × (n ≤ 4)) → Called n setting bytes tokens b (unchanged unknown_entry tokens b)
  refused : (e : Entry) → Passes1 n e → (r : TextRefusal) → Checked bytes tokens (unsound r) → Called n setting bytes tokens b (unchanged r tokens b)
  parsed : (e : Entry) → FewBytes n bytes e → Plain bytes → Room bytes tokens → Late (call n setting bytes (rows bytes) b).answer.number
      → Called n setting bytes tokens b (with_rows (rows bytes) tokens (call n setting bytes (rows bytes) b))

pub called : (n setting : ℕ) (bytes tokens : List ℕ) (b : Buffers) → Called n setting bytes tokens b (text_call n setting bytes tokens b)
unfolding text_call asked_text checked_text
called n setting bytes tokens b = by _ (asks n)
  where
    end : (e : Entry) → Passes1 n e → (v : TextVerdict) → Checked bytes tokens v
        → Called n setting bytes tokens b (checked_text v n setting bytes (rows bytes) tokens b)
    end e p v (many_bytes h) = refused e p too_long (many_bytes h)
    end e p v (high_first h i x m k) = refused e p (has_high_byte i) (high_first h i x m k)
    end e p v (directive_first h i x m k) = refused e p (has_directive i) (directive_first h i x m k)
    end e p v (many_numbers h q r) = refused e p too_long (many_numbers h q r)
    end e p v (all_right h q r) =
        let few : length (rows bytes) ≤ 131072 = omega (arith, numbers_length (lex bytes), r.0) in
        parsed e (p, h) q r (late n setting bytes (rows bytes) b e p (h, few) (rows_pass bytes h few))

    by : (x : Asked) → Asks n x → Called n setting bytes tokens b (asked_text x n setting bytes tokens b)
    by x (not_known h) = not_an_entry h
    by x (known e p) = end e p _ (checked bytes tokens)
