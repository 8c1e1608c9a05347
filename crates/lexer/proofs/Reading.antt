-- A text read into a buffer: what its verdict says of the bytes, the directive and the room, and so of the second pass.
use Prim.Native.Nat.{ℕ, ◌≤◌}
use native.Mathlib.Omega.{arith}
use mathlib.Core.Path.{◌≡◌, refl, sym, ◌∙◌, ap, subst}
use mathlib.Core.Bool.{Bool, true, false, cond, ◌&&◌}
use mathlib.Core.List.{List, ◌++◌}
use lib.Dec.{leb}
use lib.ListN.{length, drop}
use borrow.Author.Tests.{leb-true}
use Rattle.definitions.specs.Layout.{MOST_BYTES, MOST_TOKEN_NUMBERS}
use Rattle.definitions.specs.Lex.{lex}
use Rattle.definitions.specs.Text.{Offset, nowhere, found_at, TextRefusal, has_high_byte, has_directive, TextVerdict, sound, unsound, high_byte, directive, lower, ◌or_then◌, fit, numbers_of, check_text}
use Rattle.std.specs.Prelude.{Result, Ok, Err}
use Rattle.lexer.specs.Found.{directive_of, Lexes, Checks, Reads}
use Rattle.lexer.specs.declared.rows.Directive.{Directive}

-- what a sound verdict says: the bytes are few, no directive is there, and the numbers fit
pub record SoundText (bytes : List ℕ) (room : ℕ) : Type 0 where
  pub few : length bytes ≤ MOST_BYTES
  pub no_directive : directive 0 bytes (lex bytes) ≡ nowhere
  pub allowed : length (numbers_of (lex bytes)) ≤ MOST_TOKEN_NUMBERS
  pub room_enough : length (numbers_of (lex bytes)) ≤ room

abbrev is_sound : TextVerdict → ℕ
is_sound sound = 1
is_sound (unsound x) = 0

not_both : {x : TextRefusal} → sound ≡ unsound x → ⊥
not_both e = let z : ◌≡◌ {A = ℕ} 1 0 = ap is_sound e in absurd (omega (arith, z))

sound_parts : (few allowed fits : Bool) (o d : Offset) → sound ≡ (fit few or_then lower o d or_then fit (allowed && fits))
    → (few ≡ true) × (d ≡ nowhere) × (allowed ≡ true) × (fits ≡ true)
unfolding ◌or_then◌ lower
sound_parts true true true nowhere nowhere e = (refl, refl, refl, refl)
sound_parts true true false nowhere nowhere e = absurd (not_both e)
sound_parts true false x nowhere nowhere e = absurd (not_both e)
sound_parts true a x nowhere (found_at j) e = absurd (not_both e)
sound_parts true a x (found_at i) nowhere e = absurd (not_both e)
sound_parts true a x (found_at i) (found_at j) e = absurd (go (leb i j) e)
  where
    go : (b : Bool) → sound ≡ (cond b (unsound (has_high_byte i)) (unsound (has_directive j)) or_then fit (a && x)) → ⊥
    go true f = not_both f
    go false f = not_both f
sound_parts false a x o d e = absurd (not_both e)

pub sound_text : (bytes : List ℕ) (room : ℕ) → sound ≡ check_text bytes (lex bytes) room → SoundText bytes room
unfolding check_text
sound_text bytes room e =
    let m = length (numbers_of (lex bytes)) in
    let p =
    sound_parts (leb (length bytes) MOST_BYTES) (leb m MOST_TOKEN_NUMBERS) (leb m room) (high_byte 0 bytes)
    (directive 0 bytes (lex bytes)) e
    in
    record {
      few = leb-true (length bytes) MOST_BYTES p.0;
      no_directive = p.1;
      allowed = leb-true m MOST_TOKEN_NUMBERS p.2;
      room_enough = leb-true m room p.3;
    }

-- the second pass counts what the first did
pub read_sound : (bytes tokens tokens' : List ℕ) (n : ℕ) (lexed : Result ℕ Directive) → Checks bytes (length tokens) (Ok n)
    → Lexes bytes tokens tokens' lexed → Reads bytes tokens tokens' (Ok n)
read_sound bytes tokens tokens' n lexed c l =
    let s = sound_text bytes (length tokens) c.verdict in
    record {
      verdict = c.verdict;
      counted = c.counted;
      written = λ m i. go lexed l (l.found ∙ s.no_directive) m (c.counted m i) s.room_enough;
      refused = λ x i. cc;
      same_length = l.same_length;
    }
  where
    go : (x : Result ℕ Directive) → Lexes bytes tokens tokens' x → directive_of x ≡ nowhere → (m : ℕ) → m ≡ length (numbers_of (lex bytes))
        → length (numbers_of (lex bytes)) ≤ length tokens → tokens' ≡ numbers_of (lex bytes) ++ drop m tokens
    go (Err d) l e m h k = cc
    go (Ok i) l e m h k =
        let j : i ≡ m = l.counted i refl ∙ sym h in
        subst (λ (x : ℕ). tokens' ≡ numbers_of (lex bytes) ++ drop x tokens) j (l.written i refl (omega (arith, h, j, k)))
