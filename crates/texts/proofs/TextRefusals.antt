-- `text_refusals`: a call has the cause of the way that it goes; and a cause gives what is returned, since each check
-- finds one thing only.
use Prim.Native.Nat.{ℕ, ◌≤◌, ◌<◌}
use native.Mathlib.Omega.{arith}
use mathlib.Core.Path.{◌≡◌, refl, ap, ◌∙◌, subst₂}
use mathlib.Core.Logic.{◌⊎◌, inl, inr}
use mathlib.Core.List.{List}
use lib.ListN.{length}
use Rattle.definitions.specs.Grammar.{Entry}
use Rattle.definitions.specs.Lex.{lex}
use Rattle.definitions.specs.Call.{Buffers, Asked, call}
use Rattle.definitions.specs.Text.{TextRefusal, too_long, has_high_byte, has_directive, text_number, text_place, TextVerdict, sound, unsound, ◌or_then◌, check_text, TextResult, unchanged, with_rows, checked_text, asked_text, text_call}
use Rattle.definitions.specs.Text as D
use Rattle.refusals.specs.Refusals.{Passes1}
use Rattle.refusals.proofs.Tests.{decided, refuted, leb_decides}
use Rattle.refusals.proofs.Entries.{entry_eq, unknown_eq}
use Rattle.refusals.proofs.Refusals.{refusals}
use Rattle.texts.specs.Plain.{Plain}
use Rattle.texts.specs.TextRefusals.{Room, TextCause, unknown_entry, too_many_bytes, high_byte, directive, too_many_numbers, as_its_tokens, TextRefusals}
use Rattle.texts.proofs.Judged.{Judged, plain, high, directs, judged, only}
use Rattle.texts.proofs.Called.{room_decides, many_bytes, high_first, directive_first, many_numbers, rows, Called, not_an_entry, refused, parsed, called}

-- ---------------------------------------------------------------- a call has its cause

has_cause : (n setting : ℕ) (bytes tokens : List ℕ) (b : Buffers) (x : TextResult) → Called n setting bytes tokens b x
    → TextCause n setting bytes tokens b x.answer.number x.answer.place
unfolding text_number text_place with_rows
has_cause n setting bytes tokens b x (not_an_entry h) = unknown_entry h
has_cause n setting bytes tokens b x (refused e p r (many_bytes h)) = too_many_bytes e p h
has_cause n setting bytes tokens b x (refused e p r (high_first h i y m k)) = high_byte e (p, h) i y m k
has_cause n setting bytes tokens b x (refused e p r (directive_first h i y m k)) = directive e (p, h) i y m k
has_cause n setting bytes tokens b x (refused e p r (many_numbers h q y)) = too_many_numbers e (p, h) q y
has_cause n setting bytes tokens b x (parsed e p q y l) = as_its_tokens e p q y _ _ ((refusals n setting bytes (rows bytes) b _ _).0 (refl, refl))

-- ---------------------------------------------------------------- a cause gives what is returned

module _ (n setting : ℕ) (bytes tokens : List ℕ) (b : Buffers) where
  abbrev Returned : ℕ → ℕ → Type 0
  Returned k p = ((text_call n setting bytes tokens b).answer.number ≡ k) × ((text_call n setting bytes tokens b).answer.place ≡ p)

  returned : (x : TextResult) → text_call n setting bytes tokens b ≡ x → Returned x.answer.number x.answer.place
  returned x h = (ap (λ (y : TextResult). y.answer.number) h, ap (λ (y : TextResult). y.answer.place) h)

  checks : (e : Entry) → Passes1 n e → (v : TextVerdict) → check_text bytes (lex bytes) (length tokens) ≡ v
      → text_call n setting bytes tokens b ≡ checked_text v n setting bytes (rows bytes) tokens b
  unfolding text_call asked_text
  checks e p v h =
      ap (λ (x : Asked). asked_text x n setting bytes tokens b) (entry_eq n e p)
      ∙ ap (λ (w : TextVerdict). checked_text w n setting bytes (rows bytes) tokens b) h

  refuses : (e : Entry) → Passes1 n e → (r : TextRefusal) → check_text bytes (lex bytes) (length tokens) ≡ unsound r
      → Returned (text_number r) (text_place r)
  unfolding checked_text
  refuses e p r h = returned (unchanged r tokens b) (checks e p (unsound r) h)

  long : ¬ (length bytes ≤ 1048576) → check_text bytes (lex bytes) (length tokens) ≡ unsound too_long
  unfolding check_text ◌or_then◌
  long h = rw (refuted _ (leb_decides (length bytes) 1048576) h)

  past_bytes : length bytes ≤ 1048576 → (r : TextRefusal) → Judged bytes (unsound r) → check_text bytes (lex bytes) (length tokens) ≡ unsound r
  unfolding check_text ◌or_then◌
  past_bytes h r j =
      rw (decided _ (leb_decides (length bytes) 1048576) h, only bytes _ (unsound r) (judged bytes) j)

  full : length bytes ≤ 1048576 → Plain bytes → ¬ Room bytes tokens → check_text bytes (lex bytes) (length tokens) ≡ unsound too_long
  unfolding check_text ◌or_then◌
  full h p r =
      rw (decided _ (leb_decides (length bytes) 1048576) h, only bytes _ sound (judged bytes) (plain p), refuted _ (room_decides bytes tokens) r)

  all_pass : length bytes ≤ 1048576 → Plain bytes → Room bytes tokens → check_text bytes (lex bytes) (length tokens) ≡ sound
  unfolding check_text ◌or_then◌
  all_pass h p r =
      rw (decided _ (leb_decides (length bytes) 1048576) h, only bytes _ sound (judged bytes) (plain p), decided _ (room_decides bytes tokens) r)

  returns : (k p : ℕ) → TextCause n setting bytes tokens b k p → Returned k p
  unfolding text_call asked_text text_number text_place with_rows checked_text
  returns k p (unknown_entry h) = returned (unchanged D.unknown_entry tokens b) (ap (λ (x : Asked). asked_text x n setting bytes tokens b) (unknown_eq n h))
  returns k p (too_many_bytes e q h) = refuses e q too_long (long h)
  returns k p (high_byte e q i x m l) = refuses e q.0 (has_high_byte i) (past_bytes q.1 (has_high_byte i) (high i x m l))
  returns k p (directive e q i x m l) = refuses e q.0 (has_directive i) (past_bytes q.1 (has_directive i) (directs i x m l))
  returns k p (too_many_numbers e q x h) = refuses e q.0 too_long (full q.1 x h)
  returns k p (as_its_tokens e q x h i j c) =
      let a = returned (with_rows (rows bytes) tokens (call n setting bytes (rows bytes) b)) (checks e q.0 sound (all_pass q.1 x h)) in
      let r = (refusals n setting bytes (rows bytes) b i j).1 c in
      (a.0 ∙ r.0, a.1 ∙ r.1)

-- ---------------------------------------------------------------- 3, 4 and 11 to 13

by_way : (n setting : ℕ) (bytes tokens : List ℕ) (b : Buffers) (x : TextResult) → Called n setting bytes tokens b x
    → (x.answer.number ≤ 2) ⊎ ((5 ≤ x.answer.number) × (x.answer.number ≤ 10))
unfolding text_number with_rows
by_way n setting bytes tokens b x (not_an_entry h) = inl (omega arith)
by_way n setting bytes tokens b x (refused e p too_long c) = inl (omega arith)
by_way n setting bytes tokens b x (refused e p D.unknown_entry c) = inl (omega arith)
by_way n setting bytes tokens b x (refused e p (has_high_byte i) c) = inr (omega arith, omega arith)
by_way n setting bytes tokens b x (refused e p (has_directive i) c) = inr (omega arith, omega arith)
by_way n setting bytes tokens b x (parsed e p q r (inl h)) = inl (omega (arith, h))
by_way n setting bytes tokens b x (parsed e p q r (inr h)) = inr (h.0, omega (arith, h.1))

-- so none between 2 and 5, and none above 10
not_between : (k : ℕ) → (k ≤ 2) ⊎ ((5 ≤ k) × (k ≤ 10)) → 2 < k → k < 5 → ⊥
not_between k (inl h) l m = omega (arith, h, l)
not_between k (inr h) l m = omega (arith, h.0, m)

not_above : (k : ℕ) → (k ≤ 2) ⊎ ((5 ≤ k) × (k ≤ 10)) → 10 < k → ⊥
not_above k (inl h) l = omega (arith, h, l)
not_above k (inr h) l = omega (arith, h.1, l)

pub text_refusals : TextRefusals
text_refusals =
    record {
      by_cause = λ n setting bytes tokens b k p. (
        λ h. subst₂ (TextCause n setting bytes tokens b) h.0 h.1 (has_cause n setting bytes tokens b _ (called n setting bytes tokens b)),
        returns n setting bytes tokens b k p,
      );
      not_3 = λ n setting bytes tokens b e. not_between _ (by_way n setting bytes tokens b _ (called n setting bytes tokens b)) (omega (arith, e)) (omega (arith, e));
      not_4 = λ n setting bytes tokens b e. not_between _ (by_way n setting bytes tokens b _ (called n setting bytes tokens b)) (omega (arith, e)) (omega (arith, e));
      not_11_to_13 = λ n setting bytes tokens b g. not_above _ (by_way n setting bytes tokens b _ (called n setting bytes tokens b)) (omega (arith, g.0));
    }
