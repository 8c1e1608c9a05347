-- `accepted_is_plain`: a call that returns 0 has come to the parse, and so has passed 9 and 10.
use Prim.Native.Nat.{ℕ}
use native.Mathlib.Omega.{arith}
use mathlib.Core.Path.{◌≡◌, refl}
use mathlib.Core.Logic.{inl, inr}
use Rattle.definitions.specs.Text.{TextRefusal, unknown_entry, too_long, has_high_byte, has_directive, text_number, TextResult}
use Rattle.texts.specs.Plain.{Plain, AcceptedIsPlain}
use Rattle.texts.specs.TextAnswered.{BeforeTheParse}
use Rattle.texts.proofs.Called.{Called, not_an_entry, refused, parsed, called}

-- the numbers of a text's own refusals
pub by_number : (r : TextRefusal) → BeforeTheParse (text_number r)
unfolding text_number
by_number unknown_entry = inl refl
by_number too_long = inr (inl refl)
by_number (has_high_byte i) = inr (inr (inl refl))
by_number (has_directive i) = inr (inr (inr refl))

-- each is 1, 2, 9 or 10, and no other
pub not_0 : (k : ℕ) → BeforeTheParse k → ¬ (k ≡ 0)
not_0 k (inl e) h = omega (arith, e, h)
not_0 k (inr (inl e)) h = omega (arith, e, h)
not_0 k (inr (inr (inl e))) h = omega (arith, e, h)
not_0 k (inr (inr (inr e))) h = omega (arith, e, h)

pub accepted_is_plain : AcceptedIsPlain
accepted_is_plain n setting bytes tokens b = by _ (called n setting bytes tokens b)
  where
    by : (x : TextResult) → Called n setting bytes tokens b x → x.answer.number ≡ 0 → Plain bytes
    by x (not_an_entry h) e = absurd (not_0 _ (by_number unknown_entry) e)
    by x (refused f p r c) e = absurd (not_0 _ (by_number r) e)
    by x (parsed f p q r l) e = q
