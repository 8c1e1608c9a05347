-- The answers of the checks, in the terms of `definitions`.
use Rattle.std.specs.Prelude.{ℕ, cond, Option, None, Some, List, [], ◌∷◌, eqb, get_or, Result, Ok, Err}
use Rattle.definitions.specs.Layout.{TOKEN_LENGTH}
use Rattle.definitions.specs.StaticText.{Text}
use Rattle.definitions.specs.Token.{Token}
use Rattle.definitions.specs.Refusal.{Refusal, too_long, odd_count, bad_kind, zero_length, past_input, short_total, bad_text, Verdict, accepted, refused}
use Rattle.input.specs.declared.causes.Unsound.{Unsound}
use Rattle.input.specs.declared.causes.Unsound.TheVariants.{TooLong, OddCount, BadKind, ZeroLength, PastInput, ShortTotal, BadText}

-- what is wrong: `number_of` and `place_of` of `definitions` give its numbers
abbrev pub cause_of : Unsound → Refusal
cause_of TooLong = too_long
cause_of (OddCount i) = odd_count i.0
cause_of (BadKind i) = bad_kind i.0
cause_of (ZeroLength i) = zero_length i.0
cause_of (PastInput i) = past_input i.0
cause_of (ShortTotal i) = short_total i.0
cause_of (BadText i) = bad_text i.0

-- what an answer means
abbrev pub verdict_of : {A : Type 0} → Result A Unsound → Verdict
verdict_of (Ok x) = accepted
verdict_of (Err e) = refused (cause_of e)

-- a row as a token
abbrev pub token_of : List ℕ → Token
token_of r = record { kind = get_or r 0 0; len = get_or r TOKEN_LENGTH 0 }

-- the fixed spelling of a kind in a table, if it has one
unfoldable pub spelling : List Text → ℕ → Option (List ℕ)
spelling [] k = None
spelling (e ∷ es) k = let r = spelling es k in cond (eqb e.kind k) (Some e.text) r
