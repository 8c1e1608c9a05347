-- What the checks of the input answer. No part of the exported promise.
use Rattle.std.specs.Prelude.{ℕ, ◌≡◌, List}
use Rattle.definitions.specs.Refusal.{Refusal, refused}
use Rattle.definitions.specs.RowCauses.{check_input}
use Rattle.definitions.specs.Call.{refusal}
use Rattle.call.specs.declared.Answer.{Answer}
use Rattle.call.specs.Result.{answer_of}

-- the answer to an input that is refused, with a cause of 2 to 4 or 11 to 13
pub record Refused (a : Answer) (bytes tokens : List ℕ) : Type 0 where
  pub cause : Refusal
  pub verdict : check_input bytes tokens ≡ refused cause
  pub answer : answer_of a ≡ refusal cause
