-- What a call over a text answers. No part of the exported promise.
use Rattle.std.specs.Prelude.{ℕ, ◌/◌, cond, List, eqb}
use Rattle.definitions.specs.Layout.{TOKEN_ROW}
use Rattle.refinement.specs.Ends.{wiped}
use Rattle.call.specs.declared.Answer.{Answer}
use Rattle.call.specs.declared.text.TextAnswer.{TextAnswer}
use Rattle.call.specs.Ended.{refused_with}

abbrev pub refused_text_with : ℕ → ℕ → TextAnswer
refused_text_with n p = record { answer = refused_with n p; token_count = 0 }

-- an answer with so many token numbers, and what is left of their buffer
abbrev pub rows_kept : Answer → ℕ → TextAnswer
rows_kept a n = record { answer = a; token_count = cond (eqb a.number 0) (n / TOKEN_ROW) 0 }

abbrev pub rows_left : Answer → ℕ → List ℕ → List ℕ
rows_left a n tokens = cond (eqb a.number 0) (wiped n tokens) (wiped 0 tokens)
