-- Answers that are more than yes and no. What the contracts of the grammar cite.
use Rattle.std.specs.Prelude.{ℕ}
use Rattle.parser.specs.declared.Ans.{Ans as CodeAns}
use Rattle.parser.specs.declared.Ans.TheVariants.{No, Yes, Also, Again}

-- how many tokens were surely taken where a function answers so: one for `Again`
abbrev pub took_if_again : CodeAns → ℕ
took_if_again No = 0
took_if_again Yes = 0
took_if_again Also = 0
took_if_again Again = 1

-- the same: one for any answer but `No`
abbrev pub took_unless_no : CodeAns → ℕ
took_unless_no No = 0
took_unless_no Yes = 1
took_unless_no Also = 1
took_unless_no Again = 1
