-- The text of a list of cases, read from the front.
use Rattle.std.specs.Prelude.{◌≡◌, ℕ, ◌≤◌, List, length, drop}
use Rattle.cases.specs.declared.scan.Scanner.{Scanner}

-- what is left of a text when so many bytes of its front are read
pub record IsTail (text rest : List ℕ) : Type 0 where
  pub read : ℕ
  pub within : read ≤ length text
  pub left : rest ≡ drop read text

-- who reads on from the old scanner comes to the new one: what that has left is a tail of what the old one had
abbrev pub ReadsOn : Scanner → Scanner → Type 0
ReadsOn old new = IsTail old.rest.now new.rest.now

-- no more is left than was
abbrev pub NoLonger : Scanner → Scanner → Type 0
NoLonger old new = length new.rest.now ≤ length old.rest.now
