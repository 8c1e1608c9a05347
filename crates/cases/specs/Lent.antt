-- Buffers before a call.
use Rattle.std.specs.Prelude.{◌≡◌, ℕ, List, replicate}
use Rattle.cases.specs.declared.lend.Sizes.{Sizes}
use Rattle.cases.specs.declared.lend.Buffers.{Buffers}

-- what each number is
abbrev pub LENT : ℕ
LENT = 4042322160

-- a buffer of so many
abbrev pub lent : ℕ → List ℕ
lent n = replicate n LENT

-- each buffer has the size that is asked for, and nothing is written in it
pub record IsLent (sizes : Sizes) (b : Buffers) : Type 0 where
  pub events : b.events.items ≡ lent sizes.events
  pub trees : b.trees.items ≡ lent sizes.trees
  pub errors : b.errors.items ≡ lent sizes.errors
  pub reports : b.reports.items ≡ lent sizes.reports
  pub pool : b.pool.items ≡ lent sizes.pool
