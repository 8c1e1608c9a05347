-- The machine as it stands while nothing is refused: it is read off the definitions' state and what was written so far.
use Prim.Native.Nat.{ℕ, suc, ◌+◌, ◌-◌, ◌≤◌, ◌<◌}
use native.Mathlib.Nat.{mod-eq_of_lt}
use native.Mathlib.Omega.{arith}
use mathlib.Core.Path.{◌≡◌, ap, ◌∙◌}
use mathlib.Core.List.{List, ◌∷◌}
use lib.ListN.{length}
use Rattle.definitions.specs.Layout.{TWO_TO_32}
use Rattle.definitions.specs.Token.{Token, byte_count}
use Rattle.definitions.specs.Skeleton.{Report}
use Rattle.definitions.specs.Run.{State, taken, peeked}
use Rattle.definitions.specs.Report.{pool}
use Rattle.basics.specs.Word.{low}
use Rattle.laws.proofs.Listed.{kinds_from, others_from, kinds_of, others_of, Held, held_none}
use Rattle.machine.specs.Machine.{Buffer, Pending, Machine, rest, passed, took}
use Rattle.machine.specs.Outcome.{InputLimits, onto}
use Rattle.machine.proofs.Coded.{low_rows}
use Rattle.machine.proofs.Suffix.{Suffix, suffix_length, suffix_bytes, suffix_drop, suffix_trivia, bytes_trivia}

-- what a call is given: the tokens and the three lent buffers
pub record Ground : Type 0 where
  pub tokens : List Token
  pub events : List ℕ
  pub reports : List ℕ
  pub pool : List ℕ
  pub limits : InputLimits tokens

-- the buffer b with l written to its front
abbrev pub written : List ℕ → List ℕ → Buffer
written l b = record { count = length l; numbers = onto l b }

-- the pending expectations, with their words
abbrev pub held_of : List ℕ → Pending
held_of ks = record { codes = ks; kinds = kinds_of ks; others = others_of ks }

abbrev pub machine_at : ℕ → ℕ → ℕ → ℕ → List ℕ → Buffer → Buffer → Buffer → Machine
machine_at c a m b ks e r p = record { cursor = c; byte = a; mark = m; mark_byte = b; pending = held_of ks; events = e; reports = r; pool = p; refusal = 0; place = 0 }

-- the report numbers of a list of reports
abbrev pub rows_of : Ground → List Report → List ℕ
rows_of g l = low_rows (length g.tokens) (byte_count g.tokens) 0 l

-- e: the event numbers so far. l: the reports so far.
unfoldable pub image : Ground → List ℕ → List Report → State → Machine
unfolding byte_count low_rows pool
image g e l s =
    machine_at (length g.tokens - length s.rest) (byte_count g.tokens - byte_count s.rest) (length g.tokens - length s.since) (byte_count g.tokens - byte_count s.since) s.pending
    (written e g.events) (written (rows_of g l) g.reports) (written (pool l) g.pool)

-- the cursor and the last token taken are places of the file, the cursor no earlier; each expectation is pending once
pub record Inside (g : Ground) (s : State) : Type 0 where
  pub rest : Suffix g.tokens s.rest
  pub since : Suffix g.tokens s.since
  pub order : byte_count s.rest ≤ byte_count s.since
  pub held : Held s.pending

abbrev pub moved : State → List Token → State
moved s l = record { rest = l; since = s.since; pending = s.pending }

pub rest_is : (g : Ground) (e : List ℕ) (l : List Report) (s : State) → Inside g s → rest g.tokens (image g e l s) ≡ s.rest
unfolding image
rest_is g e l s h = suffix_drop g.tokens s.rest h.rest

pub inside_taken : (g : Ground) (l : List Token) → Suffix g.tokens l → Inside g (taken l)
inside_taken g l p = record { rest = p; since = p; order = omega arith; held = held_none }

pub inside_peeked : (g : Ground) (s : State) → Inside g s → Inside g (peeked s)
unfolding peeked
inside_peeked g s h =
    record { rest = suffix_trivia g.tokens s.rest h.rest; since = h.since; order = omega (arith, h.order, bytes_trivia s.rest); held = h.held }

-- ---------------------------------------------------------------- one token further

-- n, b: tokens and bytes of the file
next_index : (n k : ℕ) → suc k ≤ n → n - suc k + 1 ≡ n - k
next_index n k h = omega arith

next_byte : (b k j : ℕ) → j + k ≤ b → b < TWO_TO_32 → low (b - (j + k) + j) ≡ b - k
next_byte b k j h l = let e : b - (j + k) + j ≡ b - k = omega arith in ap low e ∙ mod-eq_of_lt (omega arith)

module _ (g : Ground) (e : List ℕ) (l : List Report) (s : State) (t : Token) (ts : List Token) (p : Suffix g.tokens (t ∷ ts)) where
  index : length g.tokens - suc (length ts) + 1 ≡ length g.tokens - length ts
  index = next_index (length g.tokens) (length ts) (suffix_length g.tokens (t ∷ ts) p)

  pub byte : low (byte_count g.tokens - byte_count (t ∷ ts) + t.len) ≡ byte_count g.tokens - byte_count ts
  unfolding byte_count
  byte = next_byte (byte_count g.tokens) (byte_count ts) t.len (suffix_bytes g.tokens (t ∷ ts) p) g.limits.short

  pub pass_is : passed t (image g e l (moved s (t ∷ ts))) ≡ image g e l (moved s ts)
  unfolding image
  pass_is = rw (index, byte)

  pub took_is : took t (image g e l (moved s (t ∷ ts))) ≡ image g e l (taken ts)
  unfolding image kinds_from others_from
  took_is = rw (index, byte)
