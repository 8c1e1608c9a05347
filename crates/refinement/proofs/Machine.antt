-- A whole entry after the checks of its input: what is asked of tokens and skeleton is met, so the machine's end is the
-- definitions' for every input that passes its checks, with buffers of any lengths and contents.
use Prim.Native.Nat.{ℕ, ◌≤◌}
use native.Mathlib.Omega.{arith}
use mathlib.Core.Path.{sym}
use mathlib.Core.List.{List, [], ◌∷◌, append-nil}
use lib.ListN.{length}
use Rattle.definitions.specs.Layout.{MOST_TOKENS}
use Rattle.definitions.specs.Token.{Token, tokens_of}
use Rattle.definitions.specs.Grammar.{Entry}
use Rattle.definitions.specs.Report.{pushes}
use Rattle.definitions.specs.Call.{run_entry}
use Rattle.laws.proofs.Input.{AllGood, Checked, checked_input}
use Rattle.bounds.specs.Numbers.{Bounded}
use Rattle.bounds.proofs.Numbers.{bounded}
use Rattle.machine.specs.Outcome.{NoEmptyToken, InputLimits, Small, MachineEnds}
use Rattle.machine.proofs.Whole.{machine_ends}

all_filled : (ts : List Token) → AllGood ts → NoEmptyToken ts
all_filled [] h = tt
all_filled (t ∷ ts) h = (h.0.len, all_filled ts h.1)

pub limits_hold : (bytes tokens : List ℕ) → Checked bytes tokens → InputLimits (tokens_of tokens)
limits_hold bytes tokens h = record { few = omega (arith, h.pairs, h.numbers_limit); short = omega (arith, h.covered, h.bytes_limit); none_empty = all_filled (tokens_of tokens) h.good }

pub entry_small : (e : Entry) (ts : List Token) → length ts ≤ MOST_TOKENS → Small (run_entry e ts)
entry_small e ts few =
    let b : Bounded e ts = bounded e ts in
    let p = pushes (run_entry e ts) in
    record { events_fit = omega (arith, b.all_events); pool_fits = omega (arith, b.pool_so_far p [] (sym (append-nil p))) }

-- THE MACHINE'S END
pub entry_ends : MachineEnds
entry_ends e bytes tokens events₀ reports₀ pool₀ h =
    let l : InputLimits (tokens_of tokens) = limits_hold bytes tokens (checked_input bytes tokens h) in
    machine_ends e (tokens_of tokens) events₀ reports₀ pool₀ l (λ z q. entry_small e (tokens_of tokens) l.few)
