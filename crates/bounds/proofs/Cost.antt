-- How much a program makes, computed on the program itself. Each token that the cursor passes brings credit; each
-- event, each report costs. A program's bill says for each answer at most how much more it costs than its tokens bring.
-- A loop goes on only if the cursor moved: where such a turn costs no more than the tokens that it passed bring, a loop
-- costs no more than its last turn. A call has its bill from a table, and the table is right if each function's program
-- keeps to it (Tables).
use Prim.Native.Nat.{ℕ, suc, ◌+◌, ◌-◌, max}
use mathlib.Core.Bool.{Bool, true, false, cond, ◌&&◌}
use lib.Dec.{leb}
use Rattle.definitions.specs.Prog.{Ans, no, yes, also, again, Rule, Act, silent_at, at_end, immediate, immediate_next, add_expected, bump, bump_name, bump_argument, emit, emit_unclosed, less, Prog, ret, act, ◌⨟◌, case, in_marker, loop, chain, brace, open_call}
use Rattle.bounds.proofs.Row.{Key, still, there, took, Row, get, moved, any, at, ◌⊔◌, raise, then, stopped, turns}

-- what a token or a name costs, what a marker (its two events), what a report; what a token that the cursor passes
-- brings;
-- and the number that stands for cost 0
pub record Price : Type 0 where
  pub leaf : ℕ
  pub marker : ℕ
  pub report : ℕ
  pub credit : ℕ
  pub base : ℕ

-- ---------------------------------------------------------------- bills

-- ok: each loop in it pays for its turns. cold: entered with nothing known. warm: entered with a token there.
pub record Bill : Type 0 where
  pub ok : Bool
  pub cold : Row
  pub warm : Row

-- the key at entry
abbrev pub here : Bool → Key
here false = still
here true = there

abbrev pub side : Bill → Bool → Row
side b false = b.cold
side b true = b.warm

-- a token taken
abbrev pub fee : Price → ℕ
fee w = suc (w.leaf + w.base - suc w.credit)

unfoldable pub act_row : Price → Act → Bool → Row
unfolding at ◌⊔◌
act_row w (silent_at ks) d = at no (here d) w.base ⊔ at yes there w.base
act_row w at_end false = at no there w.base ⊔ at yes still w.base
act_row w at_end true = at no there w.base
act_row w (immediate k) d = at no (here d) w.base ⊔ at yes (here d) w.base
act_row w (immediate_next k) d = at no (here d) w.base ⊔ at yes (here d) w.base
act_row w (add_expected k) d = at yes (here d) w.base
act_row w bump false = at yes still w.base ⊔ at yes took (fee w)
act_row w bump true = at yes took (fee w)
act_row w (bump_name ks) false = at yes still w.base ⊔ at yes took (fee w)
act_row w (bump_name ks) true = at yes took (fee w)
act_row w bump_argument d = (at no still w.base ⊔ at no took (fee w)) ⊔ (at yes still w.base ⊔ at yes took (fee w))
act_row w (emit m h) d = at yes (here d) (w.report + w.base)
act_row w emit_unclosed d = at yes (here d) (w.report + w.base)
act_row w (less m n) d = at no (here d) w.base ⊔ at yes (here d) w.base

-- after any answer of f
unfoldable pub seq_row : ℕ → Row → Bill → Row
unfolding then
seq_row m f q = then m (any f still) (any f there) (any f took) q.cold q.warm

-- after no: n. After yes or again: y. After also: a.
unfoldable pub case_row : ℕ → Row → Bill → Bill → Bill → Row
unfolding then ◌⊔◌
case_row m f n y a =
    then m f.no_still f.no_there f.no_took n.cold n.warm
    ⊔ then m (max f.yes_still f.again_still) (max f.yes_there f.again_there) (max f.yes_took f.again_took) y.cold y.warm
    ⊔ then m f.also_still f.also_there f.also_took a.cold a.warm

unfoldable pub seq_bill : ℕ → Bill → Bill → Bill
unfolding seq_row
seq_bill m p q = record { ok = p.ok && q.ok; cold = seq_row m p.cold q; warm = seq_row m p.warm q }

unfoldable pub case_bill : ℕ → Bill → Bill → Bill → Bill → Bill
unfolding case_row
case_bill m c n y a = record { ok = (c.ok && n.ok) && (y.ok && a.ok); cold = case_row m c.cold n y a; warm = case_row m c.warm n y a }

-- whether also is answered; if not, what would follow is not looked at
unfoldable pub answers_also : Bill → Bool
answers_also c = leb 1 (max (max c.cold.also_still (max c.cold.also_there c.cold.also_took)) (max c.warm.also_still (max c.warm.also_there c.warm.also_took)))

abbrev pub never : Bill
unfolding at
never = record { ok = true; cold = at no still 0; warm = at no still 0 }

unfoldable pub raise_bill : ℕ → Bill → Bill
unfolding raise
raise_bill n p = record { ok = p.ok; cold = raise n p.cold; warm = raise n p.warm }

-- a turn that goes on costs no more than its tokens bring
unfoldable pub pays : Price → Row → Bool
unfolding moved
pays w u = leb (moved w.credit u.again_still u.again_there u.again_took) w.base

unfoldable pub loop_bill : Price → Bill → Bill
unfolding turns pays
loop_bill w q =
    record {
      ok = q.ok && pays w q.cold;
      cold = turns w.credit w.base w.base 0 0 q.cold q.warm;
      warm = turns w.credit w.base 0 w.base 0 q.cold q.warm;
    }

unfoldable pub chain_row : Price → Row → Bill → Row
unfolding turns stopped ◌⊔◌
chain_row w f q = stopped f ⊔ turns w.credit w.base f.again_still f.again_there f.again_took q.cold q.warm

unfoldable pub chain_bill : Price → Bill → Bill → Bill
unfolding chain_row pays
chain_bill w p q = record { ok = p.ok && (q.ok && pays w q.cold); cold = chain_row w p.cold q; warm = chain_row w p.warm q }

-- t: what a call costs
unfoldable pub bill : Price → (Rule → Bill) → Prog → Bill
unfolding at act_row seq_bill case_bill answers_also raise_bill loop_bill chain_bill
bill w t (ret k a) = record { ok = true; cold = at a still w.base; warm = at a there w.base }
bill w t (act a) = record { ok = true; cold = act_row w a false; warm = act_row w a true }
bill w t (p ⨟ q) = seq_bill w.base (bill w t p) (bill w t q)
bill w t (case c n y a) =
    let b = bill w t c in
    let l = bill w t a in
    let last = cond (answers_also b) l never in
    case_bill w.base b (bill w t n) (bill w t y) last
bill w t (in_marker p) = raise_bill w.marker (bill w t p)
bill w t (loop p) = loop_bill w (bill w t p)
bill w t (chain p q) = raise_bill w.marker (chain_bill w (bill w t p) (raise_bill w.marker (bill w t q)))
bill w t (brace p) = bill w t p
bill w t (open_call r) = t r

-- ---------------------------------------------------------------- a table of bills

abbrev pub keys : (Key → Bool) → Bool
keys p = p still && (p there && p took)

abbrev pub every : (Ans → Key → Bool) → Bool
every p = keys (p no) && (keys (p yes) && (keys (p also) && keys (p again)))

-- no entry is greater
abbrev pub within : Row → Row → Bool
within f g = every (λ a κ. leb (get f a κ) (get g a κ))

abbrev pub meets : Bill → Bill → Bool
meets b c = b.ok && (within b.cold c.cold && within b.warm c.warm)

-- a call that is refused does nothing and answers no
abbrev pub refuses : Price → Bill → Bool
refuses w b = leb w.base b.cold.no_still && leb w.base b.warm.no_there

-- b: what a function's program costs. c: what the table says of it.
abbrev pub keeps : Price → Bill → Bill → Bool
keeps w b c = refuses w c && meets b c

-- entered with nothing known, it costs at most v - base more than its tokens bring
abbrev pub ends : ℕ → Bill → Bool
ends v b = b.ok && every (λ a κ. leb (get b.cold a κ) v)
