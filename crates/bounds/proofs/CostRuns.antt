-- What each run of a counted function costs, and so each run of an entry.
use Prim.Native.Nat.{ℕ, zero, suc, ◌+◌, ◌*◌, ◌≤◌}
use native.Mathlib.Nat.{le_trans, mul-le-mul_left}
use native.Mathlib.Omega.{arith}
use mathlib.Core.Path.{◌≡◌}
use mathlib.Core.Bool.{Bool, true, false, ◌&&◌}
use mathlib.Core.List.{List}
use lib.Dec.{leb}
use lib.ListN.{length}
use borrow.Author.Tests.{leb-true}
use Rattle.definitions.specs.Layout.{MOST_OPEN_CALLS}
use Rattle.definitions.specs.Token.{Token}
use Rattle.definitions.specs.Skeleton.{no_label}
use Rattle.definitions.specs.Prog.{Ans, no, yes, also, again, Rule}
use Rattle.definitions.specs.Grammar.{grammar, Entry, whole}
use Rattle.definitions.specs.Call.{run_entry}
use Rattle.definitions.specs.Run.{makes, taken, exec, run}
use Rattle.basics.proofs.Tests.{and_left, and_right}
use Rattle.bounds.proofs.Row.{Key, still, there, took, Row, get}
use Rattle.bounds.proofs.Cost.{Price, Bill, here, side, bill, keys, every, within, meets, refuses, keeps, ends}
use Rattle.bounds.proofs.Paid.{counted, cost, Fits, widen, weaken, here_paid, Sound}
use Rattle.bounds.proofs.CostSound.{exec_fits}
use Rattle.bounds.proofs.CostActs.{acts}

counted_le : (κ : Key) (n : ℕ) → counted κ n ≤ n
counted_le still n = omega arith
counted_le there n = omega arith
counted_le took n = omega arith

keys_all : (p : Key → Bool) → keys p ≡ true → (κ : Key) → p κ ≡ true
keys_all p e still = and_left (p still) _ e
keys_all p e there = and_left (p there) _ (and_right (p still) _ e)
keys_all p e took = and_right (p there) _ (and_right (p still) _ e)

every_all : (p : Ans → Key → Bool) → every p ≡ true → (a : Ans) (κ : Key) → p a κ ≡ true
every_all p e no = keys_all (p no) (and_left (keys (p no)) _ e)
every_all p e yes = keys_all (p yes) (and_left (keys (p yes)) _ (and_right (keys (p no)) _ e))
every_all p e also = keys_all (p also) (and_left (keys (p also)) _ (and_right (keys (p yes)) _ (and_right (keys (p no)) _ e)))
every_all p e again = keys_all (p again) (and_right (keys (p also)) _ (and_right (keys (p yes)) _ (and_right (keys (p no)) _ e)))

within_le : (f g : Row) → within f g ≡ true → (a : Ans) (κ : Key) → get f a κ ≤ get g a κ
within_le f g e a κ = leb-true _ _ (every_all (λ a κ. leb (get f a κ) (get g a κ)) e a κ)

module _ (w : Price) (one : 1 ≤ w.base) (worth : w.leaf ≤ w.credit) where
  module _ (t : Rule → Bill) (H : (r : Rule) → keeps w (bill w t (grammar r)) (t r) ≡ true) where
    refused : (r : Rule) (d : Bool) → w.base ≤ get (side (t r) d) no (here d)
    refused r false = leb-true _ _ (and_left _ (leb w.base (t r).warm.no_there) (and_left _ (meets (bill w t (grammar r)) (t r)) (H r)))
    refused r true = leb-true _ _ (and_right (leb w.base (t r).cold.no_still) _ (and_left _ (meets (bill w t (grammar r)) (t r)) (H r)))

    sides : (r : Rule) (d : Bool) (a : Ans) (κ : Key) → get (side (bill w t (grammar r)) d) a κ ≤ get (side (t r) d) a κ
    sides r false a κ = within_le _ _ (and_left _ (within (bill w t (grammar r)).warm (t r).warm) (and_right (bill w t (grammar r)).ok _ (and_right (refuses w (t r)) _ (H r)))) a κ
    sides r true a κ = within_le _ _ (and_right (within (bill w t (grammar r)).cold (t r).cold) _ (and_right (bill w t (grammar r)).ok _ (and_right (refuses w (t r)) _ (H r)))) a κ

    pub run_fits : (n : ℕ) (r : Rule) → Sound w (t r) (run n r)
    unfolding run makes cost
    run_fits zero r d s k = record { key = here d; paid = weaken w (refused r d) (here_paid w d s one k) }
    run_fits (suc n) r d s k =
        widen w (sides r d (exec (run n) no_label (grammar r) s).ans)
        (exec_fits w one t (run n) (acts w one worth t) (run_fits n) (grammar r) (and_left _ (within (bill w t (grammar r)).cold (t r).cold && within (bill w t (grammar r)).warm (t r).warm) (and_right (refuses w (t r)) _ (H r))) no_label d s k)

    pub entry_cost : (v : ℕ) (e : Entry) → ends v (bill w t (whole e)) ≡ true → (ts : List Token) → cost w (run_entry e ts) + w.base ≤ v + w.credit * length ts
    unfolding run_entry
    entry_cost v e h ts =
        let o = exec (run MOST_OPEN_CALLS) no_label (whole e) (taken ts) in
        let f : Fits w (get (bill w t (whole e)).cold o.ans) (taken ts) o.state (cost w o.made) = exec_fits w one t (run MOST_OPEN_CALLS) (acts w one worth t) (run_fits MOST_OPEN_CALLS) (whole e) (and_left _ (every (λ a κ. leb (get (bill w t (whole e)).cold a κ) v)) h) no_label false (taken ts) tt in
        let c : get (bill w t (whole e)).cold o.ans f.key ≤ v = leb-true _ _ (every_all (λ a κ. leb (get (bill w t (whole e)).cold a κ) v) (and_right (bill w t (whole e)).ok _ h) o.ans f.key) in
        let l : length o.state.rest + f.paid.steps ≡ length ts = f.paid.left in
        let m : w.credit * counted f.key f.paid.steps ≤ w.credit * length ts = mul-le-mul_left w.credit (le_trans (counted_le f.key f.paid.steps) (omega arith)) in
        let p : cost w o.made + w.base ≤ get (bill w t (whole e)).cold o.ans f.key + w.credit * counted f.key f.paid.steps = f.paid.enough in
        omega arith
