-- `clear`: what `fill` leaves from the index on, or from the end where the index is past it.
use Rattle.std.proofs.Common.{◌≡◌, ℕ, ◌-◌, List, length, take, drop, replicate, min, arith}
use Rattle.std.proofs.lemmas.Grind.{common_steps}
use borrow.Rule.Slice.PartMut.{put_mid}
use Rattle.refinement.specs.Ends.{wiped}
use Rattle.call.proofs.buffer.clear.Goals as goal

zero_from : (l m : List ℕ) (n k : ℕ) → k ≡ min n (length l) → m ≡ replicate (length (take (length l - k) (drop k l))) 0
    → put_mid k (length l - k) l m ≡ wiped n l
unfolding wiped
zero_from l m n k h e = grind (arith, common_steps)

pub returns : goal.returns
returns c = zero_from _ _ _ _ c.min-kept.ensures (c.fill.ensures.after (λ y h. h))
