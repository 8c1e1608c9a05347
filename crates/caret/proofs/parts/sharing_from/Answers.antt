-- `sharing_from`: what is on the list, and what is found from here, are the parts that share a byte with the range.
use Prim.Native.Nat.{suc, ◌+◌, ◌/◌}
use native.Mathlib.Omega.{arith}
use mathlib.Core.Path.{◌≡◌, refl, ap, sym, ◌∙◌}
use Rattle.caret.specs.declared.list.Listed.{Listed}
use mathlib.Core.Bool.{Bool, cond}
use lib.ListN.{get_or, set}
use Rattle.definitions.specs.Caret.{share}
use Rattle.definitions.specs.Layout.{TREE_ROW, TREE_WIDTH}
use Rattle.std.proofs.Common.{rules}
use Rattle.caret.proofs.Offsets.{left_on}
use Rattle.caret.proofs.Listings.{listing_starts, listing_ends, listing_over, turn_here, few_here, inside_here, listing_on}
use Rattle.caret.proofs.parts.sharing_from.Goals as goal
use Rattle.caret.proofs.parts.sharing_from.Goals.{then-shares, else-shares, then-loop-index-test+else-start-to, else-loop-index-test}

pub loop-index-init : goal.loop-index-init
loop-index-init c =
    let a = c.args in
    record { walk = listing_starts a.from a.to a.trees.now a.list.now a.first a.first_byte c.requires.0; same_list = refl }

pub overflow_cast-index : goal.overflow_cast-index
overflow_cast-index c = omega (arith, few_here c.loop-index.invariant.walk c.loop-index-test.true, c.requires.1)

pub overflow_mul-trees : goal.overflow_mul-trees
overflow_mul-trees c =
    let t = turn_here c.loop-index.invariant.walk c.loop-index-test.true in
    omega (arith, t.product, t.own_less, t.fits, c.loop-index.invariant.walk.small)

pub overflow_sub-width : goal.overflow_sub-width
overflow_sub-width c =
    let t = turn_here c.loop-index.invariant.walk c.loop-index-test.true in
    omega (arith, t.product, t.own_less, c.loop-index.invariant.walk.small)

pub past-index-requires : goal.past-index-requires
past-index-requires c = inside_here c.loop-index.invariant.walk c.loop-index-test.true

pub loop-index-preserved : goal.loop-index-preserved
loop-index-preserved c =
    let l = c.loop-index in
    let n = c.if-shares.listed in
    let b : Bool = share c.args.from c.args.to l.start (l.start + get_or c.args.trees.now (l.index + TREE_WIDTH) 0) in
    let put : (n.count ≡ cond b (suc l.listed.count) l.listed.count) × (n.list.now ≡ cond b (set l.listed.list.now l.listed.count (l.index / TREE_ROW)) l.listed.list.now) =
    elim c.if-shares.branch [
      | then-shares w ↦ rw (sym c.shares.ensures ∙ w.if-shares.true) (ap (λ (x : Listed). x.count) w.listed-is ∙ w.push.ensures.count, ap (λ (x : Listed). x.list.now) w.listed-is ∙ w.push.ensures.list_after)
      | else-shares w ↦ rw (sym c.shares.ensures ∙ w.if-shares.false) (ap (λ (x : Listed). x.count) w.listed-is, ap (λ (x : Listed). x.list.now) w.listed-is)
    ] in
    record {
      walk = listing_on l.invariant.walk c.loop-index-test.true c.past-index.result n.count n.list.now c.past-index.ensures put.0 put.1;
      same_list =
          elim c.if-shares.branch [
            | then-shares w ↦ ap (λ (x : Listed). x.list.ghost_name) w.listed-is ∙ w.push.ensures.same_list ∙ l.invariant.same_list
            | else-shares w ↦ ap (λ (x : Listed). x.list.ghost_name) w.listed-is ∙ l.invariant.same_list
          ];
    }

pub returns : goal.returns
returns c =
    elim c.loop-index-test.branch [
      | then-loop-index-test+else-start-to w ↦ left_on (listing_over c.loop-index.invariant.walk w.if-start-to.false) (search rules)
      | else-loop-index-test w ↦ left_on (listing_ends c.loop-index.invariant.walk (omega (arith, w.loop-index-test.false))) (search rules)
    ]
