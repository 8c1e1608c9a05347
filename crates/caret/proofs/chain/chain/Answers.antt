-- `chain`: what is on the list, and what is found from here, is the chain.
use native.Mathlib.Omega.{arith}
use mathlib.Core.Path.{refl, ◌∙◌}
use Rattle.std.proofs.Common.{rules}
use Rattle.caret.proofs.Chains.{walk_starts, at_hand, ends_at, on_from}
use Rattle.caret.proofs.chain.chain.Goals as goal

pub loop-spot-init : goal.loop-spot-init
loop-spot-init c = record { walk = walk_starts c.args.byte c.args.trees.now c.args.list.now c.requires.0 c.requires.1; same_list = refl }

pub seek-spot-requires : goal.seek-spot-requires
seek-spot-requires c = let g = c.loop-spot.invariant.walk.going in (g.bytes, g.classes)

pub overflow_cast-spot : goal.overflow_cast-spot
overflow_cast-spot c =
    let f = at_hand c.loop-spot.invariant.walk c.seek-spot.result c.seek-spot.ensures.value in
    omega (arith, f.at, f.few, c.requires.2)

pub returns-then-trees-spot-eq-LEAF : goal.returns-then-trees-spot-eq-LEAF
returns-then-trees-spot-eq-LEAF c = ends_at c.loop-spot.invariant.walk c.seek-spot.result c.seek-spot.ensures.value c.push.new.self.count _ c.push.ensures.count (search rules) c.if-trees-spot-eq-LEAF.true

pub loop-spot-preserved : goal.loop-spot-preserved
loop-spot-preserved c = record {
  walk = on_from c.loop-spot.invariant.walk c.seek-spot.result c.seek-spot.ensures.value c.push.new.self.count c.push.new.self.list.now c.push.ensures.count c.push.ensures.list_after c.if-trees-spot-eq-LEAF.false;
  same_list = c.push.ensures.same_list ∙ c.loop-spot.invariant.same_list;
}
