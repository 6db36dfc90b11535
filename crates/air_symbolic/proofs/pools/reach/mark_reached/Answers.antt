use Rattle.std.proofs.Common.{◌-◌, ◌<◌, length, arith, subst, ◌∙◌}
use Rattle.air_symbolic.proofs.Marking.{ClosedFrom, mark_read, all_marked_only, past_closed, more_only, more_closed}
use Rattle.air_symbolic.proofs.pools.reach.mark_reached.Goals as goal

pub loop-number-init : goal.loop-number-init
loop-number-init g c =
    let read = g.A.SymLeaf.reads c.args.pool.now.base in
    let ns = c.args.pool.now.nodes in
    record {
      below = omega arith;
      places = c.mark_all.ensures.more.places ∙ c.requires.places;
      roots = c.mark_all.ensures.marked;
      closed = past_closed read ns c.args.roots.now _ _ (omega arith);
      only = all_marked_only read ns c.args.roots.now _ _ c.requires.none c.mark_all.ensures.more;
    }

pub node-requires-clause-here : goal.node-requires-clause-here
node-requires-clause-here g c =
    let h = c.loop-number.invariant in
    let lt : c.loop-number.number - 1 < length c.loop-number.marks = omega (arith, h.below, c.loop-number-test.true) in
    let m = mark_read (g.A.SymLeaf.reads c.args.pool.now.base) c.args.pool.now.nodes c.args.roots.now c.loop-number.marks _ c.in-Some.x _ lt h.only c.in-Some.is in
    omega (arith, lt, m.0, h.places)

pub loop-number-preserved-in-Some : goal.loop-number-preserved-in-Some
loop-number-preserved-in-Some g c =
    let read = g.A.SymLeaf.reads c.args.pool.now.base in
    let ns = c.args.pool.now.nodes in
    let roots = c.args.roots.now in
    let a = c.loop-number.marks in
    let b = c.mark_operands.new.marks in
    let h = c.loop-number.invariant in
    let more = c.mark_operands.ensures.more in
    let x = c.in-Some.x in
    let lt : c.loop-number.number - 1 < length a = omega (arith, h.below, c.loop-number-test.true) in
    let m = mark_read read ns roots a _ x _ lt h.only c.in-Some.is in
    record {
      below = omega (arith, h.below, more.places);
      places = more.places ∙ h.places;
      roots = λ k d k_in. more.stays _ (h.roots k d k_in);
      closed = subst (λ i. ClosedFrom read ns roots i b) m.0 (more_closed read ns roots x c.loop-number.number _ a b (omega (arith, m.0, c.loop-number-test.true)) c.node.ensures h.closed more c.mark_operands.ensures.marked);
      only = more_only read ns roots x _ a b m.1 c.node.ensures h.only more;
    }
