use Rattle.std.proofs.Common.{◌≡◌, ◌∙◌, ◌<◌, ◌∷◌, [], get_or, Some, None, arith, sym, subst, IfSome}
use Rattle.std.proofs.lemmas.List.{length-append}
use Rattle.air_symbolic.specs.ExtLeaves.{ext_reads}
use Rattle.air_symbolic.specs.laws.ExtPool.{ext_pool_laws}
use Rattle.air_symbolic.specs.Lowered.{CanLower}
use Rattle.air_symbolic.proofs.Lowering.{lowered-there}
use Rattle.air_symbolic.proofs.ReachedTrees.{mark-can-lower, more-lowered, lowered-at-first}
use Rattle.air_symbolic.proofs.pools.lower.ExprPool+ExtLeaf+F+EF.lower.Goals as goal

pub lower_mark-requires : goal.lower_mark-requires
lower_mark-requires g c =
    let p = c.args.self.now in
    let s = c.loop-mark.self in
    let h = c.loop-mark.invariant in
    record {
      pool = h.grown.pool c.requires.pool;
      ready =
          subst (λ t. IfSome c.mark-item.result (CanLower s t)) (sym c.deref.ensures.value)
          (mark-can-lower (ext_reads g.EF.ExtensionField.basis p.base) p c.args.id c.args.marks.now c.requires.marked s c.loop-mark.table.items c.loop-mark.mark-index c.mark-item.result
          c.requires.pool.nodes h.same_nodes c.requires.base_only h.made (omega (arith, c.loop-mark-test.true)) c.mark-item.is);
    }

pub loop-mark-preserved : goal.loop-mark-preserved
loop-mark-preserved g c =
    let p = c.args.self.now in
    let s = c.loop-mark.self in
    let t = c.lower_mark.new.self in
    let h = c.loop-mark.invariant in
    record {
      same_nodes = c.lower_mark.ensures.same_nodes ∙ h.same_nodes;
      grown = (ext_pool_laws g.met.EF.ExtensionField.laws).joined p s t h.grown c.lower_mark.ensures.grown;
      places = let e = length-append c.loop-mark.table.items (c.in_ok-made.made ∷ []) in rw c.in_ok-push.ensures.items (omega (arith, e, h.places));
      made =
          more-lowered (ext_reads g.EF.ExtensionField.basis p.base) p c.args.id c.args.marks.now c.requires.marked
          g.F.Field.ring g.EF.ExtensionField.basis s t c.loop-mark.table.items _ c.loop-mark.mark-index c.mark-item.result c.in_ok-made.made
          (h.grown.pool c.requires.pool) c.lower_mark.ensures.grown c.lower_mark.ensures.same_nodes h.same_nodes
          (omega (arith, c.loop-mark-test.true)) c.mark-item.is h.places c.in_ok-push.ensures.items h.made c.in_ok-made.ensures.made;
    }

pub returns-in_err-made-clause-grown : goal.returns-in_err-made-clause-grown
returns-in_err-made-clause-grown g c =
    (ext_pool_laws g.met.EF.ExtensionField.laws).joined c.args.self.now c.loop-mark.self c.lower_mark.new.self c.loop-mark.invariant.grown c.lower_mark.ensures.grown

pub returns-in_err-push-clause-grown : goal.returns-in_err-push-clause-grown
returns-in_err-push-clause-grown g c =
    (ext_pool_laws g.met.EF.ExtensionField.laws).joined c.args.self.now c.loop-mark.self c.lower_mark.new.self c.loop-mark.invariant.grown c.lower_mark.ensures.grown

pub lowered_at-requires : goal.lowered_at-requires
lowered_at-requires g c =
    let s = c.loop-mark.self in
    let id = c.args.id in
    let below : id < c.loop-mark.mark-index = omega (arith, c.requires.here, c.requires.marked.places, c.loop-mark-test.false) in
    let at = c.loop-mark.invariant.made id below (c.requires.marked.roots_marked 0 id (omega arith)) in
    subst (λ t. get_or t id None ≡ None → ⊥) (sym c.deref-2.ensures.value) (lowered-there s s id (get_or c.loop-mark.table.items id None) at)

pub returns-clause-same_nodes : goal.returns-clause-same_nodes
returns-clause-same_nodes g c = c.loop-mark.invariant.same_nodes

pub returns-clause-grown : goal.returns-clause-grown
returns-clause-grown g c = c.loop-mark.invariant.grown

pub returns-clause-made : goal.returns-clause-made
returns-clause-made g c =
    let p = c.args.self.now in
    let s = c.loop-mark.self in
    let h = c.loop-mark.invariant in
    let id = c.args.id in
    let reach = c.requires.marked in
    let below : id < c.loop-mark.mark-index = omega (arith, c.requires.here, reach.places, c.loop-mark-test.false) in
    let at : get_or c.loop-mark.table.items id None ≡ Some c.lowered_at.result =
    subst (λ t. get_or t id None ≡ Some c.lowered_at.result) c.deref-2.ensures.value c.lowered_at.ensures in
    lowered-at-first g.F.Field.ring g.EF.ExtensionField.basis p s c.loop-mark.table.items id c.lowered_at.result c.requires.pool h.grown h.same_nodes c.requires.here
    (h.made id below (reach.roots_marked 0 id (omega arith))) at
