use Rattle.std.proofs.Common.{◌≡◌, true, false, below_more, arith, refl}
use Rattle.air_symbolic.specs.ExtLeaves.{ext_reads}
use Rattle.air_symbolic.proofs.ReachedTrees.{mark-here, marked-ext-only, none-marked, not-marked}
use Rattle.air_symbolic.proofs.pools.lower.ExprPool+ExtLeaf+F+EF.has_ext_only.Goals as goal

pub is_ext_only-requires-clause-here : goal.is_ext_only-requires-clause-here
is_ext_only-requires-clause-here g c =
    let p = c.args.self.now in
    mark-here (ext_reads g.EF.ExtensionField.basis p.base) p c.args.id c.args.marks.now c.requires.marked c.loop-mark.mark-index c.mark-item.result (omega (arith, c.loop-mark-test.true)) c.mark-item.is

pub loop-mark-preserved : goal.loop-mark-preserved
loop-mark-preserved g c =
    below_more _ _ c.loop-mark.invariant
    (not-marked c.args.self.now c.args.marks.now c.loop-mark.mark-index c.mark-item.result c.is_ext_only.result (omega (arith, c.loop-mark-test.true)) c.mark-item.is c.is_ext_only.ensures c.if-is_ext_only.false)

pub returns-then-is_ext_only : goal.returns-then-is_ext_only
returns-then-is_ext_only g c =
    let p = c.args.self.now in (
      λ _. marked-ext-only (ext_reads g.EF.ExtensionField.basis p.base) p c.args.id c.args.marks.now c.requires.marked c.requires.pool.nodes c.loop-mark.mark-index c.mark-item.result (omega (arith, c.loop-mark-test.true)) c.mark-item.is (c.is_ext_only.ensures.0 c.if-is_ext_only.true),
      λ _. refl,
    )

pub returns : goal.returns
returns g c =
    let p = c.args.self.now in (
      λ (e : false ≡ true). absurd (cc),
      λ h. absurd (none-marked (ext_reads g.EF.ExtensionField.basis p.base) p c.args.id c.args.marks.now c.requires.marked c.requires.pool.nodes
          (λ i lt. c.loop-mark.invariant i (omega (arith, lt, c.loop-mark-test.false))) c.requires.here h),
    )
