use Rattle.std.proofs.Common.{◌<◌, ◌++◌, length, max, All, sym, ap, ap₂, ◌∙◌, subst}
use Rattle.air_field.specs.Degree.{greatest_degree}
use Rattle.air_symbolic.specs.BaseLeaves.{base_reads}
use Rattle.air_symbolic.specs.DegreeTables.{capped}
use Rattle.air_symbolic.specs.ExtLeaves.{ext_reads}
use Rattle.air_symbolic.specs.Weights.{leaf_weight}
use Rattle.air_recording.specs.Recorded.{terms_of}
use Rattle.air_recording.proofs.InferredDegrees.{greatest-append, table_here, table_greatest, capped-max}
use Rattle.air_recording.proofs.symbolic.degree.greatest_degree_of.Goals as goal

pub greatest_at-requires : goal.greatest_at-requires
greatest_at-requires g c =
    let inside = c.recorded.inside in
    table_here base_reads inside.pool.base (leaf_weight c.args.weight) _ inside.base.items _ c.in_ok-base.ensures.base c.deref.ensures.value
    (subst (λ v. All (λ i. i < length v.pool.base.nodes) v.base) (sym c.recorded.view_is) c.requires.base_here)

pub greatest_at-requires-2 : goal.greatest_at-requires-2
greatest_at-requires-2 g c =
    let inside = c.recorded.inside in
    table_here (ext_reads g.EF.ExtensionField.basis) inside.pool (leaf_weight c.args.weight) _ inside.ext.items _ c.in_ok-base.ensures.degrees c.deref-2.ensures.value
    (subst (λ v. All (λ i. i < length v.pool.nodes) v.ext) (sym c.recorded.view_is) c.requires.ext_here)

pub returns-clause-greatest : goal.returns-clause-greatest
returns-clause-greatest g c =
    let w = leaf_weight c.args.weight in
    let inside = c.recorded.inside in
    let reads = ext_reads g.EF.ExtensionField.basis in
    let us = terms_of base_reads inside.pool.base inside.base.items in
    let vs = terms_of reads inside.pool inside.ext.items in
    let x = table_greatest base_reads inside.pool.base w _ inside.base.items _ c.in_ok-base.ensures.base c.deref.ensures.value _ c.greatest_at.ensures in
    let y = table_greatest reads inside.pool w _ inside.ext.items _ c.in_ok-base.ensures.degrees c.deref-2.ensures.value _ c.greatest_at-2.ensures in
    rw (← c.recorded.view_is) (c.max.ensures ∙ ap₂ max x y ∙ capped-max (greatest_degree w us) (greatest_degree w vs) ∙ ap capped (sym (greatest-append w us vs)))
