use Rattle.air_recording.specs.SymbolicParts.{fixed_by}
use Rattle.air_recording.specs.RecordedLists.{lists_of}
use Rattle.air_recording.proofs.SymbolicGrowth.{pushed_asserted, base_recorded}
use Rattle.air_recording.proofs.symbolic.builder_impl.SymbolicAirBuilderAirBuilder.assert_zero.Goals as goal

pub returns : goal.returns
returns g c =
    let a = c.args.self.now in
    let fixed = fixed_by a.selectors a.entries.base.layout in
    pushed_asserted g.met.EF.ExtensionField.laws a.pool fixed (lists_of a.constraints) _ _ c.push_base.result (λ k. k) (λ ts h. h) (base_recorded g.met.EF.ExtensionField.laws a.pool fixed (lists_of a.constraints) c.args.x) (λ k. tt) c.push_base.ensures.ok c.push_base.ensures.err c.push_base.ensures.refused
