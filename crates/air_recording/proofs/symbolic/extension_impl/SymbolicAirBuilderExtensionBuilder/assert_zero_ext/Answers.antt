use Rattle.air_recording.specs.SymbolicParts.{fixed_by}
use Rattle.air_recording.specs.RecordedLists.{lists_of}
use Rattle.air_recording.proofs.SymbolicGrowth.{pushed_asserted, ext_recorded}
use Rattle.air_recording.proofs.symbolic.extension_impl.SymbolicAirBuilderExtensionBuilder.assert_zero_ext.Goals as goal

pub returns : goal.returns
returns g c =
    let a = c.args.self.now in
    let fixed = fixed_by a.selectors a.entries.base.layout in
    pushed_asserted g.met.EF.ExtensionField.laws a.pool fixed (lists_of a.constraints) _ _ c.push_ext.result (λ k. k) (λ ts h. h) (ext_recorded g.met.EF.ExtensionField.laws a.pool fixed (lists_of a.constraints) c.args.x) (λ k. tt) c.push_ext.ensures.ok c.push_ext.ensures.err c.push_ext.ensures.refused
