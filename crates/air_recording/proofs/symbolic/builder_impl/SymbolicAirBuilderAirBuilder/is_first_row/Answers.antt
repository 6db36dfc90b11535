use Rattle.std.proofs.Common.{refl}
use Rattle.air_recording.specs.SymbolicParts.{fixed_by}
use Rattle.air_recording.specs.RecordedLists.{lists_of}
use Rattle.air_recording.proofs.SymbolicGrowth.{nothing_recorded}
use Rattle.air_recording.proofs.symbolic.builder_impl.SymbolicAirBuilderAirBuilder.is_first_row.Goals as goal

pub returns-clause-keeps : goal.returns-clause-keeps
returns-clause-keeps g c =
    let b = c.args.self.now in
    nothing_recorded g.met.EF.ExtensionField.laws b.pool (fixed_by b.selectors b.entries.base.layout) (lists_of b.constraints) (lists_of b.constraints) refl
