use contract.BorrowLft.{⊑_static}
use Rattle.air_report.proofs.debug.builder_impl.DebugConstraintBuilderAirBuilder.WINDOW.Goals as goal

pub WINDOW-requires-lives-Self-AirBuilder-2 : goal.WINDOW-requires-lives-Self-AirBuilder-2
WINDOW-requires-lives-Self-AirBuilder-2 g c κs within = λ a m. ⊑_static _ a (c.type_bounds.static-EF a m)
