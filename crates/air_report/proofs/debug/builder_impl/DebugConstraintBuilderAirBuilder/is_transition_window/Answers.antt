use contract.BorrowLft.{⊑_static}
use Rattle.air_report.proofs.debug.builder_impl.DebugConstraintBuilderAirBuilder.is_transition_window.Goals as goal

pub is_transition_window-requires-lives-Self-AirBuilder-2 : goal.is_transition_window-requires-lives-Self-AirBuilder-2
is_transition_window-requires-lives-Self-AirBuilder-2 g c κs within = λ a m. ⊑_static _ a (c.requires-raw.1.1.0 a m)
