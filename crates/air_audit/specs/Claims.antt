-- The words in which an author states a claim about a trace that passes a check or an audit.
pub use Rattle.air_field.specs.Assignment.{row_assignment}
pub use Rattle.air_field.specs.Grid.{Grid}
pub use Rattle.air_report.specs.Report.{plain_trace}
pub use Rattle.air_gadgets.specs.Numbers.{IsNumberBelow, IsWord, AddsUp, AddsUp3}
