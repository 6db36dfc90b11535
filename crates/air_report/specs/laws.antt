-- Laws about the definitions in specs/: implementations cite them, and the layers above build on them.
pub mod Debug
pub mod DebugLabels
pub mod DebugValues
pub mod Plain
pub mod Report
pub mod RowLabels
pub mod Over
pub mod VanishingReports
pub mod VanishingChecks
