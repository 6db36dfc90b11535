pub mod AuditTheorem
pub mod Uncapped
pub mod RecordedRoots
mod Numbering
mod Planning
mod Making
mod Needed
mod Roots
mod Asserting
mod Rows
mod ExtRoots
mod OverRoots
mod OverMaking
