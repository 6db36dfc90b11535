pub mod PeriodicRows
pub mod WindowRows
