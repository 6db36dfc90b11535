-- Laws of what specs/ defines: implementations cite them, and the layers above build on them.
pub mod Claims
pub mod Degrees
pub mod ExtPlans
pub mod FlatAirs
pub mod FlatExtAirs
pub mod Plans
pub mod Recordings
pub mod RootLabels
pub mod Theorem
