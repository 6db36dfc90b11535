-- The AIRs of the tables.
pub mod Differing
pub mod Handed
pub mod TableAirs
