pub mod Words
pub mod Mixing
pub mod Row
pub mod Holding
pub mod Values
pub mod Traces
pub mod Checks
pub mod Messages
