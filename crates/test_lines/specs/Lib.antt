pub mod Words
pub mod Listed
pub mod Spelled
pub mod Values
pub mod Numbers
pub mod Reports
pub mod Named
pub mod laws
