pub mod Reasons
pub mod Nodes
pub mod Members
pub mod Errors
