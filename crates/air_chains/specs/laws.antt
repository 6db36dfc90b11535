-- Laws about the definitions in specs/, which a proof about an AIR cites.
pub mod Rows
pub mod Reports
pub mod Chains
pub mod Marks
pub mod WordValues
