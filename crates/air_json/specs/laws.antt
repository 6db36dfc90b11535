-- Laws of what specs/ defines: implementations cite them, and the layers above build on them.
pub mod Readings
pub mod Answering
pub mod BaseLeaves
pub mod Boundaries
pub mod Plain
pub mod EntryForms
pub mod Entries
pub mod ExtEntries
pub mod ExtLeaves
pub mod Nodes
pub mod ReadCalls
pub mod NodeFaults
pub mod LeafFaults
pub mod Lists
pub mod Written
pub mod Coefficients
pub mod WholeNumbers
