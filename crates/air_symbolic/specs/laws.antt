-- Laws of what specs/ defines: implementations cite them, and the layers above build on them.
pub mod Nodes
pub mod Numbers
pub mod Pools
pub mod Sharing
pub mod Numbered
pub mod WholeTrees
pub mod BasePool
pub mod BaseLeaves
pub mod PoolRefusals
pub mod ExtLeaves
pub mod ExtPool
pub mod OnePool
