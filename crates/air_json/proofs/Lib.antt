pub mod OnlyMember
pub mod SeenTrees
pub mod Growing
pub mod NumberTrees
pub mod Loop
pub mod ListReading
pub mod Numbers
pub mod Lifting
pub mod Left
pub mod Ordered
pub mod Progress
pub mod PoolNodes
pub mod Elements
pub mod Cleared
mod Alone
