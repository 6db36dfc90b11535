pub mod Loop
pub mod Trees
pub mod Gains
pub mod InputLaws
pub mod TokenLemmas
pub mod PartLemmas
pub mod ReadBack
