pub mod Binomials
pub mod Adjugates
pub mod JoinLaws
pub mod BodyLaws
mod BitValues
