pub mod NumberedTerms
pub mod Refusing
pub mod RootsMean
pub mod Recording
