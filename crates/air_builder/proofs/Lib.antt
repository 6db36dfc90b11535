pub mod ExtensionGrowth
pub mod FilterGrowth
