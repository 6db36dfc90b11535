pub mod FewHide
pub mod FoldedAirs
