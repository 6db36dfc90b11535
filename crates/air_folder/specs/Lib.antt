-- Folds of values; the folder's row, growth and laws; folds with recordings.
pub mod Fold
pub mod Hiding
pub mod Folder
pub mod FolderRow
pub mod Folding
pub mod laws
