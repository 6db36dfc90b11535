pub mod DraftTerms
pub mod Making
pub mod DraftEntries
pub mod Drafts
pub mod ExtDraftTerms
pub mod ExtRoots
pub mod ExtDrafts
