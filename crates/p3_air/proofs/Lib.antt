pub mod DraftChanges
pub mod ClaimLists
