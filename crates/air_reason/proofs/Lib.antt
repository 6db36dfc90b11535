pub mod Items
pub mod Lists
pub mod Agreement
pub mod ValueLaws
pub mod InputLaws
