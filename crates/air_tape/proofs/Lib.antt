pub mod Spans
pub mod Telling
