pub mod Fates
pub mod RowMatching
pub mod HandedOut
pub mod Matching
