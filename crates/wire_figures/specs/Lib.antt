pub mod Counting
pub mod Tallied
pub mod TalliedLaws
