pub mod Lifetime
pub mod Rooted
pub mod Smaller
pub mod Split
pub mod Times
pub mod Tree
