pub mod Option
pub mod Writing
pub mod Spelling
pub mod Blocks
pub mod Knowing
pub mod Around
pub mod AroundLaws
pub mod Fetching
