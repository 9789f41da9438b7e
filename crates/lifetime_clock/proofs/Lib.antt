pub mod Entries
pub mod Least
pub mod Rising
pub mod Splits
