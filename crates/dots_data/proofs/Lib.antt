mod Copying
pub mod Acceptable
