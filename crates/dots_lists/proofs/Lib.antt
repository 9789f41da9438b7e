pub mod Decimals
pub mod Numbers
pub mod Splits
pub mod Names
