pub mod Rows
pub mod Sizes
pub mod Numbers
pub mod Tables
pub mod Accepting
