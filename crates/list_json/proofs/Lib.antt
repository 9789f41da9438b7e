pub mod Turns
pub mod Again
pub mod AliasAgain
pub mod ListAgain
pub mod Within
pub mod Arrays
pub mod Ordered
pub mod OrderedLists
pub mod Plain
pub mod PutObjects
mod Skipping
mod Onwards
