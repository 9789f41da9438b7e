pub mod Identifiers
pub mod PathLaws
pub mod WithoutMemory
pub mod Answering
pub mod Arrays
pub mod Ascending
pub mod Askable
mod Waiting
pub mod OneMeaning
