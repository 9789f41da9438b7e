pub mod Plain
pub mod Items
pub mod Answering
pub mod Encoding
pub mod Fronts
pub mod Grammar
pub mod Meaning
pub mod Within
mod Putting
