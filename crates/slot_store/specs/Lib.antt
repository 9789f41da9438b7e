pub mod Formats
pub mod Layout
pub mod StoreValues
pub mod Opening
pub mod Gates
pub mod Refusing
pub mod Copying
