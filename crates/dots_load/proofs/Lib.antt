pub mod Scopes
pub mod Options
pub mod Wrapping
pub mod Coming
pub mod Taken
pub mod Adding
pub mod Byting
pub mod Alike
