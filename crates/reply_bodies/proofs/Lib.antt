pub mod Parts
pub mod Shapes
