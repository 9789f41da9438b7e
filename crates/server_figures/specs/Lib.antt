pub mod Lines
pub mod Figures
