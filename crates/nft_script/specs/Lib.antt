pub mod Script
pub mod Falling
pub mod Rules
