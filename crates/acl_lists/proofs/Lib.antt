pub mod Greatest
mod Copies
