pub mod HexText
pub mod Lines
pub mod Numbers
pub mod Name
pub mod Steps
