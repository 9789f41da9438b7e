pub mod Commands
pub mod Report
pub mod Running
pub mod Outcomes
