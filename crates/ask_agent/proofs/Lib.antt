mod Numbers
mod Lists
mod Steps
mod Within
pub mod Apart
pub mod Asks
pub mod Complete
pub mod Draining
pub mod Order
pub mod Ran
pub mod Turns
pub mod WasSaid
