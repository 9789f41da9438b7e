pub mod Accepted
pub mod Apart
mod Insides
mod Judged
mod Rooms
pub mod Taken
pub mod Turning
