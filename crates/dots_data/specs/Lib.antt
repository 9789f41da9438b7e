pub mod Rooms
pub mod Accepting
