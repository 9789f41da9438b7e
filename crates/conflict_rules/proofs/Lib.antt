mod Marks
mod Mids
mod Faults
pub mod Bits
pub mod Resolving
pub mod Places
pub mod Ending
pub mod Contesting
pub mod Puts
pub mod LivePlaces
pub mod HeldPlaces
pub mod Rules
pub mod JudgedByPlaces
pub mod Alone
mod Rooms
mod TakingMemory
pub mod StandingLives
