pub mod Placing
pub mod Apart
pub mod Clients
pub mod Buffering
