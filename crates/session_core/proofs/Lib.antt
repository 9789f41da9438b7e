mod Excused
pub mod Sends
pub mod Ordering
pub mod Fixing
pub mod NoticeTicking
pub mod Parting
mod Quiet
pub mod Unheard
pub mod Accepting
pub mod Peers
pub mod Placing
pub mod Refusing
pub mod Rows
pub mod Spaced
pub mod Ticking
pub mod Turns
