pub mod Maps
pub mod Mitigations
pub mod Conflicts
pub mod Sessions
pub mod Replies
pub mod Within
pub mod Requests
