pub mod Draws
pub mod Requests
pub mod Events
pub mod Report
pub mod Calls
pub mod Domains
pub mod Datagrams
pub mod Deciding
