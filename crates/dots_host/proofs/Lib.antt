pub mod Sends
mod Turning
pub mod Until
pub mod Wrote
pub mod ContentLemmas
pub mod DiskLemmas
pub mod WrittenLemmas
pub mod LoggedLemmas
pub mod Walks
pub mod HandingLemmas
pub mod ReadLemmas
pub mod RunLemmas
pub mod TapeLemmas
pub mod WriteLemmas
