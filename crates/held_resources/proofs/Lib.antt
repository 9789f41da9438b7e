pub mod Holdings
pub mod Configs
pub mod Losses
mod LostPeers
pub mod Places
pub mod HistoryTables
pub mod Lawful
pub mod Names
pub mod Going
pub mod Named
pub mod Slots
pub mod Sizing
