pub mod LedgerValues
pub mod Slots
pub mod Images
pub mod Answering
pub mod Sizing
pub mod Recovering
pub mod Wholes
pub mod Making
pub mod Lists
pub mod ViewRows
mod Mitigating
pub mod Granted
pub mod Inside
pub mod Bounded
pub mod Counted
pub mod FittingEntries
pub mod Configured
pub mod OnePeer
pub mod CalmLimits
pub mod Rings
pub mod RegistryValues
pub mod Conditions
pub mod Keeping
pub mod Filtering
mod Judged
mod Seeing
mod Ended
pub mod Going
pub mod Recents
pub mod Named
pub mod Moving
pub mod Few
pub mod Staying
pub mod Numbering
pub mod Uniting
pub mod Filed
pub mod Shrinking
pub mod Peers
pub mod Gatherings
pub mod RowsInTurn
pub mod InDomains
