pub mod Filters
pub mod HistoryRows
