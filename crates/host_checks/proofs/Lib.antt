pub mod ReportLines
pub mod ListLines
pub mod ListLemmas
mod Domains
mod Fronts
pub mod Carrying
pub mod Counts
pub mod CarriedDomains
pub mod Takings
pub mod Numbers
pub mod SameLines
pub mod Standing
pub mod Whole
pub mod Naming
pub mod WholeImages
pub mod Ledgers
pub mod Picking
pub mod NamedEntries
pub mod TakenInTurn
pub mod MadeOf
