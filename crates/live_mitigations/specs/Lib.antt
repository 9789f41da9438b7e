pub mod Ends
pub mod Slots
pub mod Rows
pub mod LiveRows
pub mod LiveValues
pub mod LiveViews
pub mod Numbers
