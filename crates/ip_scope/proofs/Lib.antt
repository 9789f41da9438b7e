pub mod AddressTexts
pub mod PrefixTexts
pub mod PrefixReading
pub mod AsciiTexts
pub mod Putting
pub mod Canonical
pub mod Prefixes
