pub mod BadPrefix
pub mod Family
pub mod Ports
pub mod Prefix
pub mod PrefixText
pub mod Puts
pub mod Laws
pub mod PrefixReader
