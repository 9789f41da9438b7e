mod Events
mod PlanLemmas
mod RunLeading
pub mod Sends
pub mod Packets
pub mod Blank
pub mod Gateways
pub mod Draining
pub mod AskLemmas
pub mod Servers
pub mod Handed
pub mod Routes
pub mod Leading
