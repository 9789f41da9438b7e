pub mod Bodies
pub mod ReplyReceived
pub mod CommaTexts
pub mod Puts
pub mod ReportTexts
mod Looping
mod Turns
mod Following
mod Taking
pub mod Acting
pub mod Asked
pub mod Accepting
pub mod ServerValues
pub mod Beginning
pub mod Turning
pub mod Received
pub mod Reports
pub mod Insides
pub mod MitigationReplies
pub mod Verdicts
pub mod Yielding
pub mod HearingPeers
pub mod Watching
pub mod Notifying
pub mod Rows
pub mod Connecting
mod Chaining
mod Fronts
mod FrontsInUse
mod TakingPieces
mod LostSignals
mod Lapsing
mod Meeting
mod EventTurns
mod OneTurn
pub mod Looks
