pub mod FrameLemmas
pub mod Connections
pub mod Rests
pub mod Lengths
pub mod CutValues
pub mod Streams
pub mod Putting
