pub mod Turns
pub mod Connections
pub mod Frames
pub mod FrameReading
pub mod Streams
pub mod Datagrams
