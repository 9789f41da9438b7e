pub mod Known
pub mod Changes
pub mod Replies
pub mod Answer
pub mod Answers
pub mod Room
pub mod Turns
