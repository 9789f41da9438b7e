pub mod Firsts
pub mod Noting
pub mod Pairs
pub mod Resending
pub mod Rings
pub mod Sent
