pub mod Subframe
pub mod Line
pub mod Position
