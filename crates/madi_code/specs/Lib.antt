pub mod Frame
pub mod Groups
pub mod Channels
pub mod Inner
