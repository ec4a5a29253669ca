pub mod File
pub mod Packet
pub mod Sheet
pub mod Replay
pub mod Counts
pub mod Inner
