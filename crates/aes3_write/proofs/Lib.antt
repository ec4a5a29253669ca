pub mod Flags
pub mod Inverting
pub mod Writing
pub mod LineWriting
pub mod BlockWriting
pub mod Residue
