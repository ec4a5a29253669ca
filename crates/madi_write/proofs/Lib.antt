pub mod Frames
pub mod Blocks
pub mod Storing
pub mod Turns
pub mod Checks
pub mod Residue
