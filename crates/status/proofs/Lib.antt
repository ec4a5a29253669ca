pub mod Back
pub mod Lossless
pub mod Coordination
pub mod Lengths
