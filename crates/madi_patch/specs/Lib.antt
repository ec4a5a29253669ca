pub mod Slot
pub mod Patch
pub mod Leased
pub mod Inner
