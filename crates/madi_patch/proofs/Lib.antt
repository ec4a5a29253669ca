pub mod Listing
pub mod SlotLaws
pub mod PatchLaws
pub mod Separation
pub mod Residue
pub mod LeasedLaws
