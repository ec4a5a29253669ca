pub mod ControlLaws
pub mod Ranges
pub mod WrittenRead
pub mod ReadWritten
pub mod Residue
pub mod Said
pub mod Reading
