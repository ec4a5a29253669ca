pub mod HeldTable
pub mod Reading
pub mod AtOnce
pub mod BlockReading
pub mod Residue
pub mod Said
