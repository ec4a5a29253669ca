pub mod Head
pub mod Record
