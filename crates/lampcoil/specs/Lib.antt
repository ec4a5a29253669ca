pub mod Status
pub mod Told
pub mod Control
pub mod Night
pub mod Slots
pub mod Lent
pub mod Version
