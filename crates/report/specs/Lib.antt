pub mod Text
pub mod Placed
pub mod Report
pub mod Night
pub mod Inner
