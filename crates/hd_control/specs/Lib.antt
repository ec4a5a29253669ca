pub mod Control
pub mod Write
pub mod Read
pub mod Inner
