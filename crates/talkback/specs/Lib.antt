pub mod Talkback
pub mod Inner
