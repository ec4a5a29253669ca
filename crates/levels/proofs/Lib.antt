-- The laws of the level sheet, from whole numbers up to the calls.
pub mod AtOnce
pub mod Wholes
pub mod Accepted
pub mod Channels
pub mod Levels
pub mod Rooms
pub mod Places
pub mod Joining
pub mod Stretches
pub mod Kept
pub mod Adding
pub mod Blocks
pub mod Extremes
pub mod Folds
pub mod Accepting
pub mod Regrouping
pub mod Limits
