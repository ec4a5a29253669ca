pub mod Preambles
pub mod LineLaws
pub mod Polarity
pub mod LineTrips
pub mod Turns
pub mod Position
