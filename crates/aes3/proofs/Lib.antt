pub mod BlockTrips
pub mod FaultMap
pub mod FoundStart
pub mod TalkbackTrips
