pub mod FrameLaws
pub mod GroupLaws
pub mod ChannelLaws
pub mod TableLaws
