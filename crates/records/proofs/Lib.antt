pub mod HeadLaws
pub mod RecordLaws
