pub mod PartLaws
pub mod ScanLaws
pub mod AnswerLaws
