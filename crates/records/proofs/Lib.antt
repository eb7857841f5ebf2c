pub mod DefinitionLaws
pub mod LayoutLaws
pub mod RecordLaws
