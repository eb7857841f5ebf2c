pub mod Numbers
pub mod ShapeLaws
pub mod RecordLaws
pub mod KindLaws
pub mod BufferLaws
