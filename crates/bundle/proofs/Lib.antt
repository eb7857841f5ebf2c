pub mod AnswerLaws
pub mod Bounds
pub mod ExprLaws
pub mod Forms
pub mod HeadLaws
pub mod Heads
pub mod LookupLaws
pub mod NameLaws
pub mod OperandLaws
pub mod PartTrees
pub mod Parts
pub mod Steps
pub mod Trees
pub mod TypeLaws
pub mod TypeTrees
mod Widths
