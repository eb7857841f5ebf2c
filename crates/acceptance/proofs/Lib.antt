pub mod CircleLaws
pub mod WalkLaws
