pub mod LedLaws
