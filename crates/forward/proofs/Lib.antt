pub mod FieldChecks
pub mod LaterFields
pub mod SeenReferences
