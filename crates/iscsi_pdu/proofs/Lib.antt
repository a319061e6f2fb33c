pub mod Back
pub mod Cells
pub mod InitiatorSays
pub mod Grammar
pub mod OneHeader
pub mod Parts
pub mod TargetSays
