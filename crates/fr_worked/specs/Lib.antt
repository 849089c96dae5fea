pub mod WorkedPoints
pub mod WorkedStates
pub mod WorkedSteps
pub mod WorkedRules
pub mod WorkedNotes
pub mod WorkedParts
