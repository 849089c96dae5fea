mod WorkedSteps
mod WorkedStates
mod WorkedRules
pub mod WorkedNotes
mod WorkedParts
