pub mod KeyTables
pub mod Arrays
pub mod CallFacts
pub mod Cells
pub mod Exact
pub mod LeadsRight
pub mod MethodsThere
pub mod OneAnswer
pub mod Ranges
pub mod Spelled
pub mod StepOrder
pub mod UnknownKeys
mod ByExample
mod OneMethod
mod DoublesRead
mod DoublesKept
mod StepsRead
mod EightRead
mod OneFileKnown
mod OneFileTaken
pub mod TheSteps
