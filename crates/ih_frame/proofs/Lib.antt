pub mod Begun
pub mod CommandEnds
pub mod Complete
pub mod Leaving
pub mod SameFiles
pub mod StepByStep
