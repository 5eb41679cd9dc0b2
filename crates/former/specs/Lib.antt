pub mod FormerReader
pub mod LessScratch
pub mod Former
pub mod FormerText
pub mod Unchanged
pub mod AsBefore
