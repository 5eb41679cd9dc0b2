pub mod LessScratch
pub mod Reading
pub mod Unchanged
pub mod AsBefore
