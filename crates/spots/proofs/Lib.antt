pub mod Words
pub mod Verdicts
pub mod Answers
pub mod Promises
pub mod Correcting
