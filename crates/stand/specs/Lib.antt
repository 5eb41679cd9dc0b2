pub mod Table
pub mod Bounds
pub mod Answers
pub mod Numbers
