pub mod Candidates
pub mod Lengths
pub mod Numbers
pub mod Promises
