pub mod Block
pub mod Numbers
pub mod Runs
pub mod Promises
pub mod LookAndFill
pub mod Found
