pub mod Words
pub mod Register
