pub mod Choice
pub mod Bytes
pub mod Sum
