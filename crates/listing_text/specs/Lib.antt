pub mod Text
pub mod Buffer
pub mod Meaning
pub mod Puts
