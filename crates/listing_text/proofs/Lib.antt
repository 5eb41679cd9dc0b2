pub mod Fill
pub mod Puts
pub mod Texts
pub mod Lengths
pub mod Meaning
