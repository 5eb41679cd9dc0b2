pub mod Locator
pub mod Theorems
pub mod Answer
