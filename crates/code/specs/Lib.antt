pub mod Poly
pub mod Code
pub mod Run
pub mod Search
pub mod Theorems
