pub mod Recursion
pub mod Run
pub mod Roots
pub mod Theorems
pub mod Places
pub mod States
pub mod Answer
