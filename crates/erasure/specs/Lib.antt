pub mod Filling
pub mod Erasure
pub mod Theorems
