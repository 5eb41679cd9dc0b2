pub mod Backwards
pub mod Product
pub mod Theorems
pub mod Powers
pub mod Total
pub mod Points
pub mod Values
