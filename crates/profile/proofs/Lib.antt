pub mod Ranges
pub mod Refusing
pub mod Sparse
