pub mod Species
pub mod Trees
pub mod Bounds
pub mod Exactly
pub mod InTurn
