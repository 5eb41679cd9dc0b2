pub mod Species
pub mod Trees
pub mod Exactly
pub mod InTurn
