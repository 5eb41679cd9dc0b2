pub mod Word
pub mod Cells
pub mod Doubles
