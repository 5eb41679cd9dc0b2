mod Lists
pub mod Rows
pub mod Sums
pub mod Cells
pub mod Counting
pub mod Limits
pub mod Entries
