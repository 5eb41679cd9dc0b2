pub mod Lists
pub mod Lines
pub mod Cases
pub mod Accepts
pub mod Tallies
pub mod Records
pub mod Entries
pub mod Sheets
