pub mod Lines
pub mod Checks
pub mod Canonical
pub mod Refusals
pub mod Figures
