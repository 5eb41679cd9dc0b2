pub mod Listing
pub mod Theorems
pub mod Refusals
pub mod Accepted
