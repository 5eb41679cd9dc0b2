pub mod Profile
pub mod Refusals
pub mod Numbers
