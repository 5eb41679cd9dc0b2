pub mod Cases
pub mod OwnBuffers
pub mod Theorems
pub mod Refusals
pub mod Input
pub mod Accepted
