pub mod Linear
pub mod Words
pub mod Pad
pub mod Load
pub mod LastCell
pub mod Bits
