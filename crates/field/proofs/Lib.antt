-- The laws of GF(256) that other crates cite, one file a subject, and the statements of specs/ proved.
pub mod Sum
pub mod Product
pub mod Power
pub mod Turns
pub mod Laws
pub mod Bits
pub mod Quotient
pub mod Polynomial
pub mod Operation
