-- GF(256): its definitions, and the statements that hold of them.
pub mod Field
pub mod Laws
pub mod Polynomial
pub mod Operation
