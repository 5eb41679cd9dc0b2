pub mod Test
pub mod Fill
pub mod Bytes
pub mod Sum
