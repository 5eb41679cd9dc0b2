pub mod Examples
pub mod Requests
pub mod TestersList
pub mod Demands
