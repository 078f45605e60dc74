pub mod Rows
pub mod Writing
pub mod Reading
pub mod Demand1
pub mod Laws
