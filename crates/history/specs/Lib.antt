pub mod Demand1
pub mod Laws
pub mod Limits
pub mod Output
pub mod Plan
pub mod Wall
