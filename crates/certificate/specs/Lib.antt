-- The check of a matching and a cover that were made elsewhere.
pub mod Check
pub mod Demand1
pub mod Accepted
