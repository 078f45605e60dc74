-- Demand 1 of the comparison; the difference and the order of plans; and what the functions' proofs cite.
pub mod Differences
pub mod Standing
pub mod CellsInOrder
pub mod Orders
pub mod Outcomes
pub mod Demand1
