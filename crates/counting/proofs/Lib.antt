-- The slow count: its laws, the functions' turns, and demand 1 of the call.
pub mod Counts
pub mod Turns
pub mod RowCells
pub mod Outcomes
pub mod Demand1
