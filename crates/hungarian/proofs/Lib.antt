-- The laws that the functions' proofs cite, from cells and reached bidders up to what is solved.
pub mod Cells
pub mod InTree
pub mod Growing
pub mod Visiting
pub mod Widening
pub mod Shifting
pub mod ItemsLeft
pub mod Relaxing
pub mod Adjusting
pub mod Inserting
pub mod Solving
pub mod LiveWeights
pub mod Exacts
