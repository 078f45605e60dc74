-- The laws that the functions' proofs cite, and the proofs of the statements in specs/.
pub mod Outputs
pub mod Boards
pub mod Plans
pub mod Demand1
pub mod Laws
pub mod Sheets
pub mod Walls
