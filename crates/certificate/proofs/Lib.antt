-- Demand 1 of the check and what it accepts; and the laws that these and the functions' proofs cite.
pub mod Tests
pub mod Served
pub mod Outcomes
pub mod Demand1
pub mod Accepted
