-- Refusal 10 and the weight of a plan: the laws that the statements in specs/ name, and those that the functions' proofs cite.
pub mod CellTests
pub mod Clashes
pub mod Firsts
pub mod Sums
pub mod Plans
