-- Proofs of the statements in specs/, and the laws that the functions' proofs cite.
pub mod Verdicts
pub mod Answers
pub mod Each
pub mod Places
