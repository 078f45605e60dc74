-- Proofs of the statements in specs/, and the laws that the functions' proofs cite.
pub mod Counting
pub mod LinePairs
pub mod ReplayForms
pub mod ReplayLaws
pub mod ReplayLines
pub mod Saying
pub mod Texts
