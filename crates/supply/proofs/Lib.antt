-- Proofs of the statements in specs/, and the laws that the functions' proofs cite.
pub mod Shaping
pub mod Spreading
pub mod Reading
pub mod AgreeWeights
pub mod ByItem
pub mod SoundLaw
pub mod Openings
pub mod Lending
