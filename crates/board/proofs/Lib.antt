-- Proofs of the statements in specs/, and the laws that the functions' proofs cite.
pub mod Filed
pub mod Filling
pub mod Lending
pub mod Light
pub mod LiveLaws
pub mod Numbers
pub mod Placing
pub mod SoundLaw
pub mod SoundPass
pub mod SoundTests
pub mod Tests
pub mod Written
pub mod Sums
