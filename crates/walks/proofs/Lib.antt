-- What the proofs by hand share.
pub mod Walks
pub mod Lent
