-- A matching that was made elsewhere: refusal 10, and what it weighs.
pub mod Clash
pub mod Plans
