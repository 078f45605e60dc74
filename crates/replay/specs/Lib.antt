-- The lines of a history text carried out.
pub mod Counted
pub mod Replay
pub mod Says
pub mod TextDemand1
pub mod ReplayLaws
