-- What the board is, and when it is sound.
pub mod Limits
pub mod Ranges
pub mod Cells
pub mod Live
pub mod Sound
pub mod SoundTest
pub mod SoundPass
pub mod Lent
pub mod Opening
