-- A board of items with places, over an auction that knows places only: its record, what it says by item, soundness, opening, and the lists that a
-- caller lends. The statements are Laws and SoundTest.
pub mod Board
pub mod ByItem
pub mod Shape
pub mod Spread
pub mod Sound
pub mod SoundTest
pub mod Opening
pub mod Lent
pub mod Columns
pub mod Laws
