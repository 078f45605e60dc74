-- The starred cases of document 01, and further ones worked out.
pub mod Play
pub mod Table
pub mod Ties
pub mod Text
pub mod Pages
pub mod FullBoard
pub mod Refused
pub mod Sides
pub mod Counts
