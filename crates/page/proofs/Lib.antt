-- The laws of the page of a board, of writing and of reading it.
pub mod Rows
pub mod WriteLaws
pub mod ReadLaws
pub mod Laws
pub mod Demand1
