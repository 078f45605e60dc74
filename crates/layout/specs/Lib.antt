-- A page of rows as bytes, and what reading one answers. Definitions first, then the statements.
pub mod Limits
pub mod Row
pub mod Page
pub mod Lines
pub mod Read
pub mod Stored
pub mod Seen
pub mod Written
pub mod Statements
