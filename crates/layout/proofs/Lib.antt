-- Laws of lines and columns, of the line of a row, and of each step of reading; the proof of each statement; then laws for the code.
pub mod Lines
pub mod Columns
pub mod Rows
pub mod Steps
pub mod Forms
pub mod Statements
pub mod Scans
pub mod Fronts
pub mod Seen
pub mod Stored
pub mod Written
pub mod Bytes
