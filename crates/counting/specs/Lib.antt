-- The slow count: what it tries, what that comes to, what the call refuses and answers.
pub mod Count
pub mod CountLaws
pub mod Limits
pub mod Rows
pub mod Call
pub mod Demand1
