-- What is refused, by number and place, and demand 1 of any call.
pub mod Codes
pub mod Told
pub mod Demand1
pub mod Each
