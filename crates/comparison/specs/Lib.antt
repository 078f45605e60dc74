-- Two plans side by side: what is answered, and what the difference and the order mean.
pub mod Compare
pub mod Demand1
pub mod DifferenceLaws
pub mod OrderLaws
