pub mod Boundary
pub mod Decimals
pub mod Fields
pub mod Forms
pub mod Lines
pub mod Numbers
pub mod Outs
pub mod Puts
