-- What is promised. Guarantees is the page to read first; Checks, BesideExact, BySlides, Small and BesideCount have laws that it names.
pub mod Checks
pub mod BesideExact
pub mod BySlides
pub mod Small
pub mod BesideCount
pub mod Guarantees
