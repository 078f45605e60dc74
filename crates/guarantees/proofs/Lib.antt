-- The proof of the page, from the crates below: what the check accepts, texts by the slides, small sheets and the one at their edge, the slow count beside the
-- exact level, and the page itself.
pub mod Bounds
pub mod Checks
pub mod BesideExact
pub mod BySlides
pub mod Small
pub mod Sharp
pub mod BesideCount
pub mod Guarantees
