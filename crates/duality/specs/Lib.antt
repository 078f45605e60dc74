-- Weighted bipartite matchings and their covers. Definitions first, then the statement of each theorem, each in the file of its name.
pub mod Sums
pub mod Matching
pub mod Cover
pub mod Greatest
pub mod Decide
pub mod Tests
pub mod Lists
pub mod Steps
pub mod WeakDuality
pub mod Tightness
pub mod Share
pub mod StrongDuality
pub mod ComplementarySlackness
pub mod EqualExactlyWhenBest
pub mod GreatestWeight
pub mod TestsDecide
pub mod PriceSteps
