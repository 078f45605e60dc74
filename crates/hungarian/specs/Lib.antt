-- What the solver's contracts cite, from the weights up to what is solved.
pub mod Limits
pub mod Weights
pub mod Settled
pub mod Tree
pub mod Growth
pub mod Reach
pub mod Path
pub mod Search
pub mod Insertion
pub mod Solved
pub mod LiveWeights
pub mod Exact
pub mod Demand3
