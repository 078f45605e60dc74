-- What the calls mean. The statements of the theorems are Demand1, Demand2, Histories, BySlides, EnoughEdges, EnoughItems and OneItem.
pub mod Edges
pub mod Items
pub mod Arrive
pub mod Withdraw
pub mod ReadOut
pub mod Demand1
pub mod Demand2
pub mod Histories
pub mod BySlides
pub mod EnoughEdges
pub mod EnoughItems
pub mod OneItem
