-- The rule of the bid, the chain, what begins one, lists withdrawn; and the bid in the four steps of the slides, with what its code keeps: the leader of a
-- pick, floors; and a state told by plain numbers.
pub mod Potential
pub mod Rule
pub mod Waiting
pub mod RuleLaws
pub mod Moves
pub mod Withdrawals
pub mod WithdrawalLaws
pub mod Book
pub mod Leader
pub mod Floors
pub mod Slides
pub mod SlideLaws
