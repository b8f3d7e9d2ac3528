pub mod Waiting
pub mod Policies
pub mod DistinctLaws
pub mod WaitingLaws
pub mod PlaceLaws
