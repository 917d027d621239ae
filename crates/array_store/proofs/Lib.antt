pub mod IntervalLemmas
pub mod StoreLemmas
pub mod FollowsLemmas
pub mod CountingLemmas
pub mod PlaceLemmas
pub mod CameLemmas
pub mod GoneLemmas
pub mod RoomLemmas
