pub mod AmongLemmas
pub mod QueryLemmas
pub mod WalkLemmas
pub mod PrecedeLemmas
pub mod ForkLemmas
pub mod OrphanLemmas
pub mod SetLemmas
pub mod LocalLemmas
pub mod FollowsLemmas
mod SuspendedLemmas
pub mod TurnLemmas
mod SeedLemmas
mod KeptLemmas
mod FirstLemmas
pub mod ChangedLemmas
pub mod NearLemmas
pub mod TurnedLemmas
pub mod UnmarkedLemmas
pub mod WaitingLemmas
pub mod SettlingLemmas
pub mod SolutionLemmas
pub mod RegionLemmas
pub mod AfterPublicLemmas
mod AddedLemmas
pub mod AmendLemmas
mod QuickLemmas
