pub mod TournamentLemmas
pub mod MemberLemmas
pub mod ChainLemmas
pub mod PairLemmas
pub mod QueueLemmas
