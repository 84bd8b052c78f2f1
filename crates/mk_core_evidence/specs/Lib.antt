pub mod EvidenceAnswer
pub mod NotRead
