pub mod AnswerLaws
pub mod CertificateLaws
pub mod EvidenceLaws
