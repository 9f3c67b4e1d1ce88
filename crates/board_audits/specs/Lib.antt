pub mod Audits
pub mod AuditWalks
pub mod AuditLaws
