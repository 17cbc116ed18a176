-- The report on a trace, and what a run, a play or a session does.
pub mod Report
pub mod Played
pub mod Reporting
pub mod Headline
pub mod Session
