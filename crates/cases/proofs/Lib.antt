-- The starred cases, proved.
pub mod Starred
