-- What a reader must believe about the starred cases.
pub mod Starred
