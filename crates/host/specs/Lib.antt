-- What a reader must believe about the calls of the host, beside what image has on calls on an area.
pub mod Hosts
