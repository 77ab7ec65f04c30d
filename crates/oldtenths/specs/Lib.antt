-- What a reader must believe about the old tenths. The calls by them are those of calmap and touchcal.
pub mod OldTenths
