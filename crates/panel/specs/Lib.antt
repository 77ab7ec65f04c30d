-- What a reader must believe about the panel's geometry, in document 01's order.
pub mod Tests
pub mod Sizes
pub mod Refusals
pub mod Points
pub mod Distances
pub mod Centroids
pub mod Axes
