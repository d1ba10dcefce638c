-- The laws of polygons judged in number order.
pub mod Standing
pub mod Room
pub mod Fronts
pub mod Following
