-- What labels of triangles are compared with.
pub mod Labels
