-- The boundary of edges, cut at the table's corners, counted at each side of the table.
pub mod Counting
pub mod Indexed
