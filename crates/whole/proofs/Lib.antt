-- Choices by a test, the laws of whole numbers, the ring solver, the laws of sums, counts and net counts, sizes of numbers, and lists
-- laid down member by member.
pub mod Tests
pub mod Int
pub mod Ring
pub mod Sums
pub mod Bound
pub mod Laid
