-- Numbers of 64 bits as an answer.
pub mod Sets
