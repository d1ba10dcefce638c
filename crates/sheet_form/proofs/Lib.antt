-- The numbers form is a faithful code.
pub mod Form
