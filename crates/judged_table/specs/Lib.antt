-- The check of a held sheet's table.
pub mod Checked
