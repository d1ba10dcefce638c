-- A sheet in numbers: its numbers form, and the sheet that numbers make up.
pub mod Numbers
pub mod Form
