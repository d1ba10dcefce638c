-- The theorem that reading is the standard's: reads-the-standard in Standard, and that the numbers form tells the sheet in NumbersForm.
pub mod NumbersForm
pub mod Standard
