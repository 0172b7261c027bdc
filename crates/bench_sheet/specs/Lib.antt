pub mod Cut
pub mod Numeral
pub mod Said
pub mod Sheets
