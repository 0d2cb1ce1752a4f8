pub mod Text
pub mod Printer
