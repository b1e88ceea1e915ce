pub mod Printable
