pub mod Printed
pub mod Determined
