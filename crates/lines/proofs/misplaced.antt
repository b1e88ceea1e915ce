pub mod Misplacing
