pub mod AtCell
