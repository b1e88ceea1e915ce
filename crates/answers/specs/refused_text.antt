pub mod RefusedText
