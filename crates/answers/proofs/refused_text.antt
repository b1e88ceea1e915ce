mod RefusedLaws
pub mod RefusedLength
