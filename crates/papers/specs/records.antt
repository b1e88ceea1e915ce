pub mod FieldsAre
