pub mod FieldLaws
mod LineLaws
mod NumberLaws
mod PutLaws
