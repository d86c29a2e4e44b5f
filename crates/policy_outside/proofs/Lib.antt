mod Examples
pub mod PutLaws
