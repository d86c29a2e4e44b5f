pub mod BehindLaws
mod Examples
