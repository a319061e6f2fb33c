pub mod Words
pub mod Text
