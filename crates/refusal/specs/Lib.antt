-- What an outcome's number and value are.
pub mod Numbers
