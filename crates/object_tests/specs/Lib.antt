-- What holds of the objects in the tests.
pub mod Crowds
