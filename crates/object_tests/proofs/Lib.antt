-- The lemmas of the tests.
pub mod Crowds
