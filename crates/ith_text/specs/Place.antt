-- The place of a reader in a file.
use Rattle.std.specs.Prelude.{ℕ, ◌≡◌, ◌+◌, List, ◌++◌, length}

-- A place in a file: the number of bytes that were taken, and the bytes that remain.
pub record Place : Type 0 where
  pub taken : ℕ
  pub left : List ℕ

-- These bytes were taken from the front of those that remained.
pub record Takes (bytes : List ℕ) (before after : Place) : Type 0 where
  pub front : before.left ≡ bytes ++ after.left
  pub count : after.taken ≡ before.taken + length bytes
