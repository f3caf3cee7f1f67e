-- Pages that a thread runs instructions from.
use Rattle.std.specs.Prelude.{◌≡◌, ◌<◌, ℕ, ◌*◌, true, [], ◌∷◌, List, length, slice_set}
use Rattle.memory_spec.specs.Pages.{allows, execute_right, permission_at, slot_of, page_of}
use Rattle.memory_spec.specs.Workspace.{Workspace, after_taking}

-- The page of an address was entered, to run its instructions: it is in this slot, may be executed, and the memory has
-- the view's bytes in it; a byte of it was taken, and nothing else changed.
pub record Enters (before : Workspace) (address slot : ℕ) (after : Workspace) : Type 0 where
  pub slot_is : slot ≡ slot_of before.map address
  pub mapped : slot < length before.view
  pub permitted : allows execute_right (permission_at before.map address) ≡ true
  pub unchanged : page_of before.memory slot ≡ page_of before.view slot
  pub taken : after ≡ after_taking before (address ∷ [])

-- The instructions of the page of a number may be run from these bytes: the page may be executed, the memory has these
-- bytes in it, and a byte of it was taken before.
pub record RunsFrom (w : Workspace) (number : ℕ) (bytes : List ℕ) : Type 0 where
  pub permitted : allows execute_right (permission_at w.map (number * 4096)) ≡ true
  pub bytes_are : page_of w.memory (slot_of w.map (number * 4096)) ≡ bytes
  pub taken : slice_set w.taken (slot_of w.map (number * 4096)) true ≡ w.taken
