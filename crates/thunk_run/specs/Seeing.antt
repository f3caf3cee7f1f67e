-- What was seen of the pages of a view.
use Rattle.std.specs.Prelude.{◌≡◌, ℕ, List, Option, Some, None, slice_index_or}
use Rattle.memory_spec.specs.Pages.{Memory, page_of}
use Rattle.rv_code.specs.Meaning.{Decoded}
use Rattle.thunk_run.specs.declared.pages.Seen.{Seen}
use Rattle.thunk_run.specs.declared.pages.Seen.TheVariants.{Nothing, Same}

-- If a slot was seen to be the same, the view has the bytes of the decoded page of that slot.
abbrev pub AreSeen : List (Option Decoded) → Memory → List Seen → Type 0
AreSeen code view seen =
    (slot : ℕ) (page : Decoded) → slice_index_or seen slot Nothing ≡ Same → slice_index_or code slot None ≡ Some page
    → page_of view slot ≡ page.bytes
