-- The pages that segments touch, up to a count.
use Rattle.std.specs.Prelude.{ℕ, ◌≡◌, ◌+◌, ◌<◌, Bool, false, List, filter, get_or, length}
use Rattle.std.specs.List.{range_with_len, list_any}
use Rattle.memory_spec.specs.Pages.{Mapped}
use Rattle.elf_spec.specs.Header.{segments}
use Rattle.elf_spec.specs.Segments.{touches, page_permission, highest_page}

-- Each page up to the highest that a segment touches has a mark, which is true exactly if a segment touches it.
pub record MarksTouched (bytes : List ℕ) (marks : List Bool) : Type 0 where
  pub count : length marks ≡ highest_page (segments bytes) + 1
  pub each :
      (number : ℕ) → number < length marks
      → get_or marks number false ≡ list_any (touches number) (segments bytes)

-- The numbers below a count of the pages that a segment touches.
abbrev pub touched_below : List ℕ → ℕ → List ℕ
touched_below bytes count = filter (λ number. list_any (touches number) (segments bytes)) (range_with_len 0 count)

-- The page of a number with its access rights. (System V gABI, ch. 5, Segment Permissions)
abbrev pub mapped_at : List ℕ → ℕ → Mapped
mapped_at bytes number = record { number = number; permission = page_permission (segments bytes) number }
