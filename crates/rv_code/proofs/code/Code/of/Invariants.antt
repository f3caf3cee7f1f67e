-- Each page so far was decoded.
use Rattle.std.proofs.Common.{◌≡◌, ◌<◌, ℕ, length, map, option_map, slice_index_or, None}
use Rattle.memory_spec.specs.Pages.{page_of, unmapped}
use Rattle.rv_code.specs.Pages.{IsDecodedAs}
use Rattle.rv_code.proofs.code.Code.of.Given as goal

abbrev pub invariant-loop-slot : goal.invariant-loop-slot
invariant-loop-slot l =
    record {
      count : length l.pages.items ≡ l.slot;
      each : (k : ℕ) → k < l.slot
          → IsDecodedAs (slice_index_or l.map k unmapped) (page_of l.memory k)
          (slice_index_or (map (option_map (λ page. page.value)) l.pages.items) k None);
    }
