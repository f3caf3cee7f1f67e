-- Answers to the goals that the check of `digest_of` leaves open.
use Rattle.std.proofs.Common.{◌≡◌, ℕ, ◌+◌, ◌<◌, List, [], ◌++◌, length, get_or, take, ap, arith}
use Rattle.std.proofs.lemmas.List.{take_more, append-nil}
use Rattle.std.proofs.lemmas.List.Folds.{concat-append}
use Rattle.std.specs.List.{concat}
use Rattle.memory_spec.specs.Pages.{page_of}
use Rattle.round_report.proofs.digest.digest_of.Goals as goal

-- one more page
concat_next :
    (pages : List (List ℕ)) (slot : ℕ) → slot < length pages
    → concat (take (slot + 1) pages) ≡ concat (take slot pages) ++ page_of pages slot
concat_next pages slot within =
    rw (take_more pages slot [] within, concat-append)
    (ap (λ page. concat (take slot pages) ++ page) (append-nil (get_or pages slot [])))

pub loop-slot-preserved : goal.loop-slot-preserved
loop-slot-preserved c =
    let pages = c.args.memory.now in
    let slot = c.loop-slot.slot in
    let within : slot < length pages = omega arith in
    let held = c.update.ensures (concat (take slot pages)) c.loop-slot.invariant in
    rw (concat_next pages slot within, ← c.page.ensures.page, ← c.bytes.ensures.value, ← c.as_slice.ensures) held
