-- The invariant of the loop of `push_read`.
use Rattle.std.proofs.Common.{◌≡◌, ◌++◌, drop, map}
use Rattle.thunk_spec.specs.Reads.{ReadPage}
use Rattle.history_facts.proofs.slots.push_read.Given as goal

-- the slots so far, with the remaining ones, are all
abbrev pub invariant-loop-page : goal.invariant-loop-page
invariant-loop-page l =
    l.slots.items ++ map (λ (p : ReadPage). p.slot) (drop l.page-index l.pages)
    ≡ l.initial.slots.items ++ map (λ (p : ReadPage). p.slot) l.pages
