-- Answers to the goals that the check of `apply_store` leaves open.
use Rattle.std.proofs.Common.{◌≡◌, ◌%◌, ◌<◌, ℕ, length, set, ap, sym, ◌∙◌, arith}
use Rattle.memory_spec.specs.Pages.{slot_of, page_of}
use Rattle.plain_machine.specs.Stored.{with_number}
use Rattle.plain_machine.proofs.Placing.{with_stores_in_page, with_stores_nowhere}
use Rattle.plain_machine.proofs.stores.apply_store.Goals as goal

pub returns-in_ok-write-clause-ok : goal.returns-in_ok-write-clause-ok
returns-in_ok-write-clause-ok c =
    let map = c.args.map.now in
    let m = c.args.memory.now in
    let s = c.stored.inside in
    let slot : c.in-Some.slot ≡ slot_of map s.address = c.in-Some.ensures.found.0 in
    let mapped : slot_of map s.address < length m = omega (arith, slot, c.in-Some.ensures.found.1, c.requires) in
    rw (← c.stored.view_is)
    (c.in_ok-write.ensures.ok
    ∙ ap (λ (o : ℕ). set m c.in-Some.slot (with_number (page_of m c.in-Some.slot) o s.size s.value))
    c.offset_of-offset.ensures
    ∙ ap (λ (k : ℕ). set m k (with_number (page_of m k) (s.address % 4096) s.size s.value)) slot
    ∙ sym (with_stores_in_page map m s.address s.size s.value c.stored.invariant mapped))

pub returns-in_default-clause-ok : goal.returns-in_default-clause-ok
returns-in_default-clause-ok c =
    let s = c.stored.inside in
    rw (← c.stored.view_is)
    (sym (with_stores_nowhere c.args.map.now c.args.memory.now s.address s.size s.value c.stored.invariant
    (omega (arith, c.in_default.ensures.missing, c.requires))))
