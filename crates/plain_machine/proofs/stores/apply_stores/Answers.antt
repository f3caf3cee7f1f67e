-- Answers to the goals that the check of `apply_stores` leaves open.
use Rattle.std.proofs.Common.{◌≡◌, ◌+◌, ◌∷◌, length, get_or, drop, ap, sym, ◌∙◌, arith}
use Rattle.std.proofs.lemmas.List.{at_drop_more}
use Rattle.memory_spec.specs.Access.{bytes_stored}
use Rattle.memory_spec.specs.Pages.{Memory}
use Rattle.memory_spec.specs.Stores.{with_stores}
use Rattle.plain_machine.specs.Stored.{StoredNumber, bytes_of}
use Rattle.plain_machine.proofs.Laying.{with_stores-append, with_stores_count}
use Rattle.plain_machine.proofs.stores.apply_stores.Goals as goal

pub loop-stored-preserved : goal.loop-stored-preserved
loop-stored-preserved c =
    let map = c.args.map.now in
    let s : StoredNumber = c.stored-item.result in
    let rest = drop (c.loop-stored.stored-index + 1) c.args.stores.now in
    let item : get_or c.args.stores.now c.loop-stored.stored-index s ≡ s = sym c.stored-item.is in (
      ap (λ (m : Memory). with_stores map m (bytes_of rest)) c.in_ok-apply_store.ensures.ok
          ∙ sym (with_stores-append map c.loop-stored.memory (bytes_stored s.address s.size s.value) (bytes_of rest))
          ∙ ap (λ (x : StoredNumber). with_stores map c.loop-stored.memory (bytes_of (x ∷ rest))) (sym item)
          ∙ sym (at_drop_more (λ stores. with_stores map c.loop-stored.memory (bytes_of stores)) c.args.stores.now
          c.loop-stored.stored-index s (omega arith))
          ∙ c.loop-stored.invariant.0,
      ap length c.in_ok-apply_store.ensures.ok ∙ with_stores_count map c.loop-stored.memory (bytes_stored s.address s.size s.value)
          ∙ c.loop-stored.invariant.1,
    )
