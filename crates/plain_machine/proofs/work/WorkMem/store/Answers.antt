-- Answers to the goals that the check of `store` leaves open.
use Rattle.std.proofs.Common.{◌≡◌, ◌+◌, ◌-◌, ◌++◌, ℕ, List, [], ◌∷◌, length, take, refl, ap, sym, ◌∙◌, arith}
use Rattle.std.proofs.Math.Seq.{take-append_seam}
use Rattle.std.specs.Arc.{arc_value}
use Rattle.memory_spec.specs.Pages.{allows, write_right, permission_at}
use Rattle.memory_spec.specs.Access.{bytes_stored, may_store}
use Rattle.memory_spec.specs.Stores.{with_stores}
use Rattle.plain_machine.specs.Stored.{StoredNumber}
use Rattle.plain_machine.proofs.Laying.{with_stores_count}
use Rattle.plain_machine.proofs.Merging.{kept-more, marked-more}
use Rattle.plain_machine.proofs.work.WorkMem.store.Goals as goal

abbrev number : goal.In-Ok-apply_store → StoredNumber
number c = record { address = c.args.address; size = c.args.size; value = c.args.value }

-- the store was listed after the others
listed : (c : goal.In-Ok-apply_store) → c.push.new.self.items ≡ c.self.inside.stores.items ++ number c ∷ []
listed c = c.in-Ok.ensures.items ∙ ap (λ (s : StoredNumber). c.self.inside.stores.items ++ s ∷ []) c.new-stored.ensures

-- and applied to the memory
pages :
    (c : goal.In-Ok-apply_store)
    → c.apply_store.new.memory ≡ with_stores (arc_value c.self.inside.map) c.self.inside.memory
    (bytes_stored c.args.address c.args.size c.args.value)
pages c =
    c.in-Ok-apply_store.ensures.ok
    ∙ ap (λ map. with_stores map c.self.inside.memory
    (bytes_stored c.new-stored.result.address c.new-stored.result.size c.new-stored.result.value)) c.deref-in-Some.ensures
    ∙ ap (λ (s : StoredNumber). with_stores (arc_value c.self.inside.map) c.self.inside.memory
    (bytes_stored s.address s.size s.value)) c.new-stored.ensures

-- a list that grew by one element and lost its last is as before
popped :
    (before pushed after : List StoredNumber) (s : StoredNumber) (n m : ℕ)
    → pushed ≡ before ++ s ∷ [] → after ≡ take (n - 1) pushed → n ≡ m + 1 → m ≡ length before → after ≡ before
popped before pushed after s n m more less one count =
    let rest : n - 1 ≡ length before = omega arith in
    less ∙ rw (rest, more) (take-append_seam before (s ∷ []))

-- the store that wasn't applied isn't listed
unlisted : (c : goal.After-pop) → c.pop.new.self.items ≡ c.self.inside.stores.items
unlisted c =
    popped c.self.inside.stores.items _ _ _ _ _ c.in-Ok.ensures.items c.pop.ensures.rest c.in-Ok.ensures.len
    c.self.inside.stores.ok.0

pub invariant_of-self : goal.invariant_of-self
invariant_of-self c =
    record {
      count = c.self.invariant.count;
      applies = λ shared whole. rw c.in_default.ensures.items (c.self.invariant.applies shared whole);
      last = c.self.invariant.last;
    }

pub invariant_of-self-in_default-apply_store : goal.invariant_of-self-in_default-apply_store
invariant_of-self-in_default-apply_store c =
    let same = c.in_default-apply_store.ensures.err in
    record {
      count = ap length same ∙ c.self.invariant.count;
      applies = λ shared whole. rw (unlisted c, same) (c.self.invariant.applies shared whole);
      last = c.self.invariant.last;
    }

pub returns-in_default-apply_store : goal.returns-in_default-apply_store
returns-in_default-apply_store c = rw (unlisted c, c.in_default-apply_store.ensures.err) c.self.view_is

pub invariant_of-self-in-Ok-apply_store : goal.invariant_of-self-in-Ok-apply_store
invariant_of-self-in-Ok-apply_store c =
    record {
      count = ap length (pages c)
          ∙ with_stores_count (arc_value c.self.inside.map) c.self.inside.memory
          (bytes_stored c.args.address c.args.size c.args.value)
          ∙ c.self.invariant.count;
      applies = λ shared whole.
          rw (listed c, pages c)
          (kept-more (arc_value c.self.inside.map) c.self.inside.stores.items (number c) c.self.inside.memory shared
          (c.self.invariant.applies shared whole));
      last = c.self.invariant.last;
    }

pub returns-in-Ok-apply_store : goal.returns-in-Ok-apply_store
unfolding may_store
returns-in-Ok-apply_store c =
    let perm : c.in-Some.perm.0 ≡ permission_at (arc_value c.self.inside.map) c.args.address =
    rw (← c.deref.ensures) c.in-Some.ensures.perm in
    rw (
      ← c.self.view_is,
      pages c,
      listed c,
      marked-more (arc_value c.self.inside.map) c.self.inside.stores.items
          (number c),
    )
    (ap (allows write_right) (sym perm) ∙ sym c.if-not-writes.ensures, refl)
