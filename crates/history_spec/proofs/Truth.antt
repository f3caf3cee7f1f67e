-- The records of a permitted schedule are true, so those of an honest history are; applied if they fit, they are the
-- steps.
use Rattle.std.proofs.Common.{◌≡◌, ℕ, Bool, true, false, cond, ◌&&◌, eqb, List, [], ◌∷◌, Option, Some, None, is_none, is_some, find, refl, ap, sym, ◌∙◌, subst, arith}
use Rattle.std.proofs.lemmas.Bool.{eq-eqb, eqb-true}
use Rattle.std.proofs.lemmas.Bool.Decides.{nat_tests}
use Rattle.std.specs.List.{AllByRecursion}
use Rattle.isa_spec.specs.Registers.{Registers, same_registers}
use Rattle.isa_spec.proofs.Equality.{same_registers-true, same_registers-refl}
use Rattle.memory_spec.specs.Pages.{IsMemory}
use Rattle.thunk_spec.specs.Thunk.{Frame}
use Rattle.thunk_spec.specs.Reads.{has}
use Rattle.thunk_spec.specs.Record.{Kept, Record, IsTrue, kept_thunk, may_end, fits_at}
use Rattle.thunk_spec.proofs.Truth.{has-kept, IsTrue-kept}
use Rattle.thunk_spec.proofs.Fuel.{IsTrue-within, kept-within}
use Rattle.machine_spec.specs.Machine.{Hart, Machine, hart_of, is_ready}
use Rattle.machine_spec.specs.Step.{step, apply, fits, can_step}
use Rattle.machine_spec.specs.Schedule.{scratch_from, is_permitted_from, record_of, records_from}
use Rattle.machine_spec.specs.Setup.{Setup, first, map_of}
use Rattle.machine_spec.specs.Whole.{IsWhole}
use Rattle.machine_spec.proofs.Harts.{ready-below}
use Rattle.machine_spec.proofs.Beginning.{IsWhole-first}
use Rattle.machine_spec.proofs.Steps.{hart-at, step-whole, apply-step}
use Rattle.history_spec.specs.History.{History, IsHonest, IsSameProgram, schedule_of, applied_from, can_apply_from, is_coherent, IsSound, is_of, past_records, found}
use Rattle.history_spec.proofs.Scratch.{and-left, and-right, step-frame}

-- a record that is true in a frame
abbrev pub IsTrueIn : Frame → Record → Type 0
IsTrueIn frame r = IsTrue frame r.start r.kept

view-whole :
    (m : Machine) (t : ℕ) → IsWhole m → is_ready (hart_of m t).status ≡ true
    → IsMemory m.frame.map (hart_of m t).view
view-whole m t whole ready = (hart-at m.frame.map m.steps m.harts t (ready-below m.harts t ready) whole.harts).view

-- the record of a step is true
pub record-true : (m : Machine) (t : ℕ) → IsWhole m → can_step m t ≡ true → IsTrueIn m.frame (record_of m t)
record-true m t whole can =
    IsTrue-kept m.frame (hart_of m t).view (hart_of m t).regs
    (view-whole m t whole (and-right (is_none m.ending) (is_ready (hart_of m t).status) can))

-- the records of a permitted schedule are true
pub records-true :
    (m : Machine) (ts : List ℕ) → IsWhole m → is_permitted_from m ts ≡ true
    → AllByRecursion (IsTrueIn m.frame) (records_from m ts)
records-true m [] whole permitted = tt
records-true m (t ∷ ts) whole permitted =
    let can : can_step m t ≡ true = and-left (can_step m t) (is_permitted_from (step m t) ts) permitted in (
      record-true m t whole can,
      subst (λ (f : Frame). AllByRecursion (IsTrueIn f) (records_from (step m t) ts)) (step-frame m t)
          (records-true (step m t) ts (step-whole m t whole can)
          (and-right (can_step m t) (is_permitted_from (step m t) ts) permitted)),
    )

-- the records of an honest history are true
pub honest-true : (h : History) → IsHonest h → AllByRecursion (IsTrueIn (first h.setup).frame) h.records
honest-true h honest =
    subst (λ (rs : List Record). AllByRecursion (IsTrueIn (first h.setup).frame) rs) (sym honest.recorded)
    (records-true (first h.setup) (schedule_of h) (IsWhole-first h.setup honest.valid) honest.permitted)

-- what holds of each record holds of the one that is found
pub found-all :
    (P : Record → Type 0) (t number : ℕ) (rs : List Record) (r : Record)
    → AllByRecursion P rs → find (is_of t number) rs ≡ Some r → P r
found-all P t number [] r all there = cc
found-all P t number (x ∷ rs) r all there = here (is_of t number x) (found-all P t number rs r all.1) there
  where
    here :
        (b : Bool) → (find (is_of t number) rs ≡ Some r → P r) → cond b (Some x) (find (is_of t number) rs) ≡ Some r
        → P r
    here true later h = let same : x ≡ r = cc in subst P same all.0
    here false later h = later h

-- a found record is of the thread, at the number
pub found-of :
    (t number : ℕ) (rs : List Record) (r : Record) → find (is_of t number) rs ≡ Some r
    → (r.thread ≡ t) × (r.number ≡ number)
found-of t number [] r there = cc
found-of t number (x ∷ rs) r there = here (is_of t number x) refl (found-of t number rs r) there
  where
    here :
        (b : Bool) → is_of t number x ≡ b
        → (find (is_of t number) rs ≡ Some r → (r.thread ≡ t) × (r.number ≡ number))
        → cond b (Some x) (find (is_of t number) rs) ≡ Some r → (r.thread ≡ t) × (r.number ≡ number)
    here true is later h =
        let same : x ≡ r = cc in
        subst (λ (y : Record). (y.thread ≡ t) × (y.number ≡ number)) same (
          eqb-true x.thread t (and-left (eqb x.thread t) (eqb x.number number) is),
          eqb-true x.number number
              (and-right (eqb x.thread t) (eqb x.number number) is),
        )
    here false is later h = later h

-- setups of the same program have frames that differ in nothing but the fuel
same-frame :
    (a b : Setup) → IsSameProgram a b
    → record (first a).frame { fuel = (first b).frame.fuel } ≡ (first b).frame
unfolding first map_of
same-frame a b same = rw same refl

-- a record that fits ended within the machine's fuel
pub fits-within : (m : Machine) (r : Record) → fits m r ≡ true → may_end m.frame.fuel r.kept.end r.kept.count ≡ true
unfolding fits fits_at
fits-within m r fit = grind (arith, nat_tests)

same-record :
    (r : Record) (n : ℕ) (x : Registers) (k : Kept) → r.number ≡ n → r.start ≡ x → r.kept ≡ k
    → r ≡ record { thread = r.thread; number = n; start = x; kept = k }
same-record r n x k number start kept = rw (← number, ← start, ← kept) refl

-- a true record that fits is the record of its thread's next step
pub fits-record :
    (m : Machine) (r : Record) → IsWhole m → IsTrueIn m.frame r → fits m r ≡ true
    → r ≡ record_of m r.thread
unfolding fits fits_at
fits-record m r whole honest fit =
    let ready : is_ready (hart_of m r.thread).status ≡ true = grind (arith, nat_tests) in
    let number : r.number ≡ (hart_of m r.thread).number = grind (arith, nat_tests) in
    let regs : r.start ≡ (hart_of m r.thread).regs =
    same_registers-true r.start (hart_of m r.thread).regs (grind (arith, nat_tests)) in
    let reads : has (hart_of m r.thread).view r.kept.reads ≡ true = grind (arith, nat_tests) in
    same-record r (hart_of m r.thread).number (hart_of m r.thread).regs
    (kept_thunk m.frame (hart_of m r.thread).view (hart_of m r.thread).regs) number regs
    (rw (← regs) (sym (honest.same (hart_of m r.thread).view (view-whole m r.thread whole ready) reads)))

-- the record of a ready thread's next step fits
pub record-fits : (m : Machine) (t : ℕ) → is_ready (hart_of m t).status ≡ true → fits m (record_of m t) ≡ true
unfolding fits fits_at
record-fits m t ready =
    let number : eqb (hart_of m t).number (hart_of m t).number ≡ true =
    eq-eqb (hart_of m t).number (hart_of m t).number refl in
    let regs : same_registers (hart_of m t).regs (hart_of m t).regs ≡ true = same_registers-refl (hart_of m t).regs in
    let reads : has (hart_of m t).view (kept_thunk m.frame (hart_of m t).view (hart_of m t).regs).reads ≡ true =
    has-kept m.frame (hart_of m t).view (hart_of m t).regs in
    let within = kept-within m.frame (hart_of m t).view (hart_of m t).regs in
    rw (ready, number, regs, reads, within) refl

-- applying it is making the step
pub record-apply : (m : Machine) (t : ℕ) → IsWhole m → can_step m t ≡ true → apply m (record_of m t) ≡ step m t
record-apply m t whole can =
    apply-step m (record_of m t) whole (record-true m t whole can)
    (record-fits m t (and-right (is_none m.ending) (is_ready (hart_of m t).status) can))

-- applying the records of a permitted schedule is making its steps
pub records-applied :
    (m : Machine) (ts : List ℕ) → IsWhole m → is_permitted_from m ts ≡ true
    → applied_from m (records_from m ts) ≡ scratch_from m ts
records-applied m [] whole permitted = refl
records-applied m (t ∷ ts) whole permitted =
    let can : can_step m t ≡ true = and-left (can_step m t) (is_permitted_from (step m t) ts) permitted in
    ap (λ (x : Machine). applied_from x (records_from (step m t) ts)) (record-apply m t whole can)
    ∙ (records-applied (step m t) ts (step-whole m t whole can)
    (and-right (can_step m t) (is_permitted_from (step m t) ts) permitted))

pub records-can_apply :
    (m : Machine) (ts : List ℕ) → IsWhole m → is_permitted_from m ts ≡ true
    → can_apply_from m (records_from m ts) ≡ true
records-can_apply m [] whole permitted = refl
records-can_apply m (t ∷ ts) whole permitted =
    let can : can_step m t ≡ true = and-left (can_step m t) (is_permitted_from (step m t) ts) permitted in
    let none : is_none m.ending ≡ true = and-left (is_none m.ending) (is_ready (hart_of m t).status) can in
    let fit : fits m (record_of m t) ≡ true =
    record-fits m t (and-right (is_none m.ending) (is_ready (hart_of m t).status) can) in
    rw (none, fit, record-apply m t whole can)
    (records-can_apply (step m t) ts (step-whole m t whole can)
    (and-right (can_step m t) (is_permitted_from (step m t) ts) permitted))

-- an honest history is coherent
pub honest-coherent : (h : History) → IsHonest h → is_coherent h ≡ true
honest-coherent h honest =
    let whole : IsWhole (first h.setup) = IsWhole-first h.setup honest.valid in
    let can : can_apply_from (first h.setup) h.records ≡ true =
    ap (λ (rs : List Record). can_apply_from (first h.setup) rs) honest.recorded
    ∙ records-can_apply (first h.setup) (schedule_of h) whole honest.permitted in
    let applied : applied_from (first h.setup) h.records ≡ scratch_from (first h.setup) (schedule_of h) =
    ap (λ (rs : List Record). applied_from (first h.setup) rs) honest.recorded
    ∙ records-applied (first h.setup) (schedule_of h) whole honest.permitted in
    let ended : is_some (applied_from (first h.setup) h.records).ending ≡ true =
    ap (λ (m : Machine). is_some m.ending) applied ∙ honest.complete in
    rw (can, ended) refl

-- a history that a run may be based on has records that are true if they ended within its fuel
sound-true :
    (past : Option History) (setup : Setup) (t number : ℕ) (r : Record)
    → IsSound past setup → found past t number ≡ Some r
    → may_end (first setup).frame.fuel r.kept.end r.kept.count ≡ true
    → IsTrueIn (first setup).frame r
sound-true None setup t number r sound there within = cc
sound-true (Some h) setup t number r sound there within =
    subst (λ (f : Frame). IsTrueIn f r) (same-frame h.setup setup sound.1)
    (IsTrue-within (first h.setup).frame (first setup).frame.fuel r.start r.kept
    (found-all (IsTrueIn (first h.setup).frame) t number h.records r (honest-true h sound.0) there) within)

-- a record that is found, and fits a machine of a run, is true there
found-true :
    (setup : Setup) (past : Option History) (m : Machine) (t number : ℕ) (r : Record)
    → IsSound past setup → m.frame ≡ (first setup).frame
    → found past t number ≡ Some r → fits m r ≡ true
    → IsTrueIn m.frame r
found-true setup past m t number r sound frame there fit =
    subst (λ (f : Frame). IsTrueIn f r) (sym frame)
    (sound-true past setup t number r sound there
    (ap (λ (f : Frame). may_end f.fuel r.kept.end r.kept.count) (sym frame) ∙ fits-within m r fit))

-- a found record is of the thread, at the number
pub past-of :
    (past : Option History) (t number : ℕ) (r : Record)
    → found past t number ≡ Some r → (r.thread ≡ t) × (r.number ≡ number)
past-of past t number r there = found-of t number (past_records past) r there

-- a record that is found, and fits a machine of a run, is that of the thread's next step
pub reuse-record :
    (setup : Setup) (past : Option History) (m : Machine) (t number : ℕ) (r : Record)
    → IsSound past setup → IsWhole m → m.frame ≡ (first setup).frame
    → found past t number ≡ Some r → fits m r ≡ true
    → r ≡ record_of m t
reuse-record setup past m t number r sound whole frame there fit =
    fits-record m r whole (found-true setup past m t number r sound frame there fit) fit
    ∙ ap (record_of m) (past-of past t number r there).0

-- and applying it is making the step
pub reuse-apply :
    (setup : Setup) (past : Option History) (m : Machine) (t number : ℕ) (r : Record)
    → IsSound past setup → IsWhole m → m.frame ≡ (first setup).frame
    → found past t number ≡ Some r → fits m r ≡ true
    → apply m r ≡ step m t
reuse-apply setup past m t number r sound whole frame there fit =
    apply-step m r whole (found-true setup past m t number r sound frame there fit) fit
    ∙ ap (step m) (past-of past t number r there).0

-- under one fuel, whether a record fits depends on its thread's hart alone
pub fits-hart :
    (m n : Machine) (r : Record) → n.frame.fuel ≡ m.frame.fuel → hart_of n r.thread ≡ hart_of m r.thread
    → fits n r ≡ fits m r
unfolding fits
fits-hart m n r fuel same =
    ap (λ (h : Hart). is_ready h.status && fits_at r h.number h.regs h.view n.frame.fuel) same
    ∙ ap
    (λ (fuel : ℕ). is_ready (hart_of m r.thread).status
    && fits_at r (hart_of m r.thread).number (hart_of m r.thread).regs (hart_of m r.thread).view fuel)
    fuel

-- setups of the same program with the same input and limits
pub same-setup :
    (a b : Setup) → IsSameProgram a b → a.input ≡ b.input → a.fuel ≡ b.fuel → a.limit ≡ b.limit → a ≡ b
same-setup a b same input fuel limit = rw (← same, ← fuel, ← limit, ← input) refl
