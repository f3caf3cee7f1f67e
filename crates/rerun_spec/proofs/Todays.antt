-- No record of an honest history comes from before M.
use Rattle.std.proofs.Common.{◌≡◌, ℕ, ◌%◌, Bool, true, false, ◌&&◌, List, [], ◌∷◌, Option, Some, None, Ok, is_none, refl, ap, sym, ◌∙◌}
use Rattle.isa_spec.specs.Registers.{Registers}
use Rattle.memory_spec.specs.declared.Size.TheVariants.{Four}
use Rattle.memory_spec.specs.Pages.{Mapped, Memory, IsMemory, slot_of}
use Rattle.memory_spec.specs.Stores.{with_stores}
use Rattle.memory_spec.specs.Access.{number_at}
use Rattle.thunk_spec.specs.Thunk.{Frame, thunk}
use Rattle.thunk_spec.specs.Record.{Kept, kept_thunk}
use Rattle.machine_spec.specs.Machine.{Machine, hart_of, is_ready}
use Rattle.machine_spec.specs.Step.{step, can_step}
use Rattle.machine_spec.specs.Schedule.{is_permitted_from, record_of, records_from}
use Rattle.machine_spec.specs.Setup.{first, map_of}
use Rattle.machine_spec.specs.Whole.{IsWhole}
use Rattle.machine_spec.proofs.Harts.{ready-below}
use Rattle.machine_spec.proofs.Beginning.{IsWhole-first}
use Rattle.machine_spec.proofs.Steps.{hart-at, step-whole}
use Rattle.history_spec.specs.History.{History, IsHonest, schedule_of}
use Rattle.history_spec.proofs.Scratch.{and-left, and-right, step-frame}
use Rattle.history_spec.proofs.Mapped.{first-map}
use Rattle.history_spec.proofs.Truth.{honest-coherent}
use Rattle.memo_spec.specs.Encoding.{memo, IsEncodable}
use Rattle.memo_spec.specs.Reading.{reading}
use Rattle.memo_spec.specs.Old.{is_of_m, known_byte, known_word, is_illegal, is_known_of_m, ends_at_m, last_ends_at_m, is_before_m}
use Rattle.memo_spec.proofs.Laws.{encoded_is_read, memo_taken}
use Rattle.rerun_spec.proofs.Illegal.{StandsAtIllegal, thunk-stands, undecoded-m}
use Rattle.rerun_spec.proofs.Telling.{Tells, with_stores-tells, word-tells}

tells-none : (o : Option ℕ) (w : ℕ) → Tells o w → is_of_m w ≡ false → is_known_of_m o ≡ false
tells-none None w reported other = refl
tells-none (Some n) w reported other = ap is_of_m reported ∙ other

-- a record determines an aligned word as it is after its thunk
kept-word :
    (f : Frame) (view : Memory) (r : Registers) (a : ℕ) → IsMemory f.map view → a % 4 ≡ 0
    → Tells (known_word f.map (kept_thunk f view r) a)
    (number_at f.map (with_stores f.map view (thunk f view r).stores) a Four)
unfolding kept_thunk
kept-word f view r a whole aligned =
    word-tells f.map (with_stores f.map view (thunk f view r).stores) a (known_byte f.map (kept_thunk f view r)) aligned
    (λ address.
    with_stores-tells f.map view (thunk f view r).stores (thunk f view r).taken (slot_of f.map address) (address % 4096)
    whole)

-- what is kept of a thunk isn't from before M
kept-todays :
    (f : Frame) (view : Memory) (r : Registers) (k : Kept) → IsMemory f.map view → k ≡ kept_thunk f view r
    → (is_illegal k.end && is_known_of_m (known_word f.map k k.finish.pc)) ≡ false
unfolding kept_thunk
kept-todays f view r k whole is = rw is (here (is_illegal (thunk f view r).end) refl)
  where
    here :
        (b : Bool) → is_illegal (thunk f view r).end ≡ b
        → (b && is_known_of_m (known_word f.map (kept_thunk f view r) (thunk f view r).regs.pc)) ≡ false
    here false legal = refl
    here true illegal =
        let stands : StandsAtIllegal f.map (with_stores f.map view (thunk f view r).stores) (thunk f view r).regs =
        thunk-stands f view r illegal in
        tells-none (known_word f.map (kept_thunk f view r) (thunk f view r).regs.pc)
        (number_at f.map (with_stores f.map view (thunk f view r).stores) (thunk f view r).regs.pc Four)
        (kept-word f view r (thunk f view r).regs.pc whole stands.aligned)
        (undecoded-m _ stands.none)

-- nor is the record of a step
record-todays :
    (m : Machine) (t : ℕ) → IsWhole m → can_step m t ≡ true
    → ends_at_m m.frame.map (record_of m t) ≡ false
record-todays m t whole can =
    kept-todays m.frame (hart_of m t).view (hart_of m t).regs (record_of m t).kept
    (hart-at m.frame.map m.steps m.harts t
    (ready-below m.harts t (and-right (is_none m.ending) (is_ready (hart_of m t).status) can)) whole.harts).view
    refl

records-todays :
    (m : Machine) (ts : List ℕ) → IsWhole m → is_permitted_from m ts ≡ true
    → last_ends_at_m m.frame.map (records_from m ts) ≡ false
records-todays m [] whole permitted = refl
records-todays m (t ∷ []) whole permitted =
    record-todays m t whole (and-left (can_step m t) (is_permitted_from (step m t) []) permitted)
records-todays m (t ∷ u ∷ ts) whole permitted =
    let can : can_step m t ≡ true = and-left (can_step m t) (is_permitted_from (step m t) (u ∷ ts)) permitted in
    ap (λ (f : Frame). last_ends_at_m f.map (records_from (step m t) (u ∷ ts))) (sym (step-frame m t))
    ∙ records-todays (step m t) (u ∷ ts) (step-whole m t whole can)
    (and-right (can_step m t) (is_permitted_from (step m t) (u ∷ ts)) permitted)

-- so an honest history isn't from before M
pub honest-todays : (h : History) → IsHonest h → is_before_m h ≡ false
unfolding is_before_m
honest-todays h honest =
    ap (last_ends_at_m (map_of h.setup)) honest.recorded
    ∙ ap (λ (map : List Mapped). last_ends_at_m map (records_from (first h.setup) (schedule_of h)))
    (sym (first-map h.setup))
    ∙ records-todays (first h.setup) (schedule_of h) (IsWhole-first h.setup honest.valid) honest.permitted

-- and its memo is read as that history
pub honest-read : (h : History) → IsHonest h → IsEncodable h → reading (memo h) ≡ Ok h
honest-read h honest fit =
    encoded_is_read (memo h) h (memo_taken h fit (honest-coherent h honest))
