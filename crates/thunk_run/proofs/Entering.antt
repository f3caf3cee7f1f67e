-- Entering a page doesn't change what later turns do, and turns that follow do what the model's turns do.
use Rattle.std.proofs.Common.{◌≡◌, ℕ, ◌+◌, ◌-◌, ◌*◌, ◌/◌, ◌%◌, ◌≤◌, zero, suc, Bool, true, set, List, [], ◌∷◌, ◌++◌, subst, ap, sym, ◌∙◌, refl, eq-eqb, arith}
use Rattle.std.proofs.lemmas.List.{set-set}
use Rattle.isa_spec.specs.Registers.{Registers}
use Rattle.isa_spec.specs.Table.{decoded}
use Rattle.memory_spec.specs.declared.Size.TheVariants.{Four}
use Rattle.memory_spec.specs.Access.{number_at, fetched}
use Rattle.memory_spec.specs.Pages.{Mapped, Memory, allows, execute_right, permission_at, page_of, slot_of}
use Rattle.memory_spec.specs.Stores.{with_stores}
use Rattle.memory_spec.specs.Workspace.{Workspace, taken_at, after_taking, after_storing}
use Rattle.thunk_spec.specs.declared.ends.Outcome.{Outcome}
use Rattle.thunk_spec.specs.declared.ends.Outcome.TheVariants as outcome
use Rattle.thunk_spec.specs.Turn.{Turn, turn, word_turn, with_fetch}
use Rattle.thunk_spec.specs.Thunk.{Thunk, turns, followed}
use Rattle.page_store.specs.Entering.{Enters, RunsFrom}
use Rattle.page_store.proofs.Slots.{slot_of-page}
use Rattle.rv_step.specs.Step.{Makes, Follow}
use Rattle.rv_step.proofs.Pages.{permission_at-page}
use Rattle.thunk_run.specs.TurnsOutcome.{TurnsOutcome, outcome_by, outcome_after, counted}
use Rattle.thunk_run.proofs.Leaving.{counted-twice, turns-next}

-- a turn at a page that may be executed begins with its fetch
turn-fetches :
    (map : List Mapped) (memory : Memory) (r : Registers)
    → r.pc % 4 ≡ 0 → allows execute_right (permission_at map r.pc) ≡ true
    → turn map memory r
    ≡ with_fetch r.pc (word_turn map memory r (decoded (number_at map memory r.pc Four)))
unfolding turn fetched
turn-fetches map memory r aligned permitted = rw (eq-eqb (r.pc % 4) 0 aligned, permitted) refl

-- the pages of a turn come first in its thunk
followed-takes :
    (o : Outcome) (map : List Mapped) (memory : Memory) (address : ℕ) (t : Turn) (rest : Memory → Registers → Thunk)
    → (addresses : List ℕ) × (followed o map memory (with_fetch address t) rest).taken ≡ address ∷ addresses
followed-takes outcome.Next map memory address t rest =
    (t.taken ++ (rest (with_stores map memory t.stores) t.regs).taken, refl)
followed-takes outcome.Call map memory address t rest = (t.taken, refl)
followed-takes (outcome.Trap cause) map memory address t rest = (t.taken, refl)

-- turns at a page that may be executed take a byte of it first
turns-take :
    (map : List Mapped) (memory : Memory) (r : Registers) (n : ℕ)
    → r.pc % 4 ≡ 0 → allows execute_right (permission_at map r.pc) ≡ true
    → (addresses : List ℕ) × (turns map (suc n) memory r).taken ≡ r.pc ∷ addresses
turns-take map memory r n aligned permitted =
    let first = word_turn map memory r (decoded (number_at map memory r.pc Four)) in
    let is = turn-fetches map memory r aligned permitted in
    let P : Turn → Type 0 =
    λ t. (addresses : List ℕ) × (followed t.outcome map memory t (turns map n)).taken ≡ r.pc ∷ addresses in
    subst P (sym is) (followed-takes first.outcome map memory r.pc first (turns map n))

-- taking what is taken first changes nothing if it was taken before
taken-before :
    (w : Workspace) (address : ℕ) (t : Thunk)
    → ((addresses : List ℕ) × t.taken ≡ address ∷ addresses)
    → outcome_by (after_taking w (address ∷ [])) t ≡ outcome_by w t
taken-before w address t (addresses, is) =
    let marks : taken_at w.map (set w.taken (slot_of w.map address) true) t.taken ≡ taken_at w.map w.taken t.taken =
    rw is
    (ap (λ (taken : List Bool). taken_at w.map taken addresses) (set-set w.taken (slot_of w.map address) true true)) in
    ap (λ (taken : List Bool). record {
      regs = t.regs;
      end = t.end;
      count = t.count;
      workspace = after_storing (record w { taken = taken }) t.stores;
    }) marks

-- turns at a page that was entered do what they do if it wasn't
pub entered-outcome :
    (w after : Workspace) (r : Registers) (pc slot n : ℕ) → pc ≡ r.pc → Enters w pc slot after → pc % 4 ≡ 0 → 1 ≤ n
    → outcome_after n after r ≡ outcome_after n w r
entered-outcome w after r pc slot zero here enters aligned some = absurd (omega arith)
entered-outcome w after r pc slot (suc n) here enters aligned some =
    let permitted : allows execute_right (permission_at w.map r.pc) ≡ true = rw (← here) enters.permitted in
    let P : Workspace → Type 0 = λ v. outcome_after (suc n) v r ≡ outcome_after (suc n) w r in
    subst P (sym (enters.taken ∙ ap (λ (address : ℕ). after_taking w (address ∷ [])) here))
    (taken-before w r.pc (turns w.map (suc n) w.memory r) (turns-take w.map w.memory r n (omega arith) permitted))

-- a page that was entered, and whose bytes the view has, may be executed
pub entered-runs :
    (w after : Workspace) (pc slot number : ℕ) (bytes : List ℕ) → Enters w pc slot after → pc / 4096 ≡ number
    → page_of after.view slot ≡ bytes → RunsFrom after number bytes
entered-runs w after pc slot number bytes enters here shown =
    let permission : permission_at w.map (number * 4096) ≡ permission_at w.map pc =
    permission_at-page w.map (number * 4096) pc (omega arith) in
    let same : slot_of w.map (number * 4096) ≡ slot_of w.map pc = slot_of-page w.map (number * 4096) pc (omega arith) in
    rw enters.taken
    record {
      permitted = rw permission enters.permitted;
      bytes_are =
          rw (same, ← enters.slot_is)
          (enters.unchanged ∙ ap (λ (v : Workspace). page_of v.view slot) (sym enters.taken) ∙ shown);
      taken = rw same (set-set w.taken (slot_of w.map pc) true true);
    }

-- the result of turns that follow is that of the turns of the model
pub follow-outcome :
    (n fuel count k : ℕ) (w after : Workspace) (r registers : Registers)
    → Follow n w r after registers → count + n ≤ fuel → k ≡ count + n
    → counted k (outcome_after (fuel - k) after registers) ≡ counted count (outcome_after (fuel - count) w r)
follow-outcome zero fuel count k w after r registers (same, still) few is =
    let at : k ≡ count = omega arith in
    rw (at, same, still) refl
follow-outcome (suc n) fuel count k w after r registers (middle, between, made, rest) few is =
    follow-outcome n fuel (count + 1) k middle after between registers rest (omega arith) (omega arith)
    ∙ turns-next fuel count w middle r between outcome.Next (omega arith) made refl

-- and they keep the view
pub follow-view :
    (n : ℕ) (w after : Workspace) (r registers : Registers) → Follow n w r after registers → after.view ≡ w.view
follow-view zero w after r registers (same, still) = rw same refl
follow-view (suc n) w after r registers (middle, between, made, rest) =
    follow-view n middle after between registers rest ∙ rw made.workspace_is refl

-- a turn keeps the view
pub turn-view :
    {t : Turn} (w after : Workspace) (o : Outcome) (registers : Registers) → Makes t w o registers after
    → after.view ≡ w.view
turn-view w after o registers made = rw made.workspace_is refl

-- the result of turns and of the rest, after others whose rest they are
pub outcome-more :
    (fuel count more : ℕ) (w after : Workspace) (r registers : Registers) (whole : TurnsOutcome)
    → counted more (outcome_after (fuel - count - more) after registers) ≡ outcome_after (fuel - count) w r
    → counted count (outcome_after (fuel - count) w r) ≡ whole
    → counted (count + more) (outcome_after (fuel - (count + more)) after registers) ≡ whole
outcome-more fuel count more w after r registers whole then first =
    let rest : fuel - (count + more) ≡ fuel - count - more = omega arith in
    rw rest
    (sym (counted-twice count more (outcome_after (fuel - count - more) after registers))
    ∙ ap (counted count) then ∙ first)
