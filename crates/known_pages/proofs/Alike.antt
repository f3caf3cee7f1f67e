-- A round that continues as its history did, but for some pages.
use Rattle.std.proofs.Common.{◌≡◌, ◌<◌, ◌+◌, ℕ, zero, suc, Bool, true, false, ◌&&◌, ◌||◌, not, eqb, List, [], ◌∷◌, ◌++◌, length, map, set, take, cond, Option, Vec, Some, None, is_none, is_some, refl, ap, ap₂, sym, ◌∙◌, subst, inl, inr, arith}
use Rattle.std.proofs.lemmas.Bool.{and_parts, cases_eq, cases_lt, eq-eqb, eqb-true}
use Rattle.std.proofs.lemmas.Bool.Decides.{nat_tests}
use Rattle.std.proofs.lemmas.List.{length-append, length-set, get_or_past, get_or-set_same}
use Rattle.std.proofs.lemmas.List.Folds.{find_at}
use Rattle.std.specs.List.{slice_get}
use Rattle.std.specs.Global.{Global}
use Rattle.isa_spec.specs.Registers.{Registers, same_registers}
use Rattle.memory_spec.specs.Pages.{Memory, page_of}
use Rattle.guest_call.specs.Effect.{Effect}
use Rattle.guest_call.specs.Objects.{Objects, created_count}
use Rattle.thunk_spec.specs.Delta.{masked}
use Rattle.thunk_spec.specs.Reads.{ReadPage, has}
use Rattle.thunk_spec.specs.Record.{Record, Kept, may_end}
use Rattle.guest_call.specs.declared.Call.{Call}
use Rattle.thunk_spec.specs.declared.ends.ThunkEnd.{ThunkEnd}
use Rattle.thunk_spec.specs.declared.ends.ThunkEnd.TheVariants as thunk_end
use Rattle.thunk_spec.specs.Put.{call_at}
use Rattle.thunk_spec.specs.Thunk.{Frame}
use Rattle.machine_spec.specs.declared.states.Status.{Status}
use Rattle.machine_spec.specs.Machine.{Hart, Machine, hart_of, is_ready}
use Rattle.machine_spec.specs.Setup.{Setup, IsSetup, first, start_memory, map_of}
use Rattle.machine_spec.specs.Step.{apply, fits, fate_end, asked, asked_call}
use Rattle.machine_spec.specs.Whole.{IsWhole}
use Rattle.machine_spec.proofs.Beginning.{IsMemory-start}
use Rattle.history_spec.specs.History.{History, IsSameProgram, schedule_of, applied_from, is_of, is_coherent}
use Rattle.history_spec.proofs.Applying.{apply-frame}
use Rattle.history_spec.proofs.Numbers.{one_for, apply-number}
use Rattle.history_spec.proofs.Truth.{past-of}
use Rattle.history_spec.specs.Facts.{ask_of, acted, effect_of, written_slots}
use Rattle.history_spec.specs.Before.{is_in}
use Rattle.history_spec.proofs.Lists.{is_or_not}
use Rattle.history_spec.proofs.Pages.{length-masked, masked-other, masked-same}
use Rattle.history_spec.proofs.After.{after_at, apply-at, apply-length, apply-memory, apply-objects, apply-ending, own_end_of}
use Rattle.history_spec.proofs.Local.{acted-like}
use Rattle.history_spec.proofs.Alike.{touched, untouched-after, touched-served, has-like, fits-parts, fits-from}
use Rattle.history_spec.proofs.Simulate.{none-is, end_after-none, fate-none}
use Rattle.history_spec.proofs.Near.{plain, other_record, plain-after}
use Rattle.round_spec.proofs.Starts.{near-first}
use Rattle.release_core.specs.Applying.{can_apply, machine_at}
use Rattle.release_core.proofs.Histories.{machine-more, coherent-can, coherent-whole}
use Rattle.round_spec.specs.Marks.{record_for, is_fitting, fits_next}
use Rattle.round_spec.specs.Due.{place_in}
use Rattle.round_spec.specs.Rounds.{RoundState, opening, can_begin, can_reuse}
use Rattle.round_spec.proofs.Happening.{CanBegin, can_begin-parts}
use Rattle.round_spec.specs.Unedited.{all_reused_of}
use Rattle.report_spec.specs.declared.Entry.{Entry}
use Rattle.round_spec.specs.Replaying.{HasReused}
use Rattle.round_spec.proofs.Replay.{reused-placed}
use Rattle.known_pages.specs.Alike.{IsApplied, is_marked, IsLike, ContinuesAs, IsAsMarked, IsClean, AreClean, IsAsBefore, AreMarksOn, MayBeMarks, marked, all_unmarked, IsNext}

-- ---- marks

pub marked-length : (marks : List Bool) (slots : List ℕ) → length (marked marks slots) ≡ length marks
marked-length marks [] = refl
marked-length marks (s ∷ slots) = marked-length (set marks s true) slots ∙ length-set marks s true

-- a slot that isn't marked now wasn't before
set-before : (marks : List Bool) (s p : ℕ) → is_marked (set marks s true) p ≡ false → is_marked marks p ≡ false
set-before [] s p clean = clean
set-before (b ∷ marks) zero zero clean = cc
set-before (b ∷ marks) zero (suc p) clean = clean
set-before (b ∷ marks) (suc s) zero clean = clean
set-before (b ∷ marks) (suc s) (suc p) clean = set-before marks s p clean

pub marked-before :
    (marks : List Bool) (slots : List ℕ) (p : ℕ) → is_marked (marked marks slots) p ≡ false → is_marked marks p ≡ false
marked-before marks [] p clean = clean
marked-before marks (s ∷ slots) p clean = set-before marks s p (marked-before (set marks s true) slots p clean)

-- and isn't in the slots that were marked
pub marked-slots :
    (marks : List Bool) (slots : List ℕ) (p : ℕ)
    → p < length marks → is_marked (marked marks slots) p ≡ false → is_in p slots ≡ false
marked-slots marks [] p below clean = refl
marked-slots marks (s ∷ slots) p below clean =
    elim (cases_eq s p) [
      | inl here ↦
          absurd
          (let own : is_marked (set marks s true) p ≡ true =
          subst (λ (k : ℕ). is_marked (set marks s true) k ≡ true) here
          (get_or-set_same marks s true false (subst (λ (k : ℕ). k < length marks) (sym here) below)) in
          let not_own = marked-before (set marks s true) slots p clean in cc)
      | inr other ↦
          let none : eqb s p ≡ false = grind (arith, nat_tests) in
          rw none
          (marked-slots (set marks s true) slots p (let count = length-set marks s true in omega arith) clean)
    ]

-- ---- one step on both sides

-- records of one thread that end with the same call have the same request
pub same_ask :
    (old new : Record) → old.kept.end ≡ thunk_end.Call → new.kept.end ≡ thunk_end.Call
    → call_at new.kept.finish ≡ call_at old.kept.finish → is_some (call_at old.kept.finish) ≡ true
    → ask_of new ≡ ask_of old
same_ask old new end_old end_new same some =
    ap (λ (e : ThunkEnd). asked new.thread e new.kept.finish) end_new
    ∙ ap (asked_call new.thread new.kept.finish) same
    ∙ here (call_at old.kept.finish) some
    ∙ sym (ap (λ (e : ThunkEnd). asked old.thread e old.kept.finish) end_old)
  where
    here :
        (c : Option Call) → is_some c ≡ true
        → asked_call new.thread new.kept.finish c ≡ asked_call old.thread old.kept.finish c
    here (Some c) is = refl
    here None is = cc

like-plain : (marks : List Bool) (m n : Machine) (u : ℕ) → IsLike marks m n → plain (hart_of n u) ≡ plain (hart_of m u)
like-plain marks m n u like =
    ap₂ (λ (k : ℕ) (s : Status). record { view = []; regs = record { pc = 0; x = [] }; number = k; status = s })
    (like.number u) (like.status u)

module _
    (marks after : List Bool) (m n : Machine) (r : Record) (start : Registers) (kept : Kept)
    (like : IsLike marks m n) (whole_m : IsWhole m) (whole_n : IsWhole n)
    (ready_m : is_ready (hart_of m r.thread).status ≡ true)
    (going : is_none (apply m r).ending ≡ true) (ask : ask_of (other_record r start kept) ≡ ask_of r)
    (more : (p : ℕ) → is_marked after p ≡ false → is_marked marks p ≡ false)
    (long : length after ≡ length marks)
    (pages :
    (p : ℕ) → is_marked after p ≡ false
    → page_of (masked n.memory kept.delta) p ≡ page_of (masked m.memory r.kept.delta) p) where
  ready_n : is_ready (hart_of n r.thread).status ≡ true
  ready_n = ap is_ready (like.status r.thread) ∙ ready_m

  same_act : acted n r.thread (ask_of (other_record r start kept)) ≡ acted m r.thread (ask_of r)
  same_act = ap (acted n r.thread) ask ∙ acted-like m n r.thread (ask_of r) like.frame like.objects

  at_m :
      (u : ℕ) → hart_of (apply m r) u
      ≡ after_at (effect_of m r) (masked m.memory r.kept.delta) r (length m.harts) u (hart_of m u)
  at_m u = apply-at m r u whole_m.tied ready_m

  at_n :
      (u : ℕ) → hart_of (apply n (other_record r start kept)) u
      ≡ after_at (effect_of m r) (masked n.memory kept.delta) (other_record r start kept) (length m.harts) u
      (hart_of n u)
  at_n u =
      apply-at n (other_record r start kept) u whole_n.tied ready_n
      ∙ ap₂ (λ (x : Effect × Objects) (k : ℕ).
      after_at x.0 (masked n.memory kept.delta) (other_record r start kept) k u (hart_of n u)) same_act like.count

  fate : fate_end (effect_of m r).fate ≡ None
  fate =
      fate-none m r.thread (ask_of r)
      (end_after-none (own_end_of m r) (apply m r).harts m.limit (suc m.steps)
      (sym (apply-ending m r) ∙ none-is (apply m r).ending going)).0

  harts : (u : ℕ) → plain (hart_of (apply n (other_record r start kept)) u) ≡ plain (hart_of (apply m r) u)
  harts u =
      ap plain (at_n u)
      ∙ plain-after (effect_of m r) (masked n.memory kept.delta) (masked m.memory r.kept.delta) r start kept
      (length m.harts) u (hart_of n u) (hart_of m u) (like-plain marks m n u like)
      ∙ sym (ap plain (at_m u))

  views :
      (u p : ℕ) → is_ready (hart_of (apply m r) u).status ≡ true → is_marked after p ≡ false
      → page_of (hart_of (apply n (other_record r start kept)) u).view p ≡ page_of (hart_of (apply m r) u).view p
  views u p ready clean =
      let ready_at : is_ready
      (after_at (effect_of m r) (masked m.memory r.kept.delta) r (length m.harts) u (hart_of m u)).status ≡ true =
      ap (λ (h : Hart). is_ready h.status) (sym (at_m u)) ∙ ready in
      let ready_at_n : is_ready
      (after_at (effect_of m r) (masked n.memory kept.delta) (other_record r start kept) (length m.harts) u
      (hart_of n u)).status ≡ true =
      ap (λ (h : Hart). is_ready h.status) (sym (at_n u)) ∙ ap (λ (h : Hart). is_ready h.status) (harts u) ∙ ready in
      elim (is_or_not (touched (effect_of m r) r.thread (length m.harts) u)) [
        | inl is ↦
            let served_m =
            touched-served (effect_of m r) (masked m.memory r.kept.delta) r (length m.harts) u
            (hart_of m u) is fate ready_at in
            let served_n =
            touched-served (effect_of m r) (masked n.memory kept.delta) (other_record r start kept) (length m.harts) u
            (hart_of n u) is fate ready_at_n in
            ap (λ (h : Hart). page_of h.view p) (at_n u)
            ∙ ap (λ (v : Memory). page_of v p) served_n.view
            ∙ pages p clean
            ∙ sym (ap (λ (h : Hart). page_of h.view p) (at_m u) ∙ ap (λ (v : Memory). page_of v p) served_m.view)
        | inr isnt ↦
            let stays_m : hart_of (apply m r) u ≡ hart_of m u =
            at_m u ∙ untouched-after (effect_of m r) (masked m.memory r.kept.delta) r (length m.harts) u
            (hart_of m u) isnt in
            let stays_n : hart_of (apply n (other_record r start kept)) u ≡ hart_of n u =
            at_n u ∙ untouched-after (effect_of m r) (masked n.memory kept.delta) (other_record r start kept)
            (length m.harts) u (hart_of n u) isnt in
            ap (λ (h : Hart). page_of h.view p) stays_n
            ∙ like.views u p (ap (λ (h : Hart). is_ready h.status) (sym stays_m) ∙ ready) (more p clean)
            ∙ ap (λ (h : Hart). page_of h.view p) (sym stays_m)
      ]

  like-apply : IsLike after (apply m r) (apply n (other_record r start kept))
  like-apply =
      record {
        frame = apply-frame n (other_record r start kept) ∙ like.frame ∙ sym (apply-frame m r);
        objects =
            apply-objects n (other_record r start kept) ∙ ap (λ (x : Effect × Objects). x.1) same_act
            ∙ sym (apply-objects m r);
        count =
            apply-length n (other_record r start kept)
            ∙ ap₂ (λ (k : ℕ) (x : Effect × Objects). k + created_count x.0.created) like.count same_act
            ∙ sym (apply-length m r);
        status = λ u. ap (λ (h : Hart). h.status) (harts u);
        number = λ u. ap (λ (h : Hart). h.number) (harts u);
        size =
            ap (λ (x : Memory). length x) (apply-memory n (other_record r start kept)) ∙ length-masked kept.delta n.memory
            ∙ like.size
            ∙ sym (ap (λ (x : Memory). length x) (apply-memory m r) ∙ length-masked r.kept.delta m.memory);
        marked =
            long ∙ like.marked
            ∙ sym (ap (λ (x : Memory). length x) (apply-memory m r) ∙ length-masked r.kept.delta m.memory);
        memory = λ p clean.
            ap (λ (x : Memory). page_of x p) (apply-memory n (other_record r start kept)) ∙ pages p clean
            ∙ sym (ap (λ (x : Memory). page_of x p) (apply-memory m r));
        views = views;
      }

-- ---- a round and its history

-- a round of the same history, machine and records
as-marked-same :
    (w v : RoundState) (marks : Option (Vec Bool Global))
    → IsAsMarked w marks → v.past ≡ w.past → v.machine ≡ w.machine → v.records ≡ w.records → IsAsMarked v marks
as-marked-same w v None was past machine records = tt
as-marked-same w v (Some marks) was past machine records = λ h is.
    let old : ContinuesAs h marks.items w = was h (sym past ∙ is) in
    record {
      valid = old.valid;
      coherent = old.coherent;
      numbers = λ u.
          ap (λ (m : Machine). (hart_of m u).number) machine ∙ old.numbers u
          ∙ ap (λ (rs : List Record). (hart_of (machine_at h (length rs)) u).number) (sym records);
      like = λ none.
          subst (λ (m : Machine). IsLike marks.items (machine_at h (length v.records)) m) (sym machine)
          (subst (λ (rs : List Record). IsLike marks.items (machine_at h (length rs)) w.machine) (sym records)
          (old.like (subst (λ (rs : List Record). is_none (machine_at h (length rs)).ending ≡ true) records none)));
    }

-- A round with the same parts, as far as its marks depend on them.
pub record AreSame (w v : RoundState) : Type 0 where
  pub setup : v.setup ≡ w.setup
  pub past : v.past ≡ w.past
  pub machine : v.machine ≡ w.machine
  pub schedule : v.schedule ≡ w.schedule
  pub records : v.records ≡ w.records

pub as-before-same :
    (w v : RoundState) (marks : Option (Vec Bool Global)) → IsAsBefore w marks → AreSame w v → IsAsBefore v marks
as-before-same w v marks was same =
    record {
      marked = as-marked-same w v marks was.marked same.past same.machine same.records;
      clean = λ h coherent reused.
          was.clean h coherent
          (record {
            setup = sym same.setup ∙ reused.setup;
            past = sym same.past ∙ reused.past;
            machine =
                sym same.machine ∙ reused.machine
                ∙ ap (λ (rs : List Record). applied_from (first h.setup) rs) same.records;
            schedule =
                sym same.schedule ∙ reused.schedule
                ∙ ap (λ (es : List Entry). take (length es) (all_reused_of h)) same.schedule;
            records =
                sym same.records ∙ reused.records ∙ ap (λ (es : List Entry). take (length es) h.records) same.schedule;
          });
    }

-- one more record on both sides, of the same thread and with the same call
pub as-before-more :
    (w v : RoundState) (h : History) (marks after : List Bool) (r q : Record)
    → ContinuesAs h marks w → IsWhole w.machine
    → slice_get h.records (length w.records) ≡ Some r
    → q.thread ≡ r.thread → ask_of q ≡ ask_of r → fits w.machine q ≡ true
    → length after ≡ length marks
    → ((p : ℕ) → is_marked after p ≡ false → is_marked marks p ≡ false)
    → ((p : ℕ) → is_marked after p ≡ false
    → length w.machine.memory ≡ length (machine_at h (length w.records)).memory
    → length marks ≡ length (machine_at h (length w.records)).memory
    → page_of w.machine.memory p ≡ page_of (machine_at h (length w.records)).memory p
    → page_of (masked w.machine.memory q.kept.delta) p
    ≡ page_of (masked (machine_at h (length w.records)).memory r.kept.delta) p)
    → v.machine ≡ apply w.machine q → v.records ≡ w.records ++ q ∷ []
    → ContinuesAs h after v
as-before-more w v h marks after r q goes whole at thread ask fit long more pages machine records =
    let k : ℕ = length w.records in
    let m : Machine = machine_at h (length w.records) in
    let can = and_parts (is_none m.ending) (fits m r) (coherent-can h k r goes.coherent at) in
    let like : IsLike marks (machine_at h (length w.records)) w.machine = goes.like can.0 in
    let old = fits-parts m r can.1 in
    let new = fits-parts w.machine q fit in
    let number : q.number ≡ r.number =
    new.number ∙ ap (λ (t : ℕ). (hart_of w.machine t).number) thread ∙ like.number r.thread ∙ sym old.number in
    let is : q ≡ other_record r q.start q.kept =
    ap₂ (λ (t n : ℕ). record { thread = t; number = n; start = q.start; kept = q.kept }) thread number in
    let next : machine_at h (length v.records) ≡ apply (machine_at h (length w.records)) r =
    (let longer = length-append w.records (q ∷ []) in
    ap (machine_at h) (ap (λ (rs : List Record). length rs) records ∙ longer) ∙ machine-more h k r at) in
    record {
      valid = goes.valid;
      coherent = goes.coherent;
      numbers = λ u.
          ap (λ (x : Machine). (hart_of x u).number) machine
          ∙ apply-number w.machine q u new.ready
          ∙ ap₂ (λ (k t : ℕ). k + one_for u t) (goes.numbers u) thread
          ∙ sym (apply-number m r u old.ready)
          ∙ ap (λ (x : Machine). (hart_of x u).number) (sym next);
      like = λ none.
          subst (λ (x : Machine). IsLike after x v.machine) (sym next)
          (subst (λ (x : Machine). IsLike after (apply (machine_at h (length w.records)) r) x)
          (sym (machine ∙ ap (apply w.machine) is))
          (like-apply marks after m w.machine r q.start q.kept like (coherent-whole h k goes.valid goes.coherent) whole old.ready
          (subst (λ (x : Machine). is_none x.ending ≡ true) next none)
          (sym (ap ask_of is) ∙ ask) more long
          (λ p clean. pages p clean like.size like.marked (like.memory p (more p clean)))));
    }

-- the very record in its place
pub as-before-reused :
    (w v : RoundState) (h : History) (marks : List Bool) (r : Record)
    → ContinuesAs h marks w → IsWhole w.machine
    → slice_get h.records (length w.records) ≡ Some r → fits w.machine r ≡ true
    → v.machine ≡ apply w.machine r → v.records ≡ w.records ++ r ∷ []
    → ContinuesAs h marks v
as-before-reused w v h marks r goes whole at fit machine records =
    as-before-more w v h marks marks r r goes whole at refl refl fit refl (λ p clean. clean)
    (λ p clean size long same. masked-same r.kept.delta (machine_at h (length w.records)).memory w.machine.memory p size same)
    machine records

-- ---- the next record

-- a found record is at its place
pub at-place :
    (h : History) (m : Machine) (t : ℕ) (r : Record) → record_for (Some h) m t ≡ Some r
    → slice_get h.records (place_in (Some h) m t) ≡ Some r
at-place h m t r there = sym (find_at (is_of t (hart_of m t).number) h.records) ∙ there

unmarked-read :
    (marks : List Bool) (reads : List ReadPage) (p : ℕ) → all_unmarked marks reads ≡ true
    → is_in p (map (λ (x : ReadPage). x.slot) reads) ≡ true → is_marked marks p ≡ false
unmarked-read marks [] p clean read = cc
unmarked-read marks (r ∷ reads) p clean read =
    let parts = and_parts (not (is_marked marks r.slot)) (all_unmarked marks reads) clean in
    elim (cases_eq r.slot p) [
      | inl here ↦ ap (is_marked marks) (sym here) ∙ not-true (is_marked marks r.slot) parts.0
      | inr other ↦
          let none : eqb r.slot p ≡ false = grind (arith, nat_tests) in
          unmarked-read marks reads p parts.1 (rw none at read)
    ]
  where
    not-true : (b : Bool) → not b ≡ true → b ≡ false
    not-true true h = cc
    not-true false h = refl

pub next-fits :
    (w : RoundState) (h : History) (marks : List Bool) (t : ℕ) (r : Record)
    → ContinuesAs h marks w → w.past ≡ Some h
    → place_in w.past w.machine t ≡ length w.records → record_for w.past w.machine t ≡ Some r
    → all_unmarked marks r.kept.reads ≡ true
    → IsNext w t r
next-fits w h marks t r goes past place there clean =
    let m : Machine = machine_at h (length w.records) in
    let n : Machine = w.machine in
    let here : record_for (Some h) w.machine t ≡ Some r =
    ap (λ (p : Option History). record_for p w.machine t) (sym past) ∙ there in
    let at : slice_get h.records (length w.records) ≡ Some r =
    ap (slice_get h.records) (sym (ap (λ (p : Option History). place_in p w.machine t) (sym past) ∙ place))
    ∙ at-place h w.machine t r here in
    let can = and_parts (is_none m.ending) (fits m r) (coherent-can h (length w.records) r goes.coherent at) in
    let like : IsLike marks (machine_at h (length w.records)) w.machine = goes.like can.0 in
    let old = fits-parts m r can.1 in
    let own : r.thread ≡ t = (past-of w.past t (hart_of w.machine t).number r there).0 in
    let ready : is_ready (hart_of w.machine r.thread).status ≡ true = ap is_ready (like.status r.thread) ∙ old.ready in
    let number : r.number ≡ (hart_of w.machine r.thread).number = old.number ∙ sym (like.number r.thread) in
    let reads : has (hart_of w.machine r.thread).view r.kept.reads ≡ true =
    has-like r.kept.reads (hart_of m r.thread).view (hart_of w.machine r.thread).view
    (λ p read. like.views r.thread p old.ready (unmarked-read marks r.kept.reads p clean read)) ∙ old.reads in
    let ends : may_end w.machine.frame.fuel r.kept.end r.kept.count ≡ true =
    ap (λ (f : Frame). may_end f.fuel r.kept.end r.kept.count) like.frame ∙ old.ends in
    let fit : fits w.machine r ≡ same_registers r.start (hart_of w.machine r.thread).regs =
    elim (is_or_not (same_registers r.start (hart_of w.machine r.thread).regs)) [
      | inl is ↦
          fits-from w.machine r
          (record { ready = ready; number = number; start = is; reads = reads; ends = ends })
          ∙ sym is
      | inr isnt ↦
          elim (is_or_not (fits w.machine r)) [
            | inl fits_so ↦ absurd (let start = (fits-parts w.machine r fits_so).start in cc)
            | inr unfit ↦ unfit ∙ sym isnt
          ]
    ] in
    record {
      ready = ap (λ (u : ℕ). is_ready (hart_of w.machine u).status) (sym own) ∙ ready;
      fit =
          ap (is_fitting w.machine) there ∙ fit
          ∙ ap (λ (u : ℕ). same_registers r.start (hart_of w.machine u).regs) own;
    }

-- if no page is marked, no read page is
pub clean-unmarked : (marks : List Bool) (reads : List ReadPage) → IsClean marks → all_unmarked marks reads ≡ true
clean-unmarked marks [] clean = refl
clean-unmarked marks (r ∷ reads) clean =
    ap (λ (b : Bool). not b && all_unmarked marks reads) (clean r.slot) ∙ clean-unmarked marks reads clean

-- the same of a round that keeps marks
pub next-fits-of :
    (w : RoundState) (marks : Vec Bool Global) (t : ℕ) (r : Record)
    → IsAsMarked w (Some marks) → length w.records ≡ length w.schedule
    → place_in w.past w.machine t ≡ length w.schedule → record_for w.past w.machine t ≡ Some r
    → all_unmarked marks.items r.kept.reads ≡ true
    → IsNext w t r
next-fits-of w marks t r was count place there clean = of w.past refl
  where
    of : (past : Option History) → w.past ≡ past → IsNext w t r
    of None is = absurd (let none = sym there ∙ ap (λ (p : Option History). record_for p w.machine t) is in cc)
    of (Some h) is = next-fits w h marks.items t r (was h is) is (place ∙ sym count) there clean

-- ---- the start

in-one : (p q : ℕ) → is_in q (p ∷ []) ≡ true → p ≡ q
in-one p q there = eqb-true p q (here (eqb p q) there)
  where
    here : (b : Bool) → (b || false) ≡ true → b ≡ true
    here true h = refl
    here false h = h

start-like :
    (a b : Setup) (marks : List Bool) → IsSameProgram a b → a.fuel ≡ b.fuel
    → AreMarksOn (first a).memory (first b).memory marks → IsLike marks (first a) (first b)
unfolding first
start-like a b marks same fuel are =
    let near = near-first (λ u n. []) (λ u n. false) (is_marked marks) a b same fuel are.same (λ p in_flight read. cc) in
    record {
      frame = near.frame;
      objects = near.objects;
      count = near.count;
      status = λ u. ap (λ (h : Hart). h.status) (near.harts u);
      number = λ u. ap (λ (h : Hart). h.number) (near.harts u);
      size = near.size;
      marked = are.count;
      memory = near.memory;
      views = λ u p ready clean.
          (near-first (λ u n. p ∷ []) (λ u n. false) (is_marked marks) a b same fuel are.same
          (λ q in_flight read. ap (is_marked marks) (sym (in-one p q read)) ∙ clean)).views u p ready refl
          (let own : eqb p p ≡ true = eq-eqb p p refl in rw own refl);
    }

pub as-before-start :
    (setup : Setup) (h : History) (marks : List Bool)
    → IsSetup h.setup → is_coherent h ≡ true → IsSameProgram h.setup setup → h.setup.fuel ≡ setup.fuel
    → AreMarksOn (first h.setup).memory (first setup).memory marks
    → ContinuesAs h marks (opening setup (Some h))
as-before-start setup h marks valid coherent same fuel are =
    let like : IsLike marks (first h.setup) (first setup) = start-like h.setup setup marks same fuel are in
    record { valid = valid; coherent = coherent; numbers = like.number; like = λ none. like }

-- marks on the pages that differ

same-map : (a b : Setup) → IsSameProgram a b → map_of b ≡ map_of a
unfolding map_of
same-map a b same = rw (← same) refl

pub same-size : (a b : Setup) → IsSameProgram a b → length (start_memory b) ≡ length (start_memory a)
same-size a b same =
    (IsMemory-start b).count ∙ ap (λ (m : List _). length m) (same-map a b same) ∙ sym (IsMemory-start a).count

pub no-marks :
    (a b : Setup) (marks : List Bool) → IsSameProgram a b → a.input ≡ b.input → length marks ≡ length (start_memory b)
    → AreMarksOn (first a).memory (first b).memory marks
unfolding first start_memory
no-marks a b marks same input long =
    let is : start_memory b ≡ start_memory a = rw (← same, ← input) refl in
    record { count = long ∙ ap (λ (m : Memory). length m) is; same = λ p clean. ap (λ (m : Memory). page_of m p) is }

pub first-memory : (s : Setup) → (first s).memory ≡ start_memory s
unfolding first
first-memory s = refl

-- ---- events

-- the front of a list without its last element is a front of it too
front-of : {X : Type 0} (xs : List X) (x : X) (all : List X) (n : ℕ) → xs ++ x ∷ [] ≡ take n all → xs ≡ take (length xs) all
front-of [] x all n is = refl
front-of (y ∷ xs) x [] zero is = absurd (let none = is in cc)
front-of (y ∷ xs) x [] (suc n) is = absurd (let none = is in cc)
front-of (y ∷ xs) x (a ∷ all) zero is = absurd (let none = is in cc)
front-of (y ∷ xs) x (a ∷ all) (suc n) is =
    let head : y ≡ a = cc in
    let tail : xs ++ x ∷ [] ≡ take n all = cc in
    ap₂ (λ b l. b ∷ l) head (front-of xs x all n tail)

-- a record that is reused may be applied
pub can-apply : (w : RoundState) (r : Record) → is_none w.machine.ending ≡ true → fits w.machine r ≡ true
    → can_apply w.machine r ≡ true
can-apply w r none fit = rw (none, fit) refl

pub reuse-can :
    (w : RoundState) (t : ℕ) (r : Record) → can_reuse w t ≡ true → record_for w.past w.machine t ≡ Some r
    → can_apply w.machine r ≡ true
reuse-can w t r can there =
    let parts = and_parts (can_begin w t) (fits_next w.past w.machine t) can in
    let begins : CanBegin w t = can_begin-parts w t parts.0 in
    can-apply w r begins.none (ap (is_fitting w.machine) (sym there) ∙ parts.1)

-- A round with one more entry and its record.
pub record IsMore (w v : RoundState) (e : Entry) (r : Record) : Type 0 where
  pub setup : v.setup ≡ w.setup
  pub past : v.past ≡ w.past
  pub machine : v.machine ≡ apply w.machine r
  pub schedule : v.schedule ≡ w.schedule ++ e ∷ []
  pub records : v.records ≡ w.records ++ r ∷ []

-- a round that has reused a history's first steps had done so before its last one
reused-before :
    (h : History) (w v : RoundState) (e : Entry) (r : Record)
    → IsApplied w → length w.records ≡ length w.schedule → IsMore w v e r → HasReused h v → HasReused h w
reused-before h w v e r applied count more reused =
    let setup : w.setup ≡ h.setup = sym more.setup ∙ reused.setup in
    record {
      setup = setup;
      past = sym more.past ∙ reused.past;
      machine = applied.machine ∙ ap (λ (s : Setup). applied_from (first s) w.records) setup;
      schedule =
          front-of w.schedule e (all_reused_of h) (length v.schedule) (sym more.schedule ∙ reused.schedule);
      records =
          front-of w.records r h.records (length v.schedule) (sym more.records ∙ reused.records)
          ∙ ap (λ (n : ℕ). take n h.records) count;
    }

-- a record that is reused
reuse-as-marked :
    (w v : RoundState) (t : ℕ) (r : Record) (marks : Option (Vec Bool Global)) (next : Bool)
    → IsAsMarked w marks → IsWhole w.machine → length w.records ≡ length w.schedule
    → (next ≡ true → place_in w.past w.machine t ≡ length w.schedule)
    → record_for w.past w.machine t ≡ Some r → can_reuse w t ≡ true
    → v.past ≡ w.past → v.machine ≡ apply w.machine r → v.records ≡ w.records ++ r ∷ []
    → IsAsMarked v (cond next marks None)
reuse-as-marked w v t r marks false was whole count place there can past machine records = tt
reuse-as-marked w v t r None true was whole count place there can past machine records = tt
reuse-as-marked w v t r (Some marks) true was whole count place there can past machine records = λ h is.
    let own : w.past ≡ Some h = sym past ∙ is in
    let at : slice_get h.records (length w.records) ≡ Some r =
    ap (slice_get h.records)
    (count ∙ sym (ap (λ (p : Option History). place_in p w.machine t) (sym own) ∙ place refl))
    ∙ at-place h w.machine t r (ap (λ (p : Option History). record_for p w.machine t) (sym own) ∙ there) in
    as-before-reused w v h marks.items r (was h own) whole at
    (and_parts (is_none w.machine.ending) (fits w.machine r) (reuse-can w t r can there)).1 machine records

pub reuse-as-before :
    (w v : RoundState) (t : ℕ) (e : Entry) (r : Record) (marks : Option (Vec Bool Global)) (next : Bool)
    → IsAsBefore w marks → IsWhole w.machine → IsApplied w → length w.records ≡ length w.schedule
    → next ≡ eqb (place_in w.past w.machine t) (length w.schedule)
    → record_for w.past w.machine t ≡ Some r → can_reuse w t ≡ true
    → IsMore w v e r
    → IsAsBefore v (cond next marks None)
reuse-as-before w v t e r marks next was whole applied count is_next there can more =
    record {
      marked =
          reuse-as-marked w v t r marks next was.marked whole count
          (λ on. eqb-true (place_in w.past w.machine t) (length w.schedule) (sym is_next ∙ on))
          there can more.past more.machine more.records;
      clean = λ h coherent reused.
          let before : HasReused h w = reused-before h w v e r applied count more reused in
          let place : place_in w.past w.machine t ≡ length w.schedule =
          subst (λ (u : ℕ). place_in w.past w.machine u ≡ length w.schedule)
          (past-of w.past t (hart_of w.machine t).number r there).0
          (reused-placed h w v r coherent before reused more.records) in
          let on : next ≡ true =
          is_next ∙ eq-eqb (place_in w.past w.machine t) (length w.schedule) place in
          subst (λ (b : Bool). AreClean (cond b marks None)) (sym on) (was.clean h coherent before);
    }

-- a page that isn't marked after an executed step is the same on both sides
committed-page :
    (mem old : Memory) (marks new : List Bool) (r q : Record) (p : ℕ)
    → length mem ≡ length old → length marks ≡ length old → page_of mem p ≡ page_of old p
    → new ≡ marked (marked marks (written_slots r)) (written_slots q) → is_marked new p ≡ false
    → page_of (masked mem q.kept.delta) p ≡ page_of (masked old r.kept.delta) p
committed-page mem old marks new r q p size long like after clean =
    let both : is_marked (marked (marked marks (written_slots r)) (written_slots q)) p ≡ false =
    sym (ap (λ (l : List Bool). is_marked l p) after) ∙ clean in
    elim (cases_lt p (length marks)) [
      | inl below ↦
          masked-other q.kept.delta mem p
          (marked-slots (marked marks (written_slots r)) (written_slots q) p
          (let count = marked-length marks (written_slots r) in omega arith) both)
          ∙ like
          ∙ sym
          (masked-other r.kept.delta old p
          (marked-slots marks (written_slots r) p below
          (marked-before (marked marks (written_slots r)) (written_slots q) p both)))
      | inr past ↦
          get_or_past (masked mem q.kept.delta) p [] (let count = length-masked q.kept.delta mem in omega arith)
          ∙ sym (get_or_past (masked old r.kept.delta) p [] (let count = length-masked r.kept.delta old in omega arith))
    ]

-- an executed step that is committed
commit-as-marked :
    (w v : RoundState) (rec : Record) (old new : Option (Vec Bool Global))
    → IsAsMarked w old → IsWhole w.machine → fits w.machine rec ≡ true
    → MayBeMarks w.past (length w.records) rec old new
    → v.past ≡ w.past → v.machine ≡ apply w.machine rec → v.records ≡ w.records ++ rec ∷ []
    → IsAsMarked v new
commit-as-marked w v rec old None was whole fit are past machine records = tt
commit-as-marked w v rec None (Some new) was whole fit are past machine records = λ h is. absurd (let none = are.were in cc)
commit-as-marked w v rec (Some old) (Some new) was whole fit are past machine records = λ h is.
    let own : w.past ≡ Some h = sym past ∙ is in
    let same : are.in_place.history ≡ h = (let both = sym are.in_place.goes_by ∙ own in cc) in
    let marks : old.items ≡ are.marks = (let both = are.were in cc) in
    let r : Record = are.in_place.record_there in
    let after : new.items ≡ marked (marked old.items (written_slots r)) (written_slots rec) =
    are.after_both
    ∙ ap (λ (l : List Bool). marked (marked l (written_slots are.in_place.record_there)) (written_slots rec)) (sym marks) in
    let goes : ContinuesAs h old.items w = was h own in
    let clean_both : (p : ℕ) → is_marked new.items p ≡ false → is_marked (marked old.items (written_slots r)) p ≡ false =
    λ p clean.
    marked-before (marked old.items (written_slots r)) (written_slots rec) p
    (sym (ap (λ (l : List Bool). is_marked l p) after) ∙ clean) in
    as-before-more w v h old.items new.items r rec goes whole
    (subst (λ (x : History). slice_get x.records (length w.records) ≡ Some r) same are.in_place.there)
    are.in_place.thread are.in_place.ask fit
    (ap (λ (l : List Bool). length l) after ∙ marked-length (marked old.items (written_slots r)) (written_slots rec)
    ∙ marked-length old.items (written_slots r))
    (λ p clean. marked-before old.items (written_slots r) p (clean_both p clean))
    (λ p clean size long like.
    committed-page w.machine.memory (machine_at h (length w.records)).memory old.items new.items r rec p size long like after
    clean)
    machine records

-- its entry is none of a round that has only reused a history
not-reused : (es : List Entry) (e : Entry) (n : ℕ) (ts : List ℕ) → e.reused ≡ false
    → es ++ e ∷ [] ≡ take n (map (λ t. record { thread = t; reused = true }) ts) → ⊥
not-reused [] e zero ts executed is = let none = is in cc
not-reused [] e (suc n) [] executed is = let none = is in cc
not-reused [] e (suc n) (t ∷ ts) executed is =
    let same : e ≡ record { thread = t; reused = true } = cc in
    let on : e.reused ≡ true = ap (λ (x : Entry). x.reused) same in cc
not-reused (x ∷ es) e zero ts executed is = let none = is in cc
not-reused (x ∷ es) e (suc n) [] executed is = let none = is in cc
not-reused (x ∷ es) e (suc n) (t ∷ ts) executed is =
    let tail : es ++ e ∷ [] ≡ take n (map (λ u. record { thread = u; reused = true }) ts) = cc in
    not-reused es e n ts executed tail

pub commit-as-before :
    (w v : RoundState) (e : Entry) (rec : Record) (old new : Option (Vec Bool Global))
    → IsAsBefore w old → IsWhole w.machine → fits w.machine rec ≡ true
    → MayBeMarks w.past (length w.records) rec old new
    → e.reused ≡ false → IsMore w v e rec
    → IsAsBefore v new
commit-as-before w v e rec old new was whole fit are executed more =
    record {
      marked = commit-as-marked w v rec old new was.marked whole fit are more.past more.machine more.records;
      clean = λ h coherent reused.
          absurd
          (not-reused w.schedule e (length v.schedule) (schedule_of h) executed
          (sym more.schedule ∙ reused.schedule));
    }
