-- Which thread is chosen while a round continues as its history did, with none in flight.
use Rattle.std.proofs.Common.{◌≡◌, ◌≤◌, ℕ, zero, suc, Bool, true, false, List, [], ◌∷◌, ◌++◌, length, take, drop, Option, Vec, Some, None, is_none, refl, ap, sym, ◌∙◌, arith}
use Rattle.std.proofs.lemmas.Bool.{and_parts}
use Rattle.std.proofs.lemmas.List.{take_all}
use Rattle.std.specs.Prelude.{option_map}
use Rattle.std.specs.List.{slice_get}
use Rattle.std.specs.Global.{Global}
use Rattle.thunk_spec.specs.Record.{Record}
use Rattle.machine_spec.specs.Machine.{Machine, hart_of, is_ready}
use Rattle.machine_spec.specs.Setup.{first}
use Rattle.machine_spec.specs.Step.{fits, can_step}
use Rattle.machine_spec.specs.Whole.{IsWhole}
use Rattle.history_spec.specs.History.{History, applied_from, past_records, is_coherent, is_numbered}
use Rattle.history_spec.proofs.Alike.{fits-parts}
use Rattle.release_core.specs.Applying.{machine_at}
use Rattle.release_core.proofs.Histories.{coherent-can}
use Rattle.round_spec.specs.Rounds.{RoundState, is_finished, none_in_flight}
use Rattle.round_spec.specs.Due.{place_in, is_due}
use Rattle.round_spec.specs.Choice.{is_any_in_flight, choice_by}
use Rattle.round_spec.proofs.Placed.{absent-due}
use Rattle.round_spec.proofs.Choosing.{any-nobody}
use Rattle.round_spec.proofs.Coherent.{coherent-next, coherent-next-on, coherent-over}
use Rattle.round_spec.proofs.Following.{next-chosen}
use Rattle.propagate.specs.declared.picking.Candidate.{Candidate}
use Rattle.known_pages.specs.Alike.{IsLike, ContinuesAs, IsAsMarked}
use Rattle.propagate.specs.Choosing.{leader_of, free_below}
use Rattle.propagate.specs.Consistency.{IsInStep}
use Rattle.propagate.proofs.Appending.{going-none}
use Rattle.propagate.proofs.Choosing.{choice-all_due}
use Rattle.propagate.proofs.Due.{absent-is_due, none-run}

-- a list's elements before, at and after a place
split-at :
    (rs : List Record) (k : ℕ) (r : Record) → slice_get rs k ≡ Some r → rs ≡ take k rs ++ r ∷ drop (suc k) rs
split-at [] k r at = cc
split-at (x ∷ rs) zero r at = let same : x ≡ r = cc in ap (λ (y : Record). y ∷ rs) same
split-at (x ∷ rs) (suc k) r at = ap (λ (qs : List Record). x ∷ qs) (split-at rs k r at)

none-past : (rs : List Record) (k : ℕ) → slice_get rs k ≡ None → length rs ≤ k
none-past [] k none = omega arith
none-past (x ∷ rs) zero none = cc
none-past (x ∷ rs) (suc k) none = let rest = none-past rs k none in omega arith

-- the history's next step is chosen

next-of :
    (w : RoundState) (h : History) (marks : List Bool) (r : Record)
    → ContinuesAs h marks w → w.past ≡ Some h → w.in_flight ≡ none_in_flight → IsWhole w.machine → is_finished w ≡ false
    → slice_get h.records (length w.records) ≡ Some r
    → choice_by w.past w.machine w.in_flight ≡ Some r.thread
next-of w h marks r goes past nobody whole going at =
    let m : Machine = machine_at h (length w.records) in
    let can = and_parts (is_none m.ending) (fits m r) (coherent-can h (length w.records) r goes.coherent at) in
    let like : IsLike marks (machine_at h (length w.records)) w.machine = goes.like can.0 in
    let old = fits-parts m r can.1 in
    let ready : is_ready (hart_of w.machine r.thread).status ≡ true = ap is_ready (like.status r.thread) ∙ old.ready in
    let begins : is_none w.machine.ending ≡ true = going-none w.machine.ending w.stopped going in
    let step : can_step w.machine r.thread ≡ true = rw (begins, ready) refl in
    ap (λ (p : Option History). choice_by p w.machine w.in_flight) past
    ∙ ap (choice_by (Some h) w.machine) nobody
    ∙ next-chosen (Some h) w.machine (take (length w.records) h.records) r (drop (suc (length w.records)) h.records) whole
    (coherent-next-on h (take (length w.records) h.records) r (drop (suc (length w.records)) h.records) w.machine
    goes.coherent (split-at h.records (length w.records) r at) goes.numbers step)

pub in_step-next :
    (w : RoundState) (marks : Option (Vec Bool Global)) (t : ℕ)
    → IsAsMarked w marks → IsInStep w marks → IsWhole w.machine → is_finished w ≡ false
    → length w.records ≡ length w.schedule
    → Some t ≡ option_map (λ (r : Record). r.thread) (slice_get (past_records w.past) (length w.schedule))
    → choice_by w.past w.machine w.in_flight ≡ Some t
in_step-next w None t was step whole going count next = absurd (let marked = step.marked in cc)
in_step-next w (Some marks) t was step whole going count next =
    of w.past (slice_get (past_records w.past) (length w.schedule)) refl refl next
  where
    of :
        (past : Option History) (o : Option Record)
        → w.past ≡ past → slice_get (past_records w.past) (length w.schedule) ≡ o
        → Some t ≡ option_map (λ (r : Record). r.thread) o
        → choice_by w.past w.machine w.in_flight ≡ Some t
    of past None is at there = cc
    of None (Some r) is at there =
        absurd (let none = sym (ap (λ (p : Option History). slice_get (past_records p) (length w.schedule)) is) ∙ at in cc)
    of (Some h) (Some r) is at there =
        next-of w h marks.items r (was h is) is step.nobody whole going
        (ap (slice_get h.records) count
        ∙ sym (ap (λ (p : Option History). slice_get (past_records p) (length w.schedule)) is) ∙ at)
        ∙ sym there

-- after all of its steps, every thread is due

numbered : (h : History) → is_coherent h ≡ true → is_numbered h.records ≡ true
numbered h coherent = by h.records refl
  where
    by : (rs : List Record) → h.records ≡ rs → is_numbered h.records ≡ true
    by [] none = ap is_numbered none
    by (r ∷ back) split = (coherent-next h [] r back coherent split).numbered

over-due :
    (w : RoundState) (h : History) (marks : List Bool) (u : ℕ)
    → ContinuesAs h marks w → w.past ≡ Some h → length h.records ≤ length w.records
    → is_due w.past w.machine u ≡ true
over-due w h marks u goes past all =
    let place : place_in (Some h) w.machine u ≡ length h.records =
    coherent-over h w.machine u goes.coherent
    (λ v.
    goes.numbers v
    ∙ ap (λ (rs : List Record). (hart_of (applied_from (first h.setup) rs) v).number)
    (take_all (length w.records) h.records all)) in
    ap (λ (p : Option History). is_due p w.machine u) past
    ∙ absent-due h w.machine u (numbered h goes.coherent) place

pub in_step-over :
    (w : RoundState) (marks : Option (Vec Bool Global)) (leader : Option Candidate)
    → IsAsMarked w marks → IsInStep w marks
    → length w.records ≡ length w.schedule
    → None ≡ option_map (λ (r : Record). r.thread) (slice_get (past_records w.past) (length w.schedule))
    → leader ≡ leader_of w (free_below w (length w.machine.harts))
    → choice_by w.past w.machine w.in_flight ≡ option_map (λ (c : Candidate). c.thread) leader
in_step-over w None leader was step count over leads = absurd (let marked = step.marked in cc)
in_step-over w (Some marks) leader was step count over leads =
    choice-all_due w leader (λ u. due u w.past (slice_get (past_records w.past) (length w.schedule)) refl refl over)
    (ap is_any_in_flight step.nobody ∙ any-nobody) leads
  where
    due :
        (u : ℕ) (past : Option History) (o : Option Record)
        → w.past ≡ past → slice_get (past_records w.past) (length w.schedule) ≡ o
        → None ≡ option_map (λ (r : Record). r.thread) o
        → is_due w.past w.machine u ≡ true
    due u past (Some r) is at none = cc
    due u None None is at none =
        ap (λ (p : Option History). is_due p w.machine u) is
        ∙ absent-is_due None w.machine u (none-run None refl) (omega arith)
    due u (Some h) None is at none =
        over-due w h marks.items u (was h is) is
        (let past = none-past h.records (length w.schedule)
        (sym (ap (λ (p : Option History). slice_get (past_records p) (length w.schedule)) is) ∙ at) in
        omega arith)
