-- Records that fit one after the other, each found in the history, are reused one after the other.
use Rattle.std.proofs.Common.{◌≡◌, ℕ, Bool, true, false, ◌&&◌, List, [], ◌∷◌, ◌++◌, map, find, append_assoc, append-nil, Option, Some, None, is_none, is_some, refl, ap, sym, ◌∙◌, subst}
use Rattle.std.specs.List.{AllByRecursion}
use Rattle.thunk_spec.specs.Record.{Record}
use Rattle.machine_spec.specs.Machine.{Machine, hart_of, is_ready}
use Rattle.machine_spec.specs.Step.{apply, fits}
use Rattle.machine_spec.specs.declared.states.End.{End}
use Rattle.history_spec.specs.History.{History, IsHonest, threads_of_records, is_of, applied_from, can_apply_from}
use Rattle.report_spec.specs.declared.Entry.{Entry}
use Rattle.round_spec.specs.declared.events.Event.{Event}
use Rattle.round_spec.specs.declared.events.Event.TheVariants.{Reuse}
use Rattle.round_spec.specs.Marks.{record_for}
use Rattle.round_spec.specs.Rounds.{RoundState, opening, is_in_flight_of, can_reuse, reused_by, happens, all_happen, round_after, none_in_flight}
use Rattle.round_spec.specs.Reordering.{reuses_of, ReusesInOrder}
use Rattle.round_spec.proofs.Conditions.{happens-reuse}
use Rattle.round_spec.proofs.Happening.{none_in_flight-none}
use Rattle.history_spec.specs.Facts.{facts}
use Rattle.history_spec.specs.Keeping.{keeps, arranged}
use Rattle.history_spec.specs.Orders.{threads_at}
use Rattle.history_spec.proofs.Lists.{and-left, and-right}
use Rattle.history_spec.proofs.Alike.{fits-parts}
use Rattle.history_spec.proofs.Honest.{IsFound, honest-found, arranged-all, honest-every, honest-threads, honest-applied}

abbrev reused_entry : ℕ → Entry
reused_entry t = record { thread = t; reused = true }

abbrev events_of : List Record → List Event
events_of rs = map (λ (r : Record). Reuse r.thread) rs

abbrev entries_of : List Record → List Entry
entries_of rs = map (λ (r : Record). reused_entry r.thread) rs

none-some : (e : Option End) → is_none e ≡ true → is_some e ≡ false
none-some (Some x) h = cc
none-some None h = refl

-- a round in which some records were reused one after the other
record IsReused (w : RoundState) (rs : List Record) (after : RoundState) : Type 0 where
  pub machine : after.machine ≡ applied_from w.machine rs
  pub schedule : after.schedule ≡ w.schedule ++ entries_of rs

found-here :
    (h : History) (m : Machine) (r : Record) → IsFound h.records r → fits m r ≡ true
    → record_for (Some h) m r.thread ≡ Some r
found-here h m r there fit =
    ap (λ (n : ℕ). find (is_of r.thread n) h.records) (sym (fits-parts m r fit).number) ∙ there

reused-all :
    (h : History) (rs : List Record) (w : RoundState)
    → w.past ≡ Some h → w.stopped ≡ false → w.in_flight ≡ none_in_flight
    → AllByRecursion (IsFound h.records) rs → can_apply_from w.machine rs ≡ true
    → IsReused w rs (all_happen w (events_of rs))
reused-all h [] w past going in_flight there can = record { machine = refl; schedule = sym (append-nil w.schedule) }
reused-all h (r ∷ rs) w past going in_flight there can =
    let here : (is_none w.machine.ending && fits w.machine r) ≡ true =
    and-left (is_none w.machine.ending && fits w.machine r) (can_apply_from (apply w.machine r) rs) can in
    let later : can_apply_from (apply w.machine r) rs ≡ true =
    and-right (is_none w.machine.ending && fits w.machine r) (can_apply_from (apply w.machine r) rs) can in
    let none : is_none w.machine.ending ≡ true = and-left (is_none w.machine.ending) (fits w.machine r) here in
    let fit : fits w.machine r ≡ true = and-right (is_none w.machine.ending) (fits w.machine r) here in
    let ready : is_ready (hart_of w.machine r.thread).status ≡ true = (fits-parts w.machine r fit).ready in
    let record_is : record_for w.past w.machine r.thread ≡ Some r =
    ap (λ (p : Option History). record_for p w.machine r.thread) past ∙ found-here h w.machine r there.0 fit in
    let free : is_in_flight_of w.in_flight r.thread ≡ false =
    ap (λ (o : List Bool). is_in_flight_of o r.thread) in_flight ∙ none_in_flight-none r.thread in
    let unended : is_some w.machine.ending ≡ false = none-some w.machine.ending none in
    let can_now : can_reuse w r.thread ≡ true = rw (unended, going, ready, free, record_is) fit in
    let next : happens w (Reuse r.thread) ≡ reused_by w r.thread (Some r) =
    happens-reuse w r.thread r can_now record_is in
    let rest :
    IsReused (reused_by w r.thread (Some r)) rs (all_happen (reused_by w r.thread (Some r)) (events_of rs)) =
    reused-all h rs (reused_by w r.thread (Some r)) past going in_flight there.1 later in
    record {
      machine = ap (λ (x : RoundState). (all_happen x (events_of rs)).machine) next ∙ rest.machine;
      schedule =
          ap (λ (x : RoundState). (all_happen x (events_of rs)).schedule) next
          ∙ rest.schedule
          ∙ append_assoc w.schedule (reused_entry r.thread ∷ []) (entries_of rs);
    }

events-threads : (rs : List Record) → map (λ (t : ℕ). Reuse t) (threads_of_records rs) ≡ events_of rs
events-threads [] = refl
events-threads (r ∷ rs) = ap (λ (es : List Event). Reuse r.thread ∷ es) (events-threads rs)

entries-threads : (rs : List Record) → map (λ (t : ℕ). reused_entry t) (threads_of_records rs) ≡ entries_of rs
entries-threads [] = refl
entries-threads (r ∷ rs) = ap (λ (es : List Entry). reused_entry r.thread ∷ es) (entries-threads rs)

every-reused :
    (h : History) (s : List ℕ) → IsHonest h → keeps (facts h) s ≡ true
    → IsReused (opening h.setup (Some h)) (arranged s h.records)
    (round_after h.setup (Some h) (map (λ (t : ℕ). Reuse t) s))
every-reused h s honest keep =
    let events : map (λ (t : ℕ). Reuse t) s ≡ events_of (arranged s h.records) =
    ap (λ (ts : List ℕ). map (λ (t : ℕ). Reuse t) ts) (sym (honest-threads h s keep))
    ∙ events-threads (arranged s h.records) in
    subst (λ (es : List Event). IsReused (opening h.setup (Some h)) (arranged s h.records)
    (round_after h.setup (Some h) es)) (sym events)
    (reused-all h (arranged s h.records) (opening h.setup (Some h)) refl refl refl
    (arranged-all (IsFound h.records) s h.records (honest-found h honest)) (honest-every h s honest keep).can)

-- so a history's steps are reused in any order that keeps what must come before what
pub reused-whole :
    (h : History) (places : List ℕ) → IsHonest h → keeps (facts h) (threads_at (facts h) places) ≡ true
    → ReusesInOrder h places (round_after h.setup (Some h) (reuses_of h places))
reused-whole h places honest keep =
    let s : List ℕ = threads_at (facts h) places in
    let reused = every-reused h s honest keep in
    let alike = (honest-every h s honest keep).alike in
    let applied = honest-applied h honest in
    record {
      schedule =
          reused.schedule
          ∙ sym (entries-threads (arranged s h.records))
          ∙ ap (λ (ts : List ℕ). map (λ (t : ℕ). reused_entry t) ts) (honest-threads h s keep);
      ending =
          ap (λ (m : Machine). m.ending) reused.machine ∙ alike.ending ∙ ap (λ (m : Machine). m.ending) applied;
      output =
          ap (λ (m : Machine). m.output) reused.machine ∙ alike.output ∙ ap (λ (m : Machine). m.output) applied;
      memory =
          ap (λ (m : Machine). m.memory) reused.machine ∙ alike.memory ∙ ap (λ (m : Machine). m.memory) applied;
    }
