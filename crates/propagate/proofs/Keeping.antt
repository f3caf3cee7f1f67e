-- What a round keeps beside its state, after each event.
use Rattle.std.proofs.Common.{◌≡◌, ◌≤◌, ◌+◌, ◌*◌, ℕ, zero, suc, Bool, true, false, not, cond, ◌&&◌, List, [], ◌∷◌, ◌++◌, length, length-append, set, replicate, Option, Vec, Some, None, is_some, is_none, refl, ap, sym, ◌∙◌, subst, arith}
use Rattle.std.proofs.lemmas.Bool.{and_parts}
use Rattle.std.specs.Global.{Global}
use Rattle.thunk_spec.specs.Record.{Record}
use Rattle.machine_spec.specs.Machine.{Machine}
use Rattle.machine_spec.specs.Setup.{Setup, IsSetup, first}
use Rattle.machine_spec.specs.Step.{apply, fits}
use Rattle.history_spec.specs.History.{History, IsHonest, IsSound, threads_of_records, applied_from, can_apply_from, is_coherent}
use Rattle.report_spec.specs.declared.Entry.{Entry}
use Rattle.report_spec.specs.Report.{threads_of, instructions_from}
use Rattle.round_spec.specs.declared.events.Event.{Event}
use Rattle.round_spec.specs.Rounds.{RoundState, opening, happens, history_of, none_in_flight, is_in_flight, is_in_flight_of}
use Rattle.round_spec.specs.Instructions.{executed_instructions}
use Rattle.round_spec.specs.Keeping.{IsFromScratch, IsInOrder, IsCounted}
use Rattle.round_spec.proofs.Happening.{opening-kept, happens-kept, none_in_flight-none}
use Rattle.round_spec.proofs.Counting.{round-counted, happens-counted}
use Rattle.round_spec.specs.Schedules.{IsBySchedule}
use Rattle.round_spec.proofs.Mapping.{happens-frame}
use Rattle.round_spec.proofs.BySchedule.{by_schedule-opening, by_schedule-happens}
use Rattle.round_spec.proofs.Leaving.{leaves-honest}
use Rattle.round_spec.proofs.Executed.{executed-records}
use Rattle.history_spec.specs.Facts.{Fact}
use Rattle.release_core.specs.Applying.{can_apply}
use Rattle.propagate.specs.Consistency.{IsOnMap, IsValid, IsConsistent, AreFactsOf, IsKnown, IsRight, IsFound, KnowsEnough}
use Rattle.known_pages.specs.Alike.{IsApplied, IsAsBefore}
use Rattle.known_pages.specs.declared.versions.Versions.{Versions}
use Rattle.known_pages.specs.Versions.{AreRight}
use Rattle.propagate.proofs.Mapped.{opening-on_map, happens-on_map}

-- as many records as entries

length-threads : (es : List Entry) → length (threads_of es) ≡ length es
length-threads [] = refl
length-threads (e ∷ es) = ap suc (length-threads es)

length-of_records : (rs : List Record) → length (threads_of_records rs) ≡ length rs
length-of_records [] = refl
length-of_records (r ∷ rs) = ap suc (length-of_records rs)

pub record_count : (w : RoundState) → IsCounted w → length w.records ≡ length w.schedule
record_count w counted =
    sym (length-of_records w.records) ∙ ap (λ (ts : List ℕ). length ts) counted.threads ∙ length-threads w.schedule

-- a schedule is no longer than a run can be
pub few_entries : (w : RoundState) → IsInOrder w → IsCounted w → length w.schedule ≤ 65536
few_entries w kept counted =
    omega (arith, kept.whole.few_steps, kept.whole.limits.most_steps, counted.steps)

-- the sum of the counts of the executed entries

pub executed-more :
    (es : List Entry) (rs : List Record) (e : Entry) (r : Record)
    → length rs ≡ length es
    → executed_instructions (es ++ e ∷ []) (rs ++ r ∷ []) ≡ executed_instructions es rs + cond e.reused 0 r.kept.count
executed-more [] [] e r same = omega arith
executed-more [] (q ∷ rs) e r same = absurd (omega arith)
executed-more (d ∷ es) [] e r same = absurd (omega arith)
executed-more (d ∷ es) (q ∷ rs) e r same = let rest = executed-more es rs e r (omega arith) in omega arith

-- if the history is sound, the sum is the one in the report
pub reported :
    (w : RoundState) (instructions : ℕ)
    → IsInOrder w → instructions ≡ executed_instructions w.schedule w.records
    → IsSound w.past w.setup → instructions ≡ instructions_from (first w.setup) w.schedule
reported w instructions kept is sound =
    let s : IsFromScratch w = kept.scratch sound in
    is ∙ ap (executed_instructions w.schedule) s.records ∙ executed-records (first w.setup) w.schedule

-- at the start

-- what holds of every round
pub valid_consistent :
    (w v : RoundState) (instructions : ℕ) (facts : Option (List Fact))
    (marks : Option (Vec Bool Global)) (versions : Option Versions)
    → v ≡ w → IsConsistent v instructions facts marks versions → IsValid w
valid_consistent w v instructions facts marks versions is kept =
    subst IsValid is record {
      setup = kept.valid;
      framed = kept.framed;
      in_order = kept.in_order;
      counted = kept.counted;
      by_schedule = kept.by_schedule;
    }

pub kept_opening :
    (setup : Setup) (past : Option History) (facts : Option (List Fact)) (marks : Option (Vec Bool Global))
    → IsSetup setup
    → IsAsBefore (opening setup past) marks
    → KnowsEnough (opening setup past) marks facts
    → IsConsistent (opening setup past) 0 facts marks None
kept_opening setup past facts marks valid as_before knows =
    record {
      valid = valid;
      in_order = opening-kept setup past valid;
      counted = round-counted setup past [] valid;
      by_schedule = by_schedule-opening setup past;
      applied = record { machine = refl; can = refl };
      on_map = opening-on_map setup past;
      framed = refl;
      points = refl;
      executed = refl;
      few = omega arith;
      knows = knows;
      as_before = as_before;
      right = tt;
    }

-- what is known of the steps of the history

-- the facts that were found are enough, with any marks
pub knows-found :
    (v : RoundState) (marks : Option (Vec Bool Global)) (past : Option History) (facts : Option (List Fact))
    → IsKnown past facts → v.past ≡ past → KnowsEnough v marks facts
knows-found v marks past None known same = absurd known
knows-found v marks past (Some fs) known same = subst (λ (p : Option History). AreFactsOf p fs) (sym same) known

pub knows-more :
    (w : RoundState) (marks : Option (Vec Bool Global)) (before facts : Option (List Fact)) (needed : Bool)
    → KnowsEnough w marks before → IsFound needed w.past before facts → KnowsEnough w marks facts
knows-more w marks before facts true knows found = knows-found w marks w.past facts found refl
knows-more w marks before facts false knows found = subst (KnowsEnough w marks) (sym found) knows

-- at the start they are found if there are no marks
pub knows-opening :
    (setup : Setup) (past : Option History) (marks : Option (Vec Bool Global)) (before facts : Option (List Fact))
    → IsRight past before → IsFound (not (is_some marks)) past before facts
    → KnowsEnough (opening setup past) marks facts
knows-opening setup past None before facts right found = knows-found (opening setup past) None past facts found refl
knows-opening setup past (Some marks) before facts right found =
    subst (KnowsEnough (opening setup past) (Some marks)) (sym found) (by before right)
  where
    by : (known : Option (List Fact)) → IsRight past known → KnowsEnough (opening setup past) (Some marks) known
    by None known = record { nobody = refl; marked = refl }
    by (Some fs) known = known

-- they stay enough if no thread is taken
pub knows-same :
    (w v : RoundState) (marks : Option (Vec Bool Global)) (facts : Option (List Fact))
    → KnowsEnough w marks facts → v.past ≡ w.past → v.in_flight ≡ w.in_flight → KnowsEnough v marks facts
knows-same w v marks None knows past in_flight = record { nobody = in_flight ∙ knows.nobody; marked = knows.marked }
knows-same w v marks (Some fs) knows past in_flight = knows-found v marks w.past (Some fs) knows past

none-set : (n t : ℕ) → set (replicate n false) t false ≡ replicate n false
none-set zero t = refl
none-set (suc n) zero = refl
none-set (suc n) (suc t) = ap (λ (flags : List Bool). false ∷ flags) (none-set n t)

none_in_flight-set : (t : ℕ) → set none_in_flight t false ≡ none_in_flight
unfolding none_in_flight
none_in_flight-set t = none-set 32 t

-- if any thread is in flight, all facts are known
pub knows-in_flight :
    (w v : RoundState) (marks after : Option (Vec Bool Global)) (facts : Option (List Fact)) (t : ℕ)
    → KnowsEnough w marks facts → is_in_flight w t ≡ true → v.past ≡ w.past → KnowsEnough v after facts
knows-in_flight w v marks after None t knows taken past =
    absurd
    (let nobody : is_in_flight w t ≡ false =
    ap (λ (flags : List Bool). is_in_flight_of flags t) knows.nobody ∙ none_in_flight-none t in cc)
knows-in_flight w v marks after (Some fs) t knows taken past = knows-found v after w.past (Some fs) knows past

-- an executed step, whose thread isn't in flight after it
pub knows-made :
    (w v : RoundState) (marks after : Option (Vec Bool Global)) (before facts : Option (List Fact)) (t : ℕ)
    (in_place : Bool)
    → KnowsEnough w marks before → IsFound (not in_place) w.past before facts
    → v.past ≡ w.past → v.in_flight ≡ set w.in_flight t false
    → (in_place ≡ true → is_some marks ≡ true → is_some after ≡ true) → (in_place ≡ true → is_some marks ≡ true)
    → KnowsEnough v after facts
knows-made w v marks after before facts t false knows found past in_flight kept some =
    knows-found v after w.past facts found past
knows-made w v marks after before facts t true knows found past in_flight kept some =
    by facts (subst (KnowsEnough w marks) (sym found) knows)
  where
    by : (known : Option (List Fact)) → KnowsEnough w marks known → KnowsEnough v after known
    by None known =
        record {
          nobody = in_flight ∙ ap (λ (flags : List Bool). set flags t false) known.nobody ∙ none_in_flight-set t;
          marked = kept refl (some refl);
        }
    by (Some fs) known = knows-found v after w.past (Some fs) known past

-- a record that is reused
pub knows-reused :
    (w v : RoundState) (marks : Option (Vec Bool Global)) (before facts : Option (List Fact)) (next : Bool)
    → KnowsEnough w marks before → IsFound (not next) w.past before facts
    → v.past ≡ w.past → v.in_flight ≡ w.in_flight
    → KnowsEnough v (cond next marks None) facts
knows-reused w v marks before facts true knows found past in_flight =
    knows-same w v marks facts (subst (KnowsEnough w marks) (sym found) knows) past in_flight
knows-reused w v marks before facts false knows found past in_flight = knows-found v None w.past facts found past

-- a round after the facts of its history were found
pub kept-found :
    (w : RoundState) (i : ℕ) (fs gs : Option (List Fact)) (b : Option (Vec Bool Global)) (vs : Option Versions)
    (needed : Bool)
    → IsConsistent w i fs b vs → IsFound needed w.past fs gs → IsConsistent w i gs b vs
kept-found w i fs gs b vs needed kept found =
    record {
      valid = kept.valid;
      in_order = kept.in_order;
      counted = kept.counted;
      by_schedule = kept.by_schedule;
      applied = kept.applied;
      on_map = kept.on_map;
      framed = kept.framed;
      points = kept.points;
      executed = kept.executed;
      few = kept.few;
      knows = knows-more w b fs gs needed kept.knows found;
      as_before = kept.as_before;
      right = kept.right;
    }

-- records applied one after the other, and one more

applied-more :
    (m : Machine) (rs : List Record) (r : Record)
    → can_apply_from m rs ≡ true → can_apply (applied_from m rs) r ≡ true
    → (applied_from m (rs ++ r ∷ []) ≡ apply (applied_from m rs) r) × (can_apply_from m (rs ++ r ∷ []) ≡ true)
applied-more m [] r can fit = (refl, rw fit refl)
applied-more m (x ∷ rs) r can fit =
    let parts = and_parts (is_none m.ending && fits m x) (can_apply_from (apply m x) rs) can in
    let rest = applied-more (apply m x) rs r parts.1 fit in
    (rest.0, rw (parts.0, rest.1) refl)

pub applied-round :
    (w v : RoundState) (r : Record)
    → IsApplied w → can_apply w.machine r ≡ true → v.setup ≡ w.setup
    → v.machine ≡ apply w.machine r → v.records ≡ w.records ++ r ∷ []
    → IsApplied v
applied-round w v r applied fit setup machine records =
    let more =
    applied-more (first w.setup) w.records r applied.can
    (subst (λ (m : Machine). can_apply m r ≡ true) applied.machine fit) in
    record {
      machine = machine ∙ ap (λ (m : Machine). apply m r) applied.machine ∙ sym more.0
          ∙ ap (λ (rs : List Record). applied_from (first w.setup) rs) (sym records)
          ∙ ap (λ (s : Setup). applied_from (first s) v.records) (sym setup);
      can = ap (λ (s : Setup). can_apply_from (first s) v.records) setup
          ∙ ap (λ (rs : List Record). can_apply_from (first w.setup) rs) records ∙ more.1;
    }

-- the history of a round with an end is coherent
pub applied-coherent : (w : RoundState) → IsApplied w → is_some w.machine.ending ≡ true → is_coherent (history_of w) ≡ true
applied-coherent w applied ended =
    let ends : is_some (applied_from (first w.setup) w.records).ending ≡ true =
    subst (λ (m : Machine). is_some m.ending ≡ true) applied.machine ended in
    rw (applied.can, ends) refl

-- after an event

pub valid-happens :
    (w v : RoundState) (e : Event) → IsValid w → happens w e ≡ v → v.setup ≡ w.setup → IsValid v
valid-happens w v e kept is setup =
    record {
      setup = subst IsSetup (sym setup) kept.setup;
      framed =
          ap (λ (x : RoundState). x.machine.frame) (sym is) ∙ happens-frame w e ∙ kept.framed
          ∙ ap (λ (s : Setup). (first s).frame) (sym setup);
      in_order = subst IsInOrder is (happens-kept w e kept.in_order);
      counted = subst IsCounted is (happens-counted w e kept.in_order kept.counted);
      by_schedule = subst IsBySchedule is (by_schedule-happens w e kept.in_order kept.by_schedule);
    }

pub kept-happens :
    (w v : RoundState) (e : Event) (j : ℕ) (gs : Option (List Fact)) (c : Option (Vec Bool Global))
    (us : Option Versions)
    → IsValid w → IsOnMap w → happens w e ≡ v → v.setup ≡ w.setup
    → IsApplied v → length v.picked ≡ length v.schedule
    → j ≡ executed_instructions v.schedule v.records → j ≤ 4294967295 * length v.schedule
    → IsAsBefore v c → KnowsEnough v c gs → AreRight v us
    → IsConsistent v j gs c us
kept-happens w v e j gs c us kept on_map is setup applied points executed few as_before knows right =
    let valid : IsValid v = valid-happens w v e kept is setup in
    record {
      valid = valid.setup;
      in_order = valid.in_order;
      counted = valid.counted;
      by_schedule = valid.by_schedule;
      applied = applied;
      on_map = subst IsOnMap is (happens-on_map w e on_map);
      framed = valid.framed;
      points = points;
      executed = executed;
      few = few;
      knows = knows;
      as_before = as_before;
      right = right;
    }

-- one more entry, by an event that happens to the round, or to a later one that is as long
pub kept-more :
    (w x v : RoundState) (e : Event) (i j : ℕ) (fs gs : Option (List Fact))
    (b c : Option (Vec Bool Global)) (vs us : Option Versions) (entry : Entry) (r : Record) (point : ℕ)
    → IsConsistent w i fs b vs → IsValid x → IsOnMap x → happens x e ≡ v → v.setup ≡ x.setup
    → v.schedule ≡ w.schedule ++ entry ∷ [] → v.records ≡ w.records ++ r ∷ [] → v.picked ≡ w.picked ++ point ∷ []
    → IsApplied v → j ≡ i + cond entry.reused 0 r.kept.count → cond entry.reused 0 r.kept.count ≤ 4294967295
    → IsAsBefore v c → KnowsEnough v c gs → AreRight v us
    → IsConsistent v j gs c us
kept-more w x v e i j fs gs b c vs us entry r point kept valid on_map is setup schedule records picked applied sum few as_before knows right =
    let more = executed-more w.schedule w.records entry r (record_count w kept.counted) in
    let executed = kept.executed in
    let before = kept.few in
    let points = kept.points in
    let longer = length-append w.schedule (entry ∷ []) in
    let one_more = length-append w.picked (point ∷ []) in
    kept-happens x v e j gs c us valid on_map is setup applied
    (rw (schedule, picked) (omega arith))
    (rw (schedule, records) (omega arith))
    (rw schedule (omega arith))
    as_before knows right

-- the round's own history

pub left_honest :
    (w : RoundState) → IsSetup w.setup → IsInOrder w → IsSound w.past w.setup → is_some w.machine.ending ≡ true
    → IsHonest (history_of w)
left_honest w valid kept sound ended = leaves-honest w valid (kept.scratch sound) ended
