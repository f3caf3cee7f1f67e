-- What a round keeps from its start on, and its history.
use Rattle.std.proofs.Common.{◌≡◌, ℕ, Bool, true, false, cond, List, [], ◌∷◌, Option, Some, None, is_some, refl, ap, sym, ◌∙◌, subst}
use Rattle.thunk_spec.specs.Record.{Record}
use Rattle.machine_spec.specs.Machine.{Machine}
use Rattle.machine_spec.specs.Schedule.{scratch_from, is_permitted_from, records_from}
use Rattle.machine_spec.specs.Setup.{Setup, IsSetup, first}
use Rattle.history_spec.specs.History.{History, IsHonest, IsSound, threads_of_records}
use Rattle.history_spec.proofs.Scratch.{records-threads}
use Rattle.report_spec.specs.Report.{threads_of}
use Rattle.round_spec.specs.declared.events.Event.{Event}
use Rattle.round_spec.specs.declared.events.Event.TheVariants.{Take, Reuse, Commit, GiveBack, Stop}
use Rattle.round_spec.specs.Marks.{record_for}
use Rattle.round_spec.specs.Rounds.{RoundState, opening, is_finished, is_in_flight, can_take, can_reuse, taken, reused_by, committed, given_back, happens, all_happen, round_after, history_of}
use Rattle.round_spec.specs.Keeping.{IsFromScratch}
use Rattle.round_spec.proofs.Happening.{round-kept}

-- two rounds of one setup that are based on one history
pub record IsOfSame (v w : RoundState) : Type 0 where
  pub setup : v.setup ≡ w.setup
  pub past : v.past ≡ w.past

same-self : (w : RoundState) → IsOfSame w w
same-self w = record { setup = refl; past = refl }

same-cond : (b : Bool) (u v w : RoundState) → IsOfSame u w → IsOfSame v w → IsOfSame (cond b u v) w
same-cond true u v w first_same second_same = first_same
same-cond false u v w first_same second_same = second_same

same-reused : (w : RoundState) (t : ℕ) (o : Option Record) → IsOfSame (reused_by w t o) w
same-reused w t None = same-self w
same-reused w t (Some r) = record { setup = refl; past = refl }

pub same-happens : (w : RoundState) (e : Event) → IsOfSame (happens w e) w
unfolding happens
same-happens w (Take t) = same-cond (can_take w t) (taken w t) w w (record { setup = refl; past = refl }) (same-self w)
same-happens w (Reuse t) =
    same-cond (can_reuse w t) (reused_by w t (record_for w.past w.machine t)) w w
    (same-reused w t (record_for w.past w.machine t)) (same-self w)
same-happens w (Commit t) =
    same-cond (is_in_flight w t) (cond (is_finished w) (given_back w t) (committed w t)) w w
    (same-cond (is_finished w) (given_back w t) (committed w t) w (record { setup = refl; past = refl })
    (record { setup = refl; past = refl }))
    (same-self w)
same-happens w (GiveBack t) =
    same-cond (is_in_flight w t) (given_back w t) w w (record { setup = refl; past = refl }) (same-self w)
same-happens w Stop = record { setup = refl; past = refl }

same-all_happen : (w : RoundState) (es : List Event) → IsOfSame (all_happen w es) w
same-all_happen w [] = same-self w
same-all_happen w (e ∷ es) =
    let rest = same-all_happen (happens w e) es in
    let here = same-happens w e in
    record { setup = rest.setup ∙ here.setup; past = rest.past ∙ here.past }

pub round-setup : (setup : Setup) (past : Option History) (es : List Event) → (round_after setup past es).setup ≡ setup
round-setup setup past es = (same-all_happen (opening setup past) es).setup

pub round-past : (setup : Setup) (past : Option History) (es : List Event) → (round_after setup past es).past ≡ past
round-past setup past es = (same-all_happen (opening setup past) es).past

-- a round that is based on a sound history is at the machine from scratch
pub round-scratch :
    (setup : Setup) (past : Option History) (es : List Event)
    → IsSetup setup → IsSound past setup → IsFromScratch (round_after setup past es)
round-scratch setup past es valid sound =
    (round-kept setup past es valid).scratch
    (subst (λ (p : Option History). IsSound p (round_after setup past es).setup) (sym (round-past setup past es))
    (subst (IsSound past) (sym (round-setup setup past es)) sound))

-- at the machine from scratch, with an end, the round's history is honest
pub leaves-honest :
    (w : RoundState)
    → IsSetup w.setup → IsFromScratch w → is_some w.machine.ending ≡ true
    → IsHonest (history_of w)
leaves-honest w valid s ended =
    let threads : threads_of_records w.records ≡ threads_of w.schedule =
    ap threads_of_records s.records ∙ records-threads (first w.setup) (threads_of w.schedule) in
    record {
      valid = valid;
      permitted = ap (is_permitted_from (first w.setup)) threads ∙ s.permitted;
      complete =
          ap (λ (ts : List ℕ). is_some (scratch_from (first w.setup) ts).ending) threads
          ∙ ap (λ (m : Machine). is_some m.ending) (sym s.machine)
          ∙ ended;
      recorded = s.records ∙ ap (records_from (first w.setup)) (sym threads);
    }

pub round-honest :
    (setup : Setup) (past : Option History) (es : List Event)
    → IsSetup setup → IsSound past setup
    → is_some (round_after setup past es).machine.ending ≡ true
    → IsHonest (history_of (round_after setup past es))
round-honest setup past es valid sound ended =
    leaves-honest (round_after setup past es) (subst IsSetup (sym (round-setup setup past es)) valid)
    (round-scratch setup past es valid sound) ended
