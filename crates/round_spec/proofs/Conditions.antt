-- An event if its condition holds, and if it doesn't; and committing is applying a true record that fits.
use Rattle.std.proofs.Common.{◌≡◌, ℕ, true, false, cond, [], ◌∷◌, ◌++◌, set, Some, refl, ap, sym, ◌∙◌}
use Rattle.thunk_spec.specs.Record.{Record, IsTrue}
use Rattle.machine_spec.specs.Machine.{Machine}
use Rattle.machine_spec.specs.Step.{step, apply, fits}
use Rattle.machine_spec.specs.Schedule.{record_of}
use Rattle.machine_spec.specs.Whole.{IsWhole}
use Rattle.machine_spec.proofs.Steps.{apply-step}
use Rattle.history_spec.proofs.Truth.{fits-record}
use Rattle.round_spec.specs.declared.events.Event.TheVariants.{Take, Reuse, Commit, GiveBack, Stop}
use Rattle.round_spec.specs.Marks.{record_for}
use Rattle.round_spec.specs.Rounds.{RoundState, is_finished, is_in_flight, can_take, can_reuse, taken, taken_when, reused_by, committed, given_back, with_stop, happens}

pub happens-take : (w : RoundState) (t : ℕ) → can_take w t ≡ true → happens w (Take t) ≡ taken w t
unfolding happens
happens-take w t is = ap (λ b. cond b (taken w t) w) is

pub happens-take_not : (w : RoundState) (t : ℕ) → can_take w t ≡ false → happens w (Take t) ≡ w
unfolding happens
happens-take_not w t is = ap (λ b. cond b (taken w t) w) is

pub happens-reuse :
    (w : RoundState) (t : ℕ) (r : Record) → can_reuse w t ≡ true → record_for w.past w.machine t ≡ Some r
    → happens w (Reuse t) ≡ reused_by w t (Some r)
unfolding happens
happens-reuse w t r is there =
    ap (λ b. cond b (reused_by w t (record_for w.past w.machine t)) w) is ∙ ap (reused_by w t) there

pub happens-reuse_not : (w : RoundState) (t : ℕ) → can_reuse w t ≡ false → happens w (Reuse t) ≡ w
unfolding happens
happens-reuse_not w t is = ap (λ b. cond b (reused_by w t (record_for w.past w.machine t)) w) is

pub happens-commit :
    (w : RoundState) (t : ℕ) → is_in_flight w t ≡ true → is_finished w ≡ false
    → happens w (Commit t) ≡ committed w t
unfolding happens
happens-commit w t in_flight over =
    ap (λ b. cond b (cond (is_finished w) (given_back w t) (committed w t)) w) in_flight
    ∙ ap (λ b. cond b (given_back w t) (committed w t)) over

pub happens-commit_over :
    (w : RoundState) (t : ℕ) → is_in_flight w t ≡ true → is_finished w ≡ true
    → happens w (Commit t) ≡ given_back w t
unfolding happens
happens-commit_over w t in_flight over =
    ap (λ b. cond b (cond (is_finished w) (given_back w t) (committed w t)) w) in_flight
    ∙ ap (λ b. cond b (given_back w t) (committed w t)) over

pub happens-commit_not : (w : RoundState) (t : ℕ) → is_in_flight w t ≡ false → happens w (Commit t) ≡ w
unfolding happens
happens-commit_not w t in_flight = ap (λ b. cond b (cond (is_finished w) (given_back w t) (committed w t)) w) in_flight

pub happens-give_back : (w : RoundState) (t : ℕ) → is_in_flight w t ≡ true → happens w (GiveBack t) ≡ given_back w t
unfolding happens
happens-give_back w t in_flight = ap (λ b. cond b (given_back w t) w) in_flight

pub happens-give_back_not : (w : RoundState) (t : ℕ) → is_in_flight w t ≡ false → happens w (GiveBack t) ≡ w
unfolding happens
happens-give_back_not w t in_flight = ap (λ b. cond b (given_back w t) w) in_flight

pub happens-stop : (w : RoundState) → happens w Stop ≡ with_stop w
unfolding happens
happens-stop w = refl

same-commit :
    (w : RoundState) (t : ℕ) (m n : Machine) (r s : Record)
    → m ≡ n → r ≡ s
    → record w {
      machine = m;
      schedule = w.schedule ++ record { thread = t; reused = false } ∷ [];
      records = w.records
          ++ r ∷ [];
      picked = w.picked ++ taken_when w t ∷ [];
      in_flight = set w.in_flight t false;
      taken_at = set w.taken_at t 0;
    }
    ≡ record w {
      machine = n;
      schedule = w.schedule ++ record { thread = t; reused = false } ∷ [];
      records = w.records
          ++ s ∷ [];
      picked = w.picked ++ taken_when w t ∷ [];
      in_flight = set w.in_flight t false;
      taken_at = set w.taken_at t 0;
    }
same-commit w t m n r s machine is = rw (machine, is) refl

-- committing is applying a true record that fits
pub commit-applies :
    (w : RoundState) (r : Record)
    → IsWhole w.machine → IsTrue w.machine.frame r.start r.kept
    → is_in_flight w r.thread ≡ true → is_finished w ≡ false → fits w.machine r ≡ true
    → happens w (Commit r.thread)
    ≡ record w {
      machine = apply w.machine r;
      schedule = w.schedule ++ record { thread = r.thread; reused = false } ∷ [];
      records = w.records ++ r ∷ [];
      picked = w.picked ++ taken_when w r.thread ∷ [];
      in_flight = set w.in_flight r.thread false;
      taken_at = set w.taken_at r.thread 0;
    }
commit-applies w r whole honest in_flight over fit =
    happens-commit w r.thread in_flight over
    ∙ same-commit w r.thread (step w.machine r.thread) (apply w.machine r) (record_of w.machine r.thread) r
    (sym (apply-step w.machine r whole honest fit)) (sym (fits-record w.machine r whole honest fit))
