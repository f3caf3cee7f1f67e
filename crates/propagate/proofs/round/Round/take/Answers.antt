-- Answers to the goals that the check of `Round::take` leaves open.
use Rattle.std.proofs.Common.{◌≡◌, ◌<◌, ℕ, true, length, set, option_map, Result, Ok, Err, IfOk, IsErr, refl, ap, sym, subst, ◌∙◌, arith}
use Rattle.std.proofs.lemmas.Grind.{common_steps}
use Rattle.std.specs.Arc.{arc_value}
use Rattle.machine_spec.specs.Machine.{hart_of, is_ready}
use Rattle.round_spec.specs.declared.events.Event.TheVariants.{Take}
use Rattle.round_spec.specs.Rounds.{RoundState, can_take, happens}
use Rattle.round_spec.proofs.Conditions.{happens-take}
use Rattle.propagate.specs.Consistency.{IsValid}
use Rattle.round_spec.proofs.Picks.{below-32}
use Rattle.propagate.proofs.Appending.{take-ready}
use Rattle.propagate.proofs.Keeping.{valid_consistent, kept-happens, knows-found}
use Rattle.propagate.proofs.Making.{goes-nowhere, kept-alike, unless_ok, on_err}
use Rattle.known_pages.proofs.Alike.{as-before-same}
use Rattle.known_pages.specs.Versions.{unboxed}
use Rattle.known_pages.proofs.KnownPages.{right-same}
use Rattle.propagate.proofs.round.Round.take.Goals as goal

-- what is said of a job isn't said of a failure
unless_job : {T E : Type 0} (r : Result T E) (P : T → Type 0) → IsErr r → IfOk r P
unless_job (Ok x) P failed = absurd (cc)
unless_job (Err e) P failed = tt

pub start_of-requires : goal.start_of-requires
start_of-requires c =
    subst (λ (w : RoundState). is_ready (hart_of w.machine c.args.t).status ≡ true) (sym c.self.view_is)
    (take-ready c.args.self.now c.args.t c.requires)

pub returns-in_err-job : goal.returns-in_err-job
returns-in_err-job c =
    let failed = c.from_residual.ensures.0 in
    record {
      ok = unless_ok c.from_residual.result _ failed;
      job = unless_job c.from_residual.result _ failed;
      same = goes-nowhere _ _ refl;
      err = on_err c.from_residual.result _ refl;
      valid = valid_consistent _ _ _ _ _ _ c.self.view_is c.self.invariant;
    }

pub invariant_of-self : goal.invariant_of-self
invariant_of-self c = kept-alike _ _ _ _ _ _ _ c.self.invariant refl c.in_err-find_facts.ensures.err

pub returns-in_err-find_facts : goal.returns-in_err-find_facts
returns-in_err-find_facts c =
    let failed = c.from_residual-in_err-find_facts.ensures.0 in
    record {
      ok = unless_ok c.from_residual-in_err-find_facts.result _ failed;
      job = unless_job c.from_residual-in_err-find_facts.result _ failed;
      same = goes-nowhere _ _ c.self.view_is;
      err = on_err c.from_residual-in_err-find_facts.result _ c.self.view_is;
      valid = valid_consistent _ _ _ _ _ _ c.self.view_is c.self.invariant;
    }

taken-below : (w : RoundState) (t : ℕ) → IsValid w → can_take w t ≡ true → t < 32
taken-below w t valid can = below-32 w.machine t valid.in_order.whole (take-ready w t can)

pub bounds-self-inside-from : goal.bounds-self-inside-from
bounds-self-inside-from c =
    subst (λ t. t < 32) (sym c.from.ensures)
    (taken-below c.args.self.now c.args.t (valid_consistent _ _ _ _ _ _ c.self.view_is c.self.invariant) c.requires)

pub bounds-self-inside-from-2 : goal.bounds-self-inside-from-2
bounds-self-inside-from-2 c =
    subst (λ t. t < 32) (sym c.from-2.ensures)
    (taken-below c.args.self.now c.args.t (valid_consistent _ _ _ _ _ _ c.self.view_is c.self.invariant) c.requires)

pub returns-clause-ok : goal.returns-clause-ok
returns-clause-ok c = rw (happens-take c.args.self.now c.args.t c.requires) (grind (arith, common_steps))

-- the round before and after, by its parts
abbrev before : goal.After-from-2 → RoundState
before c =
    record {
      setup = c.self.inside.setup;
      past = option_map arc_value c.self.inside.past;
      machine = c.self.inside.core;
      schedule = c.self.inside.schedule.items;
      records = c.self.inside.records;
      picked = c.self.inside.picked.items;
      in_flight = c.self.inside.in_flight;
      taken_at = c.self.inside.taken_at;
      discarded = c.self.inside.discarded;
      stopped = c.self.inside.stopped;
    }

pub invariant_of-self-2 : goal.invariant_of-self-2
invariant_of-self-2 c =
    let w : RoundState = before c in
    let v : RoundState =
    record w {
      in_flight = set w.in_flight c.from.result true;
      taken_at = set w.taken_at c.from-2.result c.entries-now.result;
    } in
    let now : c.entries-now.result ≡ length w.schedule =
    c.entries-now.ensures ∙ ap (λ (x : RoundState). length x.schedule) (sym c.self.view_is) in
    let is : happens w (Take c.args.t) ≡ v =
    happens-take w c.args.t (subst (λ (x : RoundState). can_take x c.args.t ≡ true) (sym c.self.view_is) c.requires)
    ∙ sym (rw (c.from.ensures, c.from-2.ensures, now) refl) in
    kept-happens w v (Take c.args.t) c.self.inside.instructions c.find_facts.new.graph c.self.inside.marks
    (unboxed c.self.inside.versions)
    (valid_consistent w w c.self.inside.instructions c.self.inside.graph c.self.inside.marks (unboxed c.self.inside.versions) refl
    c.self.invariant)
    c.self.invariant.on_map is refl
    (record { machine = c.self.invariant.applied.machine; can = c.self.invariant.applied.can })
    c.self.invariant.points c.self.invariant.executed c.self.invariant.few
    (as-before-same w v c.self.inside.marks c.self.invariant.as_before
    (record { setup = refl; past = refl; machine = refl; schedule = refl; records = refl }))
    (knows-found v c.self.inside.marks w.past c.find_facts.new.graph c.in_ok-find_facts.ensures.found refl)
    (right-same w v (unboxed c.self.inside.versions) c.self.invariant.right refl refl refl)
