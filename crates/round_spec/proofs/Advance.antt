-- One more entry: the round's machine stays near the old one, whatever the step of an entry of the closed set did.
use Rattle.std.proofs.Common.{◌≡◌, ◌<◌, ◌+◌, ℕ, suc, Bool, true, false, ◌&&◌, eqb, List, ◌∷◌, length, get_or, Option, Some, None, is_none, refl, ap, ap₂, sym, ◌∙◌, subst, inl, inr, ◌⊎◌, arith}
use Rattle.std.proofs.lemmas.Bool.{cases_eq}
use Rattle.std.proofs.lemmas.Bool.Decides.{nat_tests}
use Rattle.isa_spec.specs.Registers.{Registers}
use Rattle.guest_call.specs.declared.Call.{Call}
use Rattle.thunk_spec.specs.declared.ends.ThunkEnd.{ThunkEnd}
use Rattle.thunk_spec.specs.declared.ends.ThunkEnd.TheVariants as thunk_end
use Rattle.thunk_spec.specs.Put.{call_at}
use Rattle.thunk_spec.specs.Record.{Record, Kept}
use Rattle.machine_spec.specs.declared.states.Asked.{Asked}
use Rattle.machine_spec.specs.declared.states.Asked.TheVariants.{Stops}
use Rattle.machine_spec.specs.declared.states.End.{End}
use Rattle.machine_spec.specs.declared.states.End.TheVariants as end
use Rattle.machine_spec.specs.Machine.{Hart, Machine, hart_of}
use Rattle.machine_spec.specs.Schedule.{record_of}
use Rattle.machine_spec.specs.Step.{apply, fits, asked, asked_call, end_after}
use Rattle.machine_spec.specs.Setup.{Setup, first}
use Rattle.history_spec.specs.History.{History, IsHonest}
use Rattle.history_spec.proofs.Applying.{fits-can_step, apply-whole}
use Rattle.history_spec.proofs.Numbers.{one_for, apply-number}
use Rattle.history_spec.proofs.Truth.{record-fits, record-apply, reuse-record}
use Rattle.round_spec.specs.Marks.{is_fitting, fits_next}
use Rattle.history_spec.specs.Facts.{Fact, facts, ask_of, reads_in, read_slots, served_by, written_slots}
use Rattle.history_spec.specs.Before.{is_in, fact_at, before_at}
use Rattle.history_spec.specs.Ancestors.{number_at}
use Rattle.history_spec.proofs.Lists.{and-left, and-right, or-in_left, or-in_right, is_or_not}
use Rattle.history_spec.proofs.After.{apply-ending, own_end}
use Rattle.history_spec.proofs.Alike.{IsReading, fits-parts, read_by-in}
use Rattle.history_spec.proofs.Simulate.{reading-apply}
use Rattle.history_spec.proofs.Honest.{honest-reading}
use Rattle.history_spec.proofs.Places.{left_from, IsClosed}
use Rattle.history_spec.proofs.Near.{IsNear, IsStepLike, IsClosedAt, other_record, taint_after, near-fits, near-apply}
use Rattle.round_spec.specs.Reach.{read_at, reads_of, changed, IsClosedSet}
use Rattle.round_spec.proofs.Like.{machine_at}
use Rattle.round_spec.specs.Working.{IsWithinWork}
use Rattle.round_spec.proofs.Like.{record_at, IsLikeOld, IsWorkOfOld}
use Rattle.round_spec.proofs.Placed.{facts-length}
use Rattle.round_spec.proofs.PlacedInRounds.{all-at, thread-is, number-is, reads-at, IsMade, made-like, made-more}
use Rattle.round_spec.proofs.Left.{left-full, full-going}
use Rattle.round_spec.proofs.Along.{whole-at, frame-at, can-at, ready-at, going-at, next-at, number-next}
use Rattle.round_spec.proofs.Spread.{among_steps, among-of, among-at, tainted, closed-next, spread}
use Rattle.round_spec.proofs.Lockstep.{IsAt, IsNextStep, IsTurn}

-- what is requested follows from end, call number and arguments, if the run continues
ask-same :
    (t : ℕ) (e : ThunkEnd) (f g : Registers)
    → (e ≡ thunk_end.Call → call_at f ≡ call_at g) → ((x : End) → asked t e f ≡ Stops x → ⊥) → asked t e f ≡ asked t e g
ask-same t thunk_end.Call f g call going = here (call_at f) (call_at g) (call refl) going
  where
    here :
        (o p : Option Call) → o ≡ p → ((x : End) → asked_call t f o ≡ Stops x → ⊥) → asked_call t f o ≡ asked_call t g p
    here (Some c) p same going_on = ap (asked_call t g) same
    here None p same going_on = absurd (going_on _ refl)
ask-same t (thunk_end.Trap cause) f g call going = absurd (going (end.Trap t f.pc cause) refl)
ask-same t thunk_end.Fuel f g call going = refl

stops-not : (m : Machine) (r : Record) → is_none (apply m r).ending ≡ true → (x : End) → ask_of r ≡ Stops x → ⊥
stops-not m r going x stops =
    let ends : (apply m r).ending ≡ Some x =
    apply-ending m r ∙ ap (λ (a : Asked). end_after (own_end m r.thread a) (apply m r).harts m.limit (suc m.steps)) stops in
    (let on : is_none (Some x) ≡ true = ap (λ (e : Option End). is_none e) (sym ends) ∙ going in cc)

near-weaken :
    (reads : ℕ → ℕ → List ℕ) (among : ℕ → ℕ → Bool) (taint more : ℕ → Bool) (m n : Machine)
    → ((p : ℕ) → more p ≡ false → taint p ≡ false) → IsNear reads among taint m n → IsNear reads among more m n
near-weaken reads among taint more m n clean near =
    record {
      frame = near.frame;
      steps = near.steps;
      objects = near.objects;
      size = near.size;
      memory = λ p out. near.memory p (clean p out);
      count = near.count;
      harts = near.harts;
      regs = near.regs;
      views = near.views;
    }

pub slots-at :
    (h : History) → IsHonest h → (j : ℕ) → j < length h.records
    → reads_in h.records (fact_at (facts h) j).thread (number_at (facts h) j) ≡ read_at (reads_of h) j
slots-at h honest j below =
    ap₂ (reads_in h.records) (thread-is h honest j) (sym (number-is h honest j below))
    ∙ (all-at (IsReading (reads_in h.records) (first h.setup).frame) h.records j (honest-reading h honest) below).slots
    ∙ sym (reads-at h j)

module _
    (h : History) (setup : Setup) (schedule : List ℕ) (point : ℕ → ℕ) (like : IsLikeOld h setup schedule point)
    (among : ℕ → Bool)
    (i : ℕ) (below : i < length schedule) (at : IsAt h setup schedule among i) (next : IsNextStep h setup schedule i)
    (turn : IsTurn h setup schedule point like among i at next.at) where
  thread_is : (record_at h.records next.at).thread ≡ get_or schedule i 0
  thread_is = sym (thread-is h like.honest next.at) ∙ next.of_thread

  number_is :
      (record_at h.records next.at).number ≡ (hart_of (machine_at setup schedule i) (get_or schedule i 0)).number
  number_is = number-is h like.honest next.at next.below ∙ next.of_number

  fits_is :
      fits_next (Some h) (machine_at setup schedule i) (get_or schedule i 0)
      ≡ fits (machine_at setup schedule i) (record_at h.records next.at)
  fits_is = ap (is_fitting (machine_at setup schedule i)) next.found

  slots_is :
      reads_in h.records (record_at h.records next.at).thread (record_at h.records next.at).number
      ≡ read_slots (record_at h.records next.at)
  slots_is =
      (all-at (IsReading (reads_in h.records) (first h.setup).frame) h.records next.at
      (honest-reading h like.honest) next.below).slots

  -- what is executed is in the set
  pub executed-among :
      fits_next (Some h) (machine_at setup schedule i) (get_or schedule i 0) ≡ false
      → among_steps (facts h) among (record_at h.records next.at).thread (record_at h.records next.at).number ≡ true
  executed-among unfit =
      elim (is_or_not
      (among_steps (facts h) among (record_at h.records next.at).thread (record_at h.records next.at).number)) [
        | inl is ↦ is
        | inr out ↦
            let fit : fits (machine_at setup schedule i) (record_at h.records next.at) ≡ true =
            near-fits (reads_in h.records) (among_steps (facts h) among)
            (tainted (facts h) (changed h.setup setup) among at.come) at.old (machine_at setup schedule i)
            (record_at h.records next.at) at.near slots_is turn.fit out in
            absurd (let is = fits_is in cc)
      ]

  module _ (closed : IsClosedSet (facts h) (reads_of h) (changed h.setup setup) among)
      (below_next : suc i < length schedule) (then : IsNextStep h setup schedule (suc i)) where
    other_is :
        other_record (record_at h.records next.at) (record_of (machine_at setup schedule i) (get_or schedule i 0)).start
        (record_of (machine_at setup schedule i) (get_or schedule i 0)).kept
        ≡ record_of (machine_at setup schedule i) (get_or schedule i 0)
    other_is =
        ap₂
        (λ (t k : ℕ).
        record {
          thread = t;
          number = k;
          start = (record_of (machine_at setup schedule i) (get_or schedule i 0)).start;
          kept = (record_of (machine_at setup schedule i) (get_or schedule i 0)).kept;
        })
        thread_is number_is

    with_stores_is :
        apply (machine_at setup schedule i) (record_of (machine_at setup schedule i) (get_or schedule i 0))
        ≡ machine_at setup schedule (suc i)
    with_stores_is =
        record-apply (machine_at setup schedule i) (get_or schedule i 0)
        (whole-at setup schedule like.valid like.permitted i) (can-at setup schedule like.valid like.permitted i below)
        ∙ sym (next-at setup schedule like.valid like.permitted i below)

    going_n :
        is_none (apply (machine_at setup schedule i)
        (record_of (machine_at setup schedule i) (get_or schedule i 0))).ending ≡ true
    going_n =
        ap (λ (m : Machine). is_none m.ending) with_stores_is
        ∙ going-at setup schedule like.valid like.permitted (suc i) below_next

    step_like :
        IsStepLike (among_steps (facts h) among) (record_at h.records next.at)
        (record_of (machine_at setup schedule i) (get_or schedule i 0)).start
        (record_of (machine_at setup schedule i) (get_or schedule i 0)).kept
    step_like = here (is_or_not (fits_next (Some h) (machine_at setup schedule i) (get_or schedule i 0)))
      where
        of-old :
            (old : Record) → old ≡ record_at h.records next.at
            → IsWithinWork old (record_of (machine_at setup schedule i) (get_or schedule i 0))
            → IsWithinWork (record_at h.records next.at) (record_of (machine_at setup schedule i) (get_or schedule i 0))
        of-old old same work =
            subst (λ (r : Record). IsWithinWork r (record_of (machine_at setup schedule i) (get_or schedule i 0))) same
            work

        here :
            (fits_next (Some h) (machine_at setup schedule i) (get_or schedule i 0) ≡ true) ⊎
            (fits_next (Some h) (machine_at setup schedule i) (get_or schedule i 0) ≡ false)
            → IsStepLike (among_steps (facts h) among) (record_at h.records next.at)
            (record_of (machine_at setup schedule i) (get_or schedule i 0)).start
            (record_of (machine_at setup schedule i) (get_or schedule i 0)).kept
        here (inl fit) =
            let same : record_at h.records next.at ≡ record_of (machine_at setup schedule i) (get_or schedule i 0) =
            reuse-record setup (Some h) (machine_at setup schedule i) (get_or schedule i 0)
            (hart_of (machine_at setup schedule i) (get_or schedule i 0)).number (record_at h.records next.at)
            (like.honest, like.program) (whole-at setup schedule like.valid like.permitted i)
            (frame-at setup schedule like.valid like.permitted i)
            next.found (sym fits_is ∙ fit) in
            let kept : (record_of (machine_at setup schedule i) (get_or schedule i 0)).kept
            ≡ (record_at h.records next.at).kept = ap (λ (r : Record). r.kept) (sym same) in
            record {
              ask = ap (λ (k : Kept). asked (record_at h.records next.at).thread k.end k.finish) kept;
              written = λ p writes.
                  ap (λ (k : Kept).
                  is_in p (written_slots
                  (other_record (record_at h.records next.at) (record_at h.records next.at).start k))) (sym kept)
                  ∙ writes;
              same = λ out. kept;
            }
        here (inr unfit) =
            let works : IsWorkOfOld h (record_of (machine_at setup schedule i) (get_or schedule i 0)) =
            like.works i below unfit in
            let old_is : works.old ≡ record_at h.records next.at =
            (let both : Some works.old ≡ Some (record_at h.records next.at) = sym works.there ∙ next.found in cc) in
            let work : IsWithinWork (record_at h.records next.at)
            (record_of (machine_at setup schedule i) (get_or schedule i 0)) = of-old works.old old_is works.work in
            let stops =
            stops-not (machine_at setup schedule i)
            (record_of (machine_at setup schedule i) (get_or schedule i 0)) going_n in
            record {
              ask =
                  ap (λ (t : ℕ).
                  asked t (record_of (machine_at setup schedule i) (get_or schedule i 0)).kept.end
                  (record_of (machine_at setup schedule i) (get_or schedule i 0)).kept.finish) thread_is
                  ∙ ask-same (get_or schedule i 0)
                  (record_of (machine_at setup schedule i) (get_or schedule i 0)).kept.end
                  (record_of (machine_at setup schedule i) (get_or schedule i 0)).kept.finish
                  (record_at h.records next.at).kept.finish (λ e. work.call (sym work.end ∙ e)) stops
                  ∙ ap₂ (λ (t : ℕ) (e : ThunkEnd). asked t e (record_at h.records next.at).kept.finish)
                  (sym thread_is) work.end;
              written = work.written;
              same = λ out. absurd (let is = executed-among unfit in cc);
            }

    made_next : IsMade (facts h) (next.at ∷ at.come) (λ u. (hart_of (machine_at setup schedule (suc i)) u).number)
    made_next =
        made-like (facts h) (next.at ∷ at.come)
        (λ u. (hart_of (machine_at setup schedule i) u).number + one_for u (fact_at (facts h) next.at).thread)
        (λ u. (hart_of (machine_at setup schedule (suc i)) u).number)
        (λ u.
        number-next setup schedule like.valid like.permitted i u below
        ∙ ap (λ (t : ℕ). (hart_of (machine_at setup schedule i) u).number + one_for u t) (sym next.of_thread))
        (made-more (facts h) at.come (λ u. (hart_of (machine_at setup schedule i) u).number) next.at
        (next.of_number
        ∙ ap (λ (t : ℕ). (hart_of (machine_at setup schedule i) t).number) (sym next.of_thread)) at.made)

    then_left : is_in then.at (next.at ∷ at.come) ≡ false
    then_left =
        elim (is_or_not (is_in then.at (next.at ∷ at.come))) [
          | inr none ↦ none
          | inl there ↦
              absurd (let less =
              made_next.to then.at (let same = facts-length h in let low = then.below in omega arith) there in
              let number : number_at (facts h) then.at
              ≡ (hart_of (machine_at setup schedule (suc i)) (fact_at (facts h) then.at).thread).number =
              then.of_number
              ∙ ap (λ (t : ℕ). (hart_of (machine_at setup schedule (suc i)) t).number) (sym then.of_thread) in
              omega arith)
        ]

    going : is_none (apply at.old (record_at h.records next.at)).ending ≡ true
    going =
        full-going (apply at.old (record_at h.records next.at)) (left_from 0 (next.at ∷ at.come) h.records)
        (left-full (next.at ∷ at.come) then.at h.records 0 then_left (omega arith)
        (let low = then.below in omega arith)) turn.later

    dirty_more :
        (p : ℕ) → taint_after (among_steps (facts h) among) (tainted (facts h) (changed h.setup setup) among at.come)
        (record_at h.records next.at) p ≡ true
        → tainted (facts h) (changed h.setup setup) among (next.at ∷ at.come) p ≡ true
    dirty_more p dirty =
        elim (is_or_not (tainted (facts h) (changed h.setup setup) among at.come p)) [
          | inl old ↦ or-in_right (among next.at && is_in p (fact_at (facts h) next.at).written) _ old
          | inr clean ↦
              let both :
              (among_steps (facts h) among (record_at h.records next.at).thread (record_at h.records next.at).number
              && is_in p (written_slots (record_at h.records next.at))) ≡ true = rw clean at dirty in
              let is : among next.at ≡ true =
              among-at (facts h) among (record_at h.records next.at).thread (record_at h.records next.at).number next.at
              (and-left
              (among_steps (facts h) among (record_at h.records next.at).thread (record_at h.records next.at).number)
              (is_in p (written_slots (record_at h.records next.at))) both)
              (let same = facts-length h in let low = next.below in omega arith)
              (thread-is h like.honest next.at) (sym (number-is h like.honest next.at next.below)) in
              let writes : is_in p (fact_at (facts h) next.at).written ≡ true =
              ap (λ (f : Fact). is_in p f.written) (sym turn.fact)
              ∙ and-right
              (among_steps (facts h) among (record_at h.records next.at).thread (record_at h.records next.at).number)
              (is_in p (written_slots (record_at h.records next.at))) both in
              or-in_left (among next.at && is_in p (fact_at (facts h) next.at).written) _ (rw (is, writes) refl)
        ]

    number_there :
        (u : ℕ) → (hart_of (apply at.old (record_at h.records next.at)) u).number
        ≡ (hart_of (machine_at setup schedule (suc i)) u).number
    number_there u =
        apply-number at.old (record_at h.records next.at) u
        (fits-parts at.old (record_at h.records next.at) turn.fit).ready
        ∙ ap₂ (λ (g : Hart) (t : ℕ). g.number + one_for u t) (sym (at.near.harts u)) thread_is
        ∙ sym (number-next setup schedule like.valid like.permitted i u below)

    closed_at :
        IsClosedAt (reads_in h.records) (among_steps (facts h) among)
        (tainted (facts h) (changed h.setup setup) among at.come) at.old (record_at h.records next.at)
    closed_at =
        record {
          next = λ is.
              among-of (facts h) among (record_at h.records next.at).thread (suc (record_at h.records next.at).number)
              (λ j low thread number.
              closed-next (facts h) (reads_of h) (changed h.setup setup) among closed next.at j low
              (among-at (facts h) among (record_at h.records next.at).thread
              (record_at h.records next.at).number next.at is
              (let same = facts-length h in let less = next.below in omega arith)
              (thread-is h like.honest next.at) (sym (number-is h like.honest next.at next.below)))
              (thread-is h like.honest next.at ∙ sym thread)
              (number ∙ ap suc (number-is h like.honest next.at next.below)));
          spread = λ u p served read dirty.
              among-of (facts h) among u (hart_of (apply at.old (record_at h.records next.at)) u).number
              (λ to low thread number.
              spread (facts h) (reads_of h) (changed h.setup setup) among closed at.come
              (λ v. (hart_of (machine_at setup schedule (suc i)) v).number) next.at to p
              at.shut turn.isnt (let same = facts-length h in let less = next.below in omega arith) low made_next
              (number ∙ number_there u
              ∙ ap (λ (v : ℕ). (hart_of (machine_at setup schedule (suc i)) v).number) (sym thread))
              (ap₂ is_in thread (sym (ap (λ (f : Fact). f.given) turn.fact)) ∙ served)
              turn.ahead
              (ap (λ (f : Fact). is_in p f.opened) (sym turn.fact)
              ∙ read_by-in (reads_in h.records) (apply at.old (record_at h.records next.at))
              (served_by at.old (record_at h.records next.at)) u p served read)
              (ap (is_in p) (sym (slots-at h like.honest to (let same = facts-length h in omega arith)))
              ∙ ap₂ (λ (t k : ℕ). is_in p (reads_in h.records t k)) thread number ∙ read)
              (dirty_more p dirty));
        }

    near_next :
        IsNear (reads_in h.records) (among_steps (facts h) among)
        (tainted (facts h) (changed h.setup setup) among (next.at ∷ at.come))
        (apply at.old (record_at h.records next.at)) (machine_at setup schedule (suc i))
    near_next =
        near-weaken (reads_in h.records) (among_steps (facts h) among)
        (taint_after (among_steps (facts h) among) (tainted (facts h) (changed h.setup setup) among at.come)
        (record_at h.records next.at))
        (tainted (facts h) (changed h.setup setup) among (next.at ∷ at.come))
        (apply at.old (record_at h.records next.at)) (machine_at setup schedule (suc i))
        (λ p clean.
        elim (is_or_not
        (taint_after (among_steps (facts h) among) (tainted (facts h) (changed h.setup setup) among at.come)
        (record_at h.records next.at) p)) [
          | inl dirty ↦ absurd (let more = dirty_more p dirty in cc)
          | inr none ↦ none
        ])
        (subst
        (λ (n : Machine).
        IsNear (reads_in h.records) (among_steps (facts h) among)
        (taint_after (among_steps (facts h) among) (tainted (facts h) (changed h.setup setup) among at.come)
        (record_at h.records next.at))
        (apply at.old (record_at h.records next.at)) n)
        (ap (apply (machine_at setup schedule i)) other_is ∙ with_stores_is)
        (near-apply (reads_in h.records) (among_steps (facts h) among)
        (tainted (facts h) (changed h.setup setup) among at.come) at.old (machine_at setup schedule i)
        (record_at h.records next.at) (record_of (machine_at setup schedule i) (get_or schedule i 0)).start
        (record_of (machine_at setup schedule i) (get_or schedule i 0)).kept
        at.near at.whole (whole-at setup schedule like.valid like.permitted i) turn.fit
        (ap (fits (machine_at setup schedule i)) other_is
        ∙ record-fits (machine_at setup schedule i) (get_or schedule i 0)
        (ready-at setup schedule like.valid like.permitted i below))
        going step_like closed_at))

    shut_next : IsClosed (facts h) (next.at ∷ at.come)
    shut_next =
        λ a k less there is.
        or-in_right (eqb next.at a) (is_in a at.come)
        (elim (cases_eq next.at k) [
          | inl same ↦ turn.came_all a (omega arith) (subst (λ (x : ℕ). before_at (facts h) a x ≡ true) (sym same) is)
          | inr other ↦ at.shut a k less
              (let isnt_k : eqb next.at k ≡ false = grind (arith, nat_tests) in rw isnt_k at there) is
        ])

    pub advance : IsAt h setup schedule among (suc i)
    advance =
        record {
          come = next.at ∷ at.come;
          shut = shut_next;
          made = made_next;
          old = apply at.old (record_at h.records next.at);
          whole =
              apply-whole at.old (record_at h.records next.at) at.whole
              (fits-can_step at.old (record_at h.records next.at) turn.none turn.fit);
          can = turn.later;
          reading =
              reading-apply (reads_in h.records) at.old (record_at h.records next.at)
              (left_from 0 (next.at ∷ at.come) h.records) turn.reading_next;
          reported = turn.reported_next;
          near = near_next;
        }
