-- The schedule that follows the choice is permitted and complete.
use Rattle.std.proofs.Common.{◌≡◌, ◌<◌, ◌≤◌, ◌+◌, ℕ, zero, suc, Bool, true, false, not, ◌&&◌, ◌||◌, eqb, ltb, cond, List, [], ◌∷◌, length, map, Option, Some, None, is_some, refl, sym, inl, inr, arith}
use Rattle.std.proofs.lemmas.Bool.{and_parts, eq-eqb, cases_lt}
use Rattle.std.proofs.lemmas.Bool.Decides.{nat_tests}
use Rattle.std.proofs.lemmas.List.Quantifiers.{position-Some}
use Rattle.std.specs.List.{list_any, filter, position_or_len}
use Rattle.memory_spec.specs.Pages.{Memory}
use Rattle.isa_spec.specs.Registers.{Registers}
use Rattle.thunk_spec.specs.declared.ends.ThunkEnd.{ThunkEnd}
use Rattle.machine_spec.specs.declared.states.End.{End}
use Rattle.machine_spec.specs.Machine.{Hart, Machine, hart_of, nobody, is_ready}
use Rattle.machine_spec.specs.Step.{written, Asked, Asks, Stops, asked, done_as_asked, finished, step, can_step}
use Rattle.machine_spec.specs.Schedule.{is_permitted_from, is_complete_from}
use Rattle.machine_spec.specs.Setup.{Setup, IsSetup, first}
use Rattle.machine_spec.specs.Choice.{least, ready_numbers, is_ready_at, choice, chosen_first, alone_from, alone}
use Rattle.machine_spec.specs.Whole.{IsWhole}
use Rattle.machine_spec.proofs.Steps.{step-whole}
use Rattle.machine_spec.proofs.Beginning.{IsWhole-first}

any-position : {X : Type 0} (p : X → Bool) (xs : List X) → list_any p xs ≡ true → position_or_len p xs < length xs
any-position p [] any = cc
any-position p (x ∷ xs) any =
    elim (p x)
    as (λ b. (b || list_any p xs) ≡ true → cond (not b) (1 + position_or_len p xs) 0 < suc (length xs))
    [ true ↦ λ h. omega arith | false ↦ λ h. let rest = any-position p xs h in omega arith ]
    any

-- the least of some numbers is one of them
least-any : (n : ℕ) (ns : List ℕ) (l : ℕ) → l ≡ least (n ∷ ns) → list_any (λ k. eqb k l) (n ∷ ns) ≡ true
least-any n [] l is = let same : eqb n l ≡ true = eq-eqb n l (sym is) in rw same refl
least-any n (other ∷ rest) l is =
    elim (cases_lt n (least (other ∷ rest))) [
      | inl below ↦ let same : eqb n l ≡ true = eq-eqb n l (omega arith) in rw same refl
      | inr above ↦ or-right (eqb n l) (list_any (λ k. eqb k l) (other ∷ rest)) (least-any other rest l (omega arith))
    ]
  where
    or-right : (a b : Bool) → b ≡ true → (a || b) ≡ true
    or-right true b h = refl
    or-right false b h = h

or-here : (a b c : Bool) → (b ≡ true → c ≡ true) → (a || b) ≡ true → (a || c) ≡ true
or-here true b c later given = refl
or-here false b c later given = later given

-- a number of a ready hart is that of some ready hart
any-number :
    (n : ℕ) (hs : List Hart) → list_any (λ k. eqb k n) (ready_numbers hs) ≡ true → list_any (is_ready_at n) hs ≡ true
any-number n [] any = any
any-number n (h ∷ hs) any =
    elim (is_ready h.status)
    as (λ b.
    list_any (λ k. eqb k n)
    (map (λ (x : Hart). x.number)
    (cond b (h ∷ filter (λ (x : Hart). is_ready x.status) hs) (filter (λ (x : Hart). is_ready x.status) hs)))
    ≡ true
    → ((b && eqb h.number n) || list_any (is_ready_at n) hs) ≡ true) [
      | true ↦ or-here (eqb h.number n) (list_any (λ k. eqb k n) (ready_numbers hs)) (list_any (is_ready_at n) hs)
          (any-number n hs)
      | false ↦ any-number n hs
    ]
    any

some-number :
    (hs : List Hart) → list_any (λ (h : Hart). is_ready h.status) hs ≡ true
    → list_any (λ k. eqb k (least (ready_numbers hs))) (ready_numbers hs) ≡ true
some-number [] any = cc
some-number (h ∷ hs) any =
    elim (is_ready h.status)
    as (λ b.
    (b || list_any (λ (x : Hart). is_ready x.status) hs) ≡ true
    → list_any
    (λ k. eqb k
    (least (map (λ (x : Hart). x.number)
    (cond b (h ∷ filter (λ (x : Hart). is_ready x.status) hs) (filter (λ (x : Hart). is_ready x.status) hs)))))
    (map (λ (x : Hart). x.number)
    (cond b (h ∷ filter (λ (x : Hart). is_ready x.status) hs) (filter (λ (x : Hart). is_ready x.status) hs)))
    ≡ true) [
      | true ↦ λ given. least-any h.number (ready_numbers hs)
          (least (h.number ∷ ready_numbers hs)) refl
      | false ↦ some-number hs
    ]
    any

-- if a thread is ready, one is chosen
pub choice-some : (m : Machine) → list_any (λ (h : Hart). is_ready h.status) m.harts ≡ true → is_some (choice m) ≡ true
unfolding choice
choice-some m any =
    let there : position_or_len (is_ready_at (least (ready_numbers m.harts))) m.harts < length m.harts =
    any-position (is_ready_at (least (ready_numbers m.harts))) m.harts
    (any-number (least (ready_numbers m.harts)) m.harts (some-number m.harts any)) in
    let is : ltb (position_or_len (is_ready_at (least (ready_numbers m.harts))) m.harts) (length m.harts) ≡ true =
    grind (arith, nat_tests) in
    rw is refl

-- the chosen thread is ready
pub choice-ready : (m : Machine) (t : ℕ) → choice m ≡ Some t → is_ready (hart_of m t).status ≡ true
unfolding choice
choice-ready m t chosen =
    let found = position-Some (is_ready_at (least (ready_numbers m.harts))) m.harts t nobody chosen in
    (and_parts (is_ready (hart_of m t).status) (eqb (hart_of m t).number (least (ready_numbers m.harts))) found.1).0

-- a step is counted, and the limit stays
done-limit : (m : Machine) (t : ℕ) (a : Asked) → (done_as_asked m t a).limit ≡ m.limit
done-limit m t (Asks call) = refl
done-limit m t (Stops e) = refl

done-steps : (m : Machine) (t : ℕ) (a : Asked) → (done_as_asked m t a).steps ≡ m.steps
done-steps m t (Asks call) = refl
done-steps m t (Stops e) = refl

pub finished-limit :
    (m : Machine) (t : ℕ) (memory : Memory) (regs : Registers) (e : ThunkEnd) (put : List ℕ)
    → (finished m t memory regs e put).limit ≡ m.limit
unfolding finished
finished-limit m t memory regs e put = done-limit (written m t memory regs put) t (asked t e regs)

pub finished-steps :
    (m : Machine) (t : ℕ) (memory : Memory) (regs : Registers) (e : ThunkEnd) (put : List ℕ)
    → (finished m t memory regs e put).steps ≡ suc m.steps
unfolding finished
finished-steps m t memory regs e put = done-steps (written m t memory regs put) t (asked t e regs)

pub step-limit : (m : Machine) (t : ℕ) → (step m t).limit ≡ m.limit
unfolding step
step-limit m t = finished-limit m t _ _ _ _

pub step-steps : (m : Machine) (t : ℕ) → (step m t).steps ≡ suc m.steps
unfolding step
step-steps m t = finished-steps m t _ _ _ _

-- the schedule of the choice, from a machine on, is permitted and complete
record IsRun (m : Machine) (schedule : List ℕ) : Type 0 where
  pub permitted : is_permitted_from m schedule ≡ true
  pub complete : is_complete_from m schedule ≡ true

run-first :
    (m : Machine) (ending : Option End) (chosen : Option ℕ) (rest : ℕ → List ℕ)
    → m.ending ≡ ending → choice m ≡ chosen
    → IsWhole m
    → ((t : ℕ) → can_step m t ≡ true → IsRun (step m t) (rest t))
    → IsRun m (chosen_first ending chosen rest)
run-first m (Some e) chosen rest is picked whole later = record { permitted = refl; complete = rw is refl }
run-first m None None rest is picked whole later =
    absurd (let some = choice-some m (whole.some_ready is) in let impossible = rw picked at some in cc)
run-first m None (Some t) rest is picked whole later =
    let ready : is_ready (hart_of m t).status ≡ true = choice-ready m t picked in
    let can : can_step m t ≡ true = rw (is, ready) refl in
    record { permitted = rw can (later t can).permitted; complete = (later t can).complete }

run-alone_from : (n : ℕ) (m : Machine) → IsWhole m → m.limit ≤ m.steps + n → IsRun m (alone_from n m)
run-alone_from zero m whole enough =
    record { permitted = refl; complete = ended m.ending refl }
  where
    ended : (e : Option End) → m.ending ≡ e → is_some m.ending ≡ true
    ended (Some e) is = rw is refl
    ended None is = absurd (let left = whole.steps_left is in omega arith)
run-alone_from (suc n) m whole enough =
    run-first m m.ending (choice m) (λ t. alone_from n (step m t)) refl refl whole
    (λ t can.
    let limit = step-limit m t in
    let steps = step-steps m t in
    run-alone_from n (step m t) (step-whole m t whole can) (omega arith))

pub first-limit : (s : Setup) → (first s).limit ≤ (first s).steps + s.limit
unfolding first
first-limit s = omega arith

-- the schedule of one worker with no earlier run is permitted and complete
pub alone-permitted : (s : Setup) → IsSetup s → is_permitted_from (first s) (alone s) ≡ true
alone-permitted s sound = (run-alone_from s.limit (first s) (IsWhole-first s sound) (first-limit s)).permitted

pub alone-complete : (s : Setup) → IsSetup s → is_complete_from (first s) (alone s) ≡ true
alone-complete s sound = (run-alone_from s.limit (first s) (IsWhole-first s sound) (first-limit s)).complete
