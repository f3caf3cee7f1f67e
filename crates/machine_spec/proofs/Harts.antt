-- What performing an effect does to each hart.
use Rattle.std.proofs.Common.{◌≡◌, ◌≢◌, ◌<◌, ◌≤◌, ◌+◌, ℕ, zero, suc, true, false, eqb, List, [], ◌∷◌, ◌++◌, length, set, Option, Some, None, refl, ap, sym, ◌∙◌, inl, inr, arith}
use Rattle.std.proofs.lemmas.Bool.{cases_eq, cases_lt, eq-eqb}
use Rattle.std.proofs.lemmas.Bool.Decides.{nat_tests}
use Rattle.std.proofs.lemmas.List.{get_or-set_same, get_or-set_other, get_or_past, get_or_append_left, length-set, length-append}
use Rattle.memory_spec.specs.Pages.{Memory}
use Rattle.guest_call.specs.declared.Fate.{Fate}
use Rattle.guest_call.specs.declared.Fate.TheVariants.{Returns, Blocks, Ends, Exits}
use Rattle.guest_call.specs.Effect.{waiting, ended_after}
use Rattle.guest_call.specs.Queues.{places}
use Rattle.guest_call.specs.Objects.{created_count}
use Rattle.guest_call.proofs.Counting.{tally, places-nil, places-cons}
use Rattle.machine_spec.specs.declared.states.Status.{Status}
use Rattle.machine_spec.specs.declared.states.Status.TheVariants.{Ready, Blocked, Ended}
use Rattle.machine_spec.specs.Machine.{Hart, hart_in, nobody, is_ready}
use Rattle.machine_spec.specs.Performing.{returned, fated, woken, first_hart, with_created}
use Rattle.machine_spec.specs.Whole.{blocked_count, ended_value}

pub blocked_count-le : (s : Status) → blocked_count s ≤ 1
blocked_count-le Ready = omega arith
blocked_count-le Blocked = omega arith
blocked_count-le (Ended v) = omega arith

pub blocked_count-ready : (s : Status) → is_ready s ≡ true → blocked_count s ≡ 0
blocked_count-ready Ready h = refl
blocked_count-ready Blocked h = cc
blocked_count-ready (Ended v) h = refl

pub ended_value-ready : (s : Status) → is_ready s ≡ true → ended_value s ≡ None
ended_value-ready Ready h = refl
ended_value-ready Blocked h = refl
ended_value-ready (Ended v) h = cc

ended_value-blocked : (s : Status) → blocked_count s ≡ 1 → ended_value s ≡ None
ended_value-blocked Ready h = refl
ended_value-blocked Blocked h = refl
ended_value-blocked (Ended v) h = absurd (omega arith)

hart_in-past : (hs : List Hart) (u : ℕ) → length hs ≤ u → hart_in hs u ≡ nobody
hart_in-past hs u past = get_or_past hs u nobody past

-- a thread that is ready exists, and so does one that is blocked
pub ready-below : (hs : List Hart) (u : ℕ) → is_ready (hart_in hs u).status ≡ true → u < length hs
ready-below hs u h =
    elim (cases_lt u (length hs)) [
      | inl below ↦ below
      | inr past ↦ absurd
          (let none : hart_in hs u ≡ nobody = hart_in-past hs u past in let impossible = rw none at h in cc)
    ]

blocked-below : (hs : List Hart) (u : ℕ) → blocked_count (hart_in hs u).status ≡ 1 → u < length hs
blocked-below hs u h =
    elim (cases_lt u (length hs)) [
      | inl below ↦ below
      | inr past ↦ absurd
          (let none : hart_in hs u ≡ nobody = hart_in-past hs u past in let impossible = rw none at h in omega arith)
    ]

-- writing a hart with an unchanged status changes no status
pub status-set :
    (hs : List Hart) (t u : ℕ) (h : Hart)
    → h.status ≡ (hart_in hs t).status
    → (hart_in (set hs t h) u).status ≡ (hart_in hs u).status
status-set [] t u h same = refl
status-set (x ∷ hs) zero zero h same = same
status-set (x ∷ hs) zero (suc u) h same = refl
status-set (x ∷ hs) (suc t) zero h same = refl
status-set (x ∷ hs) (suc t) (suc u) h same = status-set hs t u h same

pub length-woken :
    (memory : Memory) (reported : Option ℕ) (us : List ℕ) (hs : List Hart) → length (woken memory reported us hs) ≡ length hs
length-woken memory reported [] hs = refl
length-woken memory reported (v ∷ us) hs =
    length-woken memory reported us (set hs v (returned memory 0 reported (hart_in hs v)))
    ∙ length-set hs v (returned memory 0 reported (hart_in hs v))

-- a thread that isn't woken stays as it is
pub woken-stays :
    (memory : Memory) (reported : Option ℕ) (us : List ℕ) (hs : List Hart) (u : ℕ)
    → places u us ≡ 0
    → hart_in (woken memory reported us hs) u ≡ hart_in hs u
woken-stays memory reported [] hs u none = refl
woken-stays memory reported (v ∷ us) hs u none =
    elim (cases_eq v u) [
      | inl same ↦ absurd
          (let one : eqb v u ≡ true = eq-eqb v u same in let all = rw (places-cons u v us, one) at none in omega arith)
      | inr other ↦
          woken-stays memory reported us (set hs v (returned memory 0 reported (hart_in hs v))) u
          (let all : tally (eqb v u) + places u us ≡ 0 = sym (places-cons u v us) ∙ none in omega arith)
          ∙ get_or-set_other hs v u (returned memory 0 reported (hart_in hs v)) nobody (λ e. other (sym e))
    ]

-- a woken thread was blocked, and isn't any more
pub woken-blocked :
    (memory : Memory) (reported : Option ℕ) (us : List ℕ) (hs : List Hart) (u : ℕ)
    → places u us ≤ blocked_count (hart_in hs u).status
    → blocked_count (hart_in (woken memory reported us hs) u).status + places u us ≡ blocked_count (hart_in hs u).status
woken-blocked memory reported [] hs u h = let none : places u [] ≡ 0 = places-nil u in omega arith
woken-blocked memory reported (v ∷ us) hs u h =
    elim (cases_eq v u) [
      | inl same ↦
          let one : eqb v u ≡ true = eq-eqb v u same in
          let all : places u (v ∷ us) ≡ 1 + places u us = places-cons u v us ∙ ap (λ b. tally b + places u us) one in
          let most : blocked_count (hart_in hs u).status ≤ 1 = blocked_count-le (hart_in hs u).status in
          let below : u < length hs = blocked-below hs u (omega arith) in
          let here : hart_in (set hs v (returned memory 0 reported (hart_in hs v))) u
          ≡ returned memory 0 reported (hart_in hs v) =
          rw (← same) (get_or-set_same hs v (returned memory 0 reported (hart_in hs v)) nobody (rw same below)) in
          let now_ready : blocked_count (hart_in (set hs v (returned memory 0 reported (hart_in hs v))) u).status ≡ 0 =
          ap (λ (x : Hart). blocked_count x.status) here in
          let rest :
          blocked_count (hart_in (woken memory reported us (set hs v (returned memory 0 reported (hart_in hs v)))) u).status
          + places u us
          ≡ blocked_count (hart_in (set hs v (returned memory 0 reported (hart_in hs v))) u).status =
          woken-blocked memory reported us (set hs v (returned memory 0 reported (hart_in hs v))) u (omega arith) in
          omega arith
      | inr other ↦
          let none : eqb v u ≡ false = grind (arith, nat_tests) in
          let all : places u (v ∷ us) ≡ places u us =
          places-cons u v us ∙ ap (λ b. tally b + places u us) none ∙ omega arith in
          let stays : hart_in (set hs v (returned memory 0 reported (hart_in hs v))) u ≡ hart_in hs u =
          get_or-set_other hs v u (returned memory 0 reported (hart_in hs v)) nobody (λ e. other (sym e)) in
          let same : blocked_count (hart_in (set hs v (returned memory 0 reported (hart_in hs v))) u).status
          ≡ blocked_count (hart_in hs u).status =
          ap (λ (x : Hart). blocked_count x.status) stays in
          let rest :
          blocked_count (hart_in (woken memory reported us (set hs v (returned memory 0 reported (hart_in hs v)))) u).status
          + places u us
          ≡ blocked_count (hart_in (set hs v (returned memory 0 reported (hart_in hs v))) u).status =
          woken-blocked memory reported us (set hs v (returned memory 0 reported (hart_in hs v))) u (omega arith) in
          omega arith
    ]

-- a woken thread has not ended, before and after
pub woken-ended :
    (memory : Memory) (reported : Option ℕ) (us : List ℕ) (hs : List Hart) (u : ℕ)
    → places u us ≤ blocked_count (hart_in hs u).status
    → ended_value (hart_in (woken memory reported us hs) u).status ≡ ended_value (hart_in hs u).status
woken-ended memory reported [] hs u h = refl
woken-ended memory reported (v ∷ us) hs u h =
    elim (cases_eq v u) [
      | inl same ↦
          let one : eqb v u ≡ true = eq-eqb v u same in
          let all : places u (v ∷ us) ≡ 1 + places u us = places-cons u v us ∙ ap (λ b. tally b + places u us) one in
          let most : blocked_count (hart_in hs u).status ≤ 1 = blocked_count-le (hart_in hs u).status in
          let below : u < length hs = blocked-below hs u (omega arith) in
          let here : hart_in (set hs v (returned memory 0 reported (hart_in hs v))) u
          ≡ returned memory 0 reported (hart_in hs v) =
          rw (← same) (get_or-set_same hs v (returned memory 0 reported (hart_in hs v)) nobody (rw same below)) in
          woken-ended memory reported us (set hs v (returned memory 0 reported (hart_in hs v))) u (omega arith)
          ∙ ap (λ (x : Hart). ended_value x.status) here
          ∙ sym (ended_value-blocked (hart_in hs u).status (omega arith))
      | inr other ↦
          let none : eqb v u ≡ false = grind (arith, nat_tests) in
          let all : places u (v ∷ us) ≡ places u us =
          places-cons u v us ∙ ap (λ b. tally b + places u us) none ∙ omega arith in
          let stays : hart_in (set hs v (returned memory 0 reported (hart_in hs v))) u ≡ hart_in hs u =
          get_or-set_other hs v u (returned memory 0 reported (hart_in hs v)) nobody (λ e. other (sym e)) in
          let same : blocked_count (hart_in (set hs v (returned memory 0 reported (hart_in hs v))) u).status
          ≡ blocked_count (hart_in hs u).status =
          ap (λ (x : Hart). blocked_count x.status) stays in
          woken-ended memory reported us (set hs v (returned memory 0 reported (hart_in hs v))) u (omega arith)
          ∙ ap (λ (x : Hart). ended_value x.status) stays
    ]

pub length-created :
    (memory : Memory) (c : Option (ℕ × ℕ)) (hs : List Hart)
    → length (with_created memory c hs) ≡ length hs + created_count c
length-created memory None hs = omega arith
length-created memory (Some c) hs = length-append hs (first_hart memory (length hs) c.0 c.1 ∷ [])

pub created-stays :
    (memory : Memory) (c : Option (ℕ × ℕ)) (hs : List Hart) (u : ℕ)
    → u < length hs
    → hart_in (with_created memory c hs) u ≡ hart_in hs u
created-stays memory None hs u below = refl
created-stays memory (Some c) hs u below =
    get_or_append_left hs (first_hart memory (length hs) c.0 c.1 ∷ []) nobody u below

-- one more ready hart changes no count of blocked threads
push-blocked :
    (hs : List Hart) (u : ℕ) (h : Hart)
    → h.status ≡ Ready
    → blocked_count (hart_in (hs ++ h ∷ []) u).status ≡ blocked_count (hart_in hs u).status
push-blocked [] zero h ready = ap blocked_count ready
push-blocked [] (suc u) h ready = refl
push-blocked (x ∷ hs) zero h ready = refl
push-blocked (x ∷ hs) (suc u) h ready = push-blocked hs u h ready

pub created-blocked :
    (memory : Memory) (c : Option (ℕ × ℕ)) (hs : List Hart) (u : ℕ)
    → blocked_count (hart_in (with_created memory c hs) u).status ≡ blocked_count (hart_in hs u).status
created-blocked memory None hs u = refl
created-blocked memory (Some c) hs u = push-blocked hs u (first_hart memory (length hs) c.0 c.1) refl

push-last : (hs : List Hart) (h : Hart) → hart_in (hs ++ h ∷ []) (length hs) ≡ h
push-last [] h = refl
push-last (x ∷ hs) h = push-last hs h

pub created-last :
    (memory : Memory) (c : Option (ℕ × ℕ)) (hs : List Hart) (u : ℕ)
    → length hs ≤ u → u < length hs + created_count c
    → ended_value (hart_in (with_created memory c hs) u).status ≡ None
created-last memory None hs u past below = absurd (omega arith)
created-last memory (Some c) hs u past below =
    let last : u ≡ length hs = omega arith in
    rw last (ap (λ (x : Hart). ended_value x.status) (push-last hs (first_hart memory (length hs) c.0 c.1)))

-- how the caller's fate changes its status
pub fated-blocked :
    (f : Fate) (memory : Memory) (h : Hart)
    → is_ready h.status ≡ true
    → blocked_count (fated f memory h).status ≡ waiting f
fated-blocked (Returns a0 a1) memory h ready = refl
fated-blocked Blocks memory h ready = refl
fated-blocked (Ends v) memory h ready = refl
fated-blocked (Exits code) memory h ready = blocked_count-ready h.status ready

pub fated-ended :
    (t : ℕ) (f : Fate) (memory : Memory) (h : Hart)
    → is_ready h.status ≡ true
    → ended_value (fated f memory h).status ≡ ended_after t f t None
fated-ended t (Returns a0 a1) memory h ready = refl
fated-ended t Blocks memory h ready = refl
fated-ended t (Ends v) memory h ready = let same : eqb t t ≡ true = eq-eqb t t refl in rw same refl
fated-ended t (Exits code) memory h ready = ended_value-ready h.status ready

pub ended_after-other : (t : ℕ) (f : Fate) (u : ℕ) (before : Option ℕ) → u ≢ t → ended_after t f u before ≡ before
ended_after-other t (Returns a0 a1) u before other = refl
ended_after-other t Blocks u before other = refl
ended_after-other t (Ends v) u before other =
    let none : eqb t u ≡ false = grind (arith, nat_tests) in rw none refl
ended_after-other t (Exits code) u before other = refl
