-- A call keeps objects and harts in agreement, and every other ready hart as it is.
use Rattle.std.proofs.Common.{◌≡◌, ◌≢◌, ◌<◌, ◌≤◌, ◌+◌, ℕ, Bool, true, eqb, List, length, set, None, refl, ap, sym, ◌∙◌, inl, inr, arith}
use Rattle.std.proofs.lemmas.Bool.{cases_eq, cases_lt, eq-eqb}
use Rattle.std.proofs.lemmas.List.{get_or-set_same, get_or-set_other, get_or_past, length-set}
use Rattle.memory_spec.specs.Pages.{Memory}
use Rattle.guest_call.specs.declared.Call.{Call}
use Rattle.guest_call.specs.declared.Fate.{Fate}
use Rattle.guest_call.specs.Effect.{Effect, waiting, ended_after}
use Rattle.guest_call.specs.Queues.{places, entering}
use Rattle.guest_call.specs.Threads.{Member, fresh}
use Rattle.guest_call.specs.Objects.{Objects, act, waits_at, ended_at, created_count, IsKept}
use Rattle.guest_call.proofs.Counting.{entering-other}
use Rattle.guest_call.proofs.Conservation.{act_keeps}
use Rattle.guest_call.proofs.Kept.{act_creates, act_kept, act_ended}
use Rattle.machine_spec.specs.Machine.{Hart, hart_in, nobody, is_ready}
use Rattle.machine_spec.specs.Performing.{fated, woken, settled}
use Rattle.machine_spec.specs.Whole.{blocked_count, ended_value, IsTied}
use Rattle.machine_spec.proofs.Harts.{blocked_count-ready, ended_value-ready, ready-below, status-set, length-woken, woken-stays, woken-blocked, woken-ended, length-created, created-stays, created-blocked, created-last, fated-blocked, fated-ended, ended_after-other}

-- the harts after the caller's fate, before any thread is woken or created
abbrev fated_harts : Effect → Memory → ℕ → List Hart → List Hart
fated_harts e memory t hs = set hs t (fated e.fate memory (hart_in hs t))

entering-self : (t : ℕ) (f : Fate) → entering t f t ≡ waiting f
unfolding entering
entering-self t f = let same : eqb t t ≡ true = eq-eqb t t refl in rw same refl

-- after the caller's fate, the blocked threads are those that waited, and the caller if it began to wait
fated_harts-blocked :
    (o : Objects) (hs : List Hart) (e : Effect) (memory : Memory) (t u : ℕ)
    → IsTied o hs → is_ready (hart_in hs t).status ≡ true
    → blocked_count (hart_in (fated_harts e memory t hs) u).status ≡ waits_at o u + entering t e.fate u
fated_harts-blocked o hs e memory t u tied ready =
    elim (cases_eq u t) [
      | inl same ↦
          let below : t < length hs = ready-below hs t ready in
          let here : hart_in (fated_harts e memory t hs) t ≡ fated e.fate memory (hart_in hs t) =
          get_or-set_same hs t (fated e.fate memory (hart_in hs t)) nobody below in
          let waits : waits_at o t ≡ 0 = tied.blocked t ∙ blocked_count-ready (hart_in hs t).status ready in
          let is : blocked_count (hart_in (fated_harts e memory t hs) t).status ≡ waiting e.fate =
          ap (λ (h : Hart). blocked_count h.status) here ∙ fated-blocked e.fate memory (hart_in hs t) ready in
          let enters : entering t e.fate t ≡ waiting e.fate = entering-self t e.fate in
          rw same (omega arith)
      | inr other ↦
          let stays : hart_in (fated_harts e memory t hs) u ≡ hart_in hs u =
          get_or-set_other hs t u (fated e.fate memory (hart_in hs t)) nobody other in
          let is : blocked_count (hart_in (fated_harts e memory t hs) u).status ≡ blocked_count (hart_in hs u).status =
          ap (λ (h : Hart). blocked_count h.status) stays in
          let enters : entering t e.fate u ≡ 0 = entering-other t e.fate u other in
          let waits : waits_at o u ≡ blocked_count (hart_in hs u).status = tied.blocked u in
          omega arith
    ]

fated_harts-ended :
    (o : Objects) (hs : List Hart) (e : Effect) (memory : Memory) (t u : ℕ)
    → IsTied o hs → is_ready (hart_in hs t).status ≡ true → u < length hs
    → ended_value (hart_in (fated_harts e memory t hs) u).status ≡ ended_after t e.fate u (ended_at o u)
fated_harts-ended o hs e memory t u tied ready below_u =
    elim (cases_eq u t) [
      | inl same ↦
          let below : t < length hs = ready-below hs t ready in
          let here : hart_in (fated_harts e memory t hs) t ≡ fated e.fate memory (hart_in hs t) =
          get_or-set_same hs t (fated e.fate memory (hart_in hs t)) nobody below in
          let none : ended_at o t ≡ None = tied.ended t below ∙ ended_value-ready (hart_in hs t).status ready in
          rw (same, none)
          (ap (λ (h : Hart). ended_value h.status) here ∙ fated-ended t e.fate memory (hart_in hs t) ready)
      | inr other ↦
          let stays : hart_in (fated_harts e memory t hs) u ≡ hart_in hs u =
          get_or-set_other hs t u (fated e.fate memory (hart_in hs t)) nobody other in
          ap (λ (h : Hart). ended_value h.status) stays
          ∙ sym (tied.ended u below_u)
          ∙ sym (ended_after-other t e.fate u (ended_at o u) other)
    ]

ended_at-past : (o : Objects) (u : ℕ) → length o.threads ≤ u → ended_at o u ≡ None
ended_at-past o u past = ap (λ (member : Member). member.value) (get_or_past o.threads u fresh past)

-- writing a hart with an unchanged status keeps the agreement
pub tied-written :
    (o : Objects) (hs : List Hart) (t : ℕ) (h : Hart)
    → h.status ≡ (hart_in hs t).status
    → IsTied o hs → IsTied o (set hs t h)
tied-written o hs t h same tied =
    let count : length (set hs t h) ≡ length hs = length-set hs t h in
    record {
      threads = tied.threads ∙ sym count;
      kept = tied.kept;
      blocked = λ u. tied.blocked u ∙ ap blocked_count (sym (status-set hs t u h same));
      ended = λ u below. tied.ended u (omega arith) ∙ ap ended_value (sym (status-set hs t u h same));
    }

-- what a call does to the objects, as far as the harts have to agree with it
record IsFollowed (o after : Objects) (e : Effect) (t : ℕ) : Type 0 where
  pub keeps : (u : ℕ) → waits_at after u + places u e.woken ≡ waits_at o u + entering t e.fate u
  pub kept : IsKept after
  pub creates : length after.threads ≡ length o.threads + created_count e.created
  pub ended : (u : ℕ) → ended_at after u ≡ ended_after t e.fate u (ended_at o u)

-- the harts in between: after the caller's fate and with the woken threads ready, but before a thread is created
abbrev woken_harts : Effect → Memory → ℕ → List Hart → List Hart
woken_harts e memory t hs = woken memory e.reported e.woken (fated_harts e memory t hs)

length-woken_harts :
    (e : Effect) (memory : Memory) (t : ℕ) (hs : List Hart) → length (woken_harts e memory t hs) ≡ length hs
length-woken_harts e memory t hs =
    length-woken memory e.reported e.woken (fated_harts e memory t hs)
    ∙ length-set hs t (fated e.fate memory (hart_in hs t))

-- an effect with which the objects agree keeps the agreement
tied-settled :
    (o after : Objects) (hs : List Hart) (e : Effect) (memory : Memory) (t : ℕ)
    → IsTied o hs → is_ready (hart_in hs t).status ≡ true → IsFollowed o after e t
    → IsTied after (settled e memory t hs)
tied-settled o after hs e memory t tied ready followed =
    let below : t < length hs = ready-below hs t ready in
    let same : length (woken_harts e memory t hs) ≡ length hs = length-woken_harts e memory t hs in
    let more : length (settled e memory t hs) ≡ length (woken_harts e memory t hs) + created_count e.created =
    length-created memory e.created (woken_harts e memory t hs) in
    let few : (u : ℕ) → places u e.woken ≤ blocked_count (hart_in (fated_harts e memory t hs) u).status =
    λ u.
    let before = fated_harts-blocked o hs e memory t u tied ready in
    let keeps = followed.keeps u in
    omega arith in
    record {
      threads = omega (arith, tied.threads, followed.creates);
      kept = followed.kept;
      blocked = λ u.
          let keeps = followed.keeps u in
          let before = fated_harts-blocked o hs e memory t u tied ready in
          let wakes = woken-blocked memory e.reported e.woken (fated_harts e memory t hs) u (few u) in
          let creates = created-blocked memory e.created (woken_harts e memory t hs) u in
          omega arith;
      ended = λ u below_u.
          elim (cases_lt u (length hs)) [
            | inl inside ↦
                followed.ended u
                ∙ sym (fated_harts-ended o hs e memory t u tied ready inside)
                ∙ sym (woken-ended memory e.reported e.woken (fated_harts e memory t hs) u (few u))
                ∙ ap (λ (h : Hart). ended_value h.status)
                (sym (created-stays memory e.created (woken_harts e memory t hs) u (omega arith)))
            | inr past ↦
                followed.ended u
                ∙ ended_after-other t e.fate u (ended_at o u) (omega arith)
                ∙ ended_at-past o u (omega (arith, tied.threads))
                ∙ sym (created-last memory e.created (woken_harts e memory t hs) u (omega arith) (omega arith))
          ];
    }

-- an effect with which the objects agree keeps every other ready hart as it is
stays-settled :
    (o after : Objects) (hs : List Hart) (e : Effect) (memory : Memory) (t u : ℕ)
    → IsTied o hs → is_ready (hart_in hs t).status ≡ true → IsFollowed o after e t
    → u ≢ t → is_ready (hart_in hs u).status ≡ true
    → hart_in (settled e memory t hs) u ≡ hart_in hs u
stays-settled o after hs e memory t u tied ready followed other ready_u =
    let below_u : u < length hs = ready-below hs u ready_u in
    let same : length (woken_harts e memory t hs) ≡ length hs = length-woken_harts e memory t hs in
    let keeps = followed.keeps u in
    let waits : waits_at o u ≡ 0 = tied.blocked u ∙ blocked_count-ready (hart_in hs u).status ready_u in
    let enters : entering t e.fate u ≡ 0 = entering-other t e.fate u other in
    created-stays memory e.created (woken_harts e memory t hs) u (omega arith)
    ∙ woken-stays memory e.reported e.woken (fated_harts e memory t hs) u (omega arith)
    ∙ get_or-set_other hs t u (fated e.fate memory (hart_in hs t)) nobody other

act-followed :
    (readable : ℕ → ℕ → Bool) (o : Objects) (hs : List Hart) (t : ℕ) (call : Call)
    → IsTied o hs → is_ready (hart_in hs t).status ≡ true
    → IsFollowed o (act readable o t call).1 (act readable o t call).0 t
act-followed readable o hs t call tied ready =
    let below : t < length o.threads = omega (arith, tied.threads, ready-below hs t ready) in
    let waits : waits_at o t ≡ 0 = tied.blocked t ∙ blocked_count-ready (hart_in hs t).status ready in
    record {
      keeps = act_keeps readable o t call tied.kept below;
      kept = act_kept readable o t call tied.kept below waits;
      creates = act_creates readable o t call;
      ended = act_ended readable o t call below;
    }

-- a call keeps the agreement
pub tied-called :
    (readable : ℕ → ℕ → Bool) (o : Objects) (hs : List Hart) (t : ℕ) (call : Call) (memory : Memory)
    → IsTied o hs → is_ready (hart_in hs t).status ≡ true
    → IsTied (act readable o t call).1 (settled (act readable o t call).0 memory t hs)
tied-called readable o hs t call memory tied ready =
    tied-settled o (act readable o t call).1 hs (act readable o t call).0 memory t tied ready
    (act-followed readable o hs t call tied ready)

-- a call keeps every other ready hart as it is
pub stays-called :
    (readable : ℕ → ℕ → Bool) (o : Objects) (hs : List Hart) (t : ℕ) (call : Call) (memory : Memory) (u : ℕ)
    → IsTied o hs → is_ready (hart_in hs t).status ≡ true
    → u ≢ t → is_ready (hart_in hs u).status ≡ true
    → hart_in (settled (act readable o t call).0 memory t hs) u ≡ hart_in hs u
stays-called readable o hs t call memory u tied ready other ready_u =
    stays-settled o (act readable o t call).1 hs (act readable o t call).0 memory t u tied ready
    (act-followed readable o hs t call tied ready) other ready_u
