-- What the call of a ready thread may assume.
use Rattle.std.proofs.Common.{◌≡◌, ◌<◌, ◌≤◌, ◌+◌, ◌-◌, ◌^◌, ℕ, Bool, true, List, length, Fits, w32, ◌∙◌, arith}
use Rattle.guest_call.specs.declared.Call.{Call}
use Rattle.guest_call.specs.declared.thread_number.TheConstants.{THREADS}
use Rattle.guest_call.specs.Objects.{Objects, act, waits_at, created_count}
use Rattle.guest_call.proofs.Kept.{act_creates, act_kept}
use Rattle.machine_spec.specs.declared.TheConstants.{MOST_STEPS}
use Rattle.machine_spec.specs.Machine.{Hart, Machine, hart_in, is_ready}
use Rattle.machine_spec.specs.Whole.{IsTied, IsWhole}
use Rattle.machine_spec.proofs.Harts.{ready-below, blocked_count-ready}
use Rattle.machine_spec.proofs.Steps.{hart-at}

-- the thread exists
pub below : (hs : List Hart) (t : ℕ) → is_ready (hart_in hs t).status ≡ true → t < length hs
below hs t ready = ready-below hs t ready

pub exists : (o : Objects) (hs : List Hart) (t : ℕ) → IsTied o hs → is_ready (hart_in hs t).status ≡ true
    → t < length o.threads
exists o hs t tied ready = let inside = ready-below hs t ready in omega (arith, tied.threads)

-- it waits nowhere
pub free : (o : Objects) (hs : List Hart) (t : ℕ) → IsTied o hs → is_ready (hart_in hs t).status ≡ true
    → waits_at o t ≡ 0
free o hs t tied ready = tied.blocked t ∙ blocked_count-ready (hart_in hs t).status ready

-- there is room for a thread that it creates
pub few :
    (readable : ℕ → ℕ → Bool) (o : Objects) (hs : List Hart) (t : ℕ) (call : Call)
    → IsTied o hs → is_ready (hart_in hs t).status ≡ true
    → length hs + created_count (act readable o t call).0.created ≤ THREADS
few readable o hs t call tied ready =
    let kept = act_kept readable o t call tied.kept (exists o hs t tied ready) (free o hs t tied ready) in
    let more = act_creates readable o t call in
    omega (arith, tied.threads, kept.few_threads)

-- its view has as many pages as the map
pub view_count :
    (m : Machine) (t : ℕ) → IsWhole m → is_ready (hart_in m.harts t).status ≡ true
    → length (hart_in m.harts t).view ≡ length m.frame.map
view_count m t whole ready =
    (hart-at m.frame.map m.steps m.harts t (ready-below m.harts t ready) whole.harts).view.count

-- it has made few steps
pub few_numbers : (m : Machine) (t : ℕ) → IsWhole m → is_ready (hart_in m.harts t).status ≡ true
    → (hart_in m.harts t).number ≤ MOST_STEPS
few_numbers m t whole ready =
    let number = (hart-at m.frame.map m.steps m.harts t (ready-below m.harts t ready) whole.harts).number in
    omega (arith, whole.few_steps, whole.limits.most_steps)

-- another step of it can be counted, and another one of all
pub number_fits :
    (m : Machine) (t : ℕ) → IsWhole m → is_ready (hart_in m.harts t).status ≡ true
    → (hart_in m.harts t).number < 2 ^ 32 - 1
number_fits m t whole ready = omega (arith, few_numbers m t whole ready)

pub steps_fit : (m : Machine) → IsWhole m → Fits w32 (m.steps + 1)
steps_fit m whole = omega (arith, whole.few_steps, whole.limits.most_steps)
