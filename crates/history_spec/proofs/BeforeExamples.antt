-- Worked examples of what must come before what, each computed by the checker. In each of the first ones two steps are
-- ordered by one cause alone, and no others are.
use Rattle.std.proofs.Common.{◌≡◌, ℕ, true, false, List, [], ◌∷◌, length, map, refl}
use Rattle.std.specs.List.{range_with_len}
use Rattle.guest_call.specs.declared.Object.{Object}
use Rattle.guest_call.specs.declared.Object.TheVariants.{Mutex, Semaphore}
use Rattle.history_spec.specs.Facts.{Fact}
use Rattle.history_spec.specs.Ancestors.{is_ancestor, edges_at, clock_at, number_at}
use Rattle.history_spec.specs.Orders.{is_order}

-- a step of a thread that does nothing
abbrev pub quiet : ℕ → Fact
quiet t = record { thread = t; objects = []; given = []; written = []; opened = []; last = false }

-- steps that act on an object, give views, write pages, open pages, and end the run
abbrev pub acts : ℕ → Object → Fact
acts t object = record (quiet t) { objects = object ∷ [] }

abbrev pub gives : ℕ → List ℕ → Fact
gives t threads = record (quiet t) { given = threads }

abbrev pub writes : ℕ → List ℕ → Fact
writes t slots = record (quiet t) { written = slots }

abbrev pub opens : ℕ → List ℕ → Fact
opens t slots = record (quiet t) { opened = slots }

abbrev pub ends : ℕ → Fact
ends t = record (quiet t) { last = true }

-- for each place those that must come directly before it
abbrev pub edges : List Fact → List (List ℕ)
edges fs = map (edges_at fs) (range_with_len 0 (length fs))

-- Steps that do nothing, of other threads, are in no order.
pub before-none : edges (quiet 1 ∷ quiet 2 ∷ quiet 3 ∷ []) ≡ [] ∷ [] ∷ [] ∷ []
before-none = refl

-- Two steps of a thread.
pub before-thread : edges (quiet 1 ∷ quiet 2 ∷ quiet 1 ∷ []) ≡ [] ∷ [] ∷ (0 ∷ []) ∷ []
before-thread = refl

-- A step that gives a thread its view, and the next one of that thread.
pub before-given : edges (gives 1 (2 ∷ []) ∷ quiet 3 ∷ quiet 2 ∷ []) ≡ [] ∷ [] ∷ (0 ∷ []) ∷ []
before-given = refl

-- The view is that of the next step alone: the later one follows on that step, since both are of its thread.
pub before-given_next : edges (gives 1 (2 ∷ []) ∷ quiet 2 ∷ quiet 2 ∷ []) ≡ [] ∷ (0 ∷ []) ∷ (1 ∷ []) ∷ []
before-given_next = refl

-- Two steps that act on one object. Another of the same kind, or of the same number, is another object.
pub before-object :
    edges (acts 1 (Mutex 7) ∷ acts 2 (Mutex 8) ∷ acts 3 (Semaphore 7) ∷ acts 4 (Mutex 7) ∷ [])
    ≡ [] ∷ [] ∷ [] ∷ (0 ∷ []) ∷ []
before-object = refl

-- A step that writes a page, and one that writes it too.
pub before-written :
    edges (writes 1 (5 ∷ []) ∷ writes 2 (6 ∷ []) ∷ writes 3 (7 ∷ 5 ∷ []) ∷ []) ≡ [] ∷ [] ∷ (0 ∷ []) ∷ []
before-written = refl

-- A step that writes a page, and one that opens it.
pub before-opened :
    edges (writes 1 (5 ∷ []) ∷ opens 2 (6 ∷ []) ∷ opens 3 (5 ∷ []) ∷ []) ≡ [] ∷ [] ∷ (0 ∷ []) ∷ []
before-opened = refl

-- A step that opens a page, and one that writes it.
pub before-overwritten :
    edges (opens 1 (5 ∷ []) ∷ writes 2 (6 ∷ []) ∷ writes 3 (5 ∷ []) ∷ []) ≡ [] ∷ [] ∷ (0 ∷ []) ∷ []
before-overwritten = refl

-- Two that open one page are in no order.
pub before-opened_twice : edges (opens 1 (5 ∷ []) ∷ opens 2 (5 ∷ []) ∷ []) ≡ [] ∷ [] ∷ []
before-opened_twice = refl

-- The step that ends the run comes after all.
pub before-last : edges (quiet 1 ∷ quiet 2 ∷ ends 3 ∷ []) ≡ [] ∷ [] ∷ (0 ∷ 1 ∷ []) ∷ []
before-last = refl

-- a step that writes a page, one that opens it and writes another, one that writes that other, and one that does
-- neither
--
abbrev pub chain : List Fact
chain = writes 1 (5 ∷ []) ∷ record (writes 2 (6 ∷ [])) { opened = 5 ∷ [] } ∷ writes 3 (6 ∷ []) ∷ quiet 1 ∷ []

-- The first is no direct cause of the third, and yet an ancestor of it; the fourth follows on the first alone.
pub ancestor-chain :
    map (edges_at chain) (0 ∷ 1 ∷ 2 ∷ 3 ∷ []) ≡ [] ∷ (0 ∷ []) ∷ (1 ∷ []) ∷ (0 ∷ []) ∷ []
ancestor-chain = refl

pub ancestor-through : map (λ i. is_ancestor chain i 2) (0 ∷ 1 ∷ 2 ∷ 3 ∷ []) ≡ true ∷ true ∷ false ∷ false ∷ []
ancestor-through = refl

pub ancestor-apart : map (λ i. is_ancestor chain i 3) (0 ∷ 1 ∷ 2 ∷ 3 ∷ []) ≡ true ∷ false ∷ false ∷ false ∷ []
ancestor-apart = refl

-- The clocks of the third and of the fourth step, thread by thread; and how many steps of its thread come before each.
pub clock-chain : map (clock_at chain 2) (0 ∷ 1 ∷ 2 ∷ 3 ∷ []) ≡ 0 ∷ 1 ∷ 1 ∷ 1 ∷ []
clock-chain = refl

pub clock-apart : map (clock_at chain 3) (0 ∷ 1 ∷ 2 ∷ 3 ∷ []) ≡ 0 ∷ 2 ∷ 0 ∷ 0 ∷ []
clock-apart = refl

pub number-chain : map (number_at chain) (0 ∷ 1 ∷ 2 ∷ 3 ∷ []) ≡ 0 ∷ 0 ∷ 0 ∷ 1 ∷ []
number-chain = refl

-- The fourth may come at once after the first, and not before it. The third may not come before the second. Each place
-- comes once.
pub order-early : is_order chain (0 ∷ 3 ∷ 1 ∷ 2 ∷ []) ≡ true
order-early = refl

pub order-too_early : is_order chain (3 ∷ 0 ∷ 1 ∷ 2 ∷ []) ≡ false
order-too_early = refl

pub order-swapped : is_order chain (0 ∷ 2 ∷ 1 ∷ 3 ∷ []) ≡ false
order-swapped = refl

pub order-missing : is_order chain (0 ∷ 1 ∷ 2 ∷ []) ≡ false
order-missing = refl

pub order-twice : is_order chain (0 ∷ 1 ∷ 1 ∷ 2 ∷ 3 ∷ []) ≡ false
order-twice = refl
