-- Worked examples of what changed pages reach, each computed by the checker. They were worked out by hand.
use Rattle.std.proofs.Common.{◌≡◌, ℕ, List, [], ◌∷◌, filter, length, refl}
use Rattle.std.specs.List.{range_with_len}
use Rattle.history_spec.specs.Facts.{Fact}
use Rattle.history_spec.proofs.BeforeExamples.{quiet, gives, writes}
use Rattle.round_spec.specs.Reach.{is_reached, giver_end}

-- the places of the steps that some pages reach
abbrev pub reached_places : List Fact → List (List ℕ) → List ℕ → List ℕ
reached_places fs reads pages = filter (λ j. is_reached fs reads pages j) (range_with_len 0 (length fs))

-- A step that reads a changed page is reached, and the next of its thread, whatever that reads; another thread's isn't.
pub reach-thread :
    reached_places (quiet 1 ∷ quiet 2 ∷ quiet 1 ∷ quiet 1 ∷ []) ([] ∷ (9 ∷ []) ∷ (9 ∷ []) ∷ [] ∷ []) (9 ∷ [])
    ≡ 1 ∷ 2 ∷ 3 ∷ []
reach-thread = refl

-- If no page is changed, no step is reached.
pub reach-none : reached_places (quiet 1 ∷ quiet 1 ∷ []) ((9 ∷ []) ∷ (9 ∷ []) ∷ []) [] ≡ []
reach-none = refl

-- What a reached step writes comes to a reader whose view was given later.
pub reach-written :
    reached_places (writes 3 (5 ∷ []) ∷ gives 1 (2 ∷ []) ∷ quiet 2 ∷ []) ((9 ∷ []) ∷ [] ∷ (5 ∷ []) ∷ []) (9 ∷ [])
    ≡ 0 ∷ 2 ∷ []
reach-written = refl

-- It doesn't come to one whose view was given before.
pub reach-too_late :
    reached_places (gives 1 (2 ∷ []) ∷ writes 3 (5 ∷ []) ∷ quiet 2 ∷ []) ([] ∷ (9 ∷ []) ∷ (5 ∷ []) ∷ []) (9 ∷ [])
    ≡ 1 ∷ []
reach-too_late = refl

-- Nor to one that reads another page, nor from a step that isn't reached.
pub reach-other_page :
    reached_places (writes 3 (5 ∷ []) ∷ gives 1 (2 ∷ []) ∷ quiet 2 ∷ []) ((9 ∷ []) ∷ [] ∷ (6 ∷ []) ∷ []) (9 ∷ [])
    ≡ 0 ∷ []
reach-other_page = refl

pub reach-other_writer :
    reached_places (writes 3 (5 ∷ []) ∷ gives 1 (2 ∷ []) ∷ quiet 2 ∷ []) ([] ∷ (9 ∷ []) ∷ (5 ∷ []) ∷ []) (9 ∷ [])
    ≡ 1 ∷ []
reach-other_writer = refl

-- a step that writes a page, and itself wakes the page's reader
abbrev pub waking : List Fact
waking = record (writes 1 (5 ∷ [])) { given = 1 ∷ 2 ∷ [] } ∷ quiet 2 ∷ quiet 3 ∷ []

-- The reader is reached: the view that it is given has what was written.
pub reach-waking : reached_places waking ((9 ∷ []) ∷ (5 ∷ []) ∷ (5 ∷ []) ∷ []) (9 ∷ []) ≡ 0 ∷ 1 ∷ []
reach-waking = refl

-- It began with the memory after the first step, and the other reader with the start.
pub giver-waking : giver_end waking 1 ∷ giver_end waking 2 ∷ [] ≡ 1 ∷ 0 ∷ []
giver-waking = refl

-- A view is that of the next step alone: the reader's second step was given its own by its first one.
pub reach-own_view :
    reached_places (gives 1 (2 ∷ []) ∷ gives 2 (2 ∷ []) ∷ writes 3 (5 ∷ []) ∷ quiet 2 ∷ [])
    ([] ∷ [] ∷ (9 ∷ []) ∷ (5 ∷ []) ∷ []) (9 ∷ [])
    ≡ 2 ∷ []
reach-own_view = refl

-- main makes two threads, each of which adds its word of the input to a sum under a mutex; main joins both, puts the
-- sum, and exits. Slot 1 has the sum, slots 3 and 4 the two words. Thread 2 waits for the mutex, and is woken by thread
-- 1's unlock; main waits for thread 1.
abbrev pub pair : List Fact
pair =
    gives 0 (0 ∷ 1 ∷ []) ∷ gives 1 (1 ∷ []) ∷ gives 0 (0 ∷ 2 ∷ []) ∷ quiet 2
    ∷ record (writes 1 (1 ∷ [])) { given = 1 ∷ 2 ∷ [] } ∷ record (writes 2 (1 ∷ [])) { given = 2 ∷ [] } ∷ quiet 0
    ∷ gives 1 (0 ∷ []) ∷ quiet 2 ∷ gives 0 (0 ∷ []) ∷ gives 0 (0 ∷ []) ∷ quiet 0 ∷ []

abbrev pub pair_reads : List (List ℕ)
pair_reads =
    (0 ∷ []) ∷ (0 ∷ 3 ∷ []) ∷ (0 ∷ []) ∷ (0 ∷ 4 ∷ []) ∷ (0 ∷ 1 ∷ []) ∷ (0 ∷ 1 ∷ []) ∷ (0 ∷ []) ∷ (0 ∷ []) ∷ (0 ∷ [])
    ∷ (0 ∷ []) ∷ (0 ∷ 1 ∷ []) ∷ (0 ∷ []) ∷ []

-- An edit of the second word reaches thread 2's steps, the put, and the exit after it.
pub reach-pair : reached_places pair pair_reads (4 ∷ []) ≡ 3 ∷ 5 ∷ 8 ∷ 10 ∷ 11 ∷ []
reach-pair = refl

-- One of the first word reaches thread 1's steps too, and main's that they wake.
pub reach-pair_first : reached_places pair pair_reads (3 ∷ []) ≡ 1 ∷ 4 ∷ 5 ∷ 7 ∷ 8 ∷ 10 ∷ 11 ∷ []
reach-pair_first = refl
