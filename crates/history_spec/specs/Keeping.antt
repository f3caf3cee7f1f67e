-- Other orders of the steps of a history in which each comes after all that must come before it.
use Rattle.std.specs.Prelude.{ℕ, ◌==◌, ◌&&◌, ◌||◌, not, Bool, true, false, List, [], ◌∷◌, if◌then◌else◌}
use Rattle.thunk_spec.specs.Record.{Record}
use Rattle.history_spec.specs.Facts.{Fact}
use Rattle.history_spec.specs.Before.{before}

-- A list with a thing set behind its first one, or alone if the list is empty.
abbrev pub set_second : {A : Type 0} → A → List A → List A
set_second a [] = a ∷ []
set_second a (x ∷ xs) = x ∷ a ∷ xs

-- A list whose first thing of a thread is moved to the front.
abbrev pub moved : {A : Type 0} → (A → ℕ) → ℕ → List A → List A
moved thread t [] = []
moved thread t (a ∷ xs) = if thread a == t then a ∷ xs else set_second a (moved thread t xs)

-- A list without its first thing.
abbrev pub rest_of : {A : Type 0} → List A → List A
rest_of [] = []
rest_of (a ∷ xs) = xs

-- The thread of a step.
abbrev pub fact_thread : Fact → ℕ
fact_thread f = f.thread

-- Whether there is a first of some steps, and a step needn't come before it.
abbrev pub is_free_of : Fact → List Fact → Bool
is_free_of f [] = false
is_free_of f (g ∷ fs) = not (before f g)

-- Whether a thread has a step among those that remain, and its next one may come now: no other must come before it.
abbrev pub may_come : ℕ → List Fact → Bool
may_come t [] = false
may_come t (f ∷ fs) = (f.thread == t) || (may_come t fs && is_free_of f (moved fact_thread t fs))

-- Whether the steps of a schedule may come one after the other, of the steps that remain: each after all that must come
-- before it.
abbrev pub may_begin : List Fact → List ℕ → Bool
may_begin fs [] = true
may_begin fs (t ∷ schedule) = may_come t fs && may_begin (rest_of (moved fact_thread t fs)) schedule

-- Whether a schedule is an order of these steps in which each comes after all that must come before it.
abbrev pub keeps : List Fact → List ℕ → Bool
keeps [] [] = true
keeps [] (t ∷ schedule) = false
keeps (f ∷ fs) [] = false
keeps (f ∷ fs) (t ∷ schedule) = may_come t (f ∷ fs) && keeps (rest_of (moved fact_thread t (f ∷ fs))) schedule

-- The thread of a record.
abbrev pub record_thread : Record → ℕ
record_thread r = r.thread

-- The first of a list, if there is one, in front of another list.
abbrev pub set_front : {A : Type 0} → List A → List A → List A
set_front [] ys = ys
set_front (x ∷ xs) ys = x ∷ ys

-- Records in the order of a schedule: for each entry the first that remains of its thread, and then all that remain.
abbrev pub arranged : List ℕ → List Record → List Record
arranged [] rs = rs
arranged (t ∷ schedule) rs =
    set_front (moved record_thread t rs) (arranged schedule (rest_of (moved record_thread t rs)))
