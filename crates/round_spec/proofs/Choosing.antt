-- What holds of the chosen thread, and that with none in flight there is one if any is ready.
use Rattle.std.proofs.Common.{◌≡◌, ◌⊎◌, ◌≤◌, ◌+◌, ℕ, zero, suc, Bool, true, false, not, ◌&&◌, eqb, List, [], ◌∷◌, length, map, Option, Some, None, is_some, refl, ap, sym, ◌∙◌, subst, inl, inr, arith}
use Rattle.std.proofs.lemmas.Bool.{eqb-true}
use Rattle.std.specs.List.{AllByRecursion, filter, list_any, range_with_len}
use Rattle.machine_spec.specs.Machine.{Hart, Machine, hart_in, hart_of, is_ready}
use Rattle.machine_spec.specs.Choice.{least}
use Rattle.machine_spec.proofs.Harts.{ready-below}
use Rattle.history_spec.specs.History.{History}
use Rattle.history_spec.proofs.Scratch.{and-left}
use Rattle.round_spec.specs.Rounds.{none_in_flight, is_in_flight_of, is_free_in}
use Rattle.round_spec.specs.Due.{place_in, is_due}
use Rattle.round_spec.specs.Choice.{free_threads, first_of, least_by, best, is_any_in_flight, eligible, choice_by}
use Rattle.round_spec.proofs.Happening.{none_in_flight-none}
use Rattle.round_spec.proofs.Lists.{some-filter, any-range, first-all, all-filter, all-pass, all-unfiltered, range-at, least-under, some-least_by}

-- with no thread in flight, a ready one is free
pub free-ready : (m : Machine) (v : ℕ) → is_free_in m none_in_flight v ≡ is_ready (hart_of m v).status
free-ready m v = rw (none_in_flight-none v) (right (is_ready (hart_of m v).status))
  where
    right : (a : Bool) → (a && true) ≡ a
    right true = refl
    right false = refl

pub any-nobody : is_any_in_flight none_in_flight ≡ false
unfolding none_in_flight
any-nobody = refl

-- a test of the free threads is one of the harts
pub free-at :
    (m : Machine) (i k : ℕ) → 0 + i ≡ k → is_free_in m none_in_flight k ≡ is_ready (hart_in m.harts i).status
free-at m i k is = let same : k ≡ i = omega arith in rw same (free-ready m i)

some-free :
    (m : Machine)
    → is_some (first_of (free_threads m none_in_flight)) ≡ list_any (λ (h : Hart). is_ready h.status) m.harts
unfolding free_threads
some-free m =
    some-filter (is_free_in m none_in_flight) (range_with_len 0 (length m.harts))
    ∙ any-range (is_free_in m none_in_flight) (λ (h : Hart). is_ready h.status) m.harts 0 (free-at m)

some-best : (past : Option History) (m : Machine) (xs : List ℕ) → is_some (best past m xs) ≡ is_some (first_of xs)
unfolding best
some-best past m xs =
    some-least_by (λ t. (hart_of m t).number) (least_by (place_in past m) xs) ∙ some-least_by (place_in past m) xs

some-eligible :
    (p : ℕ → Bool) (free : List ℕ)
    → is_some (first_of (eligible (filter p free) free false)) ≡ is_some (first_of free)
some-eligible p [] = refl
some-eligible p (t ∷ free) = either (filter p (t ∷ free))
  where
    either : (due : List ℕ) → is_some (first_of (eligible due (t ∷ free) false)) ≡ true
    either [] = refl
    either (u ∷ due) = refl

-- with no thread in flight, one is chosen exactly if one is ready
pub choice_by-some :
    (past : Option History) (m : Machine) → is_some (choice_by past m none_in_flight)
    ≡ list_any (λ (h : Hart). is_ready h.status) m.harts
unfolding choice_by
choice_by-some past m =
    some-best past m (eligible (filter (is_due past m) (free_threads m none_in_flight)) (free_threads m none_in_flight)
    (is_any_in_flight none_in_flight))
    ∙ ap (λ (b : Bool). is_some
    (first_of (eligible (filter (is_due past m) (free_threads m none_in_flight)) (free_threads m none_in_flight) b))) any-nobody
    ∙ some-eligible (is_due past m) (free_threads m none_in_flight)
    ∙ some-free m

-- the best is one of those
best-all :
    (P : ℕ → Type 0) (past : Option History) (m : Machine) (xs : List ℕ) (u : ℕ)
    → AllByRecursion P xs → best past m xs ≡ Some u → P u
unfolding best least_by
best-all P past m xs u all is =
    first-all P _ u (all-filter P _ _ (all-filter P _ xs all)) is

-- and of the least place
best-least :
    (past : Option History) (m : Machine) (xs : List ℕ) (u : ℕ)
    → best past m xs ≡ Some u → AllByRecursion (λ v. place_in past m u ≤ place_in past m v) xs
unfolding best least_by
best-least past m [] u is = tt
best-least past m (x ∷ xs) u is =
    let test : eqb (place_in past m u) (least (map (place_in past m) (x ∷ xs))) ≡ true =
    first-all (λ v. eqb (place_in past m v) (least (map (place_in past m) (x ∷ xs))) ≡ true) _ u
    (all-filter (λ v. eqb (place_in past m v) (least (map (place_in past m) (x ∷ xs))) ≡ true) _ _
    (all-pass (λ v. eqb (place_in past m v) (least (map (place_in past m) (x ∷ xs)))) (x ∷ xs))) is in
    least-under (place_in past m) x xs (place_in past m u)
    (let same = eqb-true (place_in past m u) (least (map (place_in past m) (x ∷ xs))) test in omega arith)

best-none : (past : Option History) (m : Machine) (u : ℕ) → best past m [] ≡ Some u → ⊥
unfolding best least_by
best-none past m u is = cc

chosen-cases :
    (past : Option History) (m : Machine) (due free : List ℕ) (any : Bool) (u : ℕ)
    → best past m (eligible due free any) ≡ Some u
    → (best past m due ≡ Some u) ⊎ ((due ≡ []) × (any ≡ false) × (best past m free ≡ Some u))
chosen-cases past m (t ∷ due) free any u is = inl is
chosen-cases past m [] free false u is = inr (refl, refl, is)
chosen-cases past m [] free true u is = absurd (best-none past m u is)

-- the chosen thread: free; of the least place among those that are free and due; and due, if any ready thread is
pub record IsChosen (past : Option History) (m : Machine) (in_flight : List Bool) (u : ℕ) : Type 0 where
  pub free : is_free_in m in_flight u ≡ true
  pub least :
      (v : ℕ) → is_free_in m in_flight v ≡ true → is_due past m v ≡ true
      → place_in past m u ≤ place_in past m v
  pub due : (is_due past m u ≡ true) ⊎ ((v : ℕ) → is_ready (hart_of m v).status ≡ true → is_due past m v ≡ false)

pub free-is_ready :
    (m : Machine) (in_flight : List Bool) (v : ℕ) → is_free_in m in_flight v ≡ true → is_ready (hart_of m v).status ≡ true
free-is_ready m in_flight v free = and-left (is_ready (hart_of m v).status) (not (is_in_flight_of in_flight v)) free

pub free-of :
    (m : Machine) (in_flight : List Bool) (v : ℕ) → is_ready (hart_of m v).status ≡ true → is_in_flight_of in_flight v ≡ false
    → is_free_in m in_flight v ≡ true
free-of m in_flight v ready inside = rw (ready, inside) refl

-- if no flag is set, no thread is in flight
none-in_flight : (in_flight : List Bool) (v : ℕ) → is_any_in_flight in_flight ≡ false → is_in_flight_of in_flight v ≡ false
none-in_flight [] v none = refl
none-in_flight (true ∷ in_flight) v none = cc
none-in_flight (false ∷ in_flight) zero none = refl
none-in_flight (false ∷ in_flight) (suc v) none = none-in_flight in_flight v none

all-free :
    (m : Machine) (in_flight : List Bool) → AllByRecursion (λ v. is_free_in m in_flight v ≡ true) (free_threads m in_flight)
unfolding free_threads
all-free m in_flight = all-pass (is_free_in m in_flight) (range_with_len 0 (length m.harts))

-- what holds of all free threads that pass a test holds of each that does
free-due :
    (P : ℕ → Type 0) (m : Machine) (in_flight : List Bool) (p : ℕ → Bool) (v : ℕ)
    → AllByRecursion P (filter p (free_threads m in_flight)) → is_free_in m in_flight v ≡ true → p v ≡ true → P v
unfolding free_threads
free-due P m in_flight p v all free pass =
    range-at (λ u. is_free_in m in_flight u ≡ true → p u ≡ true → P u) (length m.harts) 0 v
    (all-unfiltered (λ u. p u ≡ true → P u) (is_free_in m in_flight) (range_with_len 0 (length m.harts))
    (all-unfiltered P p (filter (is_free_in m in_flight) (range_with_len 0 (length m.harts))) all))
    (omega arith) (let below = ready-below m.harts v (free-is_ready m in_flight v free) in omega arith) free pass

-- if none is chosen, no free thread is due

nobody-due : (due free : List ℕ) (any : Bool) → is_some (first_of (eligible due free any)) ≡ false → due ≡ []
nobody-due [] free any none = refl
nobody-due (t ∷ due) free any none = cc

pub choice_by-none :
    (past : Option History) (m : Machine) (in_flight : List Bool) (v : ℕ)
    → choice_by past m in_flight ≡ None → is_free_in m in_flight v ≡ true → is_due past m v ≡ false
unfolding choice_by
choice_by-none past m in_flight v none free = by (is_due past m v) refl
  where
    nobody : filter (is_due past m) (free_threads m in_flight) ≡ []
    nobody =
        nobody-due (filter (is_due past m) (free_threads m in_flight)) (free_threads m in_flight)
        (is_any_in_flight in_flight)
        (sym
        (some-best past m
        (eligible (filter (is_due past m) (free_threads m in_flight)) (free_threads m in_flight)
        (is_any_in_flight in_flight)))
        ∙ ap (λ (o : Option ℕ). is_some o) none)

    by : (b : Bool) → is_due past m v ≡ b → is_due past m v ≡ false
    by true due =
        absurd
        (free-due (λ (u : ℕ). ⊥) m in_flight (is_due past m) v
        (subst (AllByRecursion (λ (u : ℕ). ⊥)) (sym nobody) tt) free due)
    by false due = due

pub choice_by-chosen :
    (past : Option History) (m : Machine) (in_flight : List Bool) (u : ℕ) → choice_by past m in_flight ≡ Some u
    → IsChosen past m in_flight u
unfolding choice_by
choice_by-chosen past m in_flight u is =
    elim (chosen-cases past m (filter (is_due past m) (free_threads m in_flight)) (free_threads m in_flight)
    (is_any_in_flight in_flight) u is) [
      | inl one ↦ record {
        free =
            best-all (λ v. is_free_in m in_flight v ≡ true) past m (filter (is_due past m) (free_threads m in_flight)) u
            (all-filter (λ v. is_free_in m in_flight v ≡ true) (is_due past m) (free_threads m in_flight) (all-free m in_flight)) one;
        least =
            λ v free due. free-due (λ v. place_in past m u ≤ place_in past m v) m in_flight (is_due past m) v
            (best-least past m (filter (is_due past m) (free_threads m in_flight)) u one) free due;
        due =
            inl (best-all (λ v. is_due past m v ≡ true) past m (filter (is_due past m) (free_threads m in_flight)) u
            (all-pass (is_due past m) (free_threads m in_flight)) one);
      }
      | inr none ↦ record {
        free = best-all (λ v. is_free_in m in_flight v ≡ true) past m (free_threads m in_flight) u (all-free m in_flight) none.2;
        least = λ v free due. absurd (not-due none.0 v free due);
        due =
            inr (λ v ready.
            either (is_due past m v) (not-due none.0 v (free-of m in_flight v ready (none-in_flight in_flight v none.1))));
      }
    ]
  where
    not-due :
        filter (is_due past m) (free_threads m in_flight) ≡ [] → (v : ℕ)
        → is_free_in m in_flight v ≡ true → is_due past m v ≡ true → ⊥
    not-due empty v free due =
        free-due (λ v. ⊥) m in_flight (is_due past m) v (subst (λ (xs : List ℕ). AllByRecursion (λ v. ⊥) xs) (sym empty) tt)
        free due

    either : (b : Bool) → (b ≡ true → ⊥) → b ≡ false
    either true never = absurd (never refl)
    either false never = refl
