-- The records arranged by the schedule of a reordering are those at its places.
use Rattle.std.proofs.Common.{◌≡◌, ◌≢◌, ◌<◌, ◌≤◌, ◌+◌, ℕ, zero, suc, Bool, true, false, eqb, cond, List, [], ◌∷◌, length, map, get_or, slice_get, Some, refl, ap, ap₂, sym, ◌∙◌, subst, inl, inr, arith}
use Rattle.std.proofs.lemmas.Bool.{cases_eq, eq-eqb, eqb-true}
use Rattle.std.proofs.lemmas.Bool.Decides.{nat_tests}
use Rattle.thunk_spec.specs.Record.{Record}
use Rattle.machine_spec.specs.Setup.{first}
use Rattle.history_spec.specs.History.{History, IsHonest, threads_of_records}
use Rattle.history_spec.specs.Facts.{Fact, reads_in, facts}
use Rattle.history_spec.specs.Before.{is_in, fact_at}
use Rattle.history_spec.specs.Keeping.{moved, set_second, fact_thread, record_thread, arranged}
use Rattle.history_spec.specs.Orders.{is_order_after, is_order, threads_at, records_at, LeadToTheSame}
use Rattle.history_spec.proofs.Lists.{is_or_not}
use Rattle.history_spec.proofs.Places.{left_from, left-above, below-all, IsClosed, same-thread, all-came, none-came, coming-of, places-keep}
use Rattle.history_spec.proofs.Every.{keeps-begin}
use Rattle.history_spec.proofs.Honest.{facts-threads, honest-threads, begin-leads}

-- the first remaining record of a thread is moved to the front
pub front-at :
    {A : Type 0} → (thread : A → ℕ) (look : ℕ → A) (absent : A) (come : List ℕ) (j : ℕ) (xs : List A) (k : ℕ)
    → is_in j come ≡ false → k ≤ j → j < k + length xs
    → ((i : ℕ) → get_or xs i absent ≡ look (k + i))
    → ((i : ℕ) → k ≤ i → i < j → is_in i come ≡ false → eqb (thread (look i)) (thread (look j)) ≡ false)
    → moved thread (thread (look j)) (left_from k come xs) ≡ look j ∷ left_from k (j ∷ come) xs
front-at thread look absent come j [] k new low high at apart = absurd (omega arith)
front-at {A} thread look absent come j (x ∷ xs) k new low high at apart =
    elim (cases_eq k j) [
      | inl same ↦
          let x_is : x ≡ look j = at 0 ∙ ap look (omega arith) in
          let none : is_in k come ≡ false = rw same new in
          let own : eqb (thread x) (thread (look j)) ≡ true = eq-eqb (thread x) (thread (look j)) (ap thread x_is) in
          let is : eqb j k ≡ true = eq-eqb j k (sym same) in
          rw (none, own, is)
          (ap₂ (λ (y : A) (rest : List A). y ∷ rest) x_is (sym (left-above (suc k) j come xs (omega arith))))
      | inr other ↦
          let next : moved thread (thread (look j)) (left_from (suc k) come xs)
          ≡ look j ∷ left_from (suc k) (j ∷ come) xs =
          front-at thread look absent come j xs (suc k) new (omega arith) (omega arith)
          (λ i. at (suc i) ∙ ap look (omega arith)) (λ i lo hi none. apart i (omega arith) hi none) in
          let not_j : eqb j k ≡ false = grind (arith, nat_tests) in
          rw not_j (here other next (is_in k come) refl)
    ]
  where
    here :
        k ≢ j
        → moved thread (thread (look j)) (left_from (suc k) come xs) ≡ look j ∷ left_from (suc k) (j ∷ come) xs
        → (b : Bool) → is_in k come ≡ b
        → moved thread (thread (look j)) (cond b (left_from (suc k) come xs) (x ∷ left_from (suc k) come xs))
        ≡ look j ∷ cond b (left_from (suc k) (j ∷ come) xs) (x ∷ left_from (suc k) (j ∷ come) xs)
    here other next true is = next
    here other next false none =
        let x_is : x ≡ look k = at 0 ∙ ap look (omega arith) in
        let not_own : eqb (thread x) (thread (look j)) ≡ false =
        ap (λ (y : A). eqb (thread y) (thread (look j))) x_is ∙ apart k (omega arith) (omega arith) none in
        rw not_own (ap (set_second x) next)

-- the element at a place of two lists of the same threads
thread-at :
    (fs : List Fact) (rs : List Record) (absent : Record) (i : ℕ)
    → map fact_thread fs ≡ map record_thread rs → i < length fs
    → (fact_at fs i).thread ≡ (get_or rs i absent).thread
thread-at [] rs absent i same below = absurd (omega arith)
thread-at (f ∷ fs) [] absent i same below = cc
thread-at (f ∷ fs) (r ∷ rs) absent zero same below = cc
thread-at (f ∷ fs) (r ∷ rs) absent (suc i) same below =
    let rest : map fact_thread fs ≡ map record_thread rs = cc in thread-at fs rs absent i rest (omega arith)

same-length : (fs : List Fact) (rs : List Record) → map fact_thread fs ≡ map record_thread rs → length fs ≡ length rs
same-length [] [] same = refl
same-length [] (r ∷ rs) same = cc
same-length (f ∷ fs) [] same = cc
same-length (f ∷ fs) (r ∷ rs) same =
    let rest : map fact_thread fs ≡ map record_thread rs = cc in ap suc (same-length fs rs rest)

get-at : {A : Type 0} → (xs : List A) (absent : A) (i : ℕ) → i < length xs → slice_get xs i ≡ Some (get_or xs i absent)
get-at [] absent i below = absurd (omega arith)
get-at (x ∷ xs) absent zero below = refl
get-at (x ∷ xs) absent (suc i) below = get-at xs absent i (omega arith)

arranged-left :
    (fs : List Fact) (rs : List Record) (absent : Record) (ps come : List ℕ)
    → map fact_thread fs ≡ map record_thread rs → IsClosed fs come → is_order_after fs come ps ≡ true
    → arranged (threads_at fs ps) (left_from 0 come rs) ≡ records_at rs ps
arranged-left fs rs absent [] come same closed order =
    let size = same-length fs rs same in
    all-came 0 come rs (λ i low high. below-all (λ k. is_in k come) (length fs) i order (omega arith))
arranged-left fs rs absent (j ∷ ps) come same closed order =
    let coming = coming-of fs come j ps closed order in
    let below = coming.below in
    let size = same-length fs rs same in
    let thread : (fact_at fs j).thread ≡ (get_or rs j absent).thread = thread-at fs rs absent j same below in
    let next : moved record_thread (get_or rs j absent).thread (left_from 0 come rs)
    ≡ get_or rs j absent ∷ left_from 0 (j ∷ come) rs =
    front-at record_thread (λ i. get_or rs i absent) absent come j rs 0 coming.new (omega arith) (omega arith)
    (λ i. ap (λ (n : ℕ). get_or rs n absent) (omega arith))
    (λ i low less none.
    elim (is_or_not (eqb (get_or rs i absent).thread (get_or rs j absent).thread)) [
      | inr apart ↦ apart
      | inl one ↦
          absurd (let first : (fact_at fs i).thread ≡ (fact_at fs j).thread =
          thread-at fs rs absent i same (omega arith)
          ∙ eqb-true (get_or rs i absent).thread (get_or rs j absent).thread one
          ∙ sym thread in
          let came = coming.came i less (same-thread fs i j first) in
          cc)
    ]) in
    let there : slice_get rs j ≡ Some (get_or rs j absent) = get-at rs absent j (omega arith) in
    rw (thread, next, there)
    (ap (λ (qs : List Record). get_or rs j absent ∷ qs)
    (arranged-left fs rs absent ps (j ∷ come) same coming.closed coming.later))

-- a place without a record
arranged-places :
    (fs : List Fact) (rs : List Record) (ps : List ℕ)
    → map fact_thread fs ≡ map record_thread rs → is_order fs ps ≡ true
    → arranged (threads_at fs ps) rs ≡ records_at rs ps
arranged-places fs [] [] same order = refl
arranged-places fs [] (j ∷ ps) same order =
    absurd (let coming = coming-of fs [] j ps (λ i k less there is. cc) order in
    let below = coming.below in
    let size = same-length fs [] same in
    omega arith)
arranged-places fs (r ∷ rs) ps same order =
    ap (arranged (threads_at fs ps)) (sym (none-came 0 (r ∷ rs)))
    ∙ arranged-left fs (r ∷ rs) r ps [] same (λ i k less there is. cc) order

module _ (h : History) (ps : List ℕ) (honest : IsHonest h) (order : is_order (facts h) ps ≡ true) where
  are-arranged : arranged (threads_at (facts h) ps) h.records ≡ records_at h.records ps
  are-arranged =
      arranged-places (facts h) h.records ps (facts-threads (reads_in h.records) (first h.setup) h.records) order

  pub places-threads : threads_of_records (records_at h.records ps) ≡ threads_at (facts h) ps
  places-threads =
      ap threads_of_records (sym are-arranged)
      ∙ honest-threads h (threads_at (facts h) ps) (places-keep (facts h) ps order)

  pub places-lead : LeadToTheSame h (records_at h.records ps)
  places-lead =
      subst (LeadToTheSame h) are-arranged
      (begin-leads h (threads_at (facts h) ps) honest
      (keeps-begin (facts h) (threads_at (facts h) ps) (places-keep (facts h) ps order)))
