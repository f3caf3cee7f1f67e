-- The places of the records of each thread, while records are added and removed at the end.
use Rattle.std.proofs.Common.{◌≡◌, ◌<◌, ◌≤◌, ◌+◌, ◌-◌, ℕ, zero, suc, Bool, true, false, ◌&&◌, cond, eqb, List, [], ◌∷◌, ◌++◌, All, take, length, set, get_or, count_by, length-append, slice_get, Some, None, inl, inr, refl, ap, sym, subst, ◌∙◌, arith}
use Rattle.std.proofs.lemmas.Bool.{and_parts, and_from, eq-eqb, eqb-true, ne_eqb, cases_eq, cases_lt, lt-ltb, ltb-true}
use Rattle.std.proofs.lemmas.Bool.Decides.{nat_tests}
use Rattle.std.proofs.lemmas.List.{get_or-set_same, get_or-set_other, get_or_past}
use Rattle.std.proofs.lemmas.List.Sums.{sum_by_push}
use Rattle.std.proofs.lemmas.List.Folds.{find_at}
use Rattle.std.specs.List.{find, position_or_len}
use Rattle.guest_call.specs.declared.thread_number.TheConstants.{THREADS}
use Rattle.machine_spec.specs.declared.TheConstants.{MOST_STEPS}
use Rattle.thunk_spec.specs.Record.{Record}
use Rattle.history_spec.specs.History.{is_of, is_numbered_after, threads_of_records}
use Rattle.history_spec.proofs.Numbers.{numbered-more}
use Rattle.run_history.specs.Records.{places_from, IsIndexed, HaveThreads}

-- one more record of this thread comes after all
pub places-own :
    (k t : ℕ) (rs : List Record) (r : Record)
    → eqb r.thread t ≡ true → places_from k t (rs ++ r ∷ []) ≡ places_from k t rs ++ (k + length rs) ∷ []
places-own k t [] r own =
    let same : k ≡ k + 0 = omega arith in
    ap (λ b. cond b (k ∷ []) []) own ∙ ap (λ n. n ∷ []) same
places-own k t (s ∷ rs) r own = by (eqb s.thread t) (places-own (suc k) t rs r own)
  where
    by :
        (b : Bool)
        → places_from (suc k) t (rs ++ r ∷ []) ≡ places_from (suc k) t rs ++ (suc k + length rs) ∷ []
        → cond b (k ∷ places_from (suc k) t (rs ++ r ∷ [])) (places_from (suc k) t (rs ++ r ∷ []))
        ≡ cond b (k ∷ places_from (suc k) t rs) (places_from (suc k) t rs) ++ (k + suc (length rs)) ∷ []
    by true rest =
        let same : suc k + length rs ≡ k + suc (length rs) = omega arith in
        ap (λ xs. k ∷ xs) (rest ∙ ap (λ n. places_from (suc k) t rs ++ n ∷ []) same)
    by false rest =
        let same : suc k + length rs ≡ k + suc (length rs) = omega arith in
        rest ∙ ap (λ n. places_from (suc k) t rs ++ n ∷ []) same

places-first :
    (t : ℕ) (rs : List Record) (r : Record)
    → eqb r.thread t ≡ true → places_from 0 t (rs ++ r ∷ []) ≡ places_from 0 t rs ++ length rs ∷ []
places-first t rs r own =
    let end : 0 + length rs ≡ length rs = omega arith in
    places-own 0 t rs r own ∙ ap (λ n. places_from 0 t rs ++ n ∷ []) end

-- one of another thread changes nothing
pub places-other :
    (k t : ℕ) (rs : List Record) (r : Record)
    → eqb r.thread t ≡ false → places_from k t (rs ++ r ∷ []) ≡ places_from k t rs
places-other k t [] r other = ap (λ b. cond b (k ∷ []) []) other
places-other k t (s ∷ rs) r other = ap (λ xs. cond (eqb s.thread t) (k ∷ xs) xs) (places-other (suc k) t rs r other)

placed-step :
    (k t count : ℕ) (r : Record) (rs : List Record) (b : Bool)
    → eqb r.thread t ≡ b
    → (r.thread ≡ t → r.number ≡ count)
    → ((m : ℕ) → get_or (places_from (suc k) t rs) m (suc k + length rs) ≡ suc k + position_or_len
    (is_of t (count + cond b 1 0 + m)) rs)
    → (m : ℕ)
    → get_or (cond b (k ∷ places_from (suc k) t rs) (places_from (suc k) t rs)) m (k + suc (length rs))
    ≡ k + position_or_len (is_of t (count + m)) (r ∷ rs)
placed-step k t count r rs true own number rest zero =
    let thread : r.thread ≡ t = eqb-true r.thread t own in
    let right : r.number ≡ count + 0 = number thread ∙ omega arith in
    let here : is_of t (count + 0) r ≡ true = and_from _ _ own (eq-eqb _ _ right) in
    rw here (omega arith)
placed-step k t count r rs true own number rest (suc m) =
    let right : r.number ≡ count = number (eqb-true r.thread t own) in
    let here : is_of t (count + suc m) r ≡ false = grind (arith, nat_tests) in
    let sum : count + 1 + m ≡ count + suc m = omega arith in
    let over : k + suc (length rs) ≡ suc k + length rs = omega arith in
    let next : get_or (places_from (suc k) t rs) m (suc k + length rs) ≡ suc k + position_or_len
    (is_of t (count + suc m)) rs =
    rest m ∙ ap (λ x. suc k + position_or_len (is_of t x) rs) sum in
    let last : get_or (places_from (suc k) t rs) m (k + suc (length rs)) ≡ suc k + position_or_len
    (is_of t (count + suc m)) rs =
    ap (λ x. get_or (places_from (suc k) t rs) m x) over ∙ next in
    rw here (last ∙ omega arith)
placed-step k t count r rs false other number rest m =
    let here : is_of t (count + m) r ≡ false = ap (λ b. b && eqb r.number (count + m)) other in
    let sum : count + 0 + m ≡ count + m = omega arith in
    let over : k + suc (length rs) ≡ suc k + length rs = omega arith in
    let next : get_or (places_from (suc k) t rs) m (suc k + length rs) ≡ suc k + position_or_len
    (is_of t (count + m)) rs =
    rest m ∙ ap (λ x. suc k + position_or_len (is_of t x) rs) sum in
    let last : get_or (places_from (suc k) t rs) m (k + suc (length rs)) ≡ suc k + position_or_len
    (is_of t (count + m)) rs =
    ap (λ x. get_or (places_from (suc k) t rs) m x) over ∙ next in
    rw here (last ∙ omega arith)

-- the record of a thread at a number is at the place of that number
placed :
    (k t n : ℕ) (earlier : List ℕ) (rs : List Record)
    → is_numbered_after earlier rs ≡ true
    → get_or (places_from k t rs) n (k + length rs) ≡ k + position_or_len
    (is_of t (count_by (λ u. eqb u t) earlier + n)) rs
placed k t n earlier [] numbered = refl
placed k t n earlier (r ∷ rs) numbered =
    placed-step k t (count_by (λ u. eqb u t) earlier) r rs (eqb r.thread t) refl
    (λ thread. eqb-true _ _ (and_parts _ _ numbered).0 ∙ ap (λ x. count_by (λ u. eqb u x) earlier) thread)
    (λ m.
    placed (suc k) t m (earlier ++ r.thread ∷ []) rs (and_parts _ _ numbered).1
    ∙ ap (λ x. suc k + position_or_len (is_of t (x + m)) rs) (sum_by_push (λ u. cond (eqb u t) 1 0) earlier r.thread))
    n

-- no record is of a thread that can't exist
nowhere : (t n : ℕ) (rs : List Record) → HaveThreads rs → THREADS ≤ t → position_or_len (is_of t n) rs ≡ length rs
nowhere t n [] all past = refl
nowhere t n (r ∷ rs) all past =
    let below : r.thread < THREADS = ltb-true _ _ (and_parts _ _ all).0 in
    let here : is_of t n r ≡ false = grind (arith, nat_tests) in
    let others : HaveThreads rs = (and_parts _ _ all).1 in
    let next : position_or_len (is_of t n) rs ≡ length rs = nowhere t n rs others past in
    rw here (omega arith)

-- the place that the index gives, if there is a thread of that number
pub place_in_row :
    (places : List (List ℕ)) (rs : List Record) (t n : ℕ)
    → IsIndexed places rs → t < THREADS → get_or (get_or places t []) n (length rs) ≡ position_or_len (is_of t n) rs
place_in_row places rs t n kept below =
    let end : length rs ≡ 0 + length rs = omega arith in
    let number : 0 + n ≡ n = omega arith in
    let whole : 0 + position_or_len (is_of t (0 + n)) rs ≡ position_or_len (is_of t (0 + n)) rs = omega arith in
    ap (λ xs. get_or xs n (length rs)) (kept.index t below)
    ∙ ap (λ k. get_or (places_from 0 t rs) n k) end
    ∙ placed 0 t n [] rs kept.of_run.numbered
    ∙ whole
    ∙ ap (λ m. position_or_len (is_of t m) rs) number

-- and if there is none
pub place_past :
    (places : List (List ℕ)) (rs : List Record) (t n : ℕ)
    → IsIndexed places rs → THREADS ≤ t → length rs ≡ position_or_len (is_of t n) rs
place_past places rs t n kept past = sym (nowhere t n rs kept.of_run.threads past)

numbered-less :
    (earlier : List ℕ) (rs : List Record) (r : Record)
    → is_numbered_after earlier (rs ++ r ∷ []) ≡ true → is_numbered_after earlier rs ≡ true
numbered-less earlier [] r numbered = refl
numbered-less earlier (s ∷ rs) r numbered =
    and_from _ _ (and_parts _ _ numbered).0 (numbered-less (earlier ++ s.thread ∷ []) rs r (and_parts _ _ numbered).1)

threads-more : (rs : List Record) (r : Record) → HaveThreads rs → r.thread < THREADS → HaveThreads (rs ++ r ∷ [])
threads-more [] r all below = and_from _ _ (lt-ltb _ _ below) refl
threads-more (s ∷ rs) r all below = and_from _ _ (and_parts _ _ all).0 (threads-more rs r (and_parts _ _ all).1 below)

threads-less : (rs : List Record) (r : Record) → HaveThreads (rs ++ r ∷ []) → HaveThreads rs × (r.thread < THREADS)
threads-less [] r all = (refl, ltb-true _ _ (and_parts _ _ all).0)
threads-less (s ∷ rs) r all =
    let rest = threads-less rs r (and_parts _ _ all).1 in
    (and_from _ _ (and_parts _ _ all).0 rest.0, rest.1)

-- no record, and no place
pub indexed-none : (places : List (List ℕ)) → All (λ (row : List ℕ). row ≡ []) places → IsIndexed places []
indexed-none places none =
    record {
      index =
          λ t inside.
          elim (cases_lt t (length places)) [
            | inl below ↦ none t [] below
            | inr past ↦ get_or_past places t [] past
          ];
      of_run = record { numbered = refl; threads = refl; few = omega arith };
    }

-- one more record, and its place
pub indexed-more :
    (places : List (List ℕ)) (rs : List Record) (r : Record)
    → IsIndexed places rs
    → length places ≡ THREADS
    → length rs < MOST_STEPS
    → r.thread < THREADS
    → r.number ≡ count_by (λ u. eqb u r.thread) (threads_of_records rs)
    → IsIndexed (set places r.thread (get_or places r.thread [] ++ length rs ∷ [])) (rs ++ r ∷ [])
indexed-more places rs r kept rows few below number =
    record {
      index =
          λ t inside.
          elim (cases_eq r.thread t) [
            | inl same ↦
                let here : get_or (set places r.thread (get_or places r.thread [] ++ length rs ∷ [])) t []
                ≡ get_or places t [] ++ length rs ∷ [] =
                subst (λ u. get_or (set places u (get_or places u [] ++ length rs ∷ [])) t [] ≡ get_or places t []
                ++ length rs ∷ []) (sym same)
                (get_or-set_same places t _ [] (omega arith)) in
                here ∙ ap (λ xs. xs ++ length rs ∷ []) (kept.index t inside)
                ∙ sym (places-first t rs r (eq-eqb _ _ same))
            | inr other ↦
                get_or-set_other places r.thread t _ [] (λ e. other (sym e)) ∙ kept.index t inside
                ∙ sym (places-other 0 t rs r (ne_eqb _ _ other))
          ];
      of_run =
          record {
            numbered = numbered-more [] rs r kept.of_run.numbered number;
            threads = threads-more rs r kept.of_run.threads below;
            few = rw (length-append rs (r ∷ [])) (omega arith);
          };
    }

front : {X : Type 0} (xs : List X) (x : X) → take (length xs) (xs ++ x ∷ []) ≡ xs
front [] x = refl
front (y ∷ xs) x = ap (λ ys. y ∷ ys) (front xs x)

without-last : {X : Type 0} (xs : List X) (x : X) → take (length (xs ++ x ∷ []) - 1) (xs ++ x ∷ []) ≡ xs
without-last xs x =
    let more = length-append xs (x ∷ []) in
    let count : length (xs ++ x ∷ []) - 1 ≡ length xs = omega arith in
    ap (λ n. take n (xs ++ x ∷ [])) count ∙ front xs x

-- a list without its last element is the one before it was added
pub undone : (before after rs : List Record) (r : Record) → after ≡ take (length before - 1) before
    → before ≡ rs ++ r ∷ [] → after ≡ rs
undone before after rs r is pushed = is ∙ ap (λ xs. take (length xs - 1) xs) pushed ∙ without-last rs r

-- one record fewer
pub indexed-less :
    (places : List (List ℕ)) (rs : List Record) (r : Record)
    → IsIndexed places (rs ++ r ∷ [])
    → length places ≡ THREADS
    → IsIndexed (set places r.thread (take (length (get_or places r.thread []) - 1) (get_or places r.thread []))) rs
indexed-less places rs r kept rows =
    let threads = threads-less rs r kept.of_run.threads in
    record {
      index =
          λ t inside.
          elim (cases_eq r.thread t) [
            | inl same ↦
                let here : get_or (set places r.thread
                (take (length (get_or places r.thread []) - 1) (get_or places r.thread []))) t [] ≡ take
                (length (get_or places t []) - 1) (get_or places t []) =
                subst (λ u. get_or (set places u (take (length (get_or places u []) - 1) (get_or places u []))) t []
                ≡ take (length (get_or places t []) - 1) (get_or places t [])) (sym same)
                (get_or-set_same places t _ [] (omega arith)) in
                let row : get_or places t [] ≡ places_from 0 t rs ++ length rs ∷ [] = kept.index t inside
                ∙ places-first t rs r (eq-eqb _ _ same) in
                here ∙ ap (λ xs. take (length xs - 1) xs) row ∙ without-last (places_from 0 t rs) (length rs)
            | inr other ↦
                get_or-set_other places r.thread t _ [] (λ e. other (sym e)) ∙ kept.index t inside
                ∙ places-other 0 t rs r (ne_eqb _ _ other)
          ];
      of_run =
          record {
            numbered = numbered-less [] rs r kept.of_run.numbered;
            threads = threads.0;
            few =
                let more = length-append rs (r ∷ []) in
                let most = kept.of_run.few in
                omega arith;
          };
    }

-- the element at the place of the first that passes is the one that is found
pub found_at : (p : Record → Bool) (rs : List Record) (k : ℕ) (r : Record) → k ≡ position_or_len p rs
    → slice_get rs k ≡ Some r → find p rs ≡ Some r
found_at p rs k r first here = find_at p rs ∙ ap (slice_get rs) (sym first) ∙ here

pub found_none : (p : Record → Bool) (rs : List Record) (k : ℕ) → k ≡ position_or_len p rs → length rs ≤ k
    → find p rs ≡ None
found_none p rs k first past = find_at p rs ∙ ap (slice_get rs) (sym first) ∙ past_end rs k past
  where
    past_end : (xs : List Record) (n : ℕ) → length xs ≤ n → slice_get xs n ≡ None
    past_end [] n over = refl
    past_end (x ∷ xs) zero over = absurd (omega arith)
    past_end (x ∷ xs) (suc n) over = past_end xs n (omega arith)
