-- What is known of the last tickets of all threads.
use Rattle.std.proofs.Common.{◌≡◌, ℕ, zero, suc, ◌+◌, ◌<◌, ◌≤◌, ◌⊎◌, inl, inr, refl, List, [], ◌∷◌, ◌++◌, length, map, replicate, set, Option, Some, None, slice_get, ap, sym, ◌∙◌, arith, length-append, ⊎_elim}
use Rattle.std.proofs.lemmas.List.{map-set}
use Rattle.thunk_record.specs.declared.job.Job.{Job}
use Rattle.shared_words.specs.TicketViews.{LogView, TicketView, job_at, job_of, number_of, no_numbers, AreBelow, Appended}

none_in : (k t n : ℕ) → slice_get {X = Option ℕ} (replicate k None) t ≡ Some (Some n) → ⊥
none_in zero t n is = cc
none_in (suc k) zero n is = cc
none_in (suc k) (suc t) n is = none_in k t n is

no_jobs_in : (log : List Job) (k : ℕ) → map (job_at log) (replicate k None) ≡ replicate k None
no_jobs_in log zero = refl
no_jobs_in log (suc k) = ap (λ xs. None ∷ xs) (no_jobs_in log k)

-- No thread has a number at first, so none reaches the length of the log.
pub none_below : (count : ℕ) → AreBelow count no_numbers
unfolding no_numbers
none_below count t n is = absurd (none_in 32 t n is)

pub no_jobs : (log : List Job) → map (job_at log) no_numbers ≡ replicate 32 None
unfolding no_numbers
no_jobs log = no_jobs_in log 32

get_in : {A : Type 0} (xs : List A) (k n : ℕ) (x y : A) → slice_get (set xs k x) n ≡ Some y → (y ≡ x) ⊎ (slice_get xs n ≡ Some y)
get_in [] k n x y is = inr is
get_in (z ∷ xs) zero zero x y is = inl (cc is)
get_in (z ∷ xs) zero (suc n) x y is = inr is
get_in (z ∷ xs) (suc k) zero x y is = inr is
get_in (z ∷ xs) (suc k) (suc n) x y is = get_in xs k n x y is

-- Numbers stay below the length of a log that grows, if one is set that is below it.
below_set :
    (count more t : ℕ) (last : List (Option ℕ)) (number : Option ℕ) → AreBelow count last → count ≤ more
    → ((n : ℕ) → number ≡ Some n → n < more) → AreBelow more (set last t number)
below_set count more t last number below le own u n is =
    ⊎_elim
    (λ (same : Some n ≡ number). own n (sym same))
    (λ (there : slice_get last u ≡ Some (Some n)). omega (arith, below u n there, le))
    (get_in last t u number (Some n) is)

-- What is at a place of a log is there too once it has grown.
at_longer : (jobs more : List Job) (n : ℕ) → n < length jobs → slice_get (jobs ++ more) n ≡ slice_get jobs n
at_longer [] more n lt = absurd (omega arith)
at_longer (j ∷ jobs) more zero lt = refl
at_longer (j ∷ jobs) more (suc n) lt = at_longer jobs more n (omega arith)

pub at_end : (jobs : List Job) (e : Job) → slice_get (jobs ++ e ∷ []) (length jobs) ≡ Some e
at_end [] e = refl
at_end (j ∷ jobs) e = at_end jobs e

at_number : (jobs : List Job) (n : ℕ) → n < length jobs → (job : Job) × (slice_get jobs n ≡ Some job)
at_number [] n lt = absurd (omega arith)
at_number (j ∷ jobs) zero lt = (j, refl)
at_number (j ∷ jobs) (suc n) lt = at_number jobs n (omega arith)

jobs_longer :
    (jobs more : List Job) (last : List (Option ℕ)) → AreBelow (length jobs) last
    → map (job_at (jobs ++ more)) last ≡ map (job_at jobs) last
jobs_longer jobs more [] below = refl
jobs_longer jobs more (None ∷ last) below =
    ap (λ xs. None ∷ xs) (jobs_longer jobs more last (λ t n is. below (suc t) n is))
jobs_longer jobs more (Some n ∷ last) below =
    cc (at_longer jobs more n (below 0 n refl), jobs_longer jobs more last (λ t n is. below (suc t) n is))

at_same : {m n : ℕ} → Some m ≡ Some n → n ≡ m
at_same same = cc (same)

-- Numbers stay below the length of the log if a ticket is issued, or none can be.
pub issued_below :
    (log new : LogView) (last : List (Option ℕ)) (t : ℕ) (job : Job) (ticket : Option TicketView)
    → AreBelow (length log.jobs) last → Appended log new job ticket
    → AreBelow (length new.jobs) (set last t (number_of ticket))
issued_below log new last t job None below is =
    below_set (length log.jobs) (length new.jobs) t last None below
    (omega (arith, ap (λ (l : LogView). length l.jobs) is)) (λ n none. absurd cc)
issued_below log new last t job (Some ticket) below is =
    let longer : length new.jobs ≡ length log.jobs + 1 = ap length is.1 ∙ length-append log.jobs (job ∷ []) in
    below_set (length log.jobs) (length new.jobs) t last (Some ticket.number) below (omega (arith, longer))
    (λ n same. let here : n ≡ ticket.number = at_same same in omega (arith, longer, here, is.0))

pub issued_jobs :
    (log new : LogView) (last : List (Option ℕ)) (t : ℕ) (job : Job) (ticket : Option TicketView)
    → AreBelow (length log.jobs) last → Appended log new job ticket
    → map (job_at new.jobs) (set last t (number_of ticket)) ≡ set (map (job_at log.jobs) last) t (job_of ticket)
issued_jobs log new last t job None below is =
    map-set (job_at new.jobs) last t None ∙ ap (λ (l : LogView). set (map (job_at l.jobs) last) t None) is
issued_jobs log new last t job (Some ticket) below is =
    map-set (job_at new.jobs) last t (Some ticket.number)
    ∙ cc (
      ap (λ (jobs : List Job). map (job_at jobs) last) is.1 ∙ jobs_longer log.jobs (job ∷ []) last below,
      ap (λ (jobs : List Job). slice_get jobs ticket.number) is.1
          ∙ ap (λ (n : ℕ). slice_get (log.jobs ++ job ∷ []) n) is.0 ∙ at_end log.jobs job ∙ sym is.2,
    )

-- A place past the end isn't set.
pub set_past : {A : Type 0} (xs : List A) (k : ℕ) (x : A) → length xs ≤ k → set xs k x ≡ xs
set_past [] k x past = refl
set_past (y ∷ xs) zero x past = absurd (omega arith)
set_past (y ∷ xs) (suc k) x past = ap (λ zs. y ∷ zs) (set_past xs k x (omega arith))

-- If a ticket's number is the last one of a thread, so is its job.
pub last_job :
    (jobs : List Job) (last : List (Option ℕ)) (t number : ℕ) (job : Job) → AreBelow (length jobs) last
    → slice_get last t ≡ Some (Some number) → ((other : Job) → slice_get jobs number ≡ Some other → job ≡ other)
    → slice_get (map (job_at jobs) last) t ≡ Some (Some job)
last_job jobs [] t number job below is same = absurd cc
last_job jobs (o ∷ last) zero number job below is same =
    let here : o ≡ Some number = cc is in
    let there = at_number jobs number (below zero number is) in
    let same' : job ≡ there.0 = same there.0 there.1 in
    rw here (cc (there.1, same'))
last_job jobs (o ∷ last) (suc t) number job below is same =
    last_job jobs last t number job (λ u n there. below (suc u) n there) is same
