-- A step that appends a job keeps the rule of the log.
use Rattle.std.proofs.Common.{◌≡◌, ℕ, ◌+◌, ◌<◌, ◌==◌, Bool, true, false, List, [], ◌∷◌, ◌++◌, length, refl, ap, sym, subst, arith, inl, length-append, None}
use Rattle.std.proofs.lemmas.List.{append-nil}
use Rattle.std.proofs.lemmas.Bool.Decides.{nat_tests}
use Rattle.std.specs.Prelude.{MatchBool}
use mathlib.Core.List.{IsPrefix}
use prog.Atomic.{either}
use Rattle.logbook.specs.Pages.{Cell, cell, keeps, no_nib, step, Moves, Goes}
use Rattle.thunk_record.specs.declared.job.Job.{Job}
use Rattle.shared_words.specs.Rules.{IsKept, Appends}
use Rattle.shared_words.proofs.Prefixes.{prefix_whole}

abbrev pub shown : List Job → List Job
shown log = []

abbrev pub moved : List Job → List Job → ℕ → Type 0
moved xs ys n = Unit {0}

-- What holds after the step, by whether it found the number that it expected.
abbrev Leaves : List Job → Job → ℕ → List Cell → List Job → Type 0
Leaves v e old cells log =
    Goes IsKept shown moved 0 (v, (no_nib, None)) (λ n. either (n == old) (old + 1) n)
    (Appends (step 0 old (old + 1) e) (v, (no_nib, None))) cells log

leaves :
    (log v : List Job) (e : Job) (old : ℕ) → length v ≡ old → IsPrefix v log → (b : Bool) → (length log == old) ≡ b
    → Leaves v e old ((length log, true) ∷ (0, true) ∷ []) log
leaves log v e old len pre true is =
    let here : length log ≡ old = grind (arith, nat_tests) in
    let same : v ≡ log = prefix_whole v log pre (omega arith) in
    let n : either (length log == old) (old + 1) (length log) ≡ length (log ++ e ∷ []) =
    rw is (omega (arith, length-append log (e ∷ [])))
    in (
      keeps,
      e ∷ [],
      None,
      tt,
      record { words = ap (λ (k : ℕ). (k, true) ∷ (0, true) ∷ []) n },
      inl (refl, refl),
      rw is (ap (λ w. w ++ e ∷ []) (sym same)),
    )
leaves log v e old len pre false is =
    let all : log ++ [] ≡ log = append-nil log in
    let n : either (length log == old) (old + 1) (length log) ≡ length (log ++ []) = rw is (ap length (sym all)) in (
      keeps,
      [],
      None,
      tt,
      record { words = ap (λ (k : ℕ). (k, true) ∷ (0, true) ∷ []) n },
      inl (refl, refl),
      rw is (ap length all),
    )

-- Whatever the log is, the step appends the job to all that was seen, or finds that the log is longer.
pub appends :
    (v : List Job) (e : Job) (old : ℕ) → length v ≡ old
    → Moves IsKept shown moved 0 (v, (no_nib, None)) (λ n. either (n == old) (old + 1) n)
    (Appends (step 0 old (old + 1) e) (v, (no_nib, None)))
appends v e old len cells log kept pre away =
    let P : List Cell → Type 0 = λ c. (0 < length c) × ((cell c 0).1 ≡ true) × Leaves v e old c log in
    subst P (sym kept.words) (omega arith, refl, leaves log v e old len pre (length log == old) refl)

-- What a step that found the number that it expected has appended.
pub appended :
    (found old : ℕ) (e : Job) (v w : List Job) → MatchBool (found == old) (w ≡ v ++ e ∷ []) (length w ≡ found)
    → found ≡ old → w ≡ v ++ e ∷ []
appended found old e v w is same = subst (λ b. MatchBool b (w ≡ v ++ e ∷ []) (length w ≡ found)) (equal found old same) is
  where
    equal : (m n : ℕ) → m ≡ n → (m == n) ≡ true
    equal m n is = grind (arith, nat_tests)
