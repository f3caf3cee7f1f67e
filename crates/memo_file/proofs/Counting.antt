-- How many records of each thread there are.
use Rattle.std.proofs.Common.{◌≡◌, ℕ, ◌+◌, ◌<◌, ◌≤◌, Bool, cond, List, [], ◌∷◌, ◌++◌, length, get_or, set, replicate, sym, ap, ◌∙◌, arith, inl, inr, eq-eqb}
use Rattle.std.specs.Prelude.{◌==◌}
use Rattle.std.specs.List.{count_by}
use Rattle.std.proofs.lemmas.Bool.{cases_eq, ne_eqb}
use Rattle.std.proofs.lemmas.List.{map_push, length-map, get_or-replicate, get_or-set_same, get_or-set_other}
use Rattle.std.proofs.lemmas.List.Sums.{sum_by-append, count_by-le-length}
use Rattle.thunk_spec.specs.Record.{Record}
use Rattle.history_spec.specs.History.{threads_of_records}
use Rattle.memo_file.specs.Growth.{AreCounts}

pub threads_push : (rs : List Record) (r : Record)
    → threads_of_records (rs ++ r ∷ []) ≡ threads_of_records rs ++ r.thread ∷ []
threads_push rs r = map_push (λ (x : Record). x.thread) rs r

pub no_counts : AreCounts (replicate 32 0) []
no_counts = λ t lt. get_or-replicate 32 t 0 0 lt

pub few_of : (rs : List Record) (t : ℕ) → count_by (λ u. u == t) (threads_of_records rs) ≤ length rs
few_of rs t = omega (
  arith,
  count_by-le-length (λ (u : ℕ). u == t) (threads_of_records rs),
  length-map rs
      (λ (x : Record). x.thread),
)

pushed : (rs : List Record) (r : Record) (t : ℕ)
    → count_by (λ u. u == t) (threads_of_records (rs ++ r ∷ [])) ≡ count_by (λ u. u == t) (threads_of_records rs) +
    cond (r.thread == t) 1 0
pushed rs r t =
    ap (count_by (λ (u : ℕ). u == t)) (threads_push rs r)
    ∙ sum_by-append (λ (u : ℕ). cond (u == t) 1 0) (threads_of_records rs) (r.thread ∷ []) ∙ omega arith

abbrev one : Bool → ℕ
one b = cond b 1 0

pub counts_more : (counts : List ℕ) (rs : List Record) (r : Record) → length counts ≡ 32 → AreCounts counts rs
    → r.thread < 32 → AreCounts (set counts r.thread (get_or counts r.thread 0 + 1)) (rs ++ r ∷ [])
counts_more counts rs r len h below = λ t lt.
    elim (cases_eq t r.thread) [
      | inl same ↦
          ap (λ (k : ℕ). get_or (set counts r.thread (get_or counts r.thread 0 + 1)) k 0) same
          ∙ get_or-set_same counts r.thread (get_or counts r.thread 0 + 1) 0 (omega arith)
          ∙ omega (
            arith,
            h r.thread below,
            ap (λ (k : ℕ). count_by (λ (u : ℕ). u == k) (threads_of_records rs)) same,
            pushed rs r t,
            ap one (eq-eqb r.thread t (sym same)),
          )
      | inr other ↦
          get_or-set_other counts r.thread t (get_or counts r.thread 0 + 1) 0 other
          ∙ omega (arith, h t lt, pushed rs r t, ap one (ne_eqb r.thread t (λ e. other (sym e))))
    ]
