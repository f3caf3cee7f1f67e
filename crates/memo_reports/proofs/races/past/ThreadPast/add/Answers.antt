-- One more access of a thread, after the others.
use Rattle.std.proofs.Common.{◌≡◌, ◌<◌, ◌-◌, ◌++◌, append-nil, Bool, true, false, cond, List, [], ◌∷◌, All, length, ap, sym, ◌∙◌, subst, arith}
use Rattle.std.specs.List.{filter}
use Rattle.std.specs.List.Sorted.{IsNonDecreasingBy}
use Rattle.std.proofs.lemmas.List.Elements.{All-push, filter-append}
use Rattle.std.proofs.lemmas.List.Sorted.{IsNonDecreasingBy-push}
use Rattle.guest_call.specs.declared.thread_number.TheConstants.{THREADS}
use Rattle.memo_reports.specs.declared.races.past.Access.{Access}
use Rattle.memo_reports.specs.declared.races.past.ThreadPast.{ThreadPast}
use Rattle.memo_reports.specs.Past.{IsThreadPast, IsAfter}
use Rattle.memo_reports.proofs.races.past.ThreadPast.add.Goals as goal
use Rattle.memo_reports.proofs.races.past.ThreadPast.add.Goals.{then-access+in_ok-push, else-access}

-- the accesses of a thread, with one more
past-next :
    (p q : ThreadPast) (a : Access)
    → IsThreadPast p → a.thread ≡ p.thread → All (IsAfter a) p.all.items
    → q.thread ≡ p.thread → q.all.items ≡ p.all.items ++ a ∷ []
    → q.writing.items ≡ cond a.writes (p.writing.items ++ a ∷ []) p.writing.items
    → IsThreadPast q
past-next p q a past own after thread all writing = record {
  known = subst (λ t. t < THREADS) (sym thread) past.known;
  threads =
      subst (λ t. All (λ (b : Access). b.thread ≡ t) q.all.items) (sym thread)
      (subst (All (λ (b : Access). b.thread ≡ p.thread)) (sym all)
      (All-push (λ (b : Access). b.thread ≡ p.thread) p.all.items a past.threads own));
  places =
      subst (IsNonDecreasingBy (λ (b : Access). b.place)) (sym all)
      (IsNonDecreasingBy-push (λ (b : Access). b.place) p.all.items a past.places
      (λ d some. (after (length p.all.items - 1) d (omega arith)).place));
  numbers =
      subst (IsNonDecreasingBy (λ (b : Access). b.number)) (sym all)
      (IsNonDecreasingBy-push (λ (b : Access). b.number) p.all.items a past.numbers
      (λ d some. (after (length p.all.items - 1) d (omega arith)).number));
  writing =
      writing ∙ by a.writes past.writing
      ∙ sym (ap (filter (λ (b : Access). b.writes)) all ∙ filter-append (λ (b : Access). b.writes) p.all.items (a ∷ []));
}
  where
    by :
        (b : Bool) → p.writing.items ≡ filter (λ (b : Access). b.writes) p.all.items
        → cond b (p.writing.items ++ a ∷ []) p.writing.items
        ≡ filter (λ (b : Access). b.writes) p.all.items ++ cond b (a ∷ []) []
    by true is = ap (λ (xs : List Access). xs ++ a ∷ []) is
    by false is = is ∙ sym (append-nil (filter (λ (b : Access). b.writes) p.all.items))

pub returns-clause-past : goal.returns-clause-past
returns-clause-past c =
    let p = c.args.self.now in
    let a = c.args.access in
    let q = c.if-access.self in
    let kept :
    (q.thread ≡ p.thread)
    × ((q.all.items ≡ p.all.items) × (q.writing.items ≡ cond a.writes (p.writing.items ++ a ∷ []) p.writing.items)) =
    elim c.if-access.branch [
      | then-access+in_ok-push w ↦ (
        ap (λ (r : ThreadPast). r.thread) w.self-is,
        (
          ap (λ (r : ThreadPast). r.all.items) w.self-is,
          ap (λ (r : ThreadPast). r.writing.items) w.self-is ∙ w.in_ok-push.ensures.items
              ∙ sym (ap (λ b. cond b (p.writing.items ++ a ∷ []) p.writing.items) w.if-access.true),
        ),
      )
      | else-access w ↦ (
        ap (λ (r : ThreadPast). r.thread) w.self-is,
        (
          ap (λ (r : ThreadPast). r.all.items) w.self-is,
          ap (λ (r : ThreadPast). r.writing.items) w.self-is
              ∙ sym (ap (λ b. cond b (p.writing.items ++ a ∷ []) p.writing.items) w.if-access.false),
        ),
      )
    ] in
    past-next p _ a c.requires.past c.requires.thread c.requires.after kept.0
    (c.in_ok-push-2.ensures.items ∙ ap (λ (xs : List Access). xs ++ a ∷ []) kept.1.0) kept.1.1
