-- The elements that aren't before a number are at the end.
use Rattle.std.proofs.Common.{◌≡◌, ◌<◌, ◌≤◌, ◌-◌, ℕ, false, not, ltb, List, length, drop, get_or, rules, refl, ap, arith}
use Rattle.std.specs.List.{filter}
use Rattle.std.specs.List.Sorted.{IsNonDecreasingBy}
use Rattle.std.proofs.lemmas.Bool.{lt-ltb, le-ltb}
use Rattle.std.proofs.lemmas.List.{get_or_default}
use Rattle.std.proofs.lemmas.List.Sorted.{IsPartitionPoint-from_clause, IsPartitionedBy-ltb}
use Rattle.memo_reports.specs.declared.races.past.Access.{Access}
use Rattle.memo_reports.proofs.Tally.{drop-passing}
use Rattle.memo_reports.proofs.races.past.first_from.Goals as goal
use Rattle.memo_reports.proofs.races.past.first_from.Goals.{then-count-eq0-via-then-count-eq0, then-count-eq0-via-else-count-eq0+then-number-accesses}

-- the stand-in for an access past the end
abbrev none : Access
none = record { place = 0; thread = 0; number = 0; writes = false }

all-from :
    (xs : List Access) (n : ℕ) → IsNonDecreasingBy (λ (a : Access). a.number) xs
    → (0 < length xs → n ≤ (get_or xs 0 none).number)
    → xs ≡ filter (λ (a : Access). not (ltb a.number n)) xs
all-from xs n order first =
    drop-passing (λ (a : Access). ltb a.number n) (λ (a : Access). not (ltb a.number n)) xs 0 (λ a. refl)
    (λ k d less. absurd (omega arith))
    (λ k d low less.
    le-ltb (get_or xs k d).number n
    (let one = first (omega arith) in
    let two = order 0 k d (omega arith) less in
    let three = ap (λ (a : Access). a.number) (get_or_default xs 0 none d (omega arith)) in
    omega arith))

none-from :
    (xs : List Access) (n : ℕ) → IsNonDecreasingBy (λ (a : Access). a.number) xs
    → 0 < length xs → (get_or xs (length xs - 1) none).number < n
    → drop (length xs) xs ≡ filter (λ (a : Access). not (ltb a.number n)) xs
none-from xs n order some last =
    drop-passing (λ (a : Access). ltb a.number n) (λ (a : Access). not (ltb a.number n)) xs (length xs) (λ a. refl)
    (λ k d less.
    lt-ltb (get_or xs k d).number n
    (let one = order k (length xs - 1) d (omega arith) (omega arith) in
    let two = ap (λ (a : Access). a.number) (get_or_default xs (length xs - 1) none d (omega arith)) in
    omega arith))
    (λ k d low less. absurd (omega arith))

pub returns-then-count-eq0-clause-rest : goal.returns-then-count-eq0-clause-rest
returns-then-count-eq0-clause-rest c =
    all-from c.args.accesses.now c.args.number c.requires
    (λ some. elim c.then-count-eq0.branch [
      | then-count-eq0-via-then-count-eq0 w ↦ absurd (let no = w.if-count-eq0.true in omega arith)
      | then-count-eq0-via-else-count-eq0+then-number-accesses w ↦ w.if-number-accesses.true
    ])

pub returns-then-accesses-count-clause-rest : goal.returns-then-accesses-count-clause-rest
returns-then-accesses-count-clause-rest c =
    none-from c.args.accesses.now c.args.number c.requires (let some = c.if-count-eq0.false in omega arith)
    c.if-accesses-count.true

pub returns-clause-rest : goal.returns-clause-rest
returns-clause-rest c =
    let point =
    IsPartitionPoint-from_clause (λ (a : Access). ltb a.number c.args.number) c.args.accesses.now c.partition_point.result
    c.partition_point.ensures.partitioned
    (IsPartitionedBy-ltb (λ (a : Access). a.number) c.args.accesses.now c.args.number c.requires)
    (λ a r f' k. search rules) in
    drop-passing (λ (a : Access). ltb a.number c.args.number) (λ (a : Access). not (ltb a.number c.args.number))
    c.args.accesses.now c.partition_point.result (λ a. refl) (λ k d less. point.0 k d (omega arith) less) point.1
