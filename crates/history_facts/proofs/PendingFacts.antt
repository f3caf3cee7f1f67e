-- The next fact, and those that come after it.
use Rattle.std.proofs.Common.{◌≡◌, ◌≤◌, ◌+◌, ℕ, suc, Bool, true, false, List, [], ◌∷◌, ◌++◌, Some, length, drop, cond, map, refl, sym, ap, ◌∙◌, add-one, append_assoc, drop-cons}
use Rattle.std.proofs.lemmas.Bool.{and_parts}
use Rattle.std.specs.List.{slice_get}
use Rattle.std.proofs.lemmas.List.{append-nil, drop_all}
use Rattle.std.proofs.lemmas.Option.{slice_get_within, get_or_from_slice_get}
use Rattle.std.specs.Prelude.{◌&&◌}
use Rattle.thunk_spec.specs.Record.{Record}
use Rattle.machine_spec.specs.Machine.{Machine}
use Rattle.machine_spec.specs.Step.{apply}
use Rattle.history_spec.specs.History.{applied_from, can_apply_from}
use Rattle.release_core.specs.Applying.{can_apply}
use Rattle.history_spec.specs.Facts.{Fact, fact_of, bare_fact, facts_from}
use Rattle.history_facts.specs.PendingFacts.{facts_to_come}

by_choice : (b : Bool) (reads : ℕ → ℕ → List ℕ) (m : Machine) (r : Record) (rs : List Record)
    → cond b (fact_of reads m r ∷ facts_from reads (apply m r) rs) (map bare_fact (r ∷ rs))
    ≡ cond b (fact_of reads m r) (bare_fact r) ∷ facts_to_come b reads (cond b (apply m r) m) rs
by_choice true reads m r rs = refl
by_choice false reads m r rs = refl

-- the facts to come begin with the fact of a record that may be applied, as long as all before it were, and else with
-- a bare one
next-to-come :
    (fits : Bool) (reads : ℕ → ℕ → List ℕ) (m : Machine) (r : Record) (rs : List Record)
    → facts_to_come fits reads m (r ∷ rs)
    ≡ cond (fits && can_apply m r) (fact_of reads m r) (bare_fact r)
    ∷ facts_to_come (fits && can_apply m r) reads (cond (fits && can_apply m r) (apply m r) m) rs
next-to-come true reads m r rs = by_choice (can_apply m r) reads m r rs
next-to-come false reads m r rs = refl

-- One turn of the loop: the facts so far and those to come, with one more fact and machine, if the record at a place
-- is the next.
pub record IsNext (reads : ℕ → ℕ → List ℕ) (records : List Record) (place : ℕ) (m : Machine) (r : Record)
    (before after : Bool) (so_far facts : List Fact) (f : Fact) : Type 0 where
  pub at_place : slice_get records place ≡ Some r
  pub fits : after ≡ (before && can_apply m r)
  pub more : facts ≡ so_far ++ f ∷ []

-- the records from a place on
pub rest-of :
    (records : List Record) (place : ℕ) (r : Record) → slice_get records place ≡ Some r
    → drop place records ≡ r ∷ drop (place + 1) records
rest-of records place r at =
    drop-cons records place r (slice_get_within records place r at)
    ∙ ap (λ x. x ∷ drop (suc place) records) (get_or_from_slice_get records place r r at)
    ∙ ap (λ n. r ∷ drop n records) (sym (add-one place))

pub follows :
    (reads : ℕ → ℕ → List ℕ) (records : List Record) (place : ℕ) (m next : Machine) (r : Record)
    (before after : Bool) (so_far facts all : List Fact) (f : Fact)
    → IsNext reads records place m r before after so_far facts f
    → f ≡ cond after (fact_of reads m r) (bare_fact r)
    → next ≡ cond after (apply m r) m
    → so_far ++ facts_to_come before reads m (drop place records) ≡ all
    → facts ++ facts_to_come after reads next (drop (place + 1) records) ≡ all
follows reads records place m next r before after so_far facts all f is is_fact is_next known =
    let rest = rest-of records place r is.at_place in
    let come : facts_to_come before reads m (drop place records)
    ≡ f ∷ facts_to_come after reads next (drop (place + 1) records) =
    ap (facts_to_come before reads m) rest
    ∙ next-to-come before reads m r (drop (place + 1) records)
    ∙ ap (λ b. cond b (fact_of reads m r) (bare_fact r)
    ∷ facts_to_come b reads (cond b (apply m r) m) (drop (place + 1) records)) (sym is.fits)
    ∙ ap (λ x. x ∷ facts_to_come after reads (cond after (apply m r) m) (drop (place + 1) records)) (sym is_fact)
    ∙ ap (λ n. f ∷ facts_to_come after reads n (drop (place + 1) records)) (sym is_next) in
    ap (λ xs. xs ++ facts_to_come after reads next (drop (place + 1) records)) is.more
    ∙ append_assoc so_far (f ∷ []) (facts_to_come after reads next (drop (place + 1) records))
    ∙ ap (λ xs. so_far ++ xs) (sym come)
    ∙ known

-- a record that may be applied was applied
pub follows-applied :
    (reads : ℕ → ℕ → List ℕ) (records : List Record) (place : ℕ) (m next : Machine) (r : Record)
    (before after : Bool) (so_far facts all : List Fact) (f : Fact)
    → IsNext reads records place m r before after so_far facts f
    → after ≡ true → f ≡ fact_of reads m r → next ≡ apply m r
    → so_far ++ facts_to_come before reads m (drop place records) ≡ all
    → facts ++ facts_to_come after reads next (drop (place + 1) records) ≡ all
follows-applied reads records place m next r before after so_far facts all f is can is_fact is_next known =
    follows reads records place m next r before after so_far facts all f is
    (is_fact ∙ ap (λ b. cond b (fact_of reads m r) (bare_fact r)) (sym can))
    (is_next ∙ ap (λ b. cond b (apply m r) m) (sym can)) known

none-to-come : (fits : Bool) (reads : ℕ → ℕ → List ℕ) (m : Machine) → facts_to_come fits reads m [] ≡ []
none-to-come true reads m = refl
none-to-come false reads m = refl

-- past the last record, the facts so far are all
pub all-came :
    (fits : Bool) (reads : ℕ → ℕ → List ℕ) (m : Machine) (records : List Record) (place : ℕ) (facts all : List Fact)
    → length records ≤ place → facts ++ facts_to_come fits reads m (drop place records) ≡ all → facts ≡ all
all-came fits reads m records place facts all past known =
    sym (append-nil facts) ∙ ap (λ xs. facts ++ xs) (sym (none-to-come fits reads m))
    ∙ ap (λ rs. facts ++ facts_to_come fits reads m rs) (sym (drop_all place records past)) ∙ known

-- ---- whether all records fit, and the machine after them

can-choice :
    (before can : Bool) (m : Machine) (r : Record) (rs : List Record)
    → (before && (can && can_apply_from (apply m r) rs))
    ≡ ((before && can) && can_apply_from (cond (before && can) (apply m r) m) rs)
can-choice false can m r rs = refl
can-choice true false m r rs = refl
can-choice true true m r rs = refl

-- What is known of some records while they are applied: all fit exactly if those so far did and the others fit after
-- them, and if those so far did, the machine after all is the one after the others.
pub record AreLeft (start : Machine) (records : List Record) (fits : Bool) (m : Machine) (rest : List Record) : Type 0
  where
    pub can : can_apply_from start records ≡ (fits && can_apply_from m rest)
    pub applied : fits ≡ true → applied_from start records ≡ applied_from m rest

pub left-more :
    (start m next : Machine) (records rs : List Record) (r : Record) (before after : Bool)
    → after ≡ (before && can_apply m r) → next ≡ cond after (apply m r) m
    → AreLeft start records before m (r ∷ rs) → AreLeft start records after next rs
left-more start m next records rs r before after is_after is_next left =
    record {
      can =
          left.can ∙ can-choice before (can_apply m r) m r rs
          ∙ ap (λ (b : Bool). b && can_apply_from (cond b (apply m r) m) rs) (sym is_after)
          ∙ ap (λ (n : Machine). after && can_apply_from n rs) (sym is_next);
      applied = λ all.
          left.applied (and_parts before (can_apply m r) (sym is_after ∙ all)).0
          ∙ ap (λ (n : Machine). applied_from n rs)
          (ap (λ (b : Bool). cond b (apply m r) m) (sym all) ∙ sym is_next);
    }
