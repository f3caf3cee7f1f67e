-- The next step is there, and is counted.
use Rattle.std.proofs.Common.{◌≡◌, ◌≢◌, ◌<◌, ◌≤◌, ◌+◌, ℕ, zero, suc, Bool, true, false, eqb, cond, List, length, set, get_or, Some, refl, ap, ap₂, sym, ◌∙◌, subst, inl, inr, arith}
use Rattle.std.specs.List.{slice_get}
use Rattle.std.proofs.lemmas.Bool.{cases_eq, cases_lt, eq-eqb}
use Rattle.std.proofs.lemmas.Bool.Decides.{nat_tests}
use Rattle.std.proofs.lemmas.List.{get_or_read, get_or-replicate, get_or-set_same, get_or-set_other, length-set, get_or_append_left, get_or_push, length_push}
use Rattle.machine_spec.specs.Setup.{map_of}
use Rattle.thunk_spec.specs.Record.{Record}
use Rattle.history_spec.specs.History.{History, IsMappedIn}
use Rattle.history_spec.specs.Facts.{Fact, facts, written_slots}
use Rattle.history_spec.specs.Before.{fact_at, no_fact}
use Rattle.history_spec.specs.Ancestors.{count_below}
use Rattle.round_spec.specs.Reach.{reads_of}
use Rattle.run_history.specs.Records.{AreOfRun}
use Rattle.round_spec.specs.Sync.{seen_at}
use Rattle.memo_reports.specs.declared.races.steps.Step.{Step}
use Rattle.memo_reports.specs.Touches.{touches_in}
use Rattle.memo_reports.specs.Steps.{IsStep, AreSteps}
use Rattle.memo_reports.proofs.Facts.{fact-written, read-at, all-get}
use Rattle.history_facts.proofs.OfRun.{few-facts, have-threads}
use Rattle.round_spec.proofs.Placed.{facts-length}
use Rattle.memo_reports.proofs.races.steps.steps_of.Goals as goal

known-thread :
    (fs : List Fact) (h : History) (i : ℕ) → fs ≡ facts h → AreOfRun h.records → i < length fs → (fact_at fs i).thread < 32
known-thread fs h i is run less =
    have-threads fs h is run i no_fact less

low-thread :
    (fs : List Fact) (h : History) (i t : ℕ)
    → fs ≡ facts h → AreOfRun h.records → i < length fs → t ≡ (fact_at fs i).thread → t < 32
low-thread fs h i t is run less same = subst (λ (n : ℕ). n < 32) (sym same) (known-thread fs h i is run less)

count-few : (p : ℕ → Bool) (n : ℕ) → count_below p n ≤ n
count-few p zero = omega arith
count-few p (suc n) = by-bit (p n) (count-few p n)
  where
    by-bit : (b : Bool) → count_below p n ≤ n → cond b 1 0 + count_below p n ≤ suc n
    by-bit true few = omega arith
    by-bit false few = omega arith

last-place : (i j : ℕ) → i ≤ j → j < i + 1 → i ≡ j
last-place i j late below = omega arith

-- one more step of a thread is counted
count-next :
    (fs : List Fact) (numbers : List ℕ) (i t u : ℕ) → t ≡ (fact_at fs i).thread → t < length numbers
    → get_or numbers u 0 ≡ count_below (λ k. eqb (fact_at fs k).thread u) i
    → get_or (set numbers t (get_or numbers t 0 + 1)) u 0 ≡ count_below (λ k. eqb (fact_at fs k).thread u) (i + 1)
count-next fs numbers i t u is below counts =
    let next : i + 1 ≡ suc i = omega arith in
    elim (cases_eq t u) [
      | inl same ↦
          let one : eqb (fact_at fs i).thread u ≡ true = eq-eqb (fact_at fs i).thread u (sym is ∙ same) in
          let set_same : get_or (set numbers t (get_or numbers t 0 + 1)) u 0 ≡ get_or numbers t 0 + 1 =
          ap (λ (v : ℕ). get_or (set numbers t (get_or numbers t 0 + 1)) v 0) (sym same)
          ∙ get_or-set_same numbers t (get_or numbers t 0 + 1) 0 below in
          let old : get_or numbers t 0 ≡ count_below (λ k. eqb (fact_at fs k).thread u) i =
          ap (λ (v : ℕ). get_or numbers v 0) same ∙ counts in
          rw (next, one) (omega arith)
      | inr other ↦
          let none : eqb (fact_at fs i).thread u ≡ false =
          (let apart : (fact_at fs i).thread ≢ u = λ e. other (is ∙ e) in grind (arith, nat_tests)) in
          let stays : get_or (set numbers t (get_or numbers t 0 + 1)) u 0 ≡ get_or numbers u 0 =
          get_or-set_other numbers t u (get_or numbers t 0 + 1) 0 (λ e. other (sym e)) in
          rw (next, none) (let both = stays ∙ counts in omega arith)
    ]

pub of_sync-requires-clause-few : goal.of_sync-requires-clause-few
of_sync-requires-clause-few c =
    few-facts c.deref.result.now c.args.history.now (c.deref.ensures.value ∙ c.in_ok-facts.ensures.facts) c.in_ok-facts.ensures.of_run

pub of_sync-requires-clause-threads : goal.of_sync-requires-clause-threads
of_sync-requires-clause-threads c =
    have-threads c.deref.result.now c.args.history.now (c.deref.ensures.value ∙ c.in_ok-facts.ensures.facts)
    c.in_ok-facts.ensures.of_run

pub loop-i-init : goal.loop-i-init
loop-i-init c = record {
  numbers = λ t known. get_or-replicate 32 t 0 0 known;
  long = refl;
  many = ap (λ (xs : List Step). length xs) c.in_ok-steps.ensures.items;
  each = λ j s less. absurd (omega arith);
}

pub bounds-numbers-from : goal.bounds-numbers-from
bounds-numbers-from c =
    let fs = c.in_ok-facts.field-0.facts.items in
    let less =
    subst (λ (k : ℕ). c.loop-i.i < k) (c.len-i-end.ensures ∙ c.in_ok-facts.field-0.facts.ok.0) c.loop-i-test.true in
    let here = c.fact.view_is ∙ get_or_read fs c.loop-i.i c.index-fact.result.now less c.index-fact.ensures no_fact in
    low-thread fs c.args.history.now c.loop-i.i c.from.result c.in_ok-facts.ensures.facts c.in_ok-facts.ensures.of_run less
    (c.from.ensures ∙ ap (λ (f : Fact). f.thread) here)

pub bounds-numbers-from-in-loop-i : goal.bounds-numbers-from-in-loop-i
bounds-numbers-from-in-loop-i c =
    let fs = c.in_ok-facts.field-0.facts.items in
    let less =
    subst (λ (k : ℕ). c.loop-i.i < k) (c.len-i-end.ensures ∙ c.in_ok-facts.field-0.facts.ok.0) c.loop-i-test.true in
    let here = c.fact.view_is ∙ get_or_read fs c.loop-i.i c.index-fact.result.now less c.index-fact.ensures no_fact in
    low-thread fs c.args.history.now c.loop-i.i c.from-in-loop-i.result c.in_ok-facts.ensures.facts c.in_ok-facts.ensures.of_run less
    (c.from-in-loop-i.ensures ∙ ap (λ (f : Fact). f.thread) here)

pub bounds-numbers-from-in-loop-i-2 : goal.bounds-numbers-from-in-loop-i-2
bounds-numbers-from-in-loop-i-2 c =
    let fs = c.in_ok-facts.field-0.facts.items in
    let less =
    subst (λ (k : ℕ). c.loop-i.i < k) (c.len-i-end.ensures ∙ c.in_ok-facts.field-0.facts.ok.0) c.loop-i-test.true in
    let here = c.fact.view_is ∙ get_or_read fs c.loop-i.i c.index-fact.result.now less c.index-fact.ensures no_fact in
    low-thread fs c.args.history.now c.loop-i.i c.from-in-loop-i.result c.in_ok-facts.ensures.facts c.in_ok-facts.ensures.of_run less
    (c.from-in-loop-i.ensures ∙ ap (λ (f : Fact). f.thread) here)

pub at-requires : goal.at-requires
at-requires c =
    let many = facts-length c.args.history.now in
    let one = ap (λ (fs : List Fact). length fs) c.in_ok-facts.ensures.facts in
    let two = ap (λ (rs : List Record). length rs) c.records-records.ensures.records in
    subst (λ (k : ℕ). c.loop-i.i < k) (c.len-i-end.ensures ∙ c.in_ok-facts.field-0.facts.ok.0 ∙ one ∙ many ∙ sym two)
    c.loop-i-test.true

pub touches_of-requires : goal.touches_of-requires
touches_of-requires c =
    let h = c.args.history.now in
    let r = c.deref-in-loop-i-2.result.now in
    let at : slice_get h.records c.loop-i.i ≡ Some r =
    ap (λ rs. slice_get rs c.loop-i.i) (sym c.records-records.ensures.records) ∙ c.at.ensures
    ∙ ap (λ (x : Record). Some x) (sym c.deref-in-loop-i-2.ensures) in
    subst (λ (n : ℕ). IsMappedIn n r) (sym c.requires)
    (all-get (IsMappedIn (length (map_of h.setup))) h.records c.loop-i.i r c.records-records.ensures.mapped at)

pub overflow_add-numbers : goal.overflow_add-numbers
overflow_add-numbers c =
    let fs = c.in_ok-facts.field-0.facts.items in
    let less =
    subst (λ (k : ℕ). c.loop-i.i < k) (c.len-i-end.ensures ∙ c.in_ok-facts.field-0.facts.ok.0) c.loop-i-test.true in
    let few = few-facts fs c.args.history.now c.in_ok-facts.ensures.facts c.in_ok-facts.ensures.of_run in
    let here = c.fact.view_is ∙ get_or_read fs c.loop-i.i c.index-fact.result.now less c.index-fact.ensures no_fact in
    let low =
    low-thread fs c.args.history.now c.loop-i.i c.from-in-loop-i.result c.in_ok-facts.ensures.facts
    c.in_ok-facts.ensures.of_run less (c.from-in-loop-i.ensures ∙ ap (λ (f : Fact). f.thread) here) in
    let counts = c.loop-i.invariant.numbers c.from-in-loop-i.result low in
    let most = count-few (λ k. eqb (fact_at fs k).thread c.from-in-loop-i.result) c.loop-i.i in
    omega arith

pub loop-i-preserved : goal.loop-i-preserved
loop-i-preserved c =
    let h = c.args.history.now in
    let fs = c.in_ok-facts.field-0.facts.items in
    let i = c.loop-i.i in
    let r = c.deref-in-loop-i-2.result.now in
    let less = subst (λ (k : ℕ). i < k) (c.len-i-end.ensures ∙ c.in_ok-facts.field-0.facts.ok.0) c.loop-i-test.true in
    let here = c.fact.view_is ∙ get_or_read fs i c.index-fact.result.now less c.index-fact.ensures no_fact in
    let same = c.from-in-loop-i.ensures ∙ ap (λ (f : Fact). f.thread) here in
    let own = c.from.ensures ∙ ap (λ (f : Fact). f.thread) here in
    let low = λ (t : ℕ). low-thread fs h i t c.in_ok-facts.ensures.facts c.in_ok-facts.ensures.of_run less in
    let long = c.loop-i.invariant.long in
    let at : slice_get h.records i ≡ Some r =
    ap (λ rs. slice_get rs i) (sym c.records-records.ensures.records) ∙ c.at.ensures
    ∙ ap (λ (x : Record). Some x) (sym c.deref-in-loop-i-2.ensures) in
    let is_written : (fact_at fs i).written ≡ written_slots r =
    ap (λ (xs : List Fact). (fact_at xs i).written) c.in_ok-facts.ensures.facts ∙ fact-written h i r at in
    record {
      numbers = λ t in_range.
          count-next fs c.loop-i.numbers i c.from-in-loop-i.result t same
          (subst (λ (k : ℕ). c.from-in-loop-i.result < k) (sym long) (low c.from-in-loop-i.result same))
          (c.loop-i.invariant.numbers t in_range);
      long = length-set c.loop-i.numbers c.from-in-loop-i.result _ ∙ long;
      many =
          ap (λ (xs : List Step). length xs) c.in_ok-push.ensures.items
          ∙ length_push c.loop-i.steps.items _
          ∙ ap (λ (n : ℕ). n + 1) c.loop-i.invariant.many;
      each = λ j s below. elim (cases_lt j i) [
        | inl early ↦
            subst (IsStep fs (reads_of h) c.args.pages j)
            (sym (ap (λ (xs : List Step). get_or xs j s) c.in_ok-push.ensures.items
            ∙ get_or_append_left c.loop-i.steps.items _ s j (subst (λ (k : ℕ). j < k) (sym c.loop-i.invariant.many) early)))
            (c.loop-i.invariant.each j s early)
        | inr late ↦
            let here_j = last-place i j late below in
            subst (λ (k : ℕ). IsStep fs (reads_of h) c.args.pages k (get_or c.push.new.self.items k s)) here_j
            (subst (IsStep fs (reads_of h) c.args.pages i)
            (sym (ap (λ (xs : List Step). get_or xs i s) c.in_ok-push.ensures.items
            ∙ get_or_push c.loop-i.steps.items _ s i c.loop-i.invariant.many))
            (record {
              thread = ap (λ (f : Fact). f.thread) here;
              known = low _ (ap (λ (f : Fact). f.thread) here);
              number =
                  c.loop-i.invariant.numbers c.from.result (low c.from.result own)
                  ∙ ap (λ (t : ℕ). count_below (λ k. eqb (fact_at fs k).thread t) i) own;
              seen = λ t in_range.
                  c.seen.ensures t in_range ∙ ap (λ (xs : List Fact). seen_at xs i t) c.deref-in-loop-i.ensures.value;
              touches =
                  c.in_ok-touches_of.ensures
                  ∙ ap₂ (λ (rs ws : List ℕ). touches_in c.args.pages rs ws) (sym (read-at h i r at)) (sym is_written);
            }))
      ];
    }

pub returns-clause-steps : goal.returns-clause-steps
returns-clause-steps c =
    let fs = c.in_ok-facts.field-0.facts.items in
    let end : c.loop-i.i ≡ length fs = omega arith in
    subst (λ (xs : List Fact). AreSteps xs (reads_of c.args.history.now) c.args.pages c.loop-i.steps.items)
    c.in_ok-facts.ensures.facts
    (record {
      many = c.loop-i.invariant.many ∙ end;
      each = λ j s less. c.loop-i.invariant.each j s (subst (λ (k : ℕ). j < k) (sym end) less);
    })
