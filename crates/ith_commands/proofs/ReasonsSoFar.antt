-- The reasons of the entries so far.
use Rattle.std.proofs.Common.{◌≡◌, ◌+◌, ℕ, zero, suc, Bool, true, false, cond, List, [], ◌∷◌, ◌++◌, length, map, filter, slice_get, Option, Some, None, option_map, is_some, add-one, ap, sym, ◌∙◌, arith}
use Rattle.std.specs.List.{range_with_len, filter_map, cons_option}
use Rattle.std.specs.Option.{option_to_list}
use Rattle.std.proofs.lemmas.List.{map-append}
use Rattle.std.proofs.lemmas.List.Elements.{filter_map-append, filter-append}
use Rattle.machine_spec.specs.Machine.{Machine}
use Rattle.machine_spec.specs.Setup.{IsSetup}
use Rattle.history_spec.specs.History.{IsSound}
use Rattle.report_spec.specs.declared.Entry.{Entry}
use Rattle.round_spec.specs.Rounds.{RoundState}
use Rattle.round_spec.specs.Schedules.{IsBySchedule}
use Rattle.round_report.specs.declared.why.reason.Cause.{Cause}
use Rattle.round_report.specs.declared.why.reason.Reason.{Reason}
use Rattle.round_report.specs.Reasons.{made_before, scratch_before, cause_at, reason_of_step, reason_of, reasons_by, reasons_of, is_executed}
use Rattle.ith_commands.proofs.Entries.{made-scratch}

-- the reasons of the first entries, and the places of those of them that were executed
abbrev pub reported_so_far : RoundState → ℕ → List Reason
reported_so_far w i = filter_map (λ k. reason_of (made_before w) w k (slice_get w.schedule k)) (range_with_len 0 i)

abbrev pub executed_so_far : RoundState → ℕ → List ℕ
executed_so_far w i = filter (λ k. is_executed (slice_get w.schedule k)) (range_with_len 0 i)

-- one more number
range-more : (a n : ℕ) → range_with_len a (suc n) ≡ range_with_len a n ++ (a + n) ∷ []
range-more a zero = ap (λ (k : ℕ). k ∷ []) (let same : a ≡ a + 0 = omega arith in same)
range-more a (suc n) =
    ap (λ (l : List ℕ). a ∷ l)
    (range-more (a + 1) n
    ∙ ap (λ (k : ℕ). range_with_len (a + 1) n ++ k ∷ []) (let same : a + 1 + n ≡ a + suc n = omega arith in same))

range-next : (i : ℕ) → range_with_len 0 (i + 1) ≡ range_with_len 0 i ++ i ∷ []
range-next i =
    ap (range_with_len 0) (add-one i) ∙ range-more 0 i
    ∙ ap (λ (k : ℕ). range_with_len 0 i ++ k ∷ []) (let same : 0 + i ≡ i = omega arith in same)

-- the reason at one place
one-reported : (h : ℕ → Option Reason) (i : ℕ) (o : Option Reason) → h i ≡ o → filter_map h (i ∷ []) ≡ option_to_list o
one-reported h i None is = ap (λ (o : Option Reason). cons_option o []) is
one-reported h i (Some r) is = ap (λ (o : Option Reason). cons_option o []) is

-- one more entry
pub reported-next :
    (w : RoundState) (i : ℕ) (reasons later : List Reason) (o : Option Reason)
    → reasons ≡ reported_so_far w i → later ≡ reasons ++ option_to_list o
    → o ≡ reason_of (made_before w) w i (slice_get w.schedule i)
    → later ≡ reported_so_far w (i + 1)
reported-next w i reasons later o is pushed reason =
    pushed
    ∙ ap (λ (l : List Reason). l ++ option_to_list o) is
    ∙ ap (λ (l : List Reason). reported_so_far w i ++ l)
    (sym (one-reported (λ k. reason_of (made_before w) w k (slice_get w.schedule k)) i o (sym reason)))
    ∙ sym (filter_map-append (λ k. reason_of (made_before w) w k (slice_get w.schedule k)) (range_with_len 0 i) (i ∷ []))
    ∙ ap (filter_map (λ k. reason_of (made_before w) w k (slice_get w.schedule k))) (sym (range-next i))

-- equal reasons are of one step
same-step : (a b : Reason) → Some a ≡ Some b → a.step ≡ b.step
same-step a b is = let same : a ≡ b = cc in ap (λ (x : Reason). x.step) same

-- no reason is equal to none
no-reason : (r : Reason) (i : ℕ) → Some r ≡ None → r.step ≡ i
no-reason r i is = cc

-- a cause is of its step
step-by :
    (before : ℕ → Machine) (i t : ℕ) (r : Reason) (b : Bool) (cause : Option Cause)
    → Some r ≡ cond b None (option_map (reason_of_step before i t) cause)
    → r.step ≡ i
step-by before i t r true cause is = no-reason r i is
step-by before i t r false None is = no-reason r i is
step-by before i t r false (Some c) is = same-step r (reason_of_step before i t c) is

-- a reason is of its entry
step-of :
    (before : ℕ → Machine) (w : RoundState) (i : ℕ) (o : Option Entry) (r : Reason) → Some r ≡ reason_of before w i o
    → r.step ≡ i
step-of before w i None r is = no-reason r i is
step-of before w i (Some e) r is = step-by before i e.thread r e.reused (cause_at before w i e.thread) is

one-executed : (w : RoundState) (i : ℕ) (b : Bool) → b ≡ is_executed (slice_get w.schedule i)
    → filter (λ k. is_executed (slice_get w.schedule k)) (i ∷ []) ≡ (cond b (i ∷ []) [])
one-executed w i b is = ap (λ (x : Bool). cond x (i ∷ []) []) (sym is)

pub each-next :
    (w : RoundState) (i : ℕ) (reasons later : List Reason) (o : Option Reason)
    → map (λ (r : Reason). r.step) reasons ≡ executed_so_far w i → later ≡ reasons ++ option_to_list o
    → o ≡ reason_of (made_before w) w i (slice_get w.schedule i)
    → is_some o ≡ is_executed (slice_get w.schedule i)
    → map (λ (r : Reason). r.step) later ≡ executed_so_far w (i + 1)
each-next w i reasons later o is pushed reason some =
    ap (map (λ (r : Reason). r.step)) pushed
    ∙ map-append (λ (r : Reason). r.step) reasons (option_to_list o)
    ∙ ap (λ (l : List ℕ). l ++ map (λ (r : Reason). r.step) (option_to_list o)) is
    ∙ ap (λ (l : List ℕ). executed_so_far w i ++ l) (last o reason some)
    ∙ sym (filter-append (λ k. is_executed (slice_get w.schedule k)) (range_with_len 0 i) (i ∷ []))
    ∙ ap (filter (λ k. is_executed (slice_get w.schedule k))) (sym (range-next i))
  where
    last :
        (o : Option Reason) → o ≡ reason_of (made_before w) w i (slice_get w.schedule i)
        → is_some o ≡ is_executed (slice_get w.schedule i)
        → map (λ (r : Reason). r.step) (option_to_list o)
        ≡ filter (λ k. is_executed (slice_get w.schedule k)) (i ∷ [])
    last None reason some = sym (one-executed w i false some)
    last (Some r) reason some =
        ap (λ (k : ℕ). k ∷ []) (step-of (made_before w) w i (slice_get w.schedule i) r reason)
        ∙ sym (one-executed w i true some)

-- all of them
pub all-reported : (w : RoundState) (reasons : List Reason) → reasons ≡ reported_so_far w (length w.schedule) → reasons ≡ reasons_of w
unfolding reasons_of
all-reported w reasons is = is

-- if the history is sound, they are those of the machine from scratch
same-machines : (f g : ℕ → Machine) → ((k : ℕ) → f k ≡ g k) → f ≡ g
same-machines f g each = λ i. λ k. each k i

pub reported-scratch :
    (w : RoundState) (reasons : List Reason) → IsSetup w.setup → IsBySchedule w → IsSound w.past w.setup
    → reasons ≡ reasons_of w
    → reasons ≡ reasons_by (scratch_before w) w
unfolding reasons_of
reported-scratch w reasons valid by sound is =
    is
    ∙ ap (λ (before : ℕ → Machine). reasons_by before w)
    (same-machines (made_before w) (scratch_before w) (λ k. made-scratch w k valid by sound))
