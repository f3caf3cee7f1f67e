-- Each entry of a round was made on the machine after the entries before it.
use Rattle.std.proofs.Common.{◌≡◌, ◌+◌, ◌≤◌, ℕ, zero, suc, Bool, true, false, not, cond, List, [], ◌∷◌, ◌++◌, append_assoc, append-nil, length, length-append, take, drop, slice_get, Option, Some, None, refl, ap, sym, ◌∙◌, subst, arith}
use Rattle.std.proofs.lemmas.List.{take-append-drop, length-map}
use Rattle.std.proofs.lemmas.Bool.{and_parts}
use Rattle.thunk_spec.specs.Record.{Record}
use Rattle.machine_spec.specs.Machine.{hart_of}
use Rattle.machine_spec.specs.Step.{apply, can_step}
use Rattle.machine_spec.specs.Schedule.{record_of}
use Rattle.machine_spec.specs.Setup.{Setup, IsSetup, first, map_of, scratch}
use Rattle.machine_spec.specs.Whole.{IsWhole}
use Rattle.history_spec.specs.History.{History, IsSound}
use Rattle.history_spec.proofs.Truth.{record-apply}
use Rattle.report_spec.specs.declared.Entry.{Entry}
use Rattle.report_spec.specs.Report.{threads_of}
use Rattle.round_spec.specs.declared.events.Event.{Event}
use Rattle.round_spec.specs.declared.events.Event.TheVariants.{Take, Reuse, Commit, GiveBack, Stop}
use Rattle.round_spec.specs.Marks.{record_for, is_fitting, fits_next}
use Rattle.round_spec.specs.Rounds.{RoundState, opening, is_finished, is_in_flight, can_begin, can_take, can_reuse, taken, reused_by, committed, given_back, with_stop, happens, all_happen, round_after}
use Rattle.round_spec.specs.Schedules.{events_of, events_in, round_by, IsBySchedule}
use Rattle.round_spec.proofs.Conditions.{happens-take, happens-take_not, happens-reuse, happens-reuse_not, happens-commit, happens-commit_over, happens-commit_not}
use Rattle.round_spec.proofs.Happening.{can_begin-parts, round-kept}
use Rattle.round_spec.proofs.Counting.{round-counted}
use Rattle.round_spec.proofs.BySchedule.{IsInside, inside-none, round_by-inside, round_by-more, all_happen-both}
use Rattle.round_spec.proofs.Leaving.{round-past}
use Rattle.round_spec.proofs.Leaving.{round-setup, round-scratch}
use Rattle.round_spec.proofs.Mapping.{happens-frame}
use Rattle.round_report.specs.Reasons.{made_before, scratch_before}
use Rattle.ith_commands.proofs.Finding.{found-of}

-- ## how the schedule grows

schedule-take : (w : RoundState) (t : ℕ) → (happens w (Take t)).schedule ≡ w.schedule
schedule-take w t = by (can_take w t) refl
  where
    by : (b : Bool) → can_take w t ≡ b → (happens w (Take t)).schedule ≡ w.schedule
    by true is = ap (λ (v : RoundState). v.schedule) (happens-take w t is)
    by false is = ap (λ (v : RoundState). v.schedule) (happens-take_not w t is)

one-more : {A : Type 0} (xs : List A) (x : A) → length (xs ++ x ∷ []) ≤ suc (length xs)
one-more xs x = let count = length-append xs (x ∷ []) in omega arith

same-length : {A : Type 0} (xs ys : List A) → xs ≡ ys → length xs ≤ suc (length ys)
same-length xs ys e = let count : length xs ≡ length ys = ap length e in omega arith

length-commit : (w : RoundState) (t : ℕ) → length (happens w (Commit t)).schedule ≤ suc (length w.schedule)
length-commit w t = by (is_in_flight w t) (is_finished w) refl refl
  where
    by :
        (in_flight over : Bool) → is_in_flight w t ≡ in_flight → is_finished w ≡ over
        → length (happens w (Commit t)).schedule ≤ suc (length w.schedule)
    by false over is_in_flight is_finished =
        same-length _ w.schedule (ap (λ (v : RoundState). v.schedule) (happens-commit_not w t is_in_flight))
    by true true is_in_flight is_finished =
        same-length _ w.schedule (ap (λ (v : RoundState). v.schedule) (happens-commit_over w t is_in_flight is_finished))
    by true false is_in_flight is_finished =
        subst (λ (v : RoundState). length v.schedule ≤ suc (length w.schedule))
        (sym (happens-commit w t is_in_flight is_finished)) (one-more w.schedule (record { thread = t; reused = false }))

length-reused :
    (w : RoundState) (t : ℕ) (o : Option Record) → length (reused_by w t o).schedule ≤ suc (length w.schedule)
length-reused w t None = omega arith
length-reused w t (Some r) = one-more w.schedule (record { thread = t; reused = true })

length-reuse : (w : RoundState) (t : ℕ) → length (happens w (Reuse t)).schedule ≤ suc (length w.schedule)
unfolding happens
length-reuse w t = by (can_reuse w t)
  where
    by : (b : Bool) → length (cond b (reused_by w t (record_for w.past w.machine t)) w).schedule ≤ suc (length w.schedule)
    by true = length-reused w t (record_for w.past w.machine t)
    by false = omega arith

length-entry : (w : RoundState) (e : Entry) → length (all_happen w (events_of e)).schedule ≤ suc (length w.schedule)
length-entry w e = by e.reused
  where
    by :
        (b : Bool)
        → length (all_happen w (cond b (Reuse e.thread ∷ []) (Take e.thread ∷ Commit e.thread ∷ []))).schedule
        ≤ suc (length w.schedule)
    by true = length-reuse w e.thread
    by false =
        let after = length-commit (happens w (Take e.thread)) e.thread in
        let same : length (happens w (Take e.thread)).schedule ≡ length w.schedule =
        ap length (schedule-take w e.thread) in
        omega arith

length-entries :
    (w : RoundState) (es : List Entry)
    → length (all_happen w (events_in es)).schedule ≤ length w.schedule + length es
length-entries w [] = omega arith
length-entries w (e ∷ es) =
    let first = length-entry w e in
    let rest = length-entries (all_happen w (events_of e)) es in
    subst (λ (v : RoundState). length v.schedule ≤ length w.schedule + length (e ∷ es))
    (sym (all_happen-both w (events_of e) (events_in es))) (omega arith)

-- ## one entry

-- one entry was made after others, on the machine of v, and w is the round after it
pub record WasMade (v w : RoundState) (e : Entry) (es : List Entry) : Type 0 where
  pub before : v.schedule ≡ es
  pub can : can_step v.machine e.thread ≡ true
  pub unfit : e.reused ≡ false → fits_next v.past v.machine e.thread ≡ false
  pub rec : Record
  pub records : w.records ≡ v.records ++ rec ∷ []
  pub thread : rec.thread ≡ e.thread
  pub applied : apply v.machine rec ≡ w.machine

-- a schedule that didn't grow isn't longer
none-made : (es schedule : List Entry) (e : Entry) → length schedule ≤ length es → schedule ≡ es ++ e ∷ [] → ⊥
none-made es schedule e long made =
    let count : length schedule ≡ length (es ++ e ∷ []) = ap length made in
    let both = length-append es (e ∷ []) in
    omega arith

-- lists that are the same with a last element are the same without it
last-off : (xs ys : List Entry) (a b : Entry) → xs ++ a ∷ [] ≡ ys ++ b ∷ [] → xs ≡ ys
last-off [] [] a b e = refl
last-off [] (y ∷ ys) a b e = absurd (none-made ys [] b (omega arith) (let rest : [] ≡ ys ++ b ∷ [] = cc in rest))
last-off (x ∷ xs) [] a b e = absurd (none-made xs [] a (omega arith) (let rest : [] ≡ xs ++ a ∷ [] = cc in rest))
last-off (x ∷ xs) (y ∷ ys) a b e =
    let tails : xs ++ a ∷ [] ≡ ys ++ b ∷ [] = cc in
    let rest = last-off xs ys a b tails in
    let first : x ≡ y = cc in
    cc

begins-can : (v : RoundState) (t : ℕ) → can_begin v t ≡ true → can_step v.machine t ≡ true
begins-can v t begins =
    let can = can_begin-parts v t begins in rw (can.none, can.ready) refl

not-false : (b : Bool) → not b ≡ true → b ≡ false
not-false true is = cc
not-false false is = refl

made-reuse :
    (v : RoundState) (t : ℕ) (e : Entry) (es : List Entry)
    → e.thread ≡ t → e.reused ≡ true → length v.schedule ≤ length es
    → (happens v (Reuse t)).schedule ≡ es ++ e ∷ []
    → WasMade v (happens v (Reuse t)) e es
made-reuse v t e es is_t is_reused long made = by (can_reuse v t) (record_for v.past v.machine t) refl refl
  where
    by :
        (b : Bool) (o : Option Record) → can_reuse v t ≡ b → record_for v.past v.machine t ≡ o
        → WasMade v (happens v (Reuse t)) e es
    by false o can there =
        absurd (none-made es v.schedule e long
        (sym (ap (λ (w : RoundState). w.schedule) (happens-reuse_not v t can)) ∙ made))
    by true None can there =
        let fit = (and_parts (can_begin v t) (fits_next v.past v.machine t) can).1 in
        let none : is_fitting v.machine None ≡ true = sym (ap (is_fitting v.machine) there) ∙ fit in
        cc none
    by true (Some r) can there =
        let whole = happens-reuse v t r can there in
        let begins = and_parts (can_begin v t) (fits_next v.past v.machine t) can in
        record {
          before =
              last-off v.schedule es (record { thread = t; reused = true }) e
              (sym (ap (λ (w : RoundState). w.schedule) whole) ∙ made);
          can = subst (λ (u : ℕ). can_step v.machine u ≡ true) (sym is_t) (begins-can v t begins.0);
          unfit = λ executed. absurd (let no : true ≡ false = sym is_reused ∙ executed in cc);
          rec = r;
          records = ap (λ (w : RoundState). w.records) whole;
          thread = (found-of v.past t (hart_of v.machine t).number r there).0 ∙ sym is_t;
          applied = sym (ap (λ (w : RoundState). w.machine) whole);
        }

made-run :
    (v : RoundState) (t : ℕ) (e : Entry) (es : List Entry)
    → IsInside v → IsWhole v.machine → e.thread ≡ t → length v.schedule ≤ length es
    → (happens (happens v (Take t)) (Commit t)).schedule ≡ es ++ e ∷ []
    → WasMade v (happens (happens v (Take t)) (Commit t)) e es
made-run v t e es inside whole_v is_t long made = by (can_take v t) refl
  where
    by : (b : Bool) → can_take v t ≡ b → WasMade v (happens (happens v (Take t)) (Commit t)) e es
    by false can =
        absurd (none-made es v.schedule e long
        (sym (ap (λ (w : RoundState). (happens w (Commit t)).schedule) (happens-take_not v t can)
        ∙ ap (λ (w : RoundState). w.schedule) (happens-commit_not v t (inside-none v t inside)))
        ∙ made))
    by true can = then (is_in_flight (taken v t) t) (is_finished (taken v t)) refl refl
      where
        begins : (can_begin v t ≡ true) × (not (fits_next v.past v.machine t) ≡ true)
        begins = and_parts (can_begin v t) (not (fits_next v.past v.machine t)) can

        took : happens (happens v (Take t)) (Commit t) ≡ happens (taken v t) (Commit t)
        took = ap (λ (w : RoundState). happens w (Commit t)) (happens-take v t can)

        then :
            (in_flight over : Bool) → is_in_flight (taken v t) t ≡ in_flight → is_finished (taken v t) ≡ over
            → WasMade v (happens (happens v (Take t)) (Commit t)) e es
        then false over is_in_flight is_finished =
            absurd (none-made es v.schedule e long
            (sym (ap (λ (w : RoundState). w.schedule) (took ∙ happens-commit_not (taken v t) t is_in_flight)) ∙ made))
        then true true is_in_flight is_finished =
            absurd (none-made es v.schedule e long
            (sym (ap (λ (w : RoundState). w.schedule) (took ∙ happens-commit_over (taken v t) t is_in_flight is_finished)) ∙ made))
        then true false is_in_flight is_finished =
            let whole = took ∙ happens-commit (taken v t) t is_in_flight is_finished in
            let can_t = begins-can v t begins.0 in
            record {
              before =
                  last-off v.schedule es (record { thread = t; reused = false }) e
                  (sym (ap (λ (w : RoundState). w.schedule) whole) ∙ made);
              can = subst (λ (u : ℕ). can_step v.machine u ≡ true) (sym is_t) can_t;
              unfit =
                  λ executed. subst (λ (u : ℕ). fits_next v.past v.machine u ≡ false) (sym is_t)
                  (not-false (fits_next v.past v.machine t) begins.1);
              rec = record_of v.machine t;
              records = ap (λ (w : RoundState). w.records) whole;
              thread = sym is_t;
              applied = record-apply v.machine t whole_v can_t ∙ sym (ap (λ (w : RoundState). w.machine) whole);
            }

made-entry :
    (v : RoundState) (e : Entry) (es : List Entry)
    → IsInside v → IsWhole v.machine → length v.schedule ≤ length es
    → (all_happen v (events_of e)).schedule ≡ es ++ e ∷ []
    → WasMade v (all_happen v (events_of e)) e es
made-entry v e es inside whole long made = by e.reused refl
  where
    events : Bool → List Event
    events b = cond b (Reuse e.thread ∷ []) (Take e.thread ∷ Commit e.thread ∷ [])

    by : (b : Bool) → e.reused ≡ b → WasMade v (all_happen v (events_of e)) e es
    by true is =
        let same : all_happen v (events_of e) ≡ happens v (Reuse e.thread) =
        ap (λ (b : Bool). all_happen v (events b)) is in
        subst (λ (w : RoundState). WasMade v w e es) (sym same)
        (made-reuse v e.thread e es refl is long (sym (ap (λ (w : RoundState). w.schedule) same) ∙ made))
    by false is =
        let same : all_happen v (events_of e) ≡ happens (happens v (Take e.thread)) (Commit e.thread) =
        ap (λ (b : Bool). all_happen v (events b)) is in
        subst (λ (w : RoundState). WasMade v w e es) (sym same)
        (made-run v e.thread e es inside whole refl long (sym (ap (λ (w : RoundState). w.schedule) same) ∙ made))

-- ## the entries of a whole schedule

-- a schedule is made whole, entry by entry
abbrev pub IsMadeWhole : Setup → Option History → List Entry → Type 0
IsMadeWhole setup past es = (round_by setup past es).schedule ≡ es

-- the last entry was made on the machine after the others
pub made-last :
    (setup : Setup) (past : Option History) (es : List Entry) (e : Entry) → IsSetup setup
    → IsMadeWhole setup past (es ++ e ∷ [])
    → WasMade (round_by setup past es) (round_by setup past (es ++ e ∷ [])) e es
made-last setup past es e valid made =
    subst (λ (w : RoundState). WasMade (round_by setup past es) w e es) (sym (round_by-more setup past es e))
    (made-entry (round_by setup past es) e es (round_by-inside setup past es)
    (round-kept setup past (events_in es) valid).whole
    (let most = length-entries (opening setup past) es in omega arith)
    (sym (ap (λ (w : RoundState). w.schedule) (round_by-more setup past es e)) ∙ made))

-- so are all entries before any
pub made-front :
    (setup : Setup) (past : Option History) (es back : List Entry) → IsSetup setup
    → IsMadeWhole setup past (es ++ back)
    → IsMadeWhole setup past es
made-front setup past es [] valid made = subst (IsMadeWhole setup past) (append-nil es) made
made-front setup past es (b ∷ back) valid made =
    (made-last setup past es b valid
    (made-front setup past (es ++ b ∷ []) back valid
    (subst (IsMadeWhole setup past) (sym (append_assoc es (b ∷ []) back)) made))).before

-- records are appended
abbrev GrowsBy : RoundState → RoundState → Type 0
GrowsBy w v = (rest : List Record) × (v.records ≡ w.records ++ rest)

grows-none : (w v : RoundState) → v.records ≡ w.records → GrowsBy w v
grows-none w v same = ([], same ∙ sym (append-nil w.records))

grows-reused : (w : RoundState) (t : ℕ) (o : Option Record) → GrowsBy w (reused_by w t o)
grows-reused w t None = grows-none w w refl
grows-reused w t (Some r) = (r ∷ [], refl)

grows-cond : (w u v : RoundState) (b : Bool) → GrowsBy w u → GrowsBy w v → GrowsBy w (cond b u v)
grows-cond w u v true first second = first
grows-cond w u v false first second = second

records-event : (w : RoundState) (e : Event) → GrowsBy w (happens w e)
unfolding happens
records-event w (Take t) =
    grows-cond w (taken w t) w (can_take w t) (grows-none w (taken w t) refl) (grows-none w w refl)
records-event w (Reuse t) =
    grows-cond w (reused_by w t (record_for w.past w.machine t)) w (can_reuse w t)
    (grows-reused w t (record_for w.past w.machine t)) (grows-none w w refl)
records-event w (Commit t) =
    grows-cond w (cond (is_finished w) (given_back w t) (committed w t)) w (is_in_flight w t)
    (grows-cond w (given_back w t) (committed w t) (is_finished w) (grows-none w (given_back w t) refl)
    (record_of w.machine t ∷ [], refl))
    (grows-none w w refl)
records-event w (GiveBack t) =
    grows-cond w (given_back w t) w (is_in_flight w t) (grows-none w (given_back w t) refl) (grows-none w w refl)
records-event w Stop = grows-none w (with_stop w) refl

records-more : (w : RoundState) (es : List Event) → GrowsBy w (all_happen w es)
records-more w [] = ([], sym (append-nil w.records))
records-more w (e ∷ es) =
    let first = records-event w e in
    let rest = records-more (happens w e) es in (
      first.0 ++ rest.0,
      rest.1 ∙ ap (λ (rs : List Record). rs ++ rest.0) first.1 ∙ append_assoc w.records first.0 rest.0,
    )

-- ## entry i of a round

-- a list around one of its elements
around :
    (es : List Entry) (i : ℕ) (e : Entry) → slice_get es i ≡ Some e → es ≡ take i es ++ e ∷ drop (suc i) es
around [] i e there = cc
around (x ∷ es) zero e there = let same : x ≡ e = cc in ap (λ (y : Entry). y ∷ es) same
around (x ∷ es) (suc i) e there = ap (λ (l : List Entry). x ∷ l) (around es i e there)

take-more : (es : List Entry) (i : ℕ) (e : Entry) → slice_get es i ≡ Some e → take (suc i) es ≡ take i es ++ e ∷ []
take-more [] i e there = cc
take-more (x ∷ es) zero e there = let same : x ≡ e = cc in ap (λ (y : Entry). y ∷ []) same
take-more (x ∷ es) (suc i) e there = ap (λ (l : List Entry). x ∷ l) (take-more es i e there)

length-front : (es : List Entry) (i : ℕ) (e : Entry) → slice_get es i ≡ Some e → length (take i es) ≡ i
length-front [] i e there = cc
length-front (x ∷ es) zero e there = refl
length-front (x ∷ es) (suc i) e there = ap (λ (n : ℕ). suc n) (length-front es i e there)

events_in-both : (es fs : List Entry) → events_in (es ++ fs) ≡ events_in es ++ events_in fs
events_in-both [] fs = refl
events_in-both (e ∷ es) fs =
    ap (λ (l : List Event). events_of e ++ l) (events_in-both es fs)
    ∙ sym (append_assoc (events_of e) (events_in es) (events_in fs))

round_by-both :
    (setup : Setup) (past : Option History) (es fs : List Entry)
    → round_by setup past (es ++ fs) ≡ all_happen (round_by setup past es) (events_in fs)
round_by-both setup past es fs =
    ap (round_after setup past) (events_in-both es fs)
    ∙ all_happen-both (opening setup past) (events_in es) (events_in fs)

-- as many records as entries
length-records :
    (setup : Setup) (past : Option History) (es : List Entry) → IsSetup setup → IsMadeWhole setup past es
    → length (round_by setup past es).records ≡ length es
length-records setup past es valid made =
    let counted = round-counted setup past (events_in es) valid in
    sym (length-map (round_by setup past es).records (λ (r : Record). r.thread))
    ∙ ap length counted.threads
    ∙ length-map (round_by setup past es).schedule (λ (e : Entry). e.thread)
    ∙ ap length made

-- an element after a front is at the place of its length
at-seam : (xs : List Record) (x : Record) (ys : List Record) → slice_get ((xs ++ x ∷ []) ++ ys) (length xs) ≡ Some x
at-seam [] x ys = refl
at-seam (y ∷ xs) x ys = at-seam xs x ys

same-some : (a b : Record) → Some a ≡ Some b → a ≡ b
same-some a b e = cc

-- entry i was made on the machine after those before it
abbrev WasMadeAt : RoundState → ℕ → Entry → Type 0
WasMadeAt w i e =
    WasMade (round_by w.setup w.past (take i w.schedule)) (round_by w.setup w.past (take i w.schedule ++ e ∷ [])) e
    (take i w.schedule)

schedule-around :
    (w : RoundState) (i : ℕ) (e : Entry) → slice_get w.schedule i ≡ Some e
    → w.schedule ≡ (take i w.schedule ++ e ∷ []) ++ drop (suc i) w.schedule
schedule-around w i e there =
    around w.schedule i e there ∙ sym (append_assoc (take i w.schedule) (e ∷ []) (drop (suc i) w.schedule))

was-made :
    (w : RoundState) (i : ℕ) (e : Entry) → IsSetup w.setup → IsBySchedule w → slice_get w.schedule i ≡ Some e
    → WasMadeAt w i e
was-made w i e valid by there =
    made-last w.setup w.past (take i w.schedule) e valid
    (made-front w.setup w.past (take i w.schedule ++ e ∷ []) (drop (suc i) w.schedule) valid
    (subst (IsMadeWhole w.setup w.past) (schedule-around w i e there) by.schedule))

-- its thread could make the next step
pub entry-can :
    (w : RoundState) (i : ℕ) (e : Entry) → IsSetup w.setup → IsBySchedule w → slice_get w.schedule i ≡ Some e
    → can_step (made_before w i) e.thread ≡ true
entry-can w i e valid by there = (was-made w i e valid by there).can

-- if it was executed, no record fitted
pub entry-unfit :
    (w : RoundState) (i : ℕ) (e : Entry) → IsSetup w.setup → IsBySchedule w → slice_get w.schedule i ≡ Some e
    → e.reused ≡ false
    → fits_next w.past (made_before w i) e.thread ≡ false
entry-unfit w i e valid by there executed =
    ap (λ (p : Option History). fits_next p (made_before w i) e.thread)
    (sym (round-past w.setup w.past (events_in (take i w.schedule))))
    ∙ (was-made w i e valid by there).unfit executed

-- its record is of its thread, and applying it makes the next machine
pub record IsRecordOf (w : RoundState) (i : ℕ) (e : Entry) (r : Record) : Type 0 where
  pub thread : r.thread ≡ e.thread
  pub applied : apply (made_before w i) r ≡ made_before w (suc i)

pub entry-record :
    (w : RoundState) (i : ℕ) (e : Entry) (r : Record) → IsSetup w.setup → IsBySchedule w
    → slice_get w.schedule i ≡ Some e → slice_get w.records i ≡ Some r
    → IsRecordOf w i e r
entry-record w i e r valid by there there_r =
    record {
      thread = ap (λ (x : Record). x.thread) r_is ∙ made.thread;
      applied =
          ap (apply (made_before w i)) r_is
          ∙ made.applied
          ∙ ap (λ (es : List Entry). (round_by w.setup w.past es).machine) (sym (take-more w.schedule i e there));
    }
  where
    front : List Entry
    front = take i w.schedule

    back : List Entry
    back = drop (suc i) w.schedule

    made : WasMade (round_by w.setup w.past front) (round_by w.setup w.past (front ++ e ∷ [])) e front
    made = was-made w i e valid by there

    more : GrowsBy (round_by w.setup w.past (front ++ e ∷ [])) (round_by w.setup w.past ((front ++ e ∷ []) ++ back))
    more =
        subst (GrowsBy (round_by w.setup w.past (front ++ e ∷ [])))
        (sym (round_by-both w.setup w.past (front ++ e ∷ []) back))
        (records-more (round_by w.setup w.past (front ++ e ∷ [])) (events_in back))

    records_are : w.records ≡ ((round_by w.setup w.past front).records ++ made.rec ∷ []) ++ more.0
    records_are =
        sym by.records
        ∙ ap (λ (es : List Entry). (round_by w.setup w.past es).records) (schedule-around w i e there)
        ∙ more.1
        ∙ ap (λ (rs : List Record). rs ++ more.0) made.records

    place : length (round_by w.setup w.past front).records ≡ i
    place = length-records w.setup w.past front valid made.before ∙ length-front w.schedule i e there

    r_is : r ≡ made.rec
    r_is =
        same-some r made.rec
        (sym there_r
        ∙ ap (λ (rs : List Record). slice_get rs i) records_are
        ∙ ap (λ (k : ℕ). slice_get (((round_by w.setup w.past front).records ++ made.rec ∷ []) ++ more.0) k) (sym place)
        ∙ at-seam (round_by w.setup w.past front).records made.rec more.0)

-- the machine before an entry has the round's map and fuel, and is whole
all_happen-frame : (w : RoundState) (es : List Event) → (all_happen w es).machine.frame ≡ w.machine.frame
all_happen-frame w [] = refl
all_happen-frame w (e ∷ es) = all_happen-frame (happens w e) es ∙ happens-frame w e

first-frame : (s : Setup) → (first s).frame ≡ record { map = map_of s; fuel = s.fuel }
unfolding first
first-frame s = refl

pub made-frame : (w : RoundState) (i : ℕ) → (made_before w i).frame ≡ record { map = map_of w.setup; fuel = w.setup.fuel }
made-frame w i =
    all_happen-frame (opening w.setup w.past) (events_in (take i w.schedule)) ∙ first-frame w.setup

-- if the history is sound, it is the machine from scratch
pub made-scratch :
    (w : RoundState) (i : ℕ) → IsSetup w.setup → IsBySchedule w → IsSound w.past w.setup
    → made_before w i ≡ scratch_before w i
made-scratch w i valid by sound =
    (round-scratch w.setup w.past (events_in front) valid sound).machine
    ∙ ap (λ (s : Setup). scratch s (threads_of (round_by w.setup w.past front).schedule))
    (round-setup w.setup w.past (events_in front))
    ∙ ap (λ (es : List Entry). scratch w.setup (threads_of es)) whole
  where
    front : List Entry
    front = take i w.schedule

    whole : IsMadeWhole w.setup w.past front
    whole =
        made-front w.setup w.past front (drop i w.schedule) valid
        (subst (IsMadeWhole w.setup w.past) (sym (take-append-drop i w.schedule)) by.schedule)
