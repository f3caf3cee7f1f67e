-- The leaders of some threads, the choice, and what may be done with a pick.
use Rattle.std.proofs.Common.{◌≡◌, ◌+◌, ℕ, zero, suc, add-one, Bool, true, false, not, ◌&&◌, ◌||◌, cond, List, [], ◌∷◌, ◌++◌, append-nil, length, filter, Option, Some, None, is_some, refl, ap, sym, subst, ◌∙◌, arith}
use Rattle.std.specs.Prelude.{option_map}
use Rattle.std.proofs.lemmas.Bool.{or_right}
use Rattle.std.specs.List.{AllByRecursion, range_with_len}
use Rattle.machine_spec.specs.Machine.{Machine, hart_of}
use Rattle.history_spec.specs.History.{History}
use Rattle.round_spec.specs.declared.events.Pick.{Pick}
use Rattle.round_spec.specs.declared.events.Pick.TheVariants as pick
use Rattle.round_spec.specs.Marks.{fits_next}
use Rattle.round_spec.specs.Rounds.{RoundState, is_finished, is_free_in, can_take, can_reuse}
use Rattle.round_spec.specs.Due.{place_in, is_due}
use Rattle.round_spec.specs.Choice.{free_threads, is_any_in_flight, eligible, choice_by, best, with_choice, pick_of}
use Rattle.round_spec.proofs.Choosing.{choice_by-none}
use Rattle.round_spec.proofs.Lists.{all-filter, all-pass}
use Rattle.propagate.specs.declared.picking.Candidate.{Candidate}
use Rattle.propagate.specs.declared.picking.Leaders.{Leaders}
use Rattle.propagate.specs.Choosing.{candidate_of, free_below, due_below, leader_of, AreLeadersBelow, comes_before, leads, better, is_something}
use Rattle.propagate.proofs.Best.{filter-more, range-more, best-nobody, best-more, best-first, best-none, best-all, IsAhead, ahead-none, ahead-more}

-- the better of a leader and one more thread leads all

leads-first :
    (past : Option History) (m : Machine) (threads : List ℕ) (next : Candidate) (o : Option ℕ)
    → best past m threads ≡ o → None ≡ option_map (candidate_of past m) o
    → next ≡ candidate_of past m next.thread
    → Some next ≡ option_map (candidate_of past m) (best past m (threads ++ next.thread ∷ []))
leads-first past m threads next None is none same =
    ap (λ (c : Candidate). Some c) same
    ∙ ap (option_map (candidate_of past m)) (sym (best-first past m threads next.thread is))
leads-first past m threads next (Some u) is none same = cc

leads-chosen :
    (past : Option History) (m : Machine) (t u : ℕ) (b : Bool)
    → cond b (candidate_of past m t) (candidate_of past m u) ≡ candidate_of past m (cond b t u)
leads-chosen past m t u true = refl
leads-chosen past m t u false = refl

leads-more :
    (past : Option History) (m : Machine) (threads : List ℕ) (leader next : Candidate) (o : Option ℕ)
    → best past m threads ≡ o → Some leader ≡ option_map (candidate_of past m) o
    → next ≡ candidate_of past m next.thread
    → Some (cond (comes_before next leader) next leader)
    ≡ option_map (candidate_of past m) (best past m (threads ++ next.thread ∷ []))
leads-more past m threads leader next None is some same = cc
leads-more past m threads leader next (Some u) is some same =
    let leads : leader ≡ candidate_of past m u = cc in
    ap (λ (c : Candidate). Some (cond (comes_before c leader) c leader)) same
    ∙ ap (λ (c : Candidate). Some
    (cond (comes_before (candidate_of past m next.thread) c) (candidate_of past m next.thread) c)) leads
    ∙ ap (λ (c : Candidate). Some c)
    (leads-chosen past m next.thread u (comes_before (candidate_of past m next.thread) (candidate_of past m u)))
    ∙ ap (option_map (candidate_of past m)) (sym (best-more past m threads next.thread u is))

pub leader-more :
    (past : Option History) (m : Machine) (threads : List ℕ) (leader : Option Candidate) (next : Candidate)
    → leader ≡ option_map (candidate_of past m) (best past m threads)
    → next ≡ candidate_of past m next.thread
    → Some (better leader next) ≡ option_map (candidate_of past m) (best past m (threads ++ next.thread ∷ []))
leader-more past m threads None next leads same = leads-first past m threads next (best past m threads) refl leads same
leader-more past m threads (Some leader) next leads same =
    leads-more past m threads leader next (best past m threads) refl leads same

-- one more thread

below-more :
    (w : RoundState) (t : ℕ)
    → free_below w (t + 1) ≡ free_below w t ++ cond (is_free_in w.machine w.in_flight t) (t ∷ []) []
below-more w t =
    ap (λ n. filter (is_free_in w.machine w.in_flight) (range_with_len 0 n)) (add-one t)
    ∙ ap (filter (is_free_in w.machine w.in_flight)) (range-more 0 t t (omega arith))
    ∙ filter-more (is_free_in w.machine w.in_flight) (range_with_len 0 t) t

free-skip : (w : RoundState) (t : ℕ) → is_free_in w.machine w.in_flight t ≡ false → free_below w (t + 1) ≡ free_below w t
free-skip w t is = below-more w t ∙ ap (λ b. free_below w t ++ cond b (t ∷ []) []) is ∙ append-nil (free_below w t)

free-more :
    (w : RoundState) (t : ℕ) → is_free_in w.machine w.in_flight t ≡ true
    → free_below w (t + 1) ≡ free_below w t ++ t ∷ []
free-more w t is = below-more w t ∙ ap (λ b. free_below w t ++ cond b (t ∷ []) []) is

due-both :
    (w : RoundState) (t : ℕ)
    → is_free_in w.machine w.in_flight t ≡ true → due_below w (t + 1)
    ≡ due_below w t ++ cond (is_due w.past w.machine t) (t ∷ []) []
due-both w t is =
    ap (filter (is_due w.past w.machine)) (free-more w t is) ∙ filter-more (is_due w.past w.machine) (free_below w t) t

pub leaders-none : (w : RoundState) → AreLeadersBelow w 0 (record { due = None; free = None })
leaders-none w = record {
  due = ap (option_map (candidate_of w.past w.machine)) (sym (best-nobody w.past w.machine));
  free = ap (option_map (candidate_of w.past w.machine)) (sym (best-nobody w.past w.machine));
}

pub leaders-skip :
    (w : RoundState) (t : ℕ) (found : Leaders)
    → AreLeadersBelow w t found → is_free_in w.machine w.in_flight t ≡ false → AreLeadersBelow w (t + 1) found
leaders-skip w t found leads is = record {
  due = leads.due ∙ ap (λ (ts : List ℕ). leader_of w (filter (is_due w.past w.machine) ts)) (sym (free-skip w t is));
  free = leads.free ∙ ap (leader_of w) (sym (free-skip w t is));
}

leads-below :
    (w : RoundState) (threads : List ℕ) (leader : Option Candidate) (t place number : ℕ)
    → leader ≡ leader_of w threads → place ≡ place_in w.past w.machine t → number ≡ (hart_of w.machine t).number
    → Some (better leader (record { thread = t; place = place; number = number })) ≡ leader_of w (threads ++ t ∷ [])
leads-below w threads leader t place number leads is_place is_number =
    leader-more w.past w.machine threads leader (record { thread = t; place = place; number = number }) leads
    (rw (is_place, is_number) refl)

pub leaders-free :
    (w : RoundState) (t place number : ℕ) (found : Leaders)
    → AreLeadersBelow w t found
    → is_free_in w.machine w.in_flight t ≡ true → is_due w.past w.machine t ≡ false
    → place ≡ place_in w.past w.machine t → number ≡ (hart_of w.machine t).number
    → AreLeadersBelow w (t + 1)
    (record {
      due = found.due;
      free = Some (better found.free (record { thread = t; place = place; number = number }));
    })
leaders-free w t place number found leads free due is_place is_number = record {
  due =
      leads.due
      ∙ ap (leader_of w) (sym (append-nil (due_below w t)))
      ∙ ap (λ b. leader_of w (due_below w t ++ cond b (t ∷ []) [])) (sym due)
      ∙ ap (leader_of w) (sym (due-both w t free));
  free =
      leads-below w (free_below w t) found.free t place number leads.free is_place is_number
      ∙ ap (leader_of w) (sym (free-more w t free));
}

due-more :
    (w : RoundState) (t place number : ℕ) (found : Leaders)
    → AreLeadersBelow w t found
    → is_free_in w.machine w.in_flight t ≡ true → is_due w.past w.machine t ≡ true
    → place ≡ place_in w.past w.machine t → number ≡ (hart_of w.machine t).number
    → Some (better found.due (record { thread = t; place = place; number = number })) ≡ leader_of w (due_below w (t + 1))
due-more w t place number found leads free due is_place is_number =
    leads-below w (due_below w t) found.due t place number leads.due is_place is_number
    ∙ ap (λ b. leader_of w (due_below w t ++ cond b (t ∷ []) [])) (sym due)
    ∙ ap (leader_of w) (sym (due-both w t free))

-- the best of the free threads alone

pub first-skip :
    (w : RoundState) (t : ℕ) (leader : Option Candidate)
    → leader ≡ leader_of w (free_below w t) → is_free_in w.machine w.in_flight t ≡ false
    → leader ≡ leader_of w (free_below w (t + 1))
first-skip w t leader leads is = leads ∙ ap (leader_of w) (sym (free-skip w t is))

pub first-more :
    (w : RoundState) (t : ℕ) (leader : Option Candidate) (next : Candidate)
    → leader ≡ leader_of w (free_below w t) → is_free_in w.machine w.in_flight t ≡ true
    → next ≡ candidate_of w.past w.machine t
    → Some (better leader next) ≡ leader_of w (free_below w (t + 1))
first-more w t leader next leads free is =
    ap (λ (c : Candidate). Some (better leader c)) is
    ∙ leads-below w (free_below w t) leader t (place_in w.past w.machine t) (hart_of w.machine t).number leads refl refl
    ∙ ap (leader_of w) (sym (free-more w t free))

pub first-none : (w : RoundState) → None ≡ leader_of w (free_below w 0)
first-none w = ap (option_map (candidate_of w.past w.machine)) (sym (best-nobody w.past w.machine))

-- if the best free thread is due, it is the best of those that are

abbrev IsDueAhead : RoundState → List ℕ → List ℕ → Type 0
IsDueAhead w free due = IsAhead w.past w.machine (is_due w.past w.machine) free due

ahead-next :
    (w : RoundState) (t : ℕ) (b : Bool)
    → is_free_in w.machine w.in_flight t ≡ b → IsDueAhead w (free_below w t) (due_below w t)
    → IsDueAhead w (free_below w (t + 1)) (due_below w (t + 1))
ahead-next w t true free ahead =
    subst (λ (xs : List ℕ). IsDueAhead w xs (due_below w (t + 1))) (sym (free-more w t free))
    (subst (λ (ys : List ℕ). IsDueAhead w (free_below w t ++ t ∷ []) ys) (sym (due-both w t free))
    (ahead-more w.past w.machine (is_due w.past w.machine) (free_below w t) (due_below w t) t ahead))
ahead-next w t false free ahead =
    subst (λ (xs : List ℕ). IsDueAhead w xs (filter (is_due w.past w.machine) xs)) (sym (free-skip w t free)) ahead

due-ahead : (w : RoundState) (t : ℕ) → IsDueAhead w (free_below w t) (due_below w t)
due-ahead w zero = ahead-none w.past w.machine (is_due w.past w.machine)
due-ahead w (suc t) =
    subst (λ (n : ℕ). IsDueAhead w (free_below w n) (due_below w n)) (add-one t)
    (ahead-next w t (is_free_in w.machine w.in_flight t) refl (due-ahead w t))

pub leaders-first :
    (w : RoundState) (t : ℕ) (first : Candidate)
    → Some first ≡ leader_of w (free_below w t) → is_due w.past w.machine first.thread ≡ true
    → AreLeadersBelow w t (record { due = Some first; free = Some first })
leaders-first w t first leads due = by (best w.past w.machine (free_below w t)) refl
  where
    by :
        (o : Option ℕ) → best w.past w.machine (free_below w t) ≡ o
        → AreLeadersBelow w t (record { due = Some first; free = Some first })
    by None none = cc
    by (Some u) some =
        let is : first ≡ candidate_of w.past w.machine u = cc in
        let passes : is_due w.past w.machine u ≡ true =
        ap (λ (c : Candidate). is_due w.past w.machine c.thread) (sym is) ∙ due in
        record {
          due = leads ∙ ap (option_map (candidate_of w.past w.machine))
              (some ∙ sym ((due-ahead w t).kept u some passes));
          free = leads;
        }

better-leads : (leader : Option Candidate) (next : Candidate) → leads leader next ≡ true → better leader next ≡ next
better-leads None next is = refl
better-leads (Some leader) next is = rw is refl

better-stays : (leader : Option Candidate) (next : Candidate) → leads leader next ≡ false → Some (better leader next) ≡ leader
better-stays None next is = cc
better-stays (Some leader) next is = rw is refl

-- a thread that is due and leads
pub leaders-due :
    (w : RoundState) (t place number : ℕ) (found : Leaders)
    → AreLeadersBelow w t found
    → is_free_in w.machine w.in_flight t ≡ true
    → leads found.due (record { thread = t; place = place; number = number }) ≡ true
    → is_due w.past w.machine t ≡ true
    → place ≡ place_in w.past w.machine t → number ≡ (hart_of w.machine t).number
    → AreLeadersBelow w (t + 1)
    (record {
      due = Some (record { thread = t; place = place; number = number });
      free = Some (better found.free (record { thread = t; place = place; number = number }));
    })
leaders-due w t place number found below free first due is_place is_number = record {
  due =
      ap (λ (c : Candidate). Some c)
      (sym (better-leads found.due (record { thread = t; place = place; number = number }) first))
      ∙ due-more w t place number found below free due is_place is_number;
  free =
      leads-below w (free_below w t) found.free t place number below.free is_place is_number
      ∙ ap (leader_of w) (sym (free-more w t free));
}

-- a thread that wouldn't lead, due or not
pub leaders-behind :
    (w : RoundState) (t place number : ℕ) (found : Leaders)
    → AreLeadersBelow w t found
    → is_free_in w.machine w.in_flight t ≡ true
    → leads found.due (record { thread = t; place = place; number = number }) ≡ false
    → place ≡ place_in w.past w.machine t → number ≡ (hart_of w.machine t).number
    → AreLeadersBelow w (t + 1)
    (record {
      due = found.due;
      free = Some (better found.free (record { thread = t; place = place; number = number }));
    })
leaders-behind w t place number found below free behind is_place is_number = by (is_due w.past w.machine t) refl
  where
    by :
        (b : Bool) → is_due w.past w.machine t ≡ b
        → AreLeadersBelow w (t + 1)
        (record {
          due = found.due;
          free = Some (better found.free (record { thread = t; place = place; number = number }));
        })
    by true due = record {
      due =
          sym (better-stays found.due (record { thread = t; place = place; number = number }) behind)
          ∙ due-more w t place number found below free due is_place is_number;
      free =
          leads-below w (free_below w t) found.free t place number below.free is_place is_number
          ∙ ap (leader_of w) (sym (free-more w t free));
    }
    by false due = leaders-free w t place number found below free due is_place is_number

-- the choice, by the leaders

choice-below :
    (w : RoundState)
    → choice_by w.past w.machine w.in_flight
    ≡ best w.past w.machine (eligible (due_below w (length w.machine.harts)) (free_below w (length w.machine.harts))
    (is_any_in_flight w.in_flight))
unfolding choice_by free_threads
choice-below w = refl

-- the thread of a leader
thread-of :
    (w : RoundState) (threads : List ℕ)
    → option_map (λ (c : Candidate). c.thread) (leader_of w threads) ≡ best w.past w.machine threads
thread-of w threads = by (best w.past w.machine threads)
  where
    by : (o : Option ℕ) → option_map (λ (c : Candidate). c.thread) (option_map (candidate_of w.past w.machine) o) ≡ o
    by None = refl
    by (Some t) = refl

eligible-due :
    (w : RoundState) (due free : List ℕ) (any : Bool) (t : ℕ)
    → best w.past w.machine due ≡ Some t → best w.past w.machine (eligible due free any) ≡ Some t
eligible-due w [] free any t is = let none = best-nobody w.past w.machine in cc
eligible-due w (u ∷ due) free any t is = is

eligible-none :
    (w : RoundState) (due free : List ℕ) (any : Bool)
    → best w.past w.machine due ≡ None → best w.past w.machine (eligible due free any)
    ≡ cond any None (best w.past w.machine free)
eligible-none w due free any is = rw (best-none w.past w.machine due is) (by any)
  where
    by : (b : Bool) → best w.past w.machine (eligible [] free b) ≡ cond b None (best w.past w.machine free)
    by true = best-nobody w.past w.machine
    by false = refl

pub choice-due :
    (w : RoundState) (found : Leaders) (leader : Candidate)
    → AreLeadersBelow w (length w.machine.harts) found → found.due ≡ Some leader
    → choice_by w.past w.machine w.in_flight ≡ Some leader.thread
choice-due w found leader leads is =
    choice-below w
    ∙ eligible-due w (due_below w (length w.machine.harts)) (free_below w (length w.machine.harts)) (is_any_in_flight w.in_flight)
    leader.thread
    (sym (thread-of w (due_below w (length w.machine.harts)))
    ∙ ap (option_map (λ (c : Candidate). c.thread)) (sym leads.due ∙ is))

pub choice-free :
    (w : RoundState) (found : Leaders) (any : Bool)
    → AreLeadersBelow w (length w.machine.harts) found → found.due ≡ None → is_any_in_flight w.in_flight ≡ any
    → choice_by w.past w.machine w.in_flight ≡ cond any None (option_map (λ (c : Candidate). c.thread) found.free)
choice-free w found any leads is in_flight =
    choice-below w
    ∙ ap (λ b. best w.past w.machine
    (eligible (due_below w (length w.machine.harts)) (free_below w (length w.machine.harts)) b)) in_flight
    ∙ eligible-none w (due_below w (length w.machine.harts)) (free_below w (length w.machine.harts)) any
    (sym (thread-of w (due_below w (length w.machine.harts)))
    ∙ ap (option_map (λ (c : Candidate). c.thread)) (sym leads.due ∙ is))
    ∙ ap (cond any None)
    (sym (thread-of w (free_below w (length w.machine.harts)))
    ∙ ap (option_map (λ (c : Candidate). c.thread)) (sym leads.free))

-- the choice is the leader of the due threads, if there is one or any thread is in flight, and else the leader of
-- all
pub choice-of :
    (w : RoundState) (found : Leaders) (b : Bool)
    → AreLeadersBelow w (length w.machine.harts) found → (is_some found.due || is_any_in_flight w.in_flight) ≡ b
    → choice_by w.past w.machine w.in_flight ≡ option_map (λ (c : Candidate). c.thread) (cond b found.due found.free)
choice-of w found b leads is = by found.due (is_any_in_flight w.in_flight) refl refl is
  where
    by :
        (due : Option Candidate) (any : Bool)
        → found.due ≡ due → is_any_in_flight w.in_flight ≡ any → (is_some due || any) ≡ b
        → choice_by w.past w.machine w.in_flight ≡ option_map (λ (c : Candidate). c.thread) (cond b found.due found.free)
    by (Some leader) any some in_flight both =
        choice-due w found leader leads some
        ∙ ap (option_map (λ (c : Candidate). c.thread)) (sym some)
        ∙ ap (λ x. option_map (λ (c : Candidate). c.thread) (cond x found.due found.free)) both
    by None true none in_flight both =
        choice-free w found true leads none in_flight
        ∙ ap (option_map (λ (c : Candidate). c.thread)) (sym none)
        ∙ ap (λ x. option_map (λ (c : Candidate). c.thread) (cond x found.due found.free)) both
    by None false none in_flight both =
        choice-free w found false leads none in_flight
        ∙ ap (λ x. option_map (λ (c : Candidate). c.thread) (cond x found.due found.free)) both

-- if all threads are due and none is in flight, the best free one is chosen

filter-all : (p : ℕ → Bool) (xs : List ℕ) → ((u : ℕ) → p u ≡ true) → filter p xs ≡ xs
filter-all p [] all = refl
filter-all p (x ∷ xs) all = rw (all x) (ap (λ (us : List ℕ). x ∷ us) (filter-all p xs all))

pub choice-all_due :
    (w : RoundState) (leader : Option Candidate)
    → ((u : ℕ) → is_due w.past w.machine u ≡ true) → is_any_in_flight w.in_flight ≡ false
    → leader ≡ leader_of w (free_below w (length w.machine.harts))
    → choice_by w.past w.machine w.in_flight ≡ option_map (λ (c : Candidate). c.thread) leader
choice-all_due w leader all nobody leads = by leader leads
  where
    by :
        (first : Option Candidate) → first ≡ leader_of w (free_below w (length w.machine.harts))
        → choice_by w.past w.machine w.in_flight ≡ option_map (λ (c : Candidate). c.thread) first
    by first is =
        choice-of w (record { due = first; free = first }) (is_some first || is_any_in_flight w.in_flight)
        (record {
          due =
              is
              ∙ ap (leader_of w)
              (sym (filter-all (is_due w.past w.machine) (free_below w (length w.machine.harts)) all));
          free = is;
        })
        refl
        ∙ either (is_some first || is_any_in_flight w.in_flight) first
      where
        either :
            (b : Bool) (c : Option Candidate)
            → option_map (λ (x : Candidate). x.thread) (cond b c c) ≡ option_map (λ (x : Candidate). x.thread) c
        either true c = refl
        either false c = refl

-- the chosen thread is free

eligible-all :
    (P : ℕ → Type 0) (due free : List ℕ) (any : Bool)
    → AllByRecursion P due → AllByRecursion P free → AllByRecursion P (eligible due free any)
eligible-all P (t ∷ due) free any all_due all_free = all_due
eligible-all P [] free true all_due all_free = tt
eligible-all P [] free false all_due all_free = all_free

choice-is_free :
    (w : RoundState) (t : ℕ) → choice_by w.past w.machine w.in_flight ≡ Some t
    → is_free_in w.machine w.in_flight t ≡ true
choice-is_free w t is =
    let all = all-pass (is_free_in w.machine w.in_flight) (range_with_len 0 (length w.machine.harts)) in
    best-all (λ u. is_free_in w.machine w.in_flight u ≡ true) w.past w.machine
    (eligible (due_below w (length w.machine.harts)) (free_below w (length w.machine.harts)) (is_any_in_flight w.in_flight)) t
    (eligible-all (λ u. is_free_in w.machine w.in_flight u ≡ true) (due_below w (length w.machine.harts))
    (free_below w (length w.machine.harts)) (is_any_in_flight w.in_flight)
    (all-filter (λ u. is_free_in w.machine w.in_flight u ≡ true) (is_due w.past w.machine)
    (free_below w (length w.machine.harts)) all)
    all)
    (sym (choice-below w) ∙ is)

-- what is picked

pub pick-over : (w : RoundState) → is_finished w ≡ true → pick_of w ≡ pick.Over
unfolding pick_of
pick-over w over = rw over refl

pub pick-stopped : (w : RoundState) → w.stopped ≡ true → pick_of w ≡ pick.Over
pick-stopped w stopped = pick-over w (or_right (is_some w.machine.ending) w.stopped stopped)

pick-going :
    (w : RoundState) → is_finished w ≡ false
    → pick_of w ≡ with_choice w.past w.machine (choice_by w.past w.machine w.in_flight)
unfolding pick_of
pick-going w going = rw going refl

pub pick-hold : (w : RoundState) → is_finished w ≡ false → choice_by w.past w.machine w.in_flight ≡ None → pick_of w ≡ pick.Hold
pick-hold w going none = pick-going w going ∙ ap (with_choice w.past w.machine) none

chosen-fits :
    (w : RoundState) (t : ℕ)
    → is_finished w ≡ false → choice_by w.past w.machine w.in_flight ≡ Some t → can_reuse w t ≡ fits_next w.past w.machine t
chosen-fits w t going chosen = rw (going, choice-is_free w t chosen) refl

pub pick-chosen :
    (w : RoundState) (t : ℕ) (fit : Bool)
    → is_finished w ≡ false → choice_by w.past w.machine w.in_flight ≡ Some t → can_reuse w t ≡ fit
    → pick_of w ≡ cond fit (pick.Reuse t) (pick.Run t)
pick-chosen w t fit going chosen can =
    pick-going w going ∙ ap (with_choice w.past w.machine) chosen
    ∙ ap (λ b. cond b (pick.Reuse t) (pick.Run t)) (sym (chosen-fits w t going chosen) ∙ can)

-- if a worker has to wait, no free thread is due
pub hold-none_due :
    (w : RoundState) (t : ℕ) → pick_of w ≡ pick.Hold → is_free_in w.machine w.in_flight t ≡ true
    → is_due w.past w.machine t ≡ false
hold-none_due w t held free = by (is_finished w) (choice_by w.past w.machine w.in_flight) refl refl
  where
    neither : (fit : Bool) (u : ℕ) → cond fit (pick.Reuse u) (pick.Run u) ≡ pick.Hold → ⊥
    neither true u is = cc
    neither false u is = cc

    by :
        (over : Bool) (o : Option ℕ) → is_finished w ≡ over → choice_by w.past w.machine w.in_flight ≡ o
        → is_due w.past w.machine t ≡ false
    by true o is chosen = absurd (let both : pick.Over ≡ pick.Hold = sym (pick-over w is) ∙ held in cc)
    by false None is chosen = choice_by-none w.past w.machine w.in_flight t chosen free
    by false (Some u) is chosen =
        absurd
        (neither (can_reuse w u) u (sym (pick-chosen w u (can_reuse w u) is chosen refl) ∙ held))

-- and what was picked can be done

picked-by :
    (w : RoundState) (over : Bool) (o : Option ℕ) (p : Pick)
    → is_finished w ≡ over → choice_by w.past w.machine w.in_flight ≡ o → pick_of w ≡ p
    → ((t : ℕ) → p ≡ pick.Reuse t → can_reuse w t ≡ true) × ((t : ℕ) → p ≡ pick.Run t → can_take w t ≡ true)
picked-by w true o p over chosen is = let none = pick-over w over in (λ t same. cc, λ t same. cc)
picked-by w false None p over chosen is = let none = pick-hold w over chosen in (λ t same. cc, λ t same. cc)
picked-by w false (Some u) p over chosen is = by (fits_next w.past w.machine u) refl
  where
    by :
        (fit : Bool) → fits_next w.past w.machine u ≡ fit
        → ((t : ℕ) → p ≡ pick.Reuse t → can_reuse w t ≡ true) × ((t : ℕ) → p ≡ pick.Run t → can_take w t ≡ true)
    by true fit =
        let can : can_reuse w u ≡ true = chosen-fits w u over chosen ∙ fit in
        let reuses : pick_of w ≡ pick.Reuse u = pick-chosen w u true over chosen can in (
          λ t same. let is_t : u ≡ t = cc in ap (can_reuse w) (sym is_t) ∙ can,
          λ t same. cc,
        )
    by false fit =
        let runs : pick_of w ≡ pick.Run u = pick-chosen w u false over chosen (chosen-fits w u over chosen ∙ fit) in
        let can : can_take w u ≡ true = rw (over, choice-is_free w u chosen, fit) refl in
        (λ t same. cc, λ t same. let is_t : u ≡ t = cc in ap (can_take w) (sym is_t) ∙ can)

pub picked-run : (w : RoundState) (t : ℕ) → pick_of w ≡ pick.Run t → can_take w t ≡ true
picked-run w t is = (picked-by w (is_finished w) (choice_by w.past w.machine w.in_flight) (pick_of w) refl refl refl).1 t is

-- whether anything is picked doesn't depend on which records fit
pub something_picked :
    (w : RoundState)
    → (not (is_finished w) && is_some (choice_by w.past w.machine w.in_flight)) ≡ is_something (pick_of w)
something_picked w = by (is_finished w) (choice_by w.past w.machine w.in_flight) refl refl
  where
    either : (fit : Bool) (t : ℕ) → is_something (cond fit (pick.Reuse t) (pick.Run t)) ≡ true
    either true t = refl
    either false t = refl

    by :
        (over : Bool) (o : Option ℕ) → is_finished w ≡ over → choice_by w.past w.machine w.in_flight ≡ o
        → (not over && is_some o) ≡ is_something (pick_of w)
    by true o is chosen = sym (ap is_something (pick-over w is))
    by false None is chosen = sym (ap is_something (pick-hold w is chosen))
    by false (Some t) is chosen =
        sym
        (ap is_something (pick-chosen w t (can_reuse w t) is chosen refl) ∙ either (can_reuse w t) t)
