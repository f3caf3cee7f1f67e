-- A step that may come next gives no view to a thread with a remaining step before it in the old order.
use Rattle.std.proofs.Common.{◌≡◌, ◌≢◌, ◌<◌, ◌≤◌, ◌+◌, ℕ, suc, Bool, true, false, ◌&&◌, ◌||◌, not, eqb, cond, List, [], ◌∷◌, ◌++◌, length, get_or, Option, Some, None, is_none, refl, ap, sym, ◌∙◌, inl, inr, arith}
use Rattle.std.proofs.lemmas.Bool.{cases_eq, eq-eqb}
use Rattle.std.proofs.lemmas.Bool.Decides.{nat_tests}
use Rattle.std.specs.List.{AllByRecursion}
use Rattle.guest_call.specs.declared.Fate.{Fate}
use Rattle.guest_call.specs.declared.Fate.TheVariants.{Returns, Blocks, Ends, Exits}
use Rattle.thunk_spec.specs.Record.{Record}
use Rattle.machine_spec.specs.Machine.{Machine, hart_of, is_ready}
use Rattle.machine_spec.specs.Step.{apply, fits}
use Rattle.machine_spec.specs.Whole.{IsWhole}
use Rattle.machine_spec.proofs.Harts.{ready-below}
use Rattle.history_spec.specs.History.{can_apply_from}
use Rattle.history_spec.proofs.Applying.{fits-can_step, apply-whole}
use Rattle.history_spec.specs.Facts.{Fact, ask_of, effect_of, returning, starting, served_by, fact_of, facts_from}
use Rattle.history_spec.specs.Before.{is_in, no_fact}
use Rattle.history_spec.specs.Keeping.{set_second, moved, fact_thread, record_thread, is_free_of, may_come}
use Rattle.history_spec.proofs.Lists.{and-left, and-right, not-true, is_in-append}
use Rattle.history_spec.proofs.After.{unwoken, waits-ready}
use Rattle.history_spec.proofs.Alike.{IsReading, fits-parts}
use Rattle.history_spec.proofs.Simulate.{reading-apply}
use Rattle.history_spec.proofs.Every.{IsFront, fit-facts, front, moved-full}
use Rattle.history_spec.proofs.Honest.{head-thread}
use Rattle.history_spec.proofs.Places.{left_from}

returning-other : (t u : ℕ) (f : Fate) → u ≢ t → is_in u (returning t f) ≡ false
returning-other t u (Returns a b) other = let isnt : eqb t u ≡ false = grind (arith, nat_tests) in rw isnt refl
returning-other t u Blocks other = refl
returning-other t u (Ends v) other = refl
returning-other t u (Exits code) other = refl

pub starting-below : (c : Option (ℕ × ℕ)) (n u : ℕ) → u < n → is_in u (starting n c) ≡ false
starting-below None n u below = refl
starting-below (Some c) n u below = let isnt : eqb n u ≡ false = grind (arith, nat_tests) in rw isnt refl

-- another thread gives no view to a ready one
pub unserved :
    (m : Machine) (r : Record) (u : ℕ)
    → IsWhole m → fits m r ≡ true → is_ready (hart_of m u).status ≡ true → u ≢ r.thread
    → is_in u (served_by m r) ≡ false
unserved m r u whole fit ready other =
    let e = effect_of m r in
    let one : is_in u (returning r.thread (effect_of m r).fate) ≡ false =
    returning-other r.thread u (effect_of m r).fate other in
    let two : is_in u (effect_of m r).woken ≡ false =
    unwoken m r.thread (ask_of r) u whole.tied (fits-parts m r fit).ready other (waits-ready m u whole.tied ready) in
    let three : is_in u (starting (length m.harts) (effect_of m r).created) ≡ false =
    starting-below (effect_of m r).created (length m.harts) u (ready-below m.harts u ready) in
    is_in-append u (returning r.thread (effect_of m r).fate)
    ((effect_of m r).woken ++ starting (length m.harts) (effect_of m r).created)
    ∙ (let rest : is_in u ((effect_of m r).woken ++ starting (length m.harts) (effect_of m r).created) ≡ false =
    is_in-append u (effect_of m r).woken (starting (length m.harts) (effect_of m r).created)
    ∙ (rw (two, three) refl) in rw (one, rest) refl)

-- the threads to which the first of some steps gives a view
abbrev pub given_of : List Fact → List ℕ
given_of [] = []
given_of (g ∷ gs) = g.given

-- whether, before the first step of a thread, no step is of one of some threads
abbrev pub ahead_free : ℕ → List ℕ → List Fact → Bool
ahead_free t given [] = true
ahead_free t given (f ∷ fs) = eqb f.thread t || (not (is_in f.thread given) && ahead_free t given fs)

front-given :
    (reads : ℕ → ℕ → List ℕ) (m : Machine) (t : ℕ) (a : Record) (rs qs : List Record) (fs : List Fact)
    → IsFront reads m rs qs fs → IsWhole m → fits m a ≡ true → a.thread ≢ t
    → ((g : Fact) (gs : List Fact) → fs ≡ g ∷ gs → g.thread ≡ t)
    → is_in a.thread (given_of fs) ≡ false
front-given reads m t a rs [] fs front whole fit other head =
    ap (λ (gs : List Fact). is_in a.thread (given_of gs)) (sym front.facts)
front-given reads m t a rs (b ∷ rest) fs front whole fit other head =
    let here : (is_none m.ending && fits m b) ≡ true = and-left (is_none m.ending && fits m b) _ front.following.can in
    let reported : fs ≡ fact_of reads m b ∷ facts_from reads (apply m b) rest =
    sym front.facts ∙ fit-facts reads m b rest here in
    let own : b.thread ≡ t = head (fact_of reads m b) (facts_from reads (apply m b) rest) reported in
    ap (λ (gs : List Fact). is_in a.thread (given_of gs)) reported
    ∙ unserved m b a.thread whole (and-right (is_none m.ending) (fits m b) here) (fits-parts m a fit).ready
    (λ e. other (e ∙ own))

given-second : (f : Fact) (gs : List Fact) → (gs ≡ [] → ⊥) → given_of (set_second f gs) ≡ given_of gs
given-second f [] full = absurd (full refl)
given-second f (g ∷ gs) full = refl

pub given-free :
    (reads : ℕ → ℕ → List ℕ) (t : ℕ) (rs : List Record) (m : Machine)
    → IsWhole m → AllByRecursion (IsReading reads m.frame) rs → can_apply_from m rs ≡ true
    → may_come t (facts_from reads m rs) ≡ true
    → ahead_free t (given_of (moved fact_thread t (facts_from reads m rs))) (facts_from reads m rs) ≡ true
given-free reads t [] m whole reading can may = refl
given-free reads t (a ∷ rs) m whole reading can may =
    let here : (is_none m.ending && fits m a) ≡ true =
    and-left (is_none m.ending && fits m a) (can_apply_from (apply m a) rs) can in
    let later : can_apply_from (apply m a) rs ≡ true =
    and-right (is_none m.ending && fits m a) (can_apply_from (apply m a) rs) can in
    let none : is_none m.ending ≡ true = and-left (is_none m.ending) (fits m a) here in
    let fit : fits m a ≡ true = and-right (is_none m.ending) (fits m a) here in
    let reported : facts_from reads m (a ∷ rs) ≡ fact_of reads m a ∷ facts_from reads (apply m a) rs =
    fit-facts reads m a rs here in
    let all : IsFront reads m (a ∷ rs) (moved record_thread t (a ∷ rs))
    (moved fact_thread t (facts_from reads m (a ∷ rs))) = front reads t (a ∷ rs) m whole reading can may in
    elim (cases_eq a.thread t) [
      | inl same ↦ (let own : eqb a.thread t ≡ true = eq-eqb a.thread t same in rw reported (rw own refl))
      | inr other ↦
          let not_own : eqb a.thread t ≡ false = grind (arith, nat_tests) in
          let may_told :
          (eqb a.thread t
          || (may_come t (facts_from reads (apply m a) rs)
          && is_free_of (fact_of reads m a) (moved fact_thread t (facts_from reads (apply m a) rs)))) ≡ true =
          rw reported at may in
          let may_next : may_come t (facts_from reads (apply m a) rs) ≡ true =
          and-left (may_come t (facts_from reads (apply m a) rs))
          (is_free_of (fact_of reads m a) (moved fact_thread t (facts_from reads (apply m a) rs)))
          (rw not_own at may_told) in
          let rest : ahead_free t (given_of (moved fact_thread t (facts_from reads (apply m a) rs)))
          (facts_from reads (apply m a) rs) ≡ true =
          given-free reads t rs (apply m a) (apply-whole m a whole (fits-can_step m a none fit))
          (reading-apply reads m a rs reading.1) later may_next in
          let apart : is_in a.thread (given_of (moved fact_thread t (facts_from reads m (a ∷ rs)))) ≡ false =
          front-given reads m t a (a ∷ rs) (moved record_thread t (a ∷ rs))
          (moved fact_thread t (facts_from reads m (a ∷ rs))) all whole fit other
          (λ g gs is. head-thread t (facts_from reads m (a ∷ rs)) g gs may is) in
          let second : given_of (moved fact_thread t (facts_from reads m (a ∷ rs)))
          ≡ given_of (moved fact_thread t (facts_from reads (apply m a) rs)) =
          ap (λ (gs : List Fact). given_of (moved fact_thread t gs)) reported
          ∙ (let is : moved fact_thread t (fact_of reads m a ∷ facts_from reads (apply m a) rs)
          ≡ set_second (fact_of reads m a) (moved fact_thread t (facts_from reads (apply m a) rs)) = (rw not_own refl) in
          ap given_of is)
          ∙ given-second (fact_of reads m a) (moved fact_thread t (facts_from reads (apply m a) rs))
          (moved-full t (facts_from reads (apply m a) rs) may_next) in
          let apart_next : is_in a.thread (given_of (moved fact_thread t (facts_from reads (apply m a) rs))) ≡ false =
          ap (is_in a.thread) (sym second) ∙ apart in
          ap (λ (ks : List ℕ). ahead_free t ks (facts_from reads m (a ∷ rs))) second
          ∙ ap (ahead_free t (given_of (moved fact_thread t (facts_from reads (apply m a) rs)))) reported
          ∙ (rw (not_own, apart_next) rest)
    ]

-- so of the remaining places before place j
pub ahead-at :
    (come : List ℕ) (look : ℕ → Fact) (j : ℕ) (given : List ℕ) (gs : List Fact) (k i : ℕ)
    → is_in i come ≡ false → k ≤ i → i < j → j < k + length gs
    → ((n : ℕ) → get_or gs n no_fact ≡ look (k + n))
    → ((n : ℕ) → k ≤ n → n < j → is_in n come ≡ false → eqb (look n).thread (look j).thread ≡ false)
    → ahead_free (look j).thread given (left_from k come gs) ≡ true
    → is_in (look i).thread given ≡ false
ahead-at come look j given [] k i isnt low less high at free all = absurd (omega arith)
ahead-at come look j given (g ∷ gs) k i isnt low less high at free all =
    here (λ above all_next.
    ahead-at come look j given gs (suc k) i isnt above less (omega arith) (λ n. at (suc n) ∙ ap look (omega arith))
    (λ n lo hi none. free n (omega arith) hi none) all_next)
    (is_in k come) refl all
  where
    here :
        (suc k ≤ i → ahead_free (look j).thread given (left_from (suc k) come gs) ≡ true
        → is_in (look i).thread given ≡ false)
        → (b : Bool) → is_in k come ≡ b
        → ahead_free (look j).thread given (cond b (left_from (suc k) come gs) (g ∷ left_from (suc k) come gs)) ≡ true
        → is_in (look i).thread given ≡ false
    here next true is h =
        elim (cases_eq k i) [
          | inl same ↦ absurd (let there : is_in i come ≡ true = rw (← same) is in cc)
          | inr other ↦ next (omega arith) h
        ]
    here next false none h =
        let g_is : g ≡ look k = at 0 ∙ ap look (omega arith) in
        let not_own : eqb g.thread (look j).thread ≡ false =
        ap (λ (f : Fact). eqb f.thread (look j).thread) g_is ∙ free k (omega arith) (omega arith) none in
        let both : (not (is_in g.thread given) && ahead_free (look j).thread given (left_from (suc k) come gs)) ≡ true =
        rw not_own at h in
        elim (cases_eq k i) [
          | inl same ↦
              let out : is_in g.thread given ≡ false =
              not-true (is_in g.thread given)
              (and-left (not (is_in g.thread given))
              (ahead_free (look j).thread given (left_from (suc k) come gs)) both) in
              ap (λ (f : Fact). is_in f.thread given) (ap look (sym same) ∙ sym g_is) ∙ out
          | inr other ↦ next (omega arith)
              (and-right (not (is_in g.thread given))
              (ahead_free (look j).thread given (left_from (suc k) come gs)) both)
        ]
