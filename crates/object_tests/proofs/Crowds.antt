-- A thread that waits nowhere doesn't wait later, unless it makes a call that blocks.
use Rattle.std.proofs.Common.{◌≡◌, ◌≢◌, ℕ, ◌+◌, ◌<◌, ◌≤◌, ◌==◌, Bool, true, false, ◌&&◌, not, List, [], ◌∷◌, Option, length, zero, suc, refl, slice_index_or, slice_set, arith, ap, sym, subst, ◌∙◌, ⊎_elim, true≢false}
use Rattle.std.specs.List.{list_any}
use Rattle.std.proofs.lemmas.Bool.{cases_eq}
use Rattle.std.proofs.lemmas.Bool.Decides.{nat_tests}
use Rattle.std.proofs.lemmas.List.{get_or-set_same, get_or-set_other}
use Rattle.guest_call.specs.declared.Call.{Call}
use Rattle.guest_call.specs.declared.Fate.{Fate}
use Rattle.guest_call.specs.declared.Fate.TheVariants.{Returns}
use Rattle.guest_call.specs.Effect.{Effect, waiting}
use Rattle.guest_call.specs.Objects.{Objects, act, waits_at, IsKept}
use Rattle.guest_call.specs.Queues.{places, entering}
use Rattle.guest_call.proofs.Conservation.{act_keeps}
use Rattle.guest_call.proofs.Kept.{act_kept}
use Rattle.guest_call.proofs.Counting.{places-cons, waiting-le, entering-returns, entering-other, entering-le}
use Rattle.object_tests.specs.Crowds.{AreIdle}

keeps :
    (o after : Objects) (e : Effect) (t : ℕ) (call : Call)
    → ((readable : ℕ → ℕ → Bool) → (e, after) ≡ act readable o t call) → IsKept o → t < length o.threads → (u : ℕ)
    → waits_at after u + places u e.woken ≡ waits_at o u + entering t e.fate u
keeps o after e t call done kept there u =
    subst (λ (r : Effect × Objects). waits_at r.1 u + places u r.0.woken ≡ waits_at o u + entering t r.0.fate u)
    (sym (done (λ p n. false))) (act_keeps (λ p n. false) o t call kept there u)

-- a thread in a queue is counted there at least once
found : (u : ℕ) (q : List ℕ) → list_any (λ w. w == u) q ≡ true → 1 ≤ places u q
found u [] is = absurd (true≢false (sym is))
found u (w ∷ q) is = grind (arith, places-cons u w q, found u q, is)

entering_none : (t : ℕ) (f : Fate) (u : ℕ) → waiting f ≡ 0 → entering t f u ≡ 0
unfolding entering
entering_none t f u none = grind (arith, none)

-- a flag that isn't set afterwards was not set by the write
set_mark : (marks : List Bool) (t : ℕ) (b : Bool) → slice_index_or (slice_set marks t b) t true ≡ false → b ≡ false
set_mark [] t b is = absurd (true≢false is)
set_mark (m ∷ marks) zero b is = is
set_mark (m ∷ marks) (suc t) b is = set_mark marks t b is

unmarked_before : (mark woken : Bool) → woken ≡ false → (mark && not woken) ≡ false → mark ≡ false
unmarked_before false woken apart is = refl
unmarked_before true false apart is = absurd (true≢false is)
unmarked_before true true apart is = absurd (true≢false apart)

-- a thread that is marked as not waiting after a call waits nowhere, if that was so before the call
marked_after :
    (o after : Objects) (e : Effect) (t : ℕ) (call : Call) (before marks : List Bool) (blocked : Bool)
    → ((readable : ℕ → ℕ → Bool) → (e, after) ≡ act readable o t call) → IsKept o → t < length o.threads
    → ((u : ℕ) → slice_index_or before u true ≡ false → waits_at o u ≡ 0) → waits_at o t ≡ 0
    → (blocked ≡ false → waiting e.fate ≡ 0)
    → ((u : ℕ)
    → slice_index_or marks u true
    ≡ (slice_index_or (slice_set before t blocked) u true && not (list_any (λ w. w == u) e.woken)))
    → (u : ℕ) → slice_index_or marks u true ≡ false → waits_at after u ≡ 0
marked_after o after e t call before marks blocked done kept there idle free stays marked u unmarked =
    by_woken (list_any (λ w. w == u) e.woken) refl
  where
    after_u : waits_at after u + places u e.woken ≡ waits_at o u + entering t e.fate u
    after_u = keeps o after e t call done kept there u

    few : waits_at o u + entering t e.fate u ≤ 1
    few =
        ⊎_elim (λ same. omega (arith, entering-le t e.fate u, ap (waits_at o) same, free))
        (λ other. omega (arith, entering-other t e.fate u other, kept.once u)) (cases_eq u t)

    caller : u ≡ t → slice_index_or (slice_set before t blocked) u true ≡ false → waits_at after u ≡ 0
    caller same kept_mark =
        let here : slice_index_or (slice_set before t blocked) t true ≡ false =
        subst (λ (v : ℕ). slice_index_or (slice_set before t blocked) v true ≡ false) same kept_mark in
        let returned : blocked ≡ false = set_mark before t blocked here in
        omega (arith, after_u, ap (waits_at o) same, free, entering_none t e.fate u (stays returned))

    another : u ≢ t → slice_index_or (slice_set before t blocked) u true ≡ false → waits_at after u ≡ 0
    another other kept_mark =
        let was : slice_index_or before u true ≡ false =
        sym (get_or-set_other before t u blocked true other) ∙ kept_mark in
        omega (arith, after_u, idle u was, entering-other t e.fate u other)

    by_woken : (b : Bool) → list_any (λ w. w == u) e.woken ≡ b → waits_at after u ≡ 0
    by_woken true woken = omega (arith, after_u, few, found u e.woken woken)
    by_woken false apart =
        let kept_mark : slice_index_or (slice_set before t blocked) u true ≡ false =
        unmarked_before (slice_index_or (slice_set before t blocked) u true) (list_any (λ w. w == u) e.woken) apart
        (sym (marked u) ∙ unmarked) in
        ⊎_elim (λ same. caller same kept_mark) (λ other. another other kept_mark) (cases_eq u t)

-- the same if the caller's place and the woken threads are given by equal terms
pub marked_there :
    (o after : Objects) (e : Effect) (t place : ℕ) (call : Call) (before marks : List Bool) (blocked : Bool) (f : Fate)
    (woken : List ℕ)
    → ((readable : ℕ → ℕ → Bool) → (e, after) ≡ act readable o t call) → IsKept o → t < length o.threads
    → ((u : ℕ) → slice_index_or before u true ≡ false → waits_at o u ≡ 0) → waits_at o t ≡ 0 → place ≡ t
    → f ≡ e.fate → blocked ≡ (waiting f == 1) → woken ≡ e.woken
    → ((u : ℕ)
    → slice_index_or marks u true
    ≡ (slice_index_or (slice_set before place blocked) u true && not (list_any (λ w. w == u) woken)))
    → (u : ℕ) → slice_index_or marks u true ≡ false → waits_at after u ≡ 0
marked_there o after e t place call before marks blocked f woken done kept there idle free here fate reported queue marked =
    marked_after o after e t call before marks blocked done kept there idle free
    (λ returned. grind (arith, nat_tests, waiting-le e.fate, fate, reported, returned))
    (λ u. marked u
    ∙ ap (λ (n : ℕ). slice_index_or (slice_set before n blocked) u true && not (list_any (λ w. w == u) woken)) here
    ∙ ap (λ (q : List ℕ). slice_index_or (slice_set before t blocked) u true && not (list_any (λ w. w == u) q)) queue)

pub kept_after :
    (o after : Objects) (e : Effect) (t : ℕ) (call : Call)
    → ((readable : ℕ → ℕ → Bool) → (e, after) ≡ act readable o t call) → IsKept o → t < length o.threads
    → waits_at o t ≡ 0 → IsKept after
kept_after o after e t call done kept there free =
    subst (λ (r : Effect × Objects). IsKept r.1) (sym (done (λ p n. false)))
    (act_kept (λ p n. false) o t call kept there free)

pub still_idle :
    (o after : Objects) (e : Effect) (t answer : ℕ) (second : Option ℕ) (call : Call)
    → ((readable : ℕ → ℕ → Bool) → (e, after) ≡ act readable o t call) → AreIdle o → t < length o.threads
    → e.fate ≡ Returns answer second → AreIdle after
still_idle o after e t answer second call done before there returns = record {
  kept = kept_after o after e t call done before.kept there (before.idle t);
  idle = λ u. omega (
    arith,
    keeps o after e t call done before.kept there u,
    ap (λ f. entering t f u) returns,
    entering-returns t answer second u,
    before.idle u,
  );
}
