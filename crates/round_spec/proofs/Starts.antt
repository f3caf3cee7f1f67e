-- Two setups of one program start as machines that are near each other: their start memories differ only on the changed
-- pages.
--
use Rattle.std.proofs.Common.{◌≡◌, ◌<◌, ◌≤◌, ◌+◌, ℕ, zero, suc, Bool, true, false, not, eqb, cond, List, [], ◌∷◌, length, filter, refl, ap, sym, ◌∙◌, inl, inr, arith}
use Rattle.std.proofs.lemmas.Bool.{cases_lt, cases_eq, eq-eqb}
use Rattle.std.proofs.lemmas.Slice.Eq.{bytes_eq-Decides}
use Rattle.std.proofs.lemmas.List.{get_or_past}
use Rattle.std.specs.List.{range_with_len}
use Rattle.std.specs.Str.{bytes_eq}
use Rattle.memory_spec.specs.Pages.{Memory, page_of}
use Rattle.elf_spec.specs.Image.{entry_of}
use Rattle.machine_spec.specs.Machine.{hart_of, is_ready}
use Rattle.machine_spec.specs.Performing.{first_hart}
use Rattle.machine_spec.specs.Setup.{Setup, first, start_memory, map_of}
use Rattle.machine_spec.proofs.Beginning.{IsMemory-start}
use Rattle.history_spec.specs.History.{IsSameProgram}
use Rattle.history_spec.specs.Before.{is_in}
use Rattle.history_spec.proofs.Lists.{or-left, or-right}
use Rattle.history_spec.proofs.Near.{plain, IsNear}
use Rattle.round_spec.specs.Reach.{changed_slots, changed}

same-map : (a b : Setup) → IsSameProgram a b → map_of b ≡ map_of a
unfolding map_of
same-map a b same = rw (← same) refl

same-size : (a b : Setup) → IsSameProgram a b → length (start_memory b) ≡ length (start_memory a)
same-size a b same =
    (IsMemory-start b).count ∙ ap (λ (m : List _). length m) (same-map a b same) ∙ sym (IsMemory-start a).count

-- what a filter doesn't keep
left-out :
    (test : ℕ → Bool) (n k p : ℕ) → k ≤ p → p < k + n → is_in p (filter test (range_with_len k n)) ≡ false
    → test p ≡ false
left-out test zero k p low high out = absurd (omega arith)
left-out test (suc n) k p low high out = here (λ above less. left-out test n (k + 1) p above less) (test k) refl out
  where
    here :
        (k + 1 ≤ p → p < k + 1 + n → is_in p (filter test (range_with_len (k + 1) n)) ≡ false → test p ≡ false)
        → (b : Bool) → test k ≡ b
        → is_in p (cond b (k ∷ filter test (range_with_len (k + 1) n)) (filter test (range_with_len (k + 1) n))) ≡ false
        → test p ≡ false
    here next true is h =
        elim (cases_eq k p) [
          | inl same ↦ absurd
              (let own : eqb k p ≡ true = eq-eqb k p same in
              let not_own : eqb k p ≡ false =
              or-left (eqb k p) (is_in p (filter test (range_with_len (k + 1) n))) h in cc)
          | inr other ↦ next (omega arith) (omega arith)
              (or-right (eqb k p) (is_in p (filter test (range_with_len (k + 1) n))) h)
        ]
    here next false is h =
        elim (cases_eq k p) [
          | inl same ↦ ap test (sym same) ∙ is
          | inr other ↦ next (omega arith) (omega arith) h
        ]

not-false : (b : Bool) → not b ≡ false → b ≡ true
not-false true h = refl
not-false false h = cc

unchanged-same :
    (a b : Memory) (p : ℕ) → length b ≡ length a → is_in p (changed_slots a b) ≡ false → page_of b p ≡ page_of a p
unchanged-same a b p size out =
    elim (cases_lt p (length a)) [
      | inl below ↦
          let same : bytes_eq (page_of a p) (page_of b p) ≡ true =
          not-false (bytes_eq (page_of a p) (page_of b p))
          (left-out (λ k. not (bytes_eq (page_of a k) (page_of b k))) (length a) 0 p (omega arith) (omega arith) out) in
          sym ((bytes_eq-Decides (page_of a p) (page_of b p)).0 same)
      | inr past ↦ get_or_past b p [] (omega arith) ∙ sym (get_or_past a p [] past)
    ]

same-frame : (a b : Setup) → IsSameProgram a b → a.fuel ≡ b.fuel → (first b).frame ≡ (first a).frame
unfolding first map_of
same-frame a b same fuel = rw (same, fuel) refl

-- the start memories differ only on the changed pages
pub unchanged-start :
    (a b : Setup) (p : ℕ) → IsSameProgram a b → is_in p (changed a b) ≡ false
    → page_of (start_memory b) p ≡ page_of (start_memory a) p
unfolding changed
unchanged-start a b p same out = unchanged-same (start_memory a) (start_memory b) p (same-size a b same) out

pub near-first :
    (reads : ℕ → ℕ → List ℕ) (among : ℕ → ℕ → Bool) (taint : ℕ → Bool) (a b : Setup)
    → IsSameProgram a b → a.fuel ≡ b.fuel
    → ((p : ℕ) → taint p ≡ false → page_of (start_memory b) p ≡ page_of (start_memory a) p)
    → ((p : ℕ) → among 0 0 ≡ false → is_in p (reads 0 0) ≡ true → taint p ≡ false)
    → IsNear reads among taint (first a) (first b)
unfolding first
near-first reads among taint a b same fuel pages clean =
    record {
      frame = same-frame a b same fuel;
      steps = refl;
      objects = refl;
      size = same-size a b same;
      memory = pages;
      count = refl;
      harts = harts;
      regs = regs;
      views = views;
    }
  where
    harts : (u : ℕ) → plain (hart_of (first b) u) ≡ plain (hart_of (first a) u)
    harts zero = refl
    harts (suc u) = refl

    regs :
        (u : ℕ) → among u (hart_of (first a) u).number ≡ false → (hart_of (first b) u).regs ≡ (hart_of (first a) u).regs
    regs zero out = ap (λ (elf : List ℕ). (first_hart [] 0 (entry_of elf) 0xC0000000).regs) (sym same)
    regs (suc u) out = refl

    views :
        (u p : ℕ) → is_ready (hart_of (first a) u).status ≡ true → among u (hart_of (first a) u).number ≡ false
        → is_in p (reads u (hart_of (first a) u).number) ≡ true
        → page_of (hart_of (first b) u).view p ≡ page_of (hart_of (first a) u).view p
    views zero p ready out read = pages p (clean p out read)
    views (suc u) p ready out read = refl
