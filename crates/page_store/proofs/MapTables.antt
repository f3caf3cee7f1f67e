-- A table of the slots of pages, while it is made.
use Rattle.std.proofs.Common.{◌≡◌, ℕ, ◌+◌, ◌/◌, ◌%◌, ◌<◌, ◌≤◌, ◌⊎◌, zero, suc, List, length, get_or, set, replicate, inl, inr, refl, ap, sym, ◌∙◌, arith}
use Rattle.std.proofs.lemmas.Bool.{cases_eq}
use Rattle.std.proofs.lemmas.List.{get_or-set_same, get_or-set_other, length-set, length-replicate}
use Rattle.memory_spec.specs.Pages.{Mapped}
use Rattle.page_store.specs.MapTables.{IsTable}
use Rattle.page_store.proofs.Slots.{number_in_slot}

zeros : (n k : ℕ) → get_or {A = ℕ} (replicate n 0) k 0 ≡ 0
zeros zero k = refl
zeros (suc n) zero = refl
zeros (suc n) (suc k) = zeros n k

-- a table without entries
pub table-empty :
    (pages : List Mapped) (starts places : List ℕ) → starts ≡ replicate 256 0 → places ≡ replicate 32768 0
    → IsTable pages starts places 4096
table-empty pages starts places starts_are places_are =
    let start : (block : ℕ) → get_or starts block 0 ≡ 0 =
    λ block. ap (λ xs. get_or xs block 0) starts_are ∙ zeros 256 block in
    let at : (place : ℕ) → get_or places place 0 ≡ 0 =
    λ place. ap (λ xs. get_or xs place 0) places_are ∙ zeros 32768 place in
    record {
      blocks = ap length starts_are ∙ length-replicate {A = ℕ} 256 0;
      count = ap length places_are ∙ length-replicate {A = ℕ} 32768 0;
      room = omega arith;
      even = refl;
      whole = λ block. omega (arith, start block);
      inside = λ block. omega (arith, start block);
      apart = λ a b same some. absurd (omega (arith, start a));
      free = λ place lt. at place;
      unused = λ place le. at place;
      mapped = λ number slot is.
          absurd (omega (arith, at (get_or starts (number / 4096) 0 + number % 4096)));
      numbered = λ number slot is.
          absurd (omega (arith, at (get_or starts (number / 4096) 0 + number % 4096)));
    }

-- the item at k after a write at i
written :
    (xs : List ℕ) (i k v : ℕ) → i < length xs
    → ((k ≡ i) × (get_or (set xs i v) k 0 ≡ v)) ⊎ ((k ≡ i → ⊥) × (get_or (set xs i v) k 0 ≡ get_or xs k 0))
written xs i k v lt =
    elim (cases_eq k i) [
      | inl is ↦ inl (is, ap (λ j. get_or (set xs i v) j 0) is ∙ get_or-set_same xs i v 0 lt)
      | inr other ↦ inr (other, get_or-set_other xs i k v 0 other)
    ]

-- one more block, with the next 4096 places
pub table-block :
    (pages : List Mapped) (starts places : List ℕ) (used block : ℕ) → IsTable pages starts places used
    → block < 256 → get_or starts block 0 ≡ 0 → used + 4096 ≤ 32768
    → IsTable pages (set starts block used) places (used + 4096)
table-block pages starts places used block t lt none room =
    let within : block < length starts = omega (arith, t.blocks) in
    let start : (k : ℕ) →
    ((k ≡ block) × (get_or (set starts block used) k 0 ≡ used))
    ⊎ ((k ≡ block → ⊥) × (get_or (set starts block used) k 0 ≡ get_or starts k 0)) =
    λ k. written starts block k used within in
    record {
      blocks = length-set starts block used ∙ t.blocks;
      count = t.count;
      room = room;
      even = omega (arith, t.even);
      whole = λ k. elim (start k) [
        | inl new ↦ omega (arith, new.1, t.even)
        | inr old ↦ omega (arith, old.1, t.whole k)
      ];
      inside = λ k. elim (start k) [
        | inl new ↦ omega (arith, new.1)
        | inr old ↦ omega (arith, old.1, t.inside k)
      ];
      apart = λ a b same some. elim (start a) [
        | inl new ↦ elim (start b) [
          | inl both ↦ new.0 ∙ sym both.0
          | inr old ↦ absurd (omega (arith, new.1, old.1, t.inside b, same))
        ]
        | inr old ↦ elim (start b) [
          | inl new ↦ absurd (omega (arith, new.1, old.1, t.inside a, same))
          | inr both ↦ t.apart a b (sym old.1 ∙ same ∙ both.1) (omega (arith, old.1, some))
        ]
      ];
      free = t.free;
      unused = λ place le. t.unused place (omega (arith, le));
      mapped = λ number slot is. elim (start (number / 4096)) [
        | inl new ↦ absurd (omega (
          arith,
          is,
          ap (λ s. get_or places (s + number % 4096) 0) new.1,
          t.unused (used + number % 4096) (omega arith),
        ))
        | inr old ↦ t.mapped number slot (ap (λ s. get_or places (s + number % 4096) 0) (sym old.1) ∙ is)
      ];
      numbered = λ number slot is. elim (start (number / 4096)) [
        | inl new ↦ absurd (omega (
          arith,
          is,
          ap (λ s. get_or places (s + number % 4096) 0) new.1,
          t.unused (used + number % 4096) (omega arith),
        ))
        | inr old ↦ t.numbered number slot (ap (λ s. get_or places (s + number % 4096) 0) (sym old.1) ∙ is)
      ];
    }

-- two numbers whose blocks begin at multiples of 4096 and that have the same place have the same block and rest
same_place :
    (a b m n : ℕ) → a % 4096 ≡ 0 → b % 4096 ≡ 0 → a + m % 4096 ≡ b + n % 4096 → (a ≡ b) × (m % 4096 ≡ n % 4096)
same_place a b m n a_whole b_whole same = (omega arith, omega arith)

-- the slot of one more page
pub table-place :
    (pages : List Mapped) (starts places : List ℕ) (used number slot : ℕ) → IsTable pages starts places used
    → 0 < get_or starts (number / 4096) 0 → slot < length pages → number_in_slot pages slot ≡ number
    → IsTable pages starts (set places (get_or starts (number / 4096) 0 + number % 4096) (slot + 1)) used
table-place pages starts places used number slot t some lt is =
    let start = get_or starts (number / 4096) 0 in
    let place = start + number % 4096 in
    let begins : start % 4096 ≡ 0 = t.whole (number / 4096) in
    let ends : start + 4096 ≤ used = t.inside (number / 4096) in
    let within : place < length places = omega (arith, t.count, t.room) in
    let at : (k : ℕ) →
    ((k ≡ place) × (get_or (set places place (slot + 1)) k 0 ≡ slot + 1))
    ⊎ ((k ≡ place → ⊥) × (get_or (set places place (slot + 1)) k 0 ≡ get_or places k 0)) =
    λ k. written places place k (slot + 1) within in
    let here : (n : ℕ) → get_or starts (n / 4096) 0 + n % 4096 ≡ place → n ≡ number =
    λ n same.
    let parts = same_place (get_or starts (n / 4096) 0) start n number (t.whole (n / 4096)) begins same in
    let block : n / 4096 ≡ number / 4096 = t.apart (n / 4096) (number / 4096) parts.0 (omega (arith, parts.0, some)) in
    omega (arith, block, parts.1) in
    record {
      blocks = t.blocks;
      count = length-set places place (slot + 1) ∙ t.count;
      room = t.room;
      even = t.even;
      whole = t.whole;
      inside = t.inside;
      apart = t.apart;
      free = λ k low. elim (at k) [
        | inl new ↦ absurd (omega (arith, new.0, begins, some))
        | inr old ↦ old.1 ∙ t.free k low
      ];
      unused = λ k high. elim (at k) [
        | inl new ↦ absurd (omega (arith, new.0, ends))
        | inr old ↦ old.1 ∙ t.unused k high
      ];
      mapped = λ n s says. elim (at (get_or starts (n / 4096) 0 + n % 4096)) [
        | inl new ↦ omega (arith, new.1, says, lt)
        | inr old ↦ t.mapped n s (sym old.1 ∙ says)
      ];
      numbered = λ n s says. elim (at (get_or starts (n / 4096) 0 + n % 4096)) [
        | inl new ↦
            let slot_is : s ≡ slot = omega (arith, new.1, says) in
            ap (number_in_slot pages) slot_is ∙ is ∙ sym (here n new.0)
        | inr old ↦ t.numbered n s (sym old.1 ∙ says)
      ];
    }
