-- The readers of a record's fields agree with their encodings.
use Rattle.std.proofs.Common.{◌≡◌, ℕ, suc, ◌^◌, ◌<◌, ◌≤◌, Bool, true, not, ◌&&◌, List, [], ◌∷◌, ◌++◌, length, get_or, drop, refl, sym, ap, subst, ◌∙◌, arith}
use Rattle.std.specs.Prelude.{◌==◌, nat_le, nat_lt}
use Rattle.std.specs.List.{AllByRecursion, flat_map, list_any}
use Rattle.std.specs.Int.{w32}
use Rattle.std.proofs.lemmas.Bool.{and_parts, ltb-true, lt-ltb, leb-true, le-leb}
use Rattle.std.proofs.lemmas.List.{append-nil}
use Rattle.std.specs.Cmp.Derive.{both_true}
use Rattle.isa_spec.specs.Registers.{Registers}
use Rattle.memory_spec.specs.Pages.{Mapped}
use Rattle.thunk_spec.specs.Delta.{is_stored}
use Rattle.memo_spec.specs.Encoding.{AreBytes, AreRegisters, word, registers, page_number, mask}
use Rattle.memo_spec.specs.Reader.{◌>>=◌, done, bytes_at, number_at, ruled, each}
use Rattle.memo_spec.specs.Reading.{registers_at, slot_of_number, slot_at, marks_of, mask_at}
use Rattle.memo_spec.proofs.Formats.{Agrees, agrees_then, agrees_done, agrees_said, agrees_part, agrees_tested, agrees_number, agrees_bytes, agrees_each, wide32}
use Rattle.memo_spec.proofs.Maps.{IsPageMap, number_is_word, number_back, slot_back}
use Rattle.memo_spec.proofs.Masks.{mask_again, marks_again, length_marks, stored_marks}

-- ---- registers

abbrev made : ℕ → List ℕ → Registers
made pc x = record { pc = pc; x = 0 ∷ x }

abbrev IsMade : Registers → Type 0
IsMade r = (r.pc < 2 ^ 32)
    × (((length (drop 1 r.x) ≡ 31) × AllByRecursion (λ n. n < 2 ^ 32) (drop 1 r.x)) × (r ≡ made r.pc (drop 1 r.x)))

made_again : (pc : ℕ) (x : List ℕ) → pc < 2 ^ 32 → length x ≡ 32 → get_or x 0 0 ≡ 0 → AllByRecursion (λ n. n < 2 ^ 32) x
    → IsMade (record { pc = pc; x = x })
made_again pc [] lt len zero-is all = absurd (omega arith)
made_again pc (a ∷ x) lt len zero-is all =
    (lt, ((omega arith, all.1), ap (λ (y : ℕ). record { pc = pc; x = y ∷ x }) zero-is))

are_registers : (r : Registers) → IsMade r → AreRegisters r
are_registers r h = subst AreRegisters (sym h.1.1)
    (record { pc = h.0; count = ap suc h.1.0.0; zero = refl; words = (omega arith, h.1.0.1) })

pub agrees_registers : Agrees registers_at registers AreRegisters
unfolding registers_at
agrees_registers =
    agrees_said registers_at (λ r. word r.pc ++ (flat_map word (drop 1 r.x) ++ [])) registers IsMade AreRegisters
    (agrees_part (number_at w32) word (λ n. n < 2 ^ 32) (λ pc. each 31 (number_at w32) >>= λ x. done (made pc x))
    (λ pc r. flat_map word (drop 1 r.x) ++ [])
    (λ pc r. ((length (drop 1 r.x) ≡ 31) × AllByRecursion (λ n. n < 2 ^ 32) (drop 1 r.x)) × (r ≡ made pc (drop 1 r.x)))
    (agrees_number w32 (2 ^ 32) wide32)
    (λ pc _. agrees_part (each 31 (number_at w32)) (flat_map word)
    (λ x. (length x ≡ 31) × AllByRecursion (λ n. n < 2 ^ 32) x) (λ x. done (made pc x)) (λ x r. [])
    (λ x r. r ≡ made pc x)
    (agrees_each (number_at w32) word (λ n. n < 2 ^ 32) (agrees_number w32 (2 ^ 32) wide32) 31)
    (λ x _. agrees_done (made pc x)) (λ r. drop 1 r.x) (λ x r _ e. ap (λ (q : Registers). drop 1 q.x) e))
    (λ r. r.pc) (λ pc r _ h. ap (λ (q : Registers). q.pc) h.1))
    (λ r h. (are_registers r h, ap (λ (l : List ℕ). word r.pc ++ l) (append-nil (flat_map word (drop 1 r.x)))))
    (λ r h. made_again r.pc r.x h.pc h.count h.zero h.words)

-- ---- slots

pub agrees_slot : (pages : List Mapped) (low : ℕ) → IsPageMap pages
    → Agrees (slot_at pages low) (λ slot. word (page_number pages slot)) (λ slot. (low ≤ slot) × (slot < length pages))
unfolding slot_at
agrees_slot pages low is_map =
    agrees_then (ruled (number_at w32) rule) word (λ n. (n < 2 ^ 32) × (rule n ≡ true))
    (λ n. done (slot_of_number pages n)) (λ n s. []) (λ n s. s ≡ slot_of_number pages n)
    (λ slot. word (page_number pages slot)) (λ slot. (low ≤ slot) × (slot < length pages))
    (agrees_tested (number_at w32) word (λ n. n < 2 ^ 32) rule _ (agrees_number w32 (2 ^ 32) wide32))
    (λ n _. agrees_done (slot_of_number pages n))
    (λ n s f g. let k = and_parts _ _ f.1 in let low-is = leb-true low (slot_of_number pages n) k.0 in let in-map =
    ltb-true (slot_of_number pages n) (length pages) k.1 in
    rw g ((low-is, in-map), append-nil (word n) ∙ ap word (sym (number_back pages n in-map))))
    (λ s h. let e = slot_back pages 0 s is_map.ascends h.1 in (
      page_number pages s,
      (number_is_word pages s is_map.words h.1, rw e (both_true (le-leb low s h.0) (lt-ltb s (length pages) h.1))),
      sym e,
    ))
  where
    rule : ℕ → Bool
    rule n = nat_le low (slot_of_number pages n) && nat_lt (slot_of_number pages n) (length pages)

-- ---- masks

pub agrees_mask : Agrees mask_at mask (λ m. (length m ≡ 4096) × (is_stored m ≡ true))
unfolding mask_at
agrees_mask =
    agrees_then (ruled (bytes_at 512) rule) (λ bs. bs) (λ bs. ((length bs ≡ 512) × AreBytes bs) × (rule bs ≡ true))
    (λ bs. done (marks_of bs)) (λ bs m. []) (λ bs m. m ≡ marks_of bs)
    mask (λ m. (length m ≡ 4096) × (is_stored m ≡ true))
    (agrees_tested (bytes_at 512) (λ bs. bs) (λ bs. (length bs ≡ 512) × AreBytes bs) rule _ (agrees_bytes 512))
    (λ bs _. agrees_done (marks_of bs))
    (λ bs m f g. rw g (
      (omega (arith, length_marks bs, f.0.0), stored_marks bs f.0.1 ∙ f.1),
      append-nil bs
          ∙ sym (mask_again bs f.0.1),
    ))
    (λ m h. let k = marks_again 512 m h.0 in
    (mask m, ((k.1, k.2), sym (stored_marks (mask m) k.2) ∙ ap is_stored k.0 ∙ h.1), sym k.0))
  where
    rule : List ℕ → Bool
    rule bs = list_any (λ b. not (b == 0)) bs
