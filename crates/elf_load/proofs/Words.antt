-- Numbers that are made from the bytes at an offset.
use Rattle.std.proofs.Common.{◌≡◌, ℕ, ◌+◌, List, [], ◌∷◌, get_or, drop, arith, ap, ◌∙◌, add-zero, get_or-drop}
use Rattle.byteorder.specs.Endian.{little_number}
use Rattle.elf_spec.specs.Fields.{u16_at, u32_at}

pub half_from_bytes :
    (bytes : List ℕ) (offset b c n : ℕ) → b ≡ get_or bytes offset 0 → c ≡ get_or bytes (offset + 1) 0
    → n ≡ little_number 2 (b ∷ c ∷ [])
    → n ≡ u16_at bytes offset
unfolding u16_at
half_from_bytes bytes offset b c n first second is =
    let at_first : get_or (drop offset bytes) 0 0 ≡ get_or bytes offset 0 =
    get_or-drop offset bytes 0 0 ∙ ap (λ k. get_or bytes k 0) (add-zero offset) in
    let at_second = get_or-drop offset bytes 1 0 in
    omega arith

pub word_from_bytes :
    (bytes : List ℕ) (offset b c d e n : ℕ) → b ≡ get_or bytes offset 0 → c ≡ get_or bytes (offset + 1) 0
    → d ≡ get_or bytes (offset + 2) 0 → e ≡ get_or bytes (offset + 3) 0 → n ≡ little_number 4 (b ∷ c ∷ d ∷ e ∷ [])
    → n ≡ u32_at bytes offset
unfolding u32_at
word_from_bytes bytes offset b c d e n first second third fourth is =
    let at_first : get_or (drop offset bytes) 0 0 ≡ get_or bytes offset 0 =
    get_or-drop offset bytes 0 0 ∙ ap (λ k. get_or bytes k 0) (add-zero offset) in
    let at_second = get_or-drop offset bytes 1 0 in
    let at_third = get_or-drop offset bytes 2 0 in
    let at_fourth = get_or-drop offset bytes 3 0 in
    omega arith
