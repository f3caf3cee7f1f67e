-- What a buffer shows of an input, byte by byte.
use Rattle.std.proofs.Common.{◌≡◌, ◌≤◌, ◌<◌, ℕ, ◌-◌, min, List, ◌++◌, length, take, drop, replicate, get_or, sym, ◌∙◌, arith, inl, inr, ◌⊎◌}
use Rattle.std.proofs.lemmas.Grind.{common_steps}
use Rattle.std.proofs.lemmas.List.{ext_get_or, take_all, take-append-le}
use Rattle.edit_list.specs.Showing.{Shows}

at-end : (input : List ℕ) (p : ℕ) → length input ≤ p → get_or input p 0 ≡ 0
at-end input p past = grind (arith, common_steps)

-- two lists with the same bytes are the same
pub shown-whole :
    (buffer input : List ℕ) (count : ℕ) → length buffer ≡ length input → length input ≤ count → Shows buffer input count
    → input ≡ buffer
shown-whole buffer input count same whole shows =
    ext_get_or 0 input buffer (sym same) (λ i under. sym ((shows i).0 (omega arith)))

-- a cleared buffer shows what was kept
pub shows-cleared :
    (buffer input : List ℕ) (kept : ℕ) → kept ≤ length buffer → Shows buffer input (length buffer)
    → Shows (take kept buffer ++ replicate (length buffer - kept) 0) input (min (length input) kept)
shows-cleared buffer input kept fits shows p = (low, high)
  where
    at-front : p < kept → get_or (take kept buffer ++ replicate (length buffer - kept) 0) p 0 ≡ get_or buffer p 0
    at-front under = grind (arith, common_steps)

    at-back : kept ≤ p → get_or (take kept buffer ++ replicate (length buffer - kept) 0) p 0 ≡ 0
    at-back over = grind (arith, common_steps)

    low :
        p < min (length input) kept
        → get_or (take kept buffer ++ replicate (length buffer - kept) 0) p 0 ≡ get_or input p 0
    low under = at-front (omega arith) ∙ (shows p).0 (omega arith)

    split : (a b : ℕ) → (a < b) ⊎ (b ≤ a)
    split a b = grind arith

    high : min (length input) kept ≤ p → get_or (take kept buffer ++ replicate (length buffer - kept) 0) p 0 ≡ 0
    high over =
        elim (split p kept) [
          | inl under ↦ at-front under ∙ (shows p).0 (omega arith) ∙ at-end input p (omega arith)
          | inr past ↦ at-back past
        ]

-- an input that was cut, or made longer with zeros, shows itself
pub shows-resized :
    (buffer input : List ℕ) (size len : ℕ) → buffer ≡ take size input ++ replicate (size - len) 0 → len ≡ length input
    → Shows buffer input (length buffer)
shows-resized buffer input size len is count p = (low, at-end buffer p)
  where
    low : p < length buffer → get_or buffer p 0 ≡ get_or input p 0
    low under = rw is (grind (arith, common_steps))

-- bytes that were written over all those of a list
pub written-over :
    (written items : List ℕ) (len : ℕ) → length written ≡ length items → len ≡ length items
    → take len (written ++ drop (length written) items) ≡ written
written-over written items len same count =
    take-append-le len written (drop (length written) items) (omega arith) ∙ take_all len written (omega arith)
