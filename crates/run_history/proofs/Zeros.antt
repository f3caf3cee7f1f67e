-- The pages of an input past its end.
use Rattle.std.proofs.Common.{◌≡◌, ◌<◌, ◌≤◌, ◌+◌, ◌-◌, ◌*◌, ◌++◌, ℕ, zero, suc, List, length, map, get_or, drop, replicate, min, inl, inr, refl, ap, sym, ◌∙◌, arith}
use Rattle.std.specs.List.{range_with_len}
use Rattle.std.specs.Simd.Lanes.{chunk}
use Rattle.std.proofs.lemmas.Bool.{cases_lt}
use Rattle.std.proofs.lemmas.List.{ext_get_or, get_or_past, get_or_append_left, get_or-append-add, get_or-drop, get_or-replicate, length-append, length-drop, length-replicate}
use Rattle.std.proofs.lemmas.List.FromFn.{length-map-range_with_len, get_or-map-range_with_len}
use Rattle.std.proofs.lemmas.Simd.{length-chunk, get_or-chunk}
use Rattle.memory_spec.specs.Pages.{zero_page}
use Rattle.machine_spec.specs.Setup.{input_page}

zeros-from : (input : List ℕ) (start n : ℕ) → length input ≤ start
    → map (λ i. get_or input i 0) (range_with_len start n) ≡ replicate n 0
zeros-from input start zero past = refl
zeros-from input start (suc n) past =
    rw (get_or_past input start 0 past, zeros-from input (start + 1) n (omega (arith, past))) refl

-- a page of an input that begins past its end is one of zeros
pub past_the_end : (input : List ℕ) (k : ℕ) → length input ≤ 4096 * k → input_page input k ≡ zero_page
unfolding input_page zero_page
past_the_end input k past = zeros-from input (4096 * k) 4096 past

-- The bytes of an input on one of its pages, and zeros after them.
pub page_of_part :
    (input page part : List ℕ) (k start end n : ℕ)
    → start ≡ min (length input) (4096 * k) → end ≡ min (length input) (4096 * k + 4096) → n ≡ end - start
    → part ≡ chunk start n input → page ≡ replicate 4096 0
    → part ++ drop n page ≡ input_page input k
unfolding input_page
page_of_part input page part k start end n from to count is zeros =
    ext_get_or 0 (part ++ drop n page) (map (λ i. get_or input i 0) (range_with_len (4096 * k) 4096))
    (length-append part (drop n page) ∙ omega (arith, long, rest)
    ∙ sym (length-map-range_with_len (λ i. get_or input i 0) (4096 * k) 4096))
    (λ j lt.
    let inside : j < 4096 = omega (arith, lt, length-append part (drop n page), long, rest) in
    at j inside ∙ sym (get_or-map-range_with_len (λ i. get_or input i 0) (4096 * k) 4096 j (4096 * k + j) 0 inside refl))
  where
    fits : start + n ≤ length input
    fits = omega (arith, from, to, count)

    few : n ≤ 4096
    few = omega (arith, from, to, count)

    long : length part ≡ n
    long = ap length is ∙ length-chunk start n input fits

    rest : length (drop n page) ≡ 4096 - n
    rest = length-drop n page ∙ ap (λ l. length l - n) zeros ∙ ap (λ m. m - n) (length-replicate {A = ℕ} 4096 0)

    at : (j : ℕ) → j < 4096 → get_or (part ++ drop n page) j 0 ≡ get_or input (4096 * k + j) 0
    at j inside = elim (cases_lt j n) [
      | inl below ↦
          let place : start + j ≡ 4096 * k + j = omega (arith, from, to, count, below) in
          get_or_append_left part (drop n page) 0 j (omega (arith, long, below))
          ∙ ap (λ l. get_or l j 0) is ∙ get_or-chunk start n input j 0 below ∙ ap (λ i. get_or input i 0) place
      | inr behind ↦
          let place : length part + (j - n) ≡ j = omega (arith, long, behind) in
          let back : n + (j - n) ≡ j = omega (arith, behind) in
          ap (λ i. get_or (part ++ drop n page) i 0) (sym place)
          ∙ get_or-append-add part (drop n page) (j - n) 0
          ∙ get_or-drop n page (j - n) 0 ∙ ap (λ i. get_or page i 0) back
          ∙ ap (λ l. get_or l j 0) zeros ∙ get_or-replicate 4096 j 0 0 inside
          ∙ sym (get_or_past input (4096 * k + j) 0 (omega (arith, from, to, count, behind, inside)))
    ]
