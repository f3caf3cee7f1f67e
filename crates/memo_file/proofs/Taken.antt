-- The bytes that a cursor took are those that the reader takes.
use Rattle.std.proofs.Common.{◌≡◌, ℕ, ◌+◌, ◌^◌, ◌<◌, false, ltb, List, [], ◌∷◌, ◌++◌, length, Result, Ok, Err, refl, sym, ap, subst, ◌∙◌, arith}
use Rattle.std.specs.Int.{Width, w8, w16, w32, byte_len, to_le_bytes}
use Rattle.std.proofs.lemmas.Bool.{lt-ltb, le-ltb}
use Rattle.std.proofs.lemmas.List.{take_at, drop_at, length-append}
use Rattle.ith_text.specs.Place.{Place, Takes}
use Rattle.memo_spec.specs.declared.Refusal.{Refusal}
use Rattle.memo_spec.specs.declared.Refusal.TheVariants.{Field}
use Rattle.memo_spec.specs.Reader.{bytes_at, number_at}
use Rattle.memo_spec.proofs.Formats.{IsWide, wide8, wide16, wide32, agrees_number, behind}

taken : (w : Width) (limit : ℕ) → IsWide w limit → (v : ℕ) (old new : Place) → v < limit
    → Takes (to_le_bytes w v) old new → number_at w old ≡ Ok (v, new)
taken w limit wide v old new lt t =
    let e : behind old (to_le_bytes w v) new.left ≡ new = ap (λ (n : ℕ). record { taken = n; left = new.left })
    (sym t.count) in
    (agrees_number w limit wide).again old v new.left lt t.front ∙ ap (found v) e
  where
    found : ℕ → Place → Result (ℕ × Place) Refusal
    found v p = Ok (v, p)

pub word_taken : (v : ℕ) (old new : Place) → v < 2 ^ 32 → Takes (to_le_bytes w32 v) old new
    → number_at w32 old ≡ Ok (v, new)
word_taken v old new lt t = taken w32 (2 ^ 32) wide32 v old new lt t

short : (w : Width) (old : Place) → length old.left < byte_len w → number_at w old ≡ Err (Field old.taken)
short w old lt = rw (lt-ltb _ _ lt) refl

pub word_short : (old : Place) → length old.left < 4 → number_at w32 old ≡ Err (Field old.taken)
word_short old lt = short w32 old lt

pub half_taken : (v : ℕ) (old new : Place) → v < 2 ^ 16 → Takes (to_le_bytes w16 v) old new
    → number_at w16 old ≡ Ok (v, new)
half_taken v old new lt t = taken w16 (2 ^ 16) wide16 v old new lt t

pub half_short : (old : Place) → length old.left < 2 → number_at w16 old ≡ Err (Field old.taken)
half_short old lt = short w16 old lt

pub byte_taken : (v : ℕ) (old new : Place) → v < 256 → Takes (v ∷ []) old new → number_at w8 old ≡ Ok (v, new)
byte_taken v old new lt t = taken w8 256 wide8 v old new lt
    (subst (λ (l : List ℕ). Takes l old new) (ap (λ (n : ℕ). n ∷ []) (omega arith)) t)

pub byte_short : (old : Place) → length old.left < 1 → number_at w8 old ≡ Err (Field old.taken)
byte_short old lt = short w8 old lt

pub run_taken : (n : ℕ) (piece : List ℕ) (old new : Place) → length piece ≡ n → Takes piece old new
    → bytes_at n old ≡ Ok (piece, new)
run_taken n piece old new len t =
    let long : ltb (length (piece ++ new.left)) n ≡ false = le-ltb _ _
    (omega (arith, length-append piece new.left, len)) in
    let at : old.taken + n ≡ new.taken = omega (arith, t.count, len) in
    rw (t.front, long, take_at piece new.left n len, drop_at piece new.left n len, at) refl

pub run_short : (n : ℕ) (old : Place) → length old.left < n → bytes_at n old ≡ Err (Field old.taken)
run_short n old lt = rw (lt-ltb _ _ lt) refl
