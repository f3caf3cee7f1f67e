-- An executable that passes the tests of the reader is accepted.
use Rattle.std.proofs.Common.{◌≡◌, ℕ, true, List, Option, Some, None, Result, Ok, refl, sym, ap, ◌∙◌}
use Rattle.std.specs.Prelude.{is_none}
use Rattle.std.specs.Int.{w32}
use Rattle.elf_spec.specs.declared.Refusal as elf
use Rattle.elf_spec.specs.Refusals.{refusal_of}
use Rattle.elf_spec.specs.Image.{is_image}
use Rattle.ith_text.specs.Place.{Place}
use Rattle.memo_spec.specs.declared.Refusal.{Refusal}
use Rattle.memo_spec.specs.declared.Refusal.TheVariants.{Limit}
use Rattle.memo_spec.specs.declared.Limit.TheVariants as limit
use Rattle.memo_spec.specs.Reader.{bytes_at, number_at, limited}
use Rattle.memo_spec.specs.Reading.{is_within}
use Rattle.memo_file.specs.Setups.{elf_at}

none_is : (o : Option elf.Refusal) → is_none o ≡ true → o ≡ None
none_is None e = refl
none_is (Some r) e = absurd cc

no_refusal : (bytes : List ℕ) → is_image bytes ≡ true → refusal_of bytes ≡ None
unfolding is_image
no_refusal bytes e = none_is (refusal_of bytes) e

abbrev found : Place → List ℕ → Result (List ℕ × Place) Refusal
found p bytes = Ok (bytes, p)

pub elf_taken : (n : ℕ) (p q r : Place) (bytes elf : List ℕ)
    → limited (number_at w32) (is_within 0 16777216) (Limit limit.Elf) p ≡ Ok (n, q) → bytes_at n q ≡ Ok (bytes, r)
    → elf ≡ bytes → is_image elf ≡ true → elf_at p ≡ Ok (elf, r)
elf_taken n p q r bytes elf a b e image =
    let none : refusal_of bytes ≡ None = ap refusal_of (sym e) ∙ no_refusal elf image in
    rw (a, b, none) (ap (found r) (sym e))
