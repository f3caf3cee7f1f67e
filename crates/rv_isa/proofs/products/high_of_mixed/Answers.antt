use Rattle.std.proofs.Common.{◌*ℤ◌, ◌-◌, ◌^◌, ◌≤◌, ◌<◌, ℕ, pos, w64, FitsSigned, arith, rules, unsigned_abs}
use Rattle.std.proofs.lemmas.Int.{fits_signed_mul, ints}
use Rattle.isa_spec.specs.Words.{signed}
use Rattle.rv_isa.proofs.products.high_of_mixed.Goals as goal

half : (a : ℕ) → a < 2 ^ 32 → unsigned_abs (signed a) ≤ 2 ^ 31
half a word = omega (arith, ints)

whole : (b : ℕ) → b < 2 ^ 32 → unsigned_abs (pos b) ≤ 2 ^ 32 - 1
whole b word = omega (arith, ints)

-- the product fits 64 bits, so the casts give back what they took
pub returns : goal.returns
returns c =
    let first = c.args.a in
    let second = c.args.b in
    let fits : FitsSigned w64 (signed first *ℤ pos second) =
    fits_signed_mul w64 (signed first) (pos second) (2 ^ 31) (2 ^ 32 - 1) (half first c.ranges.a.fits)
    (whole second c.ranges.b.fits) (omega arith) in
    search (rules, fits)
