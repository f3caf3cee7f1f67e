-- The comparison of registers says whether they are equal.
use Rattle.std.proofs.Common.{◌≡◌, ℕ, true, eqb, List, refl, ap, ◌∙◌}
use Rattle.std.proofs.lemmas.Bool.{eq-eqb, eqb-true, and_parts}
use Rattle.std.proofs.lemmas.Slice.Eq.{bytes_eq-Decides}
use Rattle.std.specs.Bool.{Decides}
use Rattle.std.specs.Str.{bytes_eq}
use Rattle.isa_spec.specs.Registers.{Registers, same_registers}

pub same_registers-true : (a b : Registers) → same_registers a b ≡ true → a ≡ b
same_registers-true a b same =
    let parts = and_parts (eqb a.pc b.pc) (bytes_eq a.x b.x) same in
    let pc : a.pc ≡ b.pc = eqb-true a.pc b.pc parts.0 in
    let x : a.x ≡ b.x = (bytes_eq-Decides a.x b.x).0 parts.1 in
    ap (λ (n : ℕ). record { pc = n; x = a.x }) pc ∙ ap (λ (xs : List ℕ). record { pc = b.pc; x = xs }) x

pub same_registers-refl : (r : Registers) → same_registers r r ≡ true
same_registers-refl r =
    let pc : eqb r.pc r.pc ≡ true = eq-eqb r.pc r.pc refl in
    let x : bytes_eq r.x r.x ≡ true = (bytes_eq-Decides r.x r.x).1 refl in
    rw (pc, x) refl

pub same_registers-Decides : (a b : Registers) → Decides (same_registers a b) (a ≡ b)
same_registers-Decides a b = (same_registers-true a b, λ same. rw (← same) (same_registers-refl a))
