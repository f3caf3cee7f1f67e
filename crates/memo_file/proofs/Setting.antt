-- A setup is read part by part: the executable, the input, the limits.
use Rattle.std.proofs.Common.{◌≡◌, ℕ, List, Result, Ok, Err, refl, ap, ◌∙◌}
use Rattle.std.specs.Int.{w32}
use Rattle.elf_spec.specs.Refusals.{refusal_of}
use Rattle.ith_text.specs.Place.{Place}
use Rattle.elf_spec.specs.declared.TheConstants.{MOST_ELF_BYTES}
use Rattle.machine_spec.specs.declared.TheConstants.{MOST_FUEL, MOST_INPUT_BYTES, MOST_STEPS}
use Rattle.machine_spec.specs.Limits.{Limits}
use Rattle.machine_spec.specs.Setup.{Setup}
use Rattle.memo_spec.specs.declared.Limit.TheVariants as limit
use Rattle.memo_spec.specs.declared.Refusal.{Refusal}
use Rattle.memo_spec.specs.declared.Refusal.TheVariants.{Limit}
use Rattle.memo_spec.specs.Reader.{Reader, onward, done, bytes_at, number_at, limited}
use Rattle.memo_spec.specs.Reading.{is_within, accepted, setup_at}
use Rattle.memo_file.specs.declared.error.ReadError.{ReadError}
use Rattle.memo_file.specs.declared.error.ReadError.TheVariants as errors
use Rattle.memo_file.specs.Gives.{Fails}
use Rattle.memo_file.specs.Setups.{elf_at, input_at, limits_at}

abbrev pub setup : List ℕ → List ℕ → Limits → Setup
setup elf input l = record { elf = elf; input = input; fuel = l.fuel; limit = l.steps }

abbrev limits : ℕ → ℕ → Limits
limits fuel steps = record { fuel = fuel; steps = steps }

-- What is read after the input, and after the executable.
abbrev steps_at : Place → Result (ℕ × Place) Refusal
steps_at = limited (number_at w32) (is_within 1 MOST_STEPS) (Limit limit.Steps)

abbrev behind_input : List ℕ → List ℕ → Reader Setup
behind_input elf input = λ p.
    onward (limited (number_at w32) (is_within 1 MOST_FUEL) (Limit limit.Fuel) p)
    (λ fuel q. onward (steps_at q) (λ steps. done (setup elf input (limits fuel steps))))

abbrev behind_elf : List ℕ → Reader Setup
behind_elf elf = λ p. onward (limited (number_at w32) (is_within 0 MOST_INPUT_BYTES) (Limit limit.Input) p)
    (λ n q. onward (bytes_at n q) (behind_input elf))

-- One reader after two, and after their pair.
joined : {A B C : Type 0} (r : Result (A × Place) Refusal) (f : A → Reader B) (g : B → Reader C)
    → onward r (λ a p. onward (f a p) g) ≡ onward (onward r f) g
joined (Ok x) f g = refl
joined (Err e) f g = refl

from_elf : (p : Place) → setup_at p ≡ onward (elf_at p) behind_elf
unfolding setup_at
from_elf p = joined (limited (number_at w32) (is_within 0 MOST_ELF_BYTES) (Limit limit.Elf) p)
    (λ n q. onward (bytes_at n q) (λ bytes. accepted (refusal_of bytes) bytes)) behind_elf

from_input : (elf : List ℕ) (p : Place) → behind_elf elf p ≡ onward (input_at p) (behind_input elf)
from_input elf p = joined (limited (number_at w32) (is_within 0 MOST_INPUT_BYTES) (Limit limit.Input) p)
    (λ n q. bytes_at n q) (behind_input elf)

with_steps : (elf input : List ℕ) (fuel : ℕ) (r : Result (ℕ × Place) Refusal)
    → onward r (λ steps. done (setup elf input (limits fuel steps)))
    ≡ onward (onward r (λ steps. done (limits fuel steps))) (λ l. done (setup elf input l))
with_steps elf input fuel (Ok x) = refl
with_steps elf input fuel (Err e) = refl

with_fuel : (elf input : List ℕ) (r : Result (ℕ × Place) Refusal)
    → onward r (λ fuel q. onward (steps_at q) (λ steps. done (setup elf input (limits fuel steps))))
    ≡ onward (onward r (λ fuel q. onward (steps_at q) (λ steps. done (limits fuel steps)))) (λ l. done (setup elf input l))
with_fuel elf input (Ok x) = with_steps elf input x.0 (steps_at x.1)
with_fuel elf input (Err e) = refl

from_limits : (elf input : List ℕ) (p : Place)
    → behind_input elf input p ≡ onward (limits_at p) (λ l. done (setup elf input l))
from_limits elf input p = with_fuel elf input (limited (number_at w32) (is_within 1 MOST_FUEL) (Limit limit.Fuel) p)

-- ---- each part fails, or all are read

pub elf_fails : (e : ReadError) (p : Place) → Fails e (elf_at p) → Fails e (setup_at p)
elf_fails errors.NoMemory p h = tt
elf_fails (errors.Refused why) p h =
    from_elf p ∙ ap (λ (r : Result (List ℕ × Place) Refusal). onward r behind_elf) h

elf_read : (p q : Place) (elf : List ℕ) → elf_at p ≡ Ok (elf, q)
    → setup_at p ≡ onward (input_at q) (behind_input elf)
elf_read p q elf e =
    from_elf p ∙ ap (λ (r : Result (List ℕ × Place) Refusal). onward r behind_elf) e ∙ from_input elf q

pub input_fails : (e : ReadError) (p q : Place) (elf : List ℕ) → elf_at p ≡ Ok (elf, q) → Fails e (input_at q)
    → Fails e (setup_at p)
input_fails errors.NoMemory p q elf a h = tt
input_fails (errors.Refused why) p q elf a h =
    elf_read p q elf a ∙ ap (λ (r : Result (List ℕ × Place) Refusal). onward r (behind_input elf)) h

input_read : (p q r : Place) (elf input : List ℕ) → elf_at p ≡ Ok (elf, q) → input_at q ≡ Ok (input, r)
    → setup_at p ≡ onward (limits_at r) (λ l. done (setup elf input l))
input_read p q r elf input a b =
    elf_read p q elf a ∙ ap (λ (x : Result (List ℕ × Place) Refusal). onward x (behind_input elf)) b
    ∙ from_limits elf input r

pub limits_fail : (e : ReadError) (p q r : Place) (elf input : List ℕ) → elf_at p ≡ Ok (elf, q)
    → input_at q ≡ Ok (input, r) → Fails e (limits_at r) → Fails e (setup_at p)
limits_fail errors.NoMemory p q r elf input a b h = tt
limits_fail (errors.Refused why) p q r elf input a b h =
    input_read p q r elf input a b
    ∙ ap (λ (x : Result (Limits × Place) Refusal). onward x (λ l. done (setup elf input l))) h

pub all_read : (p q r t : Place) (elf input : List ℕ) (l : Limits) → elf_at p ≡ Ok (elf, q)
    → input_at q ≡ Ok (input, r) → limits_at r ≡ Ok (l, t) → setup_at p ≡ Ok (setup elf input l, t)
all_read p q r t elf input l a b c =
    input_read p q r elf input a b
    ∙ ap (λ (x : Result (Limits × Place) Refusal). onward x (λ m. done (setup elf input m))) c

abbrev pub found : Place → Setup → Result (Setup × Place) Refusal
found p s = Ok (s, p)
