-- The reader of a setup agrees with its encoding.
use Rattle.std.proofs.Common.{◌≡◌, ℕ, ◌^◌, ◌<◌, true, leb, List, [], ◌++◌, length, Option, Some, None, Ok, refl, sym, ap, subst, ◌∙◌, append_assoc, arith}
use Rattle.std.specs.Prelude.{is_none}
use Rattle.std.specs.Int.{w32}
use Rattle.std.specs.Cmp.Derive.{both_true}
use Rattle.std.proofs.lemmas.Bool.{and_parts, leb-true, le-leb}
use Rattle.std.proofs.lemmas.List.{append-nil}
use Rattle.elf_spec.specs.declared.Refusal as elf
use Rattle.elf_spec.specs.Refusals.{refusal_of}
use Rattle.elf_spec.specs.Image.{is_image}
use Rattle.machine_spec.specs.Setup.{Setup, IsSetup}
use Rattle.ith_text.specs.Place.{Place}
use Rattle.memo_spec.specs.declared.Refusal.{Refusal}
use Rattle.memo_spec.specs.declared.Refusal.TheVariants.{Limit}
use Rattle.memo_spec.specs.declared.Limit.TheVariants as limit
use Rattle.memo_spec.specs.Encoding.{AreBytes, word}
use Rattle.memo_spec.specs.Reader.{Reader, ◌>>=◌, done, bytes_at, number_at, limited}
use Rattle.memo_spec.specs.Reading.{is_within, accepted, setup_at}
use Rattle.memo_spec.proofs.Formats.{Agrees, agrees_then, agrees_done, agrees_said, agrees_part, agrees_tested, agrees_number, agrees_bytes, wide32}

accepted_ok : (o : Option elf.Refusal) (bytes : List ℕ) (p : Place) (x : List ℕ × Place) → accepted o bytes p ≡ Ok x
    → (o ≡ None) × (accepted o bytes ≡ done bytes)
accepted_ok None bytes p x e = (refl, refl)
accepted_ok (Some r) bytes p x e = absurd cc

-- An executable is accepted exactly if it has no refusal.
agrees_accepted : (bytes : List ℕ) → Agrees (accepted (refusal_of bytes) bytes) (λ _. [])
    (λ c. (c ≡ bytes) × (refusal_of bytes ≡ None))
agrees_accepted bytes = record {
  takes = λ p c q fits e.
      let k = accepted_ok (refusal_of bytes) bytes p (c, q) e in
      let t = (agrees_done bytes).takes p c q fits (sym (ap (λ (r : Reader (List ℕ)). r p) k.1) ∙ e) in
      (t.0, (t.1, k.0));
  again = λ p c rest fit e. ap (λ (o : Option elf.Refusal). accepted o bytes p) fit.1
      ∙ (agrees_done bytes).again p c rest fit.0 e;
}

abbrev IsElf : ℕ → List ℕ → Type 0
IsElf n bytes = ((length bytes ≡ n) × AreBytes bytes) × (refusal_of bytes ≡ None)

agrees_elf : (n : ℕ) → Agrees (bytes_at n >>= λ bytes. accepted (refusal_of bytes) bytes) (λ bytes. bytes) (IsElf n)
agrees_elf n =
    agrees_then (bytes_at n) (λ bs. bs) (λ bs. (length bs ≡ n) × AreBytes bs)
    (λ bytes. accepted (refusal_of bytes) bytes) (λ bytes c. [])
    (λ bytes c. (c ≡ bytes) × (refusal_of bytes ≡ None)) (λ c. c) (IsElf n)
    (agrees_bytes n) (λ bytes _. agrees_accepted bytes)
    (λ bytes c f g. (subst (IsElf n) (sym g.0) (f, g.1), append-nil bytes ∙ sym g.0))
    (λ c h. (c, h.0, (refl, h.1)))

abbrev Within : ℕ → ℕ → ℕ → Type 0
Within low high n = (n < 2 ^ 32) × (is_within low high n ≡ true)

agrees_within : (low high : ℕ) (r : Refusal) → Agrees (limited (number_at w32) (is_within low high) r) word
    (Within low high)
agrees_within low high r = agrees_tested (number_at w32) word (λ n. n < 2 ^ 32) (is_within low high) (λ _. r)
    (agrees_number w32 (2 ^ 32) wide32)

abbrev made : List ℕ → List ℕ → ℕ → ℕ → Setup
made elf input fuel steps = record { elf = elf; input = input; fuel = fuel; limit = steps }

abbrev IsRun : List ℕ → List ℕ → Setup → Type 0
IsRun elf input s = Within 1 16777216 s.fuel × (Within 1 65536 s.limit × (s ≡ made elf input s.fuel s.limit))

abbrev IsInput : List ℕ → ℕ → Setup → Type 0
IsInput elf n s = ((length s.input ≡ n) × AreBytes s.input) × IsRun elf s.input s

abbrev IsRaw : Setup → Type 0
IsRaw s = Within 0 16777216 (length s.elf)
    × (IsElf (length s.elf) s.elf × (Within 0 1048576 (length s.input) × IsInput s.elf (length s.input) s))

abbrev run_bytes : Setup → List ℕ
run_bytes s = word s.fuel ++ (word s.limit ++ [])

abbrev raw_bytes : Setup → List ℕ
raw_bytes s = word (length s.elf) ++ (s.elf ++ (word (length s.input) ++ (s.input ++ run_bytes s)))

-- A setup that may be run and has bytes.
pub record FitsSetup (s : Setup) : Type 0 where
  pub valid : IsSetup s
  pub elf_bytes : AreBytes s.elf
  pub input_bytes : AreBytes s.input

abbrev pub setup_bytes : Setup → List ℕ
setup_bytes s = word (length s.elf) ++ s.elf ++ word (length s.input) ++ s.input ++ word s.fuel ++ word s.limit

agrees_raw : Agrees setup_at raw_bytes IsRaw
unfolding setup_at
agrees_raw =
    agrees_part (limited (number_at w32) (is_within 0 16777216) (Limit limit.Elf)) word (Within 0 16777216) elfs
    (λ n s. s.elf ++ (word (length s.input) ++ (s.input ++ run_bytes s)))
    (λ n s. IsElf n s.elf × (Within 0 1048576 (length s.input) × IsInput s.elf (length s.input) s))
    (agrees_within 0 16777216 (Limit limit.Elf))
    (λ n _. agrees_part (bytes_at n >>= λ bytes. accepted (refusal_of bytes) bytes) (λ bs. bs) (IsElf n) inputs
    (λ elf s. word (length s.input) ++ (s.input ++ run_bytes s))
    (λ elf s. Within 0 1048576 (length s.input) × IsInput elf (length s.input) s)
    (agrees_elf n)
    (λ elf _. agrees_part (limited (number_at w32) (is_within 0 1048576) (Limit limit.Input)) word (Within 0 1048576)
    (input_bytes elf) (λ m s. s.input ++ run_bytes s) (λ m s. IsInput elf m s)
    (agrees_within 0 1048576 (Limit limit.Input))
    (λ m _. agrees_part (bytes_at m) (λ bs. bs) (λ bs. (length bs ≡ m) × AreBytes bs) (runs elf)
    (λ input s. run_bytes s) (λ input s. IsRun elf input s)
    (agrees_bytes m)
    (λ input _. agrees_part (limited (number_at w32) (is_within 1 16777216) (Limit limit.Fuel)) word (Within 1 16777216)
    (steps elf input) (λ fuel s. word s.limit ++ [])
    (λ fuel s. Within 1 65536 s.limit × (s ≡ made elf input fuel s.limit))
    (agrees_within 1 16777216 (Limit limit.Fuel))
    (λ fuel _. agrees_part (limited (number_at w32) (is_within 1 65536) (Limit limit.Steps)) word (Within 1 65536)
    (λ n. done (made elf input fuel n)) (λ n s. []) (λ n s. s ≡ made elf input fuel n)
    (agrees_within 1 65536 (Limit limit.Steps)) (λ n _. agrees_done (made elf input fuel n)) (λ s. s.limit)
    (λ n s _ e. ap (λ (t : Setup). t.limit) e))
    (λ s. s.fuel) (λ n s _ h. ap (λ (t : Setup). t.fuel) h.1))
    (λ s. s.input) (λ n s _ h. ap (λ (t : Setup). t.input) h.1.1))
    (λ s. length s.input) (λ n s _ h. h.0.0))
    (λ s. s.elf) (λ n s _ h. ap (λ (t : Setup). t.elf) h.1.1.1.1))
    (λ s. length s.elf) (λ n s _ h. h.0.0.0)
  where
    steps : List ℕ → List ℕ → ℕ → Reader Setup
    steps elf input fuel = limited (number_at w32) (is_within 1 65536) (Limit limit.Steps) >>= λ n. done
        (made elf input fuel n)

    runs : List ℕ → List ℕ → Reader Setup
    runs elf input = limited (number_at w32) (is_within 1 16777216) (Limit limit.Fuel) >>= λ fuel. steps elf input fuel

    input_bytes : List ℕ → ℕ → Reader Setup
    input_bytes elf n = bytes_at n >>= λ input. runs elf input

    inputs : List ℕ → Reader Setup
    inputs elf = limited (number_at w32) (is_within 0 1048576) (Limit limit.Input) >>= λ n. input_bytes elf n

    elfs : ℕ → Reader Setup
    elfs n = (bytes_at n >>= λ bytes. accepted (refusal_of bytes) bytes) >>= λ elf. inputs elf

to_left : (a b c d e f : List ℕ) → a ++ (b ++ (c ++ (d ++ (e ++ (f ++ []))))) ≡ a ++ b ++ c ++ d ++ e ++ f
to_left a b c d e f = simp (append_assoc, append-nil) refl

accepted_elf : (s : Setup) → refusal_of s.elf ≡ None → is_image s.elf ≡ true
unfolding is_image
accepted_elf s e = rw e refl

is_none_is : (o : Option elf.Refusal) → is_none o ≡ true → o ≡ None
is_none_is None e = refl
is_none_is (Some r) e = absurd cc

none_of : (s : Setup) → is_image s.elf ≡ true → refusal_of s.elf ≡ None
unfolding is_image
none_of s e = is_none_is (refusal_of s.elf) e

pub agrees_setup : Agrees setup_at setup_bytes FitsSetup
agrees_setup =
    agrees_said setup_at raw_bytes setup_bytes IsRaw FitsSetup agrees_raw
    (λ s h. (
      there s h,
      to_left (word (length s.elf)) s.elf (word (length s.input)) s.input (word s.fuel)
          (word s.limit),
    ))
    (λ s h. (
      (omega (arith, h.valid.elf_size), both_true (le-leb 0 _ (omega arith)) (le-leb _ _ h.valid.elf_size)),
      (
        ((refl, h.elf_bytes), none_of s h.valid.elf_accepted),
        (
          (omega (arith, h.valid.input_size), both_true (le-leb 0 _ (omega arith)) (le-leb _ _ h.valid.input_size)),
          (
            (refl, h.input_bytes),
            (
              (
                omega (arith, h.valid.limits.most_fuel),
                both_true (le-leb _ _ h.valid.limits.some_fuel)
                    (le-leb _ _ h.valid.limits.most_fuel),
              ),
              (
                (
                  omega (arith, h.valid.limits.most_steps),
                  both_true (le-leb _ _ h.valid.limits.some_steps)
                      (le-leb _ _ h.valid.limits.most_steps),
                ),
                refl,
              ),
            ),
          ),
        ),
      ),
    ))
  where
    there : (s : Setup) → IsRaw s → FitsSetup s
    there s h =
        let elf = and_parts (leb 0 (length s.elf)) (leb (length s.elf) 16777216) h.0.1 in
        let input = and_parts (leb 0 (length s.input)) (leb (length s.input) 1048576) h.1.1.0.1 in
        let run = h.1.1.1.1 in
        let fuel = and_parts (leb 1 s.fuel) (leb s.fuel 16777216) run.0.1 in
        let steps = and_parts (leb 1 s.limit) (leb s.limit 65536) run.1.0.1 in
        record {
          valid = record {
            elf_size = leb-true _ _ elf.1;
            elf_accepted = accepted_elf s h.1.0.1;
            input_size =
                leb-true _ _ input.1;
            limits =
                record {
                  some_fuel = leb-true _ _ fuel.0;
                  most_fuel = leb-true _ _ fuel.1;
                  some_steps =
                      leb-true _ _ steps.0;
                  most_steps = leb-true _ _ steps.1;
                };
          };
          elf_bytes = h.1.0.0.1;
          input_bytes = h.1.1.1.0.1;
        }
