-- Readers of fields: each returns what it read and the place behind it, or a refusal.
use Rattle.std.specs.Prelude.{ℕ, ◌+◌, zero, suc, Bool, nat_lt, if◌then◌else◌, List, [], ◌∷◌, length, take, drop, Result, Ok, Err}
use Rattle.std.specs.Int.{Width, byte_len, from_le_bytes}
use Rattle.ith_text.specs.Place.{Place}
use Rattle.memo_spec.specs.declared.Refusal.{Refusal}
use Rattle.memo_spec.specs.declared.Refusal.TheVariants.{Field}

-- A reader of something from a place on.
abbrev pub Reader : Type 0 → Type 0
Reader A = Place → Result (A × Place) Refusal

-- What is read behind what was read.
abbrev pub onward : {A B : Type 0} → Result (A × Place) Refusal → (A → Reader B) → Result (B × Place) Refusal
onward (Ok x) next = next x.0 x.1
onward (Err e) next = Err e

infixl 10 ◌>>=◌
-- One reader and then another, which is given what the first one read.
abbrev pub ◌>>=◌ : {A B : Type 0} → Reader A → (A → Reader B) → Reader B
◌>>=◌ first next = λ p. onward (first p) next

-- Nothing is read, and this is the value.
abbrev pub done : {A : Type 0} → A → Reader A
done a = λ p. Ok (a, p)

-- The place so many bytes on.
abbrev pub past : ℕ → Place → Place
past n p = record { taken = p.taken + n; left = drop n p.left }

-- A field of so many bytes. One that the end cuts off is refused.
abbrev pub bytes_at : ℕ → Reader (List ℕ)
bytes_at n = λ p. if nat_lt (length p.left) n then Err (Field p.taken) else Ok (take n p.left, past n p)

-- A field that is a number, the lowest byte first.
abbrev pub number_at : Width → Reader ℕ
number_at w = λ p.
    if nat_lt (length p.left) (byte_len w) then Err (Field p.taken)
    else Ok (from_le_bytes w p.left, past (byte_len w) p)

-- This value, or the refusal if a test fails.
abbrev pub tested : {A : Type 0} → Bool → Refusal → A → Place → Result (A × Place) Refusal
tested holds refusal a p = if holds then Ok (a, p) else Err refusal

-- A field with a rule.
abbrev pub ruled : {A : Type 0} → Reader A → (A → Bool) → Reader A
ruled read rule = λ p. onward (read p) (λ a. tested (rule a) (Field p.taken) a)

-- A field with a limit: out of its range it has a refusal of its own.
abbrev pub limited : {A : Type 0} → Reader A → (A → Bool) → Refusal → Reader A
limited read rule refusal = λ p. onward (read p) (λ a. tested (rule a) refusal a)

-- So many, one after the other.
abbrev pub each : {A : Type 0} → ℕ → Reader A → Reader (List A)
each zero read = done []
each (suc n) read = do
  first ← read
  others ← each n read
  done (first ∷ others)

-- So many, one after the other, each read in the state that the one before it returned; and the last state.
abbrev pub chain : {S A : Type 0} → (S → Reader (A × S)) → ℕ → S → Reader (List A × S)
chain step zero s = done ([], s)
chain step (suc n) s = do
  x ← step s
  others ← chain step n x.1
  done (x.0 ∷ others.0, others.1)
