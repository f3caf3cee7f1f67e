-- What a function that reads returns, compared with the reader of the definitions.
use Rattle.std.specs.Prelude.{◌≡◌, ⊤, Result, Ok, Err}
use Rattle.memo_spec.specs.declared.Refusal.{Refusal}
use Rattle.memo_file.specs.declared.error.ReadError.{ReadError}
use Rattle.memo_file.specs.declared.error.ReadError.TheVariants as errors

-- A function failed because the reader does, for the same reason, or because memory ran out.
abbrev pub Fails : {Y : Type 0} → ReadError → Result Y Refusal → Type 0
Fails errors.NoMemory read = ⊤
Fails (errors.Refused refusal) read = read ≡ Err refusal

-- What a function returned, seen by a view, is what the reader gives, or memory ran out.
abbrev pub Gives : {X Y : Type 0} → (X → Y) → Result X ReadError → Result Y Refusal → Type 0
Gives view (Ok x) read = read ≡ Ok (view x)
Gives view (Err e) read = Fails e read

-- A function returned this value, or memory ran out.
abbrev pub IsReadAs : {X : Type 0} → X → Result X ReadError → Type 0
IsReadAs x (Ok y) = y ≡ x
IsReadAs x (Err e) = e ≡ errors.NoMemory
