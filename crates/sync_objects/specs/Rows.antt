-- A row done at one object of a table.
use Rattle.std.specs.Prelude.{ℕ, ◌≡◌, List, nat_lt, Option, Some, None, slice_index_or, slice_set, if◌then◌else◌}
use denote.Ref.{MutBor}
use Rattle.guest_call.specs.declared.TheConstants.{OBJECTS}
use Rattle.std.specs.Fn.{Once, FnOnceReturnsAtMut}

-- a closure's result, and the object after it, are those of a row
abbrev pub Does : {F C T : Type 0} → Once F (MutBor C × Unit {0}) (T × (MutBor C × Unit {0})) → F → (C → T × C) → Type 0
Does {F} {C} {T} g f row = (c d : C) (r : T) → FnOnceReturnsAtMut g f c r d → (r, d) ≡ row c

-- a row done at the object of number i, with its result; nothing is done if the number is above 63
abbrev pub row_at : {C T : Type 0} → C → (C → T × C) → List C → ℕ → Option T × List C
row_at free row cells i =
    if nat_lt i OBJECTS
    then (let r = row (slice_index_or cells i free) in (Some r.0, slice_set cells i r.1))
    else (None, cells)
