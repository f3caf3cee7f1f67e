-- A row at the object of a number, by its effect and the object after it.
use Rattle.std.proofs.Common.{◌≡◌, ℕ, ◌<◌, List, length, slice_index_or, slice_set, Some, arith}
use Rattle.std.proofs.lemmas.Bool.Decides.{nat_tests}
use Rattle.std.proofs.lemmas.List.{get_or_default}
use Rattle.sync_objects.specs.Rows.{row_at}

-- the effect and the object after a row, at a number below 64, are those of the row there
pub row_at-done : {C T : Type 0} (free d : C) (row : C → T × C) (cells : List C) (i : ℕ) (r : T) (y : C) →
    i < 64 → length cells ≡ 64 → (r, y) ≡ row (slice_index_or cells i d) → (Some r, slice_set cells i y)
    ≡ row_at free row cells i
row_at-done free d row cells i r y there long is =
    let same : slice_index_or cells i d ≡ slice_index_or cells i free =
    get_or_default cells i d free (omega (arith, there, long)) in
    grind (arith, nat_tests, there, is, same)
