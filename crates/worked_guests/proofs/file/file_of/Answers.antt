-- Answers to the goals that the check of `file_of` leaves open.
use Rattle.std.proofs.Common.{◌≤◌, ◌<◌, length, arith}
use Rattle.worked_guests.proofs.Sizes.{sizes}
use Rattle.worked_guests.proofs.file.file_of.Goals as goal

pub elf-requires-clause-high : goal.elf-requires-clause-high
elf-requires-clause-high c =
    let both = sizes c.as_slice.result.now in
    let few : length c.as_slice.result.now ≤ 65536 =
    omega (arith, c.as_slice.ensures.len, c.len.ensures, c.if-len-gt65536.false) in
    omega (arith, both.1, few, c.if-guest-gt65536.false)

pub elf-requires-clause-some : goal.elf-requires-clause-some
elf-requires-clause-some c =
    let both = sizes c.as_slice.result.now in
    let some : 0 < length c.as_slice.result.now = grind (arith, c.as_slice.ensures.len, c.if-is_empty.ensures) in
    omega (arith, both.0, some)

pub elf-requires-clause-few : goal.elf-requires-clause-few
elf-requires-clause-few c =
    let both = sizes c.as_slice.result.now in
    let few : length c.as_slice.result.now ≤ 65536 =
    omega (arith, c.as_slice.ensures.len, c.len.ensures, c.if-len-gt65536.false) in
    omega (arith, both.1, few, c.if-guest-gt65536.false)
