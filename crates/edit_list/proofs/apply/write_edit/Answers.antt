-- Answers to the goals that the check of `write_edit` leaves open.
use Rattle.std.proofs.Common.{◌≡◌, ◌≤◌, ◌+◌, length, min, sym, subst, arith}
use Rattle.std.proofs.lemmas.Bool.Decides.{nat_tests}
use Rattle.edit_list.specs.Showing.{Shows}
use Rattle.edit_list.proofs.apply.write_edit.Goals as goal

pub returns-in-Set-clause-shown : goal.returns-in-Set-clause-shown
returns-in-Set-clause-shown c = λ input after size within is shows.
    let test = rw c.in-Set.is at within in
    let same : c.args.least ≡ after = let e = rw c.in-Set.is at is in e in
    let fits : c.in-Set.offset + length c.in-Set.bytes.items ≤ length input = grind (arith, nat_tests, test, size) in
    let there : c.in-Set.offset + length c.deref.result.now ≤ length input = rw c.deref.ensures.value fits in
    let count : min c.args.input_length c.args.least ≡ c.min.result = sym c.min.ensures in
    let shown = c.write_below.ensures input there (subst (Shows c.args.buffer.now input) count shows) in
    rw (c.in-Set.is, ← same, ← c.deref.ensures.value, count) shown
