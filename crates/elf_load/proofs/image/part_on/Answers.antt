-- Answers to the goals that the check of `part_on` leaves open.
use Rattle.std.proofs.Common.{◌≡◌, ◌+◌, ◌*◌, ℕ, ap, ◌∙◌, arith}
use Rattle.elf_load.specs.Header.{header_of}
use Rattle.elf_load.specs.Place.{place_in_file}
use Rattle.elf_load.proofs.Parts.{part_fits, part_has}
use Rattle.elf_load.proofs.image.part_on.Goals as goal

-- the part is read from the segment's place at the page's first address up to its place at the first address after it
from_place :
    (c : goal.After-result-1)
    → c.place_in_file-first.result
    ≡ place_in_file c.args.bytes.now (header_of c.args.header) (4096 * c.args.number)
from_place c =
    let at : c.from.result * 4096 ≡ 4096 * c.args.number = omega arith in
    c.place_in_file-first.ensures
    ∙ ap (λ (a : ℕ). place_in_file c.args.bytes.now (header_of c.args.header) a) at

to_place :
    (c : goal.After-result-1)
    → c.place_in_file-end.result
    ≡ place_in_file c.args.bytes.now (header_of c.args.header) (4096 * c.args.number + 4096)
to_place c =
    let at : c.from.result * 4096 + 4096 ≡ 4096 * c.args.number + 4096 = omega arith in
    c.place_in_file-end.ensures
    ∙ ap (λ (a : ℕ). place_in_file c.args.bytes.now (header_of c.args.header) a) at

pub returns-clause-within : goal.returns-clause-within
returns-clause-within c =
    part_fits c.args.bytes.now (header_of c.args.header) (4096 * c.args.number) c.place_in_file-first.result
    c.place_in_file-end.result (from_place c) (to_place c)

pub returns-clause-each : goal.returns-clause-each
returns-clause-each c = λ k inside has.
    part_has c.args.bytes.now (header_of c.args.header) (4096 * c.args.number) c.place_in_file-first.result
    c.place_in_file-end.result k (from_place c) (to_place c) inside has
