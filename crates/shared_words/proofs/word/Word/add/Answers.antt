-- Adding one keeps the rule of the word.
use Rattle.std.proofs.Common.{rules}
use mathlib.Core.Option.{none}
use Rattle.atomic_table.specs.Table.{step}
use Rattle.shared_words.proofs.Steps.{adds}
use Rattle.shared_words.proofs.word.Word.add.Goals as goal

pub fetch_add-requires : goal.fetch_add-requires
fetch_add-requires c =
    let table = c.self.inside.table.shared.table_id in
    let seat = c.writer.inside.seat in
    (search rules, search rules, adds table.slots seat.id seat.me (step table.slots 0 1 0 none) (search rules) (search rules))
