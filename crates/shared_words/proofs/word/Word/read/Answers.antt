-- Loading keeps the rule of the word, and returns its value.
use Rattle.std.proofs.Common.{rules}
use mathlib.Core.Option.{none}
use Rattle.atomic_table.specs.Table.{step}
use Rattle.shared_words.proofs.Steps.{loads}
use Rattle.shared_words.proofs.word.Word.read.Goals as goal

pub load-requires : goal.load-requires
load-requires c =
    let table = c.self.inside.table.shared.table_id in
    let seat = c.writer.inside.seat in
    (search rules, search rules, loads table.slots seat.id seat.me (step table.slots 0 0 0 none))
