-- Answers to the goals that the check of `slot_of` leaves open.
use Rattle.std.proofs.Common.{◌≡◌, ◌<◌, ◌+◌, ◌-◌, ◌/◌, ◌%◌, suc, length, get_or, ap, sym, ◌∙◌, arith}
use Rattle.std.proofs.lemmas.Grind.{get_or_default_zero}
use Rattle.page_store.specs.MapTables.{place_of}
use Rattle.page_store.proofs.Slots.{slot_of-at}
use Rattle.page_store.proofs.map_table.Table.slot_of.Goals as goal

pub returns-else-place-eq0 : goal.returns-else-place-eq0
returns-else-place-eq0 c =
    let table = c.requires.table in
    let starts = c.args.self.now.starts in
    let places = c.args.self.now.places.items in
    let number = c.args.address / 4096 in
    let place = c.from-start.result + number % 4096 in
    let slot = c.from-place.result - 1 in
    let one_more : c.from-place.result ≡ suc slot = omega arith in
    let within : place < length places =
    omega (arith, c.from-start.ensures, table.inside (number / 4096), table.room, table.count) in
    let says : place_of starts places number ≡ suc slot =
    ap (λ start. get_or places (start + number % 4096) 0) (sym c.from-start.ensures)
    ∙ sym (get_or_default_zero places place c.index.result.now within)
    ∙ sym c.index.ensures
    ∙ sym c.from-place.ensures
    ∙ one_more in
    let mapped = table.mapped number slot says in (
      sym (slot_of-at c.args.pages.now slot c.args.address c.requires.ascends mapped
          (table.numbered number slot says)),
      mapped,
    )
