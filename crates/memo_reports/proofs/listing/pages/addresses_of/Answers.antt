-- The map is that of the setup, and its addresses are words.
use Rattle.std.proofs.Common.{◌*◌, length, map, ap, ◌∙◌, arith}
use Rattle.std.proofs.lemmas.List.{take_all}
use Rattle.memory_spec.specs.Pages.{Mapped}
use Rattle.machine_spec.specs.Setup.{map_of}
use Rattle.memo_reports.proofs.Addresses.{addresses_next, word_address}
use Rattle.memo_reports.proofs.listing.pages.addresses_of.Goals as goal

pub overflow_cast-address : goal.overflow_cast-address
overflow_cast-address c =
    word_address c.args.setup.now c.in_ok-map.map c.loop-slot.slot c.address.result c.in_ok-map.ensures.sound c.in_ok-map.ensures.map
    (omega arith) c.address.ensures

pub returns : goal.returns
returns c =
    c.loop-slot.invariant
    ∙ ap (λ pages. map (λ (page : Mapped). page.number * 4096) pages)
    (take_all _ (map_of c.args.setup.now) (omega (arith, ap length c.in_ok-map.ensures.map)))

pub loop-slot-preserved : goal.loop-slot-preserved
loop-slot-preserved c =
    addresses_next c.in_ok-map.map (map_of c.args.setup.now) c.loop-slot.slot c.address.result _ c.loop-slot.addresses.items
    c.push.new.self.items c.in_ok-map.ensures.map (omega arith) c.address.ensures c.loop-slot.invariant
    c.in_ok-push.ensures.items
