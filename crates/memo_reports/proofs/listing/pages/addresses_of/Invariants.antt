-- The addresses so far are those of the first slots.
use Rattle.std.proofs.Common.{◌≡◌, ◌*◌, map, take}
use Rattle.memory_spec.specs.Pages.{Mapped}
use Rattle.machine_spec.specs.Setup.{map_of}
use Rattle.memo_reports.proofs.listing.pages.addresses_of.Given as goal

abbrev pub invariant-loop-slot : goal.invariant-loop-slot
invariant-loop-slot l = l.addresses.items ≡ map (λ (page : Mapped). page.number * 4096) (take l.slot (map_of l.setup))
