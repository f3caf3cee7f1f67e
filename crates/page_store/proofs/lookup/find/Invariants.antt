-- If any page has the address, its slot is one of the remaining ones.
use Rattle.std.proofs.Common.{◌<◌, ◌≤◌, ◌-◌, length}
use Rattle.memory_spec.specs.Pages.{slot_of}
use Rattle.page_store.proofs.lookup.find.Given as goal

abbrev pub invariant-loop-low : goal.invariant-loop-low
invariant-loop-low l = record {
  within : l.high ≤ length l.pages;
  above : l.low ≤ slot_of l.pages l.address;
  below : slot_of l.pages l.address < length l.pages → slot_of l.pages l.address < l.high;
}

abbrev pub decreases-loop-low : goal.decreases-loop-low
decreases-loop-low l = l.high - l.low
