-- Answers to the goals that the check of `find_code` leaves open.
use Rattle.std.proofs.Common.{ap, sym, ◌∙◌}
use Rattle.memory_spec.specs.Pages.{allows, execute_right}
use Rattle.plain_machine.proofs.Fetching.{slot_of-same, permission_at-same}
use Rattle.plain_machine.proofs.pages.find_code.Goals as goal

-- each address of this page is in its slot, and may be fetched from
pub returns-clause-last : goal.returns-clause-last
returns-clause-last c = λ address small same. (
  slot_of-same c.args.map.now address c.args.address same ∙ sym c.in_ok-slot.ensures.slot.0,
  c.in_ok-slot.ensures.slot.1,
  ap (allows execute_right)
      (permission_at-same c.args.map.now address c.args.address same ∙ sym c.in_ok-slot.ensures.perm)
      ∙ sym c.if-not-executes.ensures,
)
