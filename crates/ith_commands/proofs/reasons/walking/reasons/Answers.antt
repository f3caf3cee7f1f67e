-- Answers to the goals that the check of `reasons` leaves open.
use Rattle.std.proofs.Common.{ap, subst, sym, ◌∙◌}
use Rattle.machine_spec.specs.Setup.{first}
use Rattle.machine_spec.specs.Whole.{IsWhole}
use Rattle.machine_spec.proofs.Beginning.{IsWhole-first}
use Rattle.memo_reports.specs.Listing.{addresses_of}
use Rattle.ith_commands.proofs.reasons.walking.reasons.Goals as goal

pub reasons_from-requires : goal.reasons_from-requires
reasons_from-requires c = record {
  first = c.in_ok-core.ensures.first ∙ ap first c.setup-2.ensures;
  whole = subst IsWhole (sym c.in_ok-core.ensures.first) (IsWhole-first c.setup-2.result.now c.in_ok-core.ensures.sound);
  pages =
      record {
        addresses = c.in_ok-addresses_of.ensures ∙ ap addresses_of c.setup.ensures;
        room = c.in_ok-no_searches.ensures.room;
        right = c.in_ok-no_searches.ensures.right c.args.round.now.records;
      };
}
