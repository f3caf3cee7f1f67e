-- Answers to the goals that the check of `page_at` leaves open.
use Rattle.std.proofs.Common.{◌%◌, get_or, ap, ◌∙◌}
use Rattle.thunk_spec.specs.Delta.{masked}
use Rattle.release_core.proofs.Applying.{masked_count}
use Rattle.release_core.proofs.Putting.{no_page}
use Rattle.release_core.proofs.put.page_at.Goals as goal

pub returns-in-None : goal.returns-in-None
returns-in-None c a same =
    ap (λ l. get_or l (a % 4096) 0) c.zero.ensures
    ∙ no_page c.args.map.now (masked c.args.view.now c.args.rec.now.kept.delta) a c.args.address
    (masked_count c.args.view.now c.args.rec.now.kept.delta ∙ c.requires) c.in-None.ensures.missing same
