-- Answers to the goals that the check of `with_page` leaves open.
use Rattle.std.proofs.Common.{ap, set, map, ◌∙◌}
use Rattle.std.proofs.lemmas.List.{map-set}
use Rattle.std.specs.Arc.{arc_value}
use Rattle.page_store.proofs.group.Group.with_page.Goals as goal

pub returns : goal.returns
returns c =
    map-set arc_value c.in_ok-pages.pages.items c.args.place c.args.page
    ∙ ap (λ pages. set pages c.args.place (arc_value c.args.page))
    (c.in_ok-pages.ensures ∙ ap (λ pages. map arc_value pages) c.deref.ensures.value ∙ c.self.view_is)
