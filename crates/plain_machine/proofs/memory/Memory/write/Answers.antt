-- Answers to the goals that the check of `Memory::write` leaves open.
use Rattle.std.proofs.Common.{◌≡◌, map, set, ap, ◌∙◌}
use Rattle.std.proofs.lemmas.List.{set-get_or}
use Rattle.std.specs.Rc.{rc_value}
use Rattle.memory_spec.specs.Pages.{Memory, page_of}
use Rattle.plain_machine.specs.Stored.{with_number}
use Rattle.plain_machine.proofs.Sharing.{page_at, page_set}
use Rattle.plain_machine.proofs.memory.Memory.write.Goals as goal

pub returns-in-Some-clause-ok : goal.returns-in-Some-clause-ok
returns-in-Some-clause-ok c =
    let items = c.self.inside.pages.items in
    page_set rc_value items c.args.self.now c.args.slot _ _ c.self.view_is
    (c.write_number.ensures
    ∙ ap (λ page. with_number page c.args.offset c.args.size c.args.value)
    (c.in-Some.ensures.value
    ∙ page_at rc_value items c.args.self.now c.args.slot c.index_mut.result.now c.self.view_is c.requires.slot
    c.index_mut.ensures.value))

-- the page that was looked at is still in its slot
pub returns-in_ok-self-inside-in-None-clause-ok : goal.returns-in_ok-self-inside-in-None-clause-ok
returns-in_ok-self-inside-in-None-clause-ok c =
    let items = c.self.inside.pages.items in
    let seen = c.index_mut.result.now in
    let same : set items c.args.slot seen ≡ items =
    ap (λ page. set items c.args.slot page) c.index_mut.ensures.value ∙ set-get_or items c.args.slot seen in
    let view_is : map rc_value (set items c.args.slot seen) ≡ c.args.self.now =
    ap (map rc_value) same ∙ c.self.view_is in
    page_set rc_value (set items c.args.slot seen) c.args.self.now c.args.slot c.in_ok-self-inside-in-None.field-0 _ view_is
    (c.in_ok-self-inside-in-None.ensures
    ∙ ap (λ page. with_number page c.args.offset c.args.size c.args.value)
    (c.page.ensures ∙ ap (λ (memory : Memory). page_of memory c.args.slot) view_is))
