-- One more access is among those of its thread.
use Rattle.std.proofs.Common.{ap, sym, ◌∙◌, subst}
use Rattle.memo_reports.specs.declared.races.past.ThreadPast.{ThreadPast}
use Rattle.memo_reports.specs.Past.{IsThreadPast}
use Rattle.memo_reports.proofs.Own.{all-after, count-set}
use Rattle.memo_reports.proofs.races.past.PagePast.add.Goals as goal

pub add-requires-clause-after : goal.add-requires-clause-after
add-requires-clause-after c =
    let place = c.in-Some.place in
    let p = c.index_mut.result.now in
    all-after c.args.access c.args.self.now.threads.items place p c.in-Some.ensures.within c.index_mut.ensures.value
    (subst IsThreadPast (sym c.index_mut.ensures.value) (c.requires.past place p c.in-Some.ensures.within))
    (ap (λ (r : ThreadPast). r.thread) c.index_mut.ensures.value ∙ c.in-Some.ensures.thread p)
    c.requires.after

pub returns-in_ok-add-in-Some-clause-counts : goal.returns-in_ok-add-in-Some-clause-counts
returns-in_ok-add-in-Some-clause-counts c = λ q.
    count-set q c.args.self.now.threads.items c.in-Some.place c.index_mut.result.now c.add.new.self c.args.access
    c.in-Some.ensures.within c.index_mut.ensures.value c.in_ok-add-in-Some.ensures.all
