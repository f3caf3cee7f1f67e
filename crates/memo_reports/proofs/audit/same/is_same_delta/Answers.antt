-- Answers to the goals that the check of `is_same_delta` leaves open.
use Rattle.std.proofs.Common.{◌≡◌, Decides, rules}
use Rattle.std.proofs.lemmas.Slice.Eq.{bytes_eq-Decides}
use Rattle.thunk_spec.specs.Delta.{chosen, spread}
use Rattle.memo_reports.proofs.Comparing.{delta_same}
use Rattle.memo_reports.proofs.audit.same.is_same_delta.Goals as goal

pub returns : goal.returns
returns c =
    let mine = c.stored-mine.result in let theirs = c.stored-theirs.result in
    let slots : c.args.a.now.slot ≡ c.args.b.now.slot = search rules in
    let masks : mine.mask.now ≡ theirs.mask.now = search rules in
    let written : c.merge.new.page ≡ spread mine.mask.now (chosen mine.mask.now mine.page.now) theirs.page.now =
    rw (← c.bytes-2.ensures.value, ← c.bytes.ensures.value) c.merge.ensures in
    let decides : Decides c.eq.result (c.merge.new.page ≡ theirs.page.now) =
    rw (← c.bytes-3.ensures.value, c.eq.ensures) (bytes_eq-Decides c.merge.new.page c.bytes-3.result.now) in
    delta_same c.args.a.now c.args.b.now mine.mask.now theirs.mask.now mine.page.now theirs.page.now
    c.merge.new.page c.eq.result c.stored-mine.ensures.delta c.stored-theirs.ensures.delta slots masks
    c.is_same_mask.ensures.whole c.bytes-2.ensures.whole c.bytes.ensures.whole written decides
