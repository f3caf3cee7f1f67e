-- Each object is what the closure makes.
use Rattle.std.proofs.Common.{◌≡◌, ◌<◌, replicate, slice_index_or, arith, sym, ◌∙◌}
use Rattle.std.proofs.lemmas.List.{same_lists, length-replicate, get_or-replicate}
use Rattle.sync_objects.proofs.table.all_of.Goals as goal

pub returns : goal.returns
returns g c = λ made is.
    let long = c.from_fn.ensures.items.long in
    same_lists c.from_fn.result (replicate 64 made) (long ∙ sym (length-replicate 64 made))
    (λ k d lt.
    let below : k < 64 = omega (arith, long) in
    let met = (c.from_fn.ensures.items.at k d below).2.met in
    let same : slice_index_or c.from_fn.result k d ≡ made = is _ _ met.1 in
    same ∙ sym (get_or-replicate 64 k made d below))
