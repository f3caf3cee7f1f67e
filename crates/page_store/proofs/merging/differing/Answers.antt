-- Answers to the goals that the check of `differing` leaves open.
use Rattle.std.proofs.Common.{◌+◌, cond, nat_eq, get_or, ap, ◌∙◌}
use Rattle.std.specs.Simd.Lanes.{chunk}
use Rattle.std.proofs.lemmas.Simd.{length-chunk, get_or-chunk}
use Rattle.page_store.proofs.Giving.{differs_at}
use Rattle.page_store.proofs.merging.differing.Goals as goal

pub returns : goal.returns
returns c k lt =
    let first = c.args.first in
    let page = c.args.page.now in
    let written = c.args.written.now in
    differs_at (chunk first 64 page) (chunk first 64 written) k (length-chunk first 64 page c.requires.page)
    (length-chunk first 64 written c.requires.written) lt
    ∙ ap (λ n. cond (nat_eq n (get_or (chunk first 64 written) k 0)) 0 1) (get_or-chunk first 64 page k 0 lt)
    ∙ ap (λ n. cond (nat_eq (get_or page (first + k) 0) n) 0 1) (get_or-chunk first 64 written k 0 lt)
