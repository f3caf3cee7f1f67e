-- Answers to the goals that the check of `merge_word` leaves open.
use Rattle.std.proofs.Common.{◌≡◌, arith, ◌∙◌, ◌+◌, ap, cond, ◌==◌, get_or, length, sym, true}
use Rattle.std.specs.Int.{bit_at}
use Rattle.std.specs.Simd.Lanes.{chunk}
use Rattle.std.proofs.lemmas.Nat.Bits.{bit_at_ones}
use Rattle.std.proofs.lemmas.Simd.{length-chunk, get_or-chunk, get_or-put_chunk_at, get_or-put_chunk_below, get_or-put_chunk_above}
use Rattle.page_store.proofs.merging.merge_word.Goals as goal

pub select_marked-requires-clause-written : goal.select_marked-requires-clause-written
select_marked-requires-clause-written c = length-chunk c.args.first 64 c.args.written.now c.requires.written

pub select_marked-requires-clause-page : goal.select_marked-requires-clause-page
select_marked-requires-clause-page c = length-chunk c.args.first 64 c.args.page.now c.requires.page

pub returns-clause-each : goal.returns-clause-each
returns-clause-each c k lt =
    get_or-put_chunk_at c.args.first c.args.page.now c.select_marked.result k 0 (omega (arith, c.select_marked.ensures.lanes, lt))
    (omega (arith, c.select_marked.ensures.lanes, c.requires.page))
    ∙ c.select_marked.ensures.each k lt
    ∙ ap (λ n. cond (bit_at c.args.word k == 1) n (get_or (chunk c.args.first 64 c.args.page.now) k 0))
    (get_or-chunk c.args.first 64 c.args.written.now k 0 lt)
    ∙ ap (λ n. cond (bit_at c.args.word k == 1) (get_or c.args.written.now (c.args.first + k) 0) n)
    (get_or-chunk c.args.first 64 c.args.page.now k 0 lt)

pub returns-clause-before : goal.returns-clause-before
returns-clause-before c k lt = get_or-put_chunk_below c.args.first c.args.page.now c.select_marked.result k 0 lt

pub returns-clause-behind : goal.returns-clause-behind
returns-clause-behind c k le =
    get_or-put_chunk_above c.args.first c.args.page.now c.select_marked.result k 0 (omega (arith, c.select_marked.ensures.lanes, le))

pub returns-then-word-eq18446744073709551615-clause-each :
    goal.returns-then-word-eq18446744073709551615-clause-each
returns-then-word-eq18446744073709551615-clause-each c k lt =
    let whole = chunk c.args.first 64 c.args.written.now in
    let count : length whole ≡ 64 = length-chunk c.args.first 64 c.args.written.now c.requires.written in
    let marked : (bit_at c.args.word k == 1) ≡ true =
    ap (λ n. bit_at n k == 1) c.if-word-eq18446744073709551615.true ∙ ap (λ n. n == 1) (bit_at_ones 64 k lt) in
    get_or-put_chunk_at c.args.first c.args.page.now whole k 0 (omega (arith, count, lt))
    (omega (arith, count, c.requires.page))
    ∙ get_or-chunk c.args.first 64 c.args.written.now k 0 lt
    ∙ sym (ap (λ b. cond b (get_or c.args.written.now (c.args.first + k) 0) (get_or c.args.page.now (c.args.first + k) 0))
    marked)

pub returns-then-word-eq18446744073709551615-clause-before :
    goal.returns-then-word-eq18446744073709551615-clause-before
returns-then-word-eq18446744073709551615-clause-before c k lt =
    get_or-put_chunk_below c.args.first c.args.page.now (chunk c.args.first 64 c.args.written.now) k 0 lt

pub returns-then-word-eq18446744073709551615-clause-behind :
    goal.returns-then-word-eq18446744073709551615-clause-behind
returns-then-word-eq18446744073709551615-clause-behind c k le =
    let count = length-chunk c.args.first 64 c.args.written.now c.requires.written in
    get_or-put_chunk_above c.args.first c.args.page.now (chunk c.args.first 64 c.args.written.now) k 0
    (omega (arith, count, le))
