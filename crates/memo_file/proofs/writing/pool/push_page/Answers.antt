-- The new page is after the others, in the map too.
use Rattle.std.proofs.Common.{◌≡◌, List, ℕ, length, rules, sym, ◌∙◌}
use Rattle.std.proofs.lemmas.List.{map_push, length-map}
use Rattle.std.proofs.lemmas.Map.Text.{btree_map_updates_str}
use Rattle.std.specs.Borrow.{Bor}
use Rattle.memo_spec.proofs.Order.{once_push}
use Rattle.memo_file.specs.WritingPool.{pages_lent}
use Rattle.memo_file.proofs.WritingPool.{index_of_next, place_new}
use Rattle.memo_file.proofs.writing.pool.push_page.Goals as goal

pub returns-clause-indexed : goal.returns-clause-indexed
returns-clause-indexed c =
    let m : c.len-place.result ≡ length c.args.known.now.pool.items = search rules in
    let n : c.len-place.result ≡ length (pages_lent c.args.known.now.pool.items) =
    m ∙ sym (length-map c.args.known.now.pool.items (λ (p : Bor (List ℕ)). p.now)) in
    rw (c.in_ok-push.ensures.items, map_push (λ (p : Bor (List ℕ)). p.now) c.args.known.now.pool.items c.args.page)
    (record {
      index = λ q.
          index_of_next (pages_lent c.args.known.now.pool.items) c.args.page.now q c.len-place.result _ _ n
          c.requires.fresh (c.requires.indexed.index q)
          (btree_map_updates_str c.args.page.now c.args.known.now.indices c.insert.new.self _
          c.in_ok-insert.ensures.updates q);
      once = once_push (pages_lent c.args.known.now.pool.items) c.args.page.now c.requires.indexed.once
          c.requires.fresh;
    })

pub returns-clause-place : goal.returns-clause-place
returns-clause-place c =
    let m : c.len-place.result ≡ length c.args.known.now.pool.items = search rules in
    m
    ∙ sym (length-map c.args.known.now.pool.items (λ (p : Bor (List ℕ)). p.now))
    ∙ sym (place_new (pages_lent c.args.known.now.pool.items) c.args.page.now c.requires.fresh)
