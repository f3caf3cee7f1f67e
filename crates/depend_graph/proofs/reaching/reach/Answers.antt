-- Whether the next step is reached is found, and the step is past.
use Rattle.std.proofs.Common.{◌≡◌, ◌<◌, ◌+◌, ◌++◌, ◌∷◌, ℕ, suc, Bool, List, [], Vec, length, map, ap, sym, ◌∙◌, subst, arith}
use Rattle.std.proofs.lemmas.List.{get_or-map, get_or_read}
use Rattle.std.proofs.lemmas.List.FromFn.{map-range_with_len_more}
use Rattle.std.specs.List.{range_with_len}
use Rattle.std.specs.Global.{Global}
use Rattle.guest_call.specs.declared.thread_number.TheConstants.{THREADS}
use Rattle.history_spec.specs.Facts.{Fact}
use Rattle.history_spec.specs.Before.{no_fact, fact_at}
use Rattle.round_spec.specs.Reach.{read_at, is_reached}
use Rattle.depend_graph.specs.Reaching.{slots_of_each, IsStepMore, IsReachedPast}
use Rattle.depend_graph.proofs.Reached.{past-more, next-round_text_by}
use Rattle.depend_graph.proofs.reaching.reach.Goals as goal

pub loop-i-preserved : goal.loop-i-preserved
loop-i-preserved c =
    let fs = c.args.facts.now in
    let reads = slots_of_each c.args.reads.now in
    let pages = c.args.changed.now in
    let n = c.loop-i.i in
    let in_range : n < length fs = omega arith in
    let here : c.index-facts-i.result ≡ fact_at fs n =
    get_or_read fs n c.index-facts-i.result in_range c.index-facts-i.is no_fact in
    let known : c.index-facts-i.result.thread < THREADS =
    subst (λ (f : Fact). f.thread < THREADS) (sym here) (c.requires.threads n no_fact in_range) in
    let same : length c.args.reads.now ≡ length fs = c.requires.same in
    let read : c.deref.result.now ≡ read_at reads n =
    c.deref.ensures.value
    ∙ ap (λ (v : Vec ℕ Global). v.items) c.index-reads-i.is
    ∙ sym (get_or-map (λ (v : Vec ℕ Global). v.items) c.args.reads.now n c.index-reads-i.result [] (omega arith)) in
    let reported : c.reaches-reached.result ≡ is_reached fs reads pages n =
    c.reaches-reached.ensures
    ∙ next-round_text_by fs reads pages n c.loop-i.past c.index-facts-i.result c.deref.result.now
    c.loop-i.invariant.past here read known in
    let again : c.index-facts-i-in-loop-i.result ≡ fact_at fs n =
    get_or_read fs n c.index-facts-i-in-loop-i.result in_range c.index-facts-i-in-loop-i.is no_fact in
    let more : IsStepMore c.loop-i.past c.add.new.self (fact_at fs n) n (is_reached fs reads pages n) =
    subst (λ (b : Bool). IsStepMore c.loop-i.past c.add.new.self (fact_at fs n) n b) reported
    (subst (λ (f : Fact). IsStepMore c.loop-i.past c.add.new.self f n c.reaches-reached.result) again
    c.in_ok-add.ensures) in
    let next : suc n ≡ n + 1 = omega arith in
    record {
      past = subst (λ (k : ℕ). IsReachedPast fs reads pages k c.add.new.self) next
          (past-more fs reads pages n c.loop-i.past c.add.new.self c.loop-i.invariant.past more);
      flags = c.in_ok-push.ensures.items
          ∙ ap (λ (bs : List Bool). bs ++ c.reaches-reached.result ∷ []) c.loop-i.invariant.flags
          ∙ ap (λ (b : Bool). map (is_reached fs reads pages) (range_with_len 0 n) ++ b ∷ []) reported
          ∙ sym (map-range_with_len_more (is_reached fs reads pages) 0 n n (omega arith));
    }
