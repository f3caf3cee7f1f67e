-- Each step has its read slots.
use Rattle.std.proofs.Common.{◌≡◌, ℕ, Bool, List, Vec, length, ap, sym, ◌∙◌, arith}
use Rattle.std.specs.Global.{Global}
use Rattle.std.proofs.lemmas.List.{length-map}
use Rattle.std.proofs.lemmas.List.FromFn.{length-map-range_with_len}
use Rattle.thunk_spec.specs.Record.{Record}
use Rattle.history_spec.specs.Facts.{Fact, read_slots}
use Rattle.round_spec.proofs.Placed.{facts-length}
use Rattle.round_spec.specs.Reach.{is_reached}
use Rattle.depend_graph.specs.Reaching.{slots_of_each}
use Rattle.history_facts.proofs.reaching.reached_in.Goals as goal

pub reach-requires : goal.reach-requires
reach-requires c =
    let h = c.args.history.now in
    let reads = c.in_ok-reads.reads.items in
    ap (λ (l : List (Vec ℕ Global)). length l) c.deref.ensures.value
    ∙ sym (length-map reads (λ (v : Vec ℕ Global). v.items))
    ∙ ap (λ (l : List (List ℕ)). length l) c.in_ok-reads.ensures.slots
    ∙ length-map h.records (λ (r : Record). read_slots r)
    ∙ sym (facts-length h)
    ∙ ap (λ (l : List Fact). length l) (sym c.in_ok-graph.ensures.graph)

pub count_set-requires : goal.count_set-requires
count_set-requires c =
    let h = c.args.history.now in
    let graph = c.in_ok-graph.graph in
    let many : length c.deref-3.result.now ≡ length graph =
    ap (λ (l : List Bool). length l) (c.deref-3.ensures.value ∙ c.in_ok-flags.ensures)
    ∙ length-map-range_with_len (is_reached graph (slots_of_each c.deref.result.now) c.deref-2.result.now) 0 (length graph) in
    let steps : length graph ≡ length h.records = ap (λ (l : List Fact). length l) c.in_ok-graph.ensures.graph ∙ facts-length h in
    let few = c.in_ok-reads.ensures.of_run.few in
    omega arith
