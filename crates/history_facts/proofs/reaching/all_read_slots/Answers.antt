-- One more step.
use Rattle.std.proofs.Common.{◌≡◌, ◌<◌, ◌+◌, ◌++◌, ◌∷◌, ℕ, List, [], Vec, length, map, take, get_or, ap, sym, ◌∙◌, arith}
use Rattle.std.specs.Global.{Global}
use Rattle.std.specs.Arc.{arc_value}
use Rattle.std.proofs.lemmas.List.{take_more, map-append}
use Rattle.std.proofs.lemmas.Option.{get_or_from_slice_get}
use Rattle.thunk_spec.specs.Record.{Record}
use Rattle.history_spec.specs.Facts.{read_slots}
use Rattle.depend_graph.specs.Reaching.{slots_of_each}
use Rattle.history_facts.proofs.reaching.all_read_slots.Goals as goal

-- the slots that one more step reads come last
read-more :
    (rs : List Record) (reads : List (Vec ℕ Global)) (i : ℕ) (r : Record) (slots : Vec ℕ Global)
    → i < length rs → get_or rs i r ≡ r → slots.items ≡ read_slots r
    → slots_of_each reads ≡ map (λ (q : Record). read_slots q) (take i rs)
    → slots_of_each (reads ++ slots ∷ []) ≡ map (λ (q : Record). read_slots q) (take (i + 1) rs)
read-more rs reads i r slots below at read before =
    map-append (λ (v : Vec ℕ Global). v.items) reads (slots ∷ [])
    ∙ ap (λ (l : List (List ℕ)). l ++ slots.items ∷ []) before
    ∙ ap (λ (l : List ℕ). map (λ (q : Record). read_slots q) (take i rs) ++ l ∷ []) read
    ∙ sym (map-append (λ (q : Record). read_slots q) (take i rs) (r ∷ []))
    ∙ ap (λ (q : Record). map (λ (p : Record). read_slots p) (take i rs ++ q ∷ [])) (sym at)
    ∙ ap (map (λ (q : Record). read_slots q)) (sym (take_more rs i r below))

pub loop-i-preserved : goal.loop-i-preserved
loop-i-preserved c =
    let rs = c.records-records.result.now in
    let r = c.deref.result.now in
    let below : c.loop-i.i < length rs = omega arith in
    let at : get_or rs c.loop-i.i r ≡ r =
    get_or_from_slice_get rs c.loop-i.i (arc_value c.at.result.now) r c.at.ensures ∙ sym c.deref.ensures in
    ap slots_of_each c.in_ok-push.ensures.items
    ∙ read-more rs c.loop-i.reads.items c.loop-i.i r c.in_ok-read_slots.field-0 below at c.in_ok-read_slots.ensures
    c.loop-i.invariant
