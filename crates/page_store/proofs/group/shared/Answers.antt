-- The list has one more of the items, and all of them at the end.
use Rattle.std.proofs.Common.{◌≡◌, ℕ, ◌+◌, ◌<◌, List, [], ◌∷◌, ◌++◌, length, map, take, get_or, sym, ap, ◌∙◌}
use Rattle.std.proofs.lemmas.List.{map_push, take_more, take_all}
use Rattle.std.specs.Arc.{arc_value}
use Rattle.page_store.proofs.group.shared.Goals as goal

one_more :
    {X Y : Type 0} (f : Y → X) (items shared : List Y) (i : ℕ) (item copy : Y)
    → i < length items → item ≡ get_or items i item → f copy ≡ f item → map f shared ≡ map f (take i items)
    → map f (shared ++ copy ∷ []) ≡ map f (take (i + 1) items)
one_more f items shared i item copy lt read same before =
    map_push f shared copy ∙ ap (λ l. l ++ f copy ∷ []) before
    ∙ ap (λ x. map f (take i items) ++ x ∷ []) (same ∙ ap f read)
    ∙ sym (ap (map f) (take_more items i item lt) ∙ map_push f (take i items) (get_or items i item))

pub loop-item-preserved : goal.loop-item-preserved
loop-item-preserved g c =
    ap (map arc_value) c.in_ok-push.ensures.items
    ∙ one_more arc_value c.args.items.now c.loop-item.shared.items c.loop-item.item-index c.item-item.result
    c.in_ok-try_clone.field-0 c.loop-item-test.true c.item-item.is c.in_ok-try_clone.ensures c.loop-item.invariant

pub returns : goal.returns
returns g c =
    c.loop-item.invariant
    ∙ ap (map arc_value) (take_all c.loop-item.item-index c.args.items.now c.loop-item-test.false)
