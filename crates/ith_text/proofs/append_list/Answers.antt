-- Answers to the goals that the check of `append_list` leaves open.
use Rattle.std.proofs.Common.{◌≡◌, ℕ, List, [], ◌∷◌, ◌++◌, length, get_or, take, sym, ap, ◌∙◌, arith, length-append, append_assoc, flat_map, ◌+◌, refl}
use Rattle.std.proofs.lemmas.List.{flat_map_more, take-take, take_all, take_at, take_more}
use Rattle.ith_text.specs.Lines.{list_item}
use Rattle.ith_text.proofs.append_list.Goals as goal

-- a text begins with its front
begins : (a rest later : List ℕ) → later ≡ a ++ rest → take (length a) later ≡ a
begins a rest later is = ap (take (length a)) is ∙ take_at a rest (length a) refl

-- a text that begins with a longer front begins with a shorter one
begins_shorter :
    (a rest mid later : List ℕ) → mid ≡ a ++ rest → take (length mid) later ≡ mid
    → take (length a) later ≡ a
begins_shorter a rest mid later is front =
    let len : length mid ≡ length a + length rest = ap length is ∙ length-append a rest in
    sym (take-take (length a) (length mid) later (omega arith)) ∙ ap (λ s. take (length a) s) (front ∙ is)
    ∙ take_at a rest (length a) refl

pub returns-in_err-append_item-clause-begins : goal.returns-in_err-append_item-clause-begins
returns-in_err-append_item-clause-begins c =
    begins_shorter c.args.into.now.items
    (c.args.name.now ++ flat_map list_item (take c.loop-number.number-index c.args.numbers.now))
    c.loop-number.into.items c.append_item.new.into.items
    (c.loop-number.invariant ∙ append_assoc c.args.into.now.items c.args.name.now _) c.append_item.ensures.begins

pub loop-number-preserved : goal.loop-number-preserved
loop-number-preserved c =
    let front = c.args.into.now.items ++ c.args.name.now in
    let numbers = c.args.numbers.now in
    let i = c.loop-number.number-index in
    c.in_ok-append_item.ensures.ok ∙ ap (λ s. s ++ list_item (get_or numbers i 0)) c.loop-number.invariant
    ∙ flat_map_more list_item front (take i numbers) (get_or numbers i 0)
    ∙ ap (λ l. front ++ flat_map list_item l) (sym (take_more numbers i 0 (omega arith)))

pub returns-in_err-push-clause-begins : goal.returns-in_err-push-clause-begins
returns-in_err-push-clause-begins c =
    begins c.args.into.now.items _ _
    (c.in_err-push.ensures.items ∙ c.loop-number.invariant ∙ append_assoc c.args.into.now.items c.args.name.now _)

pub returns-clause-ok : goal.returns-clause-ok
returns-clause-ok c =
    let a = c.args.into.now.items in
    let name = c.args.name.now in
    let numbers = c.args.numbers.now in
    let all = take_all c.loop-number.number-index numbers (omega arith) in
    c.in_ok-push.ensures.items
    ∙ ap (λ s. s ++ 10 ∷ [])
    (c.loop-number.invariant ∙ ap (λ l. a ++ name ++ flat_map list_item l) all
    ∙ append_assoc a name (flat_map list_item numbers))
    ∙ append_assoc a (name ++ flat_map list_item numbers) (10 ∷ [])

pub returns-clause-begins : goal.returns-clause-begins
returns-clause-begins c = begins _ _ _ (returns-clause-ok c)
