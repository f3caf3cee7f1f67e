-- Answers to the goals that the check of `is_any_ready` leaves open.
use Rattle.std.proofs.Common.{◌≡◌, ◌<◌, ◌+◌, ℕ, Bool, false, List, drop, length, get_or, sym, ap, ◌∙◌, arith, rules}
use Rattle.std.specs.Prelude.{◌||◌}
use Rattle.std.specs.List.{list_any}
use Rattle.std.proofs.lemmas.List.{at_drop_more}
use Rattle.machine_spec.specs.Machine.{Hart, is_ready}
use Rattle.machine_calls.proofs.doing.is_any_ready.Goals as goal

-- a hart that decides nothing can be left out
left_out :
    (decides : Hart → Bool) (harts : List Hart) (i : ℕ) (h : Hart) → i < length harts → h ≡ get_or harts i h
    → decides h ≡ false → list_any decides (drop (i + 1) harts) ≡ list_any decides (drop i harts)
left_out decides harts i h lt at none =
    sym
    (at_drop_more (list_any decides) harts i h lt
    ∙ ap (λ b. b || list_any decides (drop (i + 1) harts)) (ap decides (sym at) ∙ none))

pub loop-hart-preserved : goal.loop-hart-preserved
loop-hart-preserved g c =
    let lt : c.loop-hart.hart-index < length c.args.harts.now = omega arith in
    let none : is_ready c.hart-item.result.status ≡ false = search rules in
    left_out (λ (h : Hart). is_ready h.status) c.args.harts.now c.loop-hart.hart-index c.hart-item.result lt c.hart-item.is none
    ∙ c.loop-hart.invariant
