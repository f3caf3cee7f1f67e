-- Applying a record, part by part.
use Rattle.std.proofs.Common.{◌≡◌, ℕ, suc, true, List, [], ◌∷◌, ◌++◌, Option, length, set, refl, ap, ◌∙◌, arith}
use Rattle.std.proofs.lemmas.Bool.{and_parts}
use Rattle.std.proofs.lemmas.List.{length-set, get_or_past}
use Rattle.memory_spec.specs.Pages.{Mapped, Memory, page_of, slot_of}
use Rattle.thunk_spec.specs.Put.{byte_at}
use Rattle.thunk_spec.specs.Delta.{PageDelta, spread, masked}
use Rattle.thunk_spec.specs.Record.{Record, put_of}
use Rattle.guest_call.specs.Objects.{Objects}
use Rattle.machine_spec.specs.declared.states.End.{End}
use Rattle.machine_spec.specs.Machine.{Machine, Hart, hart_of, is_ready}
use Rattle.machine_spec.specs.declared.states.Asked.{Asked}
use Rattle.machine_spec.specs.Step.{advanced, asked, end_after, finished, apply, fits}
use Rattle.machine_calls.specs.Doing.{harts_after, objects_after, own_end}
use Rattle.machine_calls.proofs.Finishing.{finished-parts}

-- the machine's parts, each as the code makes it, are the machine after a record was applied
pub applied-parts :
    (m : Machine) (r : Record) (memory : Memory) (written done : List Hart) (objects : Objects) (put output : List ℕ)
    (steps : ℕ) (ending : Option End) (a : Asked)
    → memory ≡ masked m.memory r.kept.delta
    → written ≡ set m.harts r.thread (advanced (hart_of m r.thread) r.kept.finish)
    → a ≡ asked r.thread r.kept.end r.kept.finish
    → put ≡ put_of m.frame.map (hart_of m r.thread).view r.kept
    → output ≡ m.output ++ put
    → steps ≡ suc m.steps
    → done ≡ harts_after m.frame.map m.objects memory r.thread written a
    → objects ≡ objects_after m.frame.map m.objects r.thread a
    → ending ≡ end_after (own_end m.frame.map m.objects r.thread a) done m.limit steps
    → record {
      frame = m.frame;
      limit = m.limit;
      memory = memory;
      harts = done;
      objects = objects;
      output =
          output;
      steps = steps;
      ending = ending;
    } ≡ apply m r
unfolding apply
applied-parts m r memory written done objects put output steps ending a is_memory is_written is_asked is_put is_output
    is_steps is_done is_objects is_ending =
    finished-parts m r.thread memory r.kept.finish r.kept.end put output written done objects steps ending a is_written
    is_asked is_output is_steps is_done is_objects is_ending
    ∙ ap (λ after. finished m r.thread after r.kept.finish r.kept.end put) is_memory
    ∙ ap (finished m r.thread (masked m.memory r.kept.delta) r.kept.finish r.kept.end) is_put

-- as many pages as before
pub masked_count : (m : Memory) (delta : List PageDelta) → length (masked m delta) ≡ length m
masked_count m [] = refl
masked_count m (d ∷ delta) =
    masked_count (set m d.slot (spread d.mask d.bytes (page_of m d.slot))) delta
    ∙ length-set m d.slot (spread d.mask d.bytes (page_of m d.slot))

-- an address that no page has has no byte
pub no_byte :
    (map : List Mapped) (table : Memory) (address : ℕ)
    → length table ≡ length map → slot_of map address ≡ length map → byte_at map table address ≡ 0
no_byte map table address count past =
    let none : page_of table (slot_of map address) ≡ [] = get_or_past table (slot_of map address) [] (omega arith) in
    rw none refl

-- a record that fits is of a ready thread
pub fitting_can : (m : Machine) (r : Record) → fits m r ≡ true → is_ready (hart_of m r.thread).status ≡ true
unfolding fits
fitting_can m r fit = (and_parts _ _ fit).0
