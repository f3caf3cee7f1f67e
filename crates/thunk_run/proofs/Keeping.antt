-- What a thread's memory gives at the end of a thunk is what is kept of the thunk.
use Rattle.std.proofs.Common.{◌≡◌, false, List, ◌∙◌, refl}
use Rattle.isa_spec.specs.Registers.{Registers}
use Rattle.memory_spec.specs.Pages.{Mapped, Memory, on_each, IsMemory}
use Rattle.memory_spec.specs.Workspace.{Workspace, fresh}
use Rattle.thunk_spec.specs.Put.{put_addresses}
use Rattle.thunk_spec.specs.Thunk.{Frame, thunk, turns}
use Rattle.thunk_spec.specs.Delta.{PageDelta, delta_from}
use Rattle.thunk_spec.specs.Reads.{ReadPage, reads_from, reads_of}
use Rattle.thunk_spec.specs.Record.{kept_thunk}
use Rattle.priv_space.proofs.Collecting.{delta_from-with_stores}
use Rattle.thunk_run.specs.TurnsOutcome.{TurnsOutcome, outcome_after, with_put_taken}
use Rattle.thunk_run.proofs.Leaving.{taken_at-append}

-- what turns and their put make of a fresh memory is what is kept of the thunk
pub kept-outcome :
    (f : Frame) (view : Memory) (r : Registers)
    → IsMemory f.map view
    → record {
      reads = reads_from 0 (with_put_taken (outcome_after f.fuel (fresh f.map view) r)).workspace.taken view;
      delta =
          delta_from 0 (outcome_after f.fuel (fresh f.map view) r).workspace.stored
          (outcome_after f.fuel (fresh f.map view) r).workspace.memory;
      finish = (outcome_after f.fuel (fresh f.map view) r).regs;
      end = (outcome_after f.fuel (fresh f.map view) r).end;
      count = (outcome_after f.fuel (fresh f.map view) r).count;
    }
    ≡ kept_thunk f view r
unfolding kept_thunk thunk reads_of
kept-outcome f view r whole =
    rw (
      delta_from-with_stores f.map view (turns f.map f.fuel view r).stores whole,
      ← taken_at-append f.map (on_each false f.map) (turns f.map f.fuel view r).taken
          (put_addresses f.map (turns f.map f.fuel view r).end (turns f.map f.fuel view r).regs),
    )
    refl

-- the parts that a finished memory gives are what is kept of its thunk
pub kept-made :
    (f : Frame) (view : Memory) (r : Registers) (l : TurnsOutcome) (reads : List ReadPage) (delta : List PageDelta)
    → IsMemory f.map view
    → l ≡ with_put_taken (outcome_after f.fuel (fresh f.map view) r)
    → reads ≡ reads_from 0 l.workspace.taken l.workspace.view
    → delta ≡ delta_from 0 l.workspace.stored l.workspace.memory
    → record { reads = reads; delta = delta; finish = l.regs; end = l.end; count = l.count } ≡ kept_thunk f view r
kept-made f view r l reads delta whole made are stored = rw (are, stored, made) (kept-outcome f view r whole)

-- the same if the frame was reached through its holder
pub kept-run :
    (f g : Frame) (view : Memory) (map : List Mapped) (r : Registers) (w : Workspace) (l : TurnsOutcome)
    (reads : List ReadPage) (delta : List PageDelta)
    → IsMemory f.map view
    → g ≡ f → map ≡ f.map
    → w ≡ fresh map view
    → l ≡ with_put_taken (outcome_after g.fuel w r)
    → reads ≡ reads_from 0 l.workspace.taken l.workspace.view
    → delta ≡ delta_from 0 l.workspace.stored l.workspace.memory
    → record { reads = reads; delta = delta; finish = l.regs; end = l.end; count = l.count } ≡ kept_thunk f view r
kept-run f g view map r w l reads delta whole frame mapped begun made are stored =
    kept-made f view r l reads delta whole (made ∙ rw (frame, begun, mapped) refl) are stored
