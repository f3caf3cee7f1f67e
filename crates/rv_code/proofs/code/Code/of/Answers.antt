-- One more page was decoded; at the end all were.
use Rattle.std.proofs.Common.{◌≡◌, ◌+◌, ◌<◌, ℕ, List, [], ◌∷◌, ◌++◌, length, map, slice_index_or, Option, None, arith, below_more, length-append}
use Rattle.std.proofs.lemmas.List.{map-append, length-map, get_or_append_left}
use Rattle.std.proofs.Math.Seq.{get_or-append_seam}
use Rattle.memory_spec.specs.Pages.{page_of, unmapped}
use Rattle.rv_code.specs.Meaning.{Decoded}
use Rattle.rv_code.specs.Pages.{IsDecodedAs}
use Rattle.rv_code.proofs.code.Code.of.Goals as goal

-- what holds of the decoded pages so far, slot by slot, and of one more holds of all of them
pushed :
    {A : Type 0} (view : A → Option Decoded) (pages : List A) (page : A) (n : ℕ) (P : ℕ → Option Decoded → Type 0)
    → length pages ≡ n → ((k : ℕ) → k < n → P k (slice_index_or (map view pages) k None)) → P n (view page)
    → (k : ℕ) → k < n + 1 → P k (slice_index_or (map view (pages ++ page ∷ [])) k None)
pushed view pages page n P is before here =
    let count : length (map view pages) ≡ n = rw length-map is in
    let last : slice_index_or (map view pages ++ view page ∷ []) n None ≡ view page =
    rw (← count) (get_or-append_seam (map view pages) (view page) [] None) in
    rw map-append
    (below_more (λ k. P k (slice_index_or (map view pages ++ view page ∷ []) k None)) n
    (λ k below. let inside : k < length (map view pages) = omega arith in rw get_or_append_left (before k below))
    (rw last here))

pub loop-slot-preserved : goal.loop-slot-preserved
loop-slot-preserved c =
    rw c.in_ok-push.ensures.items record {
      count = rw length-append (omega arith);
      each =
          pushed _ c.loop-slot.pages.items c.in_ok-decode_slot.field-0 c.loop-slot.slot
          (λ k page. IsDecodedAs (slice_index_or c.args.map.now k unmapped) (page_of c.args.memory.now k) page)
          c.loop-slot.invariant.count c.loop-slot.invariant.each c.in_ok-decode_slot.ensures;
    }

pub returns : goal.returns
returns c = record {
  count = rw length-map (omega arith);
  each = λ slot below. c.loop-slot.invariant.each slot (omega arith);
}
