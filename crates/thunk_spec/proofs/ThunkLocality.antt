-- A thunk is the same on each view that has the same bytes in the pages that it took bytes from.
use Rattle.std.proofs.Common.{◌≡◌, ℕ, ◌%◌, suc, zero, List, [], ◌∷◌, ◌++◌, refl, ap, sym, ◌∙◌, set, inl, inr}
use Rattle.std.proofs.lemmas.Bool.{cases_eq}
use Rattle.std.proofs.lemmas.List.{get_or-set_other}
use Rattle.isa_spec.specs.Registers.{Registers}
use Rattle.memory_spec.specs.Pages.{Mapped, Memory, slot_of, page_of}
use Rattle.memory_spec.specs.Stores.{StoredByte, with_byte, with_stores}
use Rattle.thunk_spec.specs.declared.ends.Outcome.{Outcome}
use Rattle.thunk_spec.specs.declared.ends.Outcome.TheVariants as outcome
use Rattle.thunk_spec.specs.Put.{put_addresses, bytes_at}
use Rattle.thunk_spec.specs.Thunk.{Frame, Thunk, thunk, turns, followed, after_turn, with_put}
use Rattle.thunk_spec.specs.Turn.{Turn, turn}
use Rattle.thunk_spec.specs.Locality.{Agree}
use Rattle.thunk_spec.proofs.TurnLocality.{turn-same}

-- the page that a byte was stored to is the page before, with the byte in it; past the end both are empty
pub page_of-set_same : (m : Memory) (s a b : ℕ) → page_of (set m s (set (page_of m s) a b)) s ≡ set (page_of m s) a b
page_of-set_same [] s a b = refl
page_of-set_same (p ∷ ps) zero a b = refl
page_of-set_same (p ∷ ps) (suc s) a b = page_of-set_same ps s a b

-- a page that two memories have in common, they have in common after a stored byte
pub same-with_byte :
    (map : List Mapped) (view other : Memory) (s : StoredByte) (k : ℕ)
    → page_of other k ≡ page_of view k
    → page_of (with_byte map other s) k ≡ page_of (with_byte map view s) k
unfolding with_byte
same-with_byte map view other s k same =
    elim (cases_eq k (slot_of map s.address)) [
      | inl here ↦
          rw here
          (page_of-set_same other (slot_of map s.address) (s.address % 4096) s.byte
          ∙ ap (λ page. set page (s.address % 4096) s.byte) (rw here at same)
          ∙ sym (page_of-set_same view (slot_of map s.address) (s.address % 4096) s.byte))
      | inr elsewhere ↦
          get_or-set_other other (slot_of map s.address) k _ [] elsewhere
          ∙ same
          ∙ sym (get_or-set_other view (slot_of map s.address) k _ [] elsewhere)
    ]

pub same-with_stores :
    (map : List Mapped) (view other : Memory) (stores : List StoredByte) (k : ℕ)
    → page_of other k ≡ page_of view k
    → page_of (with_stores map other stores) k ≡ page_of (with_stores map view stores) k
same-with_stores map view other [] k same = same
same-with_stores map view other (s ∷ stores) k same =
    same-with_stores map (with_byte map view s) (with_byte map other s) stores k (same-with_byte map view other s k same)

pub agree-with_stores :
    (map : List Mapped) (view other : Memory) (stores : List StoredByte) (addresses : List ℕ)
    → Agree map view other addresses
    → Agree map (with_stores map view stores) (with_stores map other stores) addresses
agree-with_stores map view other stores [] agree = tt
agree-with_stores map view other stores (a ∷ addresses) agree =
    (same-with_stores map view other stores (slot_of map a) agree.0, agree-with_stores map view other stores addresses agree.1)

pub agree-front :
    (map : List Mapped) (view other : Memory) (xs ys : List ℕ)
    → Agree map view other (xs ++ ys) → Agree map view other xs
agree-front map view other [] ys agree = tt
agree-front map view other (x ∷ xs) ys agree = (agree.0, agree-front map view other xs ys agree.1)

pub agree-back :
    (map : List Mapped) (view other : Memory) (xs ys : List ℕ)
    → Agree map view other (xs ++ ys) → Agree map view other ys
agree-back map view other [] ys agree = agree
agree-back map view other (x ∷ xs) ys agree = agree-back map view other xs ys agree.1

-- a turn takes bytes of its own pages first, so the turn agrees if the thunk does
agree-turn :
    (map :
    List Mapped) (view other : Memory) (o : Outcome) (memory : Memory) (t : Turn)
    (rest : Memory → Registers → Thunk)
    → Agree map view other (followed o map memory t rest).taken → Agree map view other t.taken
agree-turn map view other outcome.Next memory t rest agree =
    agree-front map view other t.taken (rest (with_stores map memory t.stores) t.regs).taken agree
agree-turn map view other outcome.Call memory t rest agree = agree
agree-turn map view other (outcome.Trap cause) memory t rest agree = agree

followed-same :
    (map : List Mapped) (view other : Memory) (o : Outcome) (t : Turn) (rest : Memory → Registers → Thunk)
    → ((m n : Memory) (r : Registers) → Agree map m n (rest m r).taken → rest n r ≡ rest m r)
    → Agree map view other (followed o map view t rest).taken
    → followed o map other t rest ≡ followed o map view t rest
followed-same map view other outcome.Next t rest later agree =
    ap (after_turn t)
    (later (with_stores map view t.stores) (with_stores map other t.stores) t.regs
    (agree-with_stores map view other t.stores (rest (with_stores map view t.stores) t.regs).taken
    (agree-back map view other t.taken (rest (with_stores map view t.stores) t.regs).taken agree)))
followed-same map view other outcome.Call t rest later agree = refl
followed-same map view other (outcome.Trap cause) t rest later agree = refl

pub turns-same :
    (map : List Mapped) (fuel : ℕ) (view other : Memory) (r : Registers)
    → Agree map view other (turns map fuel view r).taken
    → turns map fuel other r ≡ turns map fuel view r
turns-same map zero view other r agree = refl
turns-same map (suc fuel) view other r agree =
    let first : Agree map view other (turn map view r).taken =
    agree-turn map view other (turn map view r).outcome view (turn map view r) (turns map fuel) agree in
    let same : turn map other r ≡ turn map view r = turn-same map view other r first in
    rw same (followed-same map view other (turn map view r).outcome (turn map view r) (turns map fuel)
    (turns-same map fuel) agree)

pub bytes_at-same :
    (map : List Mapped) (view other : Memory) (addresses : List ℕ)
    → Agree map view other addresses
    → bytes_at map other addresses ≡ bytes_at map view addresses
bytes_at-same map view other [] agree = refl
bytes_at-same map view other (a ∷ addresses) agree =
    let same : page_of other (slot_of map a) ≡ page_of view (slot_of map a) = agree.0 in
    rw (same, bytes_at-same map view other addresses agree.1) refl

with_put-same :
    (map : List Mapped) (view other : Memory) (t : Thunk)
    → Agree map view other (put_addresses map t.end t.regs)
    → with_put map other t ≡ with_put map view t
with_put-same map view other t agree =
    ap (λ (bytes : List ℕ). record t { taken = t.taken ++ put_addresses map t.end t.regs; put = bytes })
    (bytes_at-same map (with_stores map view t.stores) (with_stores map other t.stores) (put_addresses map t.end t.regs)
    (agree-with_stores map view other t.stores (put_addresses map t.end t.regs) agree))

-- a thunk depends on the pages that it took bytes from, and on no other page of the view
pub thunk-same :
    (f : Frame) (view other : Memory) (r : Registers)
    → Agree f.map view other (thunk f view r).taken
    → thunk f other r ≡ thunk f view r
unfolding thunk
thunk-same f view other r agree =
    let t : Thunk = turns f.map f.fuel view r in
    let same : turns f.map f.fuel other r ≡ turns f.map f.fuel view r =
    turns-same f.map f.fuel view other r
    (agree-front f.map view other (turns f.map f.fuel view r).taken
    (put_addresses f.map (turns f.map f.fuel view r).end (turns f.map f.fuel view r).regs) agree) in
    rw same
    (with_put-same f.map view other (turns f.map f.fuel view r)
    (agree-back f.map view other (turns f.map f.fuel view r).taken
    (put_addresses f.map (turns f.map f.fuel view r).end (turns f.map f.fuel view r).regs) agree))
