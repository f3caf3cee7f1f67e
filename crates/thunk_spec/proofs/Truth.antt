-- What is kept of a thunk is true of it on every view that has the read pages.
use Rattle.std.proofs.Common.{◌≡◌, ◌≤◌, ◌+◌, ℕ, zero, suc, Bool, true, false, List, [], ◌∷◌, length, get_or, set, refl, ap, sym, ◌∙◌, subst, inl, inr, arith}
use Rattle.std.proofs.lemmas.Bool.{and_parts, cases_eq, cases_lt}
use Rattle.std.proofs.lemmas.List.{get_or-set_same, get_or-set_other, get_or_past, length-set}
use Rattle.std.proofs.lemmas.Slice.Eq.{bytes_eq-Decides}
use Rattle.std.specs.Str.{bytes_eq}
use Rattle.isa_spec.specs.Registers.{Registers}
use Rattle.memory_spec.specs.Pages.{Mapped, Memory, on_each, page_of, slot_of, IsMemory}
use Rattle.memory_spec.specs.Stores.{with_stores}
use Rattle.memory_spec.specs.Workspace.{taken_at}
use Rattle.thunk_spec.specs.Put.{put_addresses, bytes_at}
use Rattle.thunk_spec.specs.Thunk.{Frame, thunk}
use Rattle.thunk_spec.specs.Locality.{Agree}
use Rattle.thunk_spec.proofs.ThunkLocality.{thunk-same}
use Rattle.thunk_spec.specs.Delta.{delta_of}
use Rattle.thunk_spec.specs.Reads.{ReadPage, reads_from, reads_of, has}
use Rattle.thunk_spec.specs.Record.{Kept, kept, kept_thunk, put_of, IsTrue, StandsFor}
use Rattle.thunk_spec.proofs.Merging.{masked-delta_of}

-- two views have the same pages if the flags from slot k on are set
pub record SameAt (flags : List Bool) (k : ℕ) (view other : Memory) : Type 0 where
  pub at : (j i : ℕ) → i ≡ k + j → get_or flags j false ≡ true → page_of other i ≡ page_of view i

pub same-has :
    (flags : List Bool) (k : ℕ) (view other : Memory)
    → has other (reads_from k flags view) ≡ true
    → SameAt flags k view other
same-has [] k view other h = record { at = λ j i e flag. cc }
same-has (true ∷ flags) k view other h =
    let rest : SameAt flags (suc k) view other =
    same-has flags (suc k) view other
    (and_parts (bytes_eq (page_of other k) (page_of view k)) (has other (reads_from (suc k) flags view)) h).1 in
    let here : page_of other k ≡ page_of view k =
    (bytes_eq-Decides (page_of other k) (page_of view k)).0
    (and_parts (bytes_eq (page_of other k) (page_of view k)) (has other (reads_from (suc k) flags view)) h).0 in
    record {
      at = elim [
        | zero ↦ λ i e flag. let is : i ≡ k = omega arith in rw is here
        | suc j ↦ λ i e flag. rest.at j i (omega arith) flag
      ];
    }
same-has (false ∷ flags) k view other h =
    let rest : SameAt flags (suc k) view other = same-has flags (suc k) view other h in
    record { at = elim [ zero ↦ λ i e flag. cc | suc j ↦ λ i e flag. rest.at j i (omega arith) flag ] }

same-first :
    (flag : Bool) (flags : List Bool) (k : ℕ) (view other : Memory)
    → SameAt (flag ∷ flags) k view other → SameAt flags (suc k) view other
same-first flag flags k view other same = record { at = λ j i e set. same.at (suc j) i (omega arith) set }

pub reads_from-same :
    (flags : List Bool) (k : ℕ) (view other : Memory)
    → SameAt flags k view other
    → reads_from k flags other ≡ reads_from k flags view
reads_from-same [] k view other same = refl
reads_from-same (true ∷ flags) k view other same =
    let here : page_of other k ≡ page_of view k = same.at 0 k (omega arith) refl in
    rw here
    (ap (λ (rest : List ReadPage). record { slot = k; bytes = page_of view k } ∷ rest)
    (reads_from-same flags (suc k) view other (same-first true flags k view other same)))
reads_from-same (false ∷ flags) k view other same =
    reads_from-same flags (suc k) view other (same-first false flags k view other same)

-- a flag that is set stays set
taken_at-stays :
    (map : List Mapped) (flags : List Bool) (addresses : List ℕ) (i : ℕ)
    → get_or flags i false ≡ true → get_or (taken_at map flags addresses) i false ≡ true
taken_at-stays map flags [] i flag = flag
taken_at-stays map flags (a ∷ addresses) i flag =
    taken_at-stays map (set flags (slot_of map a) true) addresses i
    (elim (cases_eq i (slot_of map a)) [
      | inl here ↦
          elim (cases_lt i (length flags)) [
            | inl inside ↦ rw (← here) (get_or-set_same flags i true false inside)
            | inr past ↦ absurd (let none : get_or flags i false ≡ false = get_or_past flags i false past in cc)
          ]
      | inr elsewhere ↦ get_or-set_other flags (slot_of map a) i true false elsewhere ∙ flag
    ])

page_of-past : (m : Memory) (k : ℕ) → length m ≤ k → page_of m k ≡ []
page_of-past m k past = get_or_past m k [] past

agree-same :
    (map : List Mapped) (flags : List Bool) (view other : Memory) (addresses : List ℕ)
    → length flags ≡ length map → length view ≡ length map → length other ≡ length map
    → SameAt (taken_at map flags addresses) 0 view other
    → Agree map view other addresses
agree-same map flags view other [] p q r same = tt
agree-same map flags view other (a ∷ addresses) p q r same = (
  elim (cases_lt (slot_of map a) (length flags)) [
    | inl inside ↦
        same.at (slot_of map a) (slot_of map a) (omega arith)
        (taken_at-stays map (set flags (slot_of map a) true) addresses (slot_of map a)
        (get_or-set_same flags (slot_of map a) true false inside))
    | inr past ↦
        page_of-past other (slot_of map a) (omega arith) ∙ sym (page_of-past view (slot_of map a) (omega arith))
  ],
  agree-same map (set flags (slot_of map a) true) view other addresses
      (length-set flags (slot_of map a) true ∙ p) q r same,
)

pub length-on_each : {A : Type 0} (a : A) (map : List Mapped) → length (on_each a map) ≡ length map
length-on_each a [] = refl
length-on_each a (page ∷ map) = ap suc (length-on_each a map)

-- a view that has the read pages agrees with the view they are of, wherever bytes were taken
pub agree-has :
    (map : List Mapped) (view other : Memory) (addresses : List ℕ)
    → IsMemory map view → IsMemory map other
    → has other (reads_of map view addresses) ≡ true
    → Agree map view other addresses
unfolding reads_of
agree-has map view other addresses whole other_whole h =
    agree-same map (on_each false map) view other addresses (length-on_each false map) whole.count other_whole.count
    (same-has (taken_at map (on_each false map) addresses) 0 view other h)

pub reads_of-same :
    (map : List Mapped) (view other : Memory) (addresses : List ℕ)
    → has other (reads_of map view addresses) ≡ true
    → reads_of map other addresses ≡ reads_of map view addresses
unfolding reads_of
reads_of-same map view other addresses h =
    reads_from-same (taken_at map (on_each false map) addresses) 0 view other
    (same-has (taken_at map (on_each false map) addresses) 0 view other h)

-- the view itself has the read pages
own-has : (flags : List Bool) (k : ℕ) (view : Memory) → has view (reads_from k flags view) ≡ true
own-has [] k view = refl
own-has (true ∷ flags) k view =
    let here : bytes_eq (page_of view k) (page_of view k) ≡ true =
    (bytes_eq-Decides (page_of view k) (page_of view k)).1 refl in
    rw here (own-has flags (suc k) view)
own-has (false ∷ flags) k view = own-has flags (suc k) view

pub has-kept : (f : Frame) (view : Memory) (r : Registers) → has view (kept_thunk f view r).reads ≡ true
unfolding kept_thunk reads_of
has-kept f view r = own-has (taken_at f.map (on_each false f.map) (thunk f view r).taken) 0 view

-- what is kept of a thunk is true
pub IsTrue-kept : (f : Frame) (view : Memory) (r : Registers) → IsMemory f.map view → IsTrue f r (kept_thunk f view r)
unfolding kept_thunk
IsTrue-kept f view r whole =
    record {
      same = λ other other_whole h.
          let same : thunk f other r ≡ thunk f view r =
          thunk-same f view other r (agree-has f.map view other (thunk f view r).taken whole other_whole h) in
          ap (kept f.map other) same
          ∙ ap
          (λ (reads : List ReadPage).
          record {
            reads = reads;
            delta = delta_of f.map (thunk f view r).stores;
            finish = (thunk f view r).regs;
            end = (thunk f view r).end;
            count = (thunk f view r).count;
          })
          (reads_of-same f.map view other (thunk f view r).taken h);
    }

thunk-put :
    (f : Frame) (view : Memory) (r : Registers)
    → (thunk f view r).put
    ≡ bytes_at f.map (with_stores f.map view (thunk f view r).stores)
    (put_addresses f.map (thunk f view r).end (thunk f view r).regs)
unfolding thunk
thunk-put f view r = refl

-- what is kept of a thunk stands for it
StandsFor-kept :
    (f : Frame) (view memory : Memory) (r : Registers)
    → IsMemory f.map view → IsMemory f.map memory
    → StandsFor f view memory r (kept_thunk f view r)
unfolding kept_thunk put_of
StandsFor-kept f view memory r view_whole memory_whole =
    record {
      memory_is = masked-delta_of f.map memory (thunk f view r).stores memory_whole;
      finish_is = refl;
      end_is = refl;
      count_is = refl;
      put_is =
          ap
          (λ (start : Memory). bytes_at f.map start (put_addresses f.map (thunk f view r).end (thunk f view r).regs))
          (masked-delta_of f.map view (thunk f view r).stores view_whole)
          ∙ sym (thunk-put f view r);
    }

-- what is true, and fits a view, stands for the thunk on it
pub StandsFor-true :
    (f : Frame) (view memory : Memory) (r : Registers) (k : Kept)
    → IsTrue f r k → has view k.reads ≡ true
    → IsMemory f.map view → IsMemory f.map memory
    → StandsFor f view memory r k
StandsFor-true f view memory r k honest h view_whole memory_whole =
    subst (λ (kept : Kept). StandsFor f view memory r kept) (honest.same view view_whole h)
    (StandsFor-kept f view memory r view_whole memory_whole)
