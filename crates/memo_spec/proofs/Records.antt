-- The reader of a record agrees with its encoding.
use Rattle.std.proofs.Common.{◌≡◌, ℕ, ◌^◌, ◌<◌, ◌≤◌, Bool, true, List, [], ◌∷◌, ◌++◌, length, refl, sym, ap, subst, ◌∙◌, append_assoc, arith}
use Rattle.std.specs.Prelude.{◌==◌, nat_lt}
use Rattle.std.specs.List.{flat_map, count_by}
use Rattle.std.specs.Int.{w8, w16, w32}
use Rattle.std.specs.Cmp.Derive.{both_true}
use Rattle.std.proofs.lemmas.Bool.{and_parts, ltb-true, lt-ltb, leb-true, le-leb}
use Rattle.std.proofs.lemmas.List.{append-nil}
use Rattle.isa_spec.specs.Registers.{Registers}
use Rattle.memory_spec.specs.Pages.{Mapped}
use Rattle.thunk_spec.specs.Delta.{PageDelta}
use Rattle.thunk_spec.specs.Reads.{ReadPage}
use Rattle.thunk_spec.specs.Record.{Record}
use Rattle.memo_spec.specs.Encoding.{AreRegisters, IsEnd, byte, half, word, registers, end_number, read_page, stored_page, record_bytes}
use Rattle.memo_spec.specs.Reader.{Reader, ◌>>=◌, done, number_at, ruled, chain}
use Rattle.memo_spec.specs.Reading.{ReadState, RecordState, is_within, end_of, registers_at, read_page_at, stored_page_at, record_at}
use Rattle.memo_spec.proofs.Formats.{Agrees, Chained, agrees_then, agrees_done, agrees_said, agrees_part, agrees_tested, agrees_number, agrees_chain, wide8, wide16, wide32}
use Rattle.memo_spec.proofs.Maps.{IsPageMap}
use Rattle.memo_spec.proofs.Ends.{number_of_end, end_of_number}
use Rattle.memo_spec.proofs.Fields.{agrees_registers}
use Rattle.memo_spec.proofs.Pool.{IsPool}
use Rattle.memo_spec.proofs.Pages.{FitsRead, FitsStored, agrees_read_page, agrees_stored_page}

abbrev Reads : Type 0
Reads = List ReadPage × ReadState

abbrev Stored : Type 0
Stored = List PageDelta × ℕ

abbrev Out : Type 0
Out = Record × RecordState

abbrev pub start_of : RecordState → ReadState
start_of s = record { low = 0; used = s.used }

abbrev made : RecordState → ℕ → ℕ → ℕ → Registers → Registers → Reads → Stored → Out
made s thread end count start finish reads delta = (
  record {
    thread = thread;
    number = count_by (λ t. t == thread) s.earlier;
    start = start;
    kept = record { reads = reads.0; delta = delta.0; finish = finish; end = end_of end; count = count };
  },
  record { earlier = s.earlier ++ thread ∷ []; used = reads.1.used },
)

-- What is read, from the last field back.
abbrev FitsDelta : List Mapped → RecordState → ℕ → ℕ → ℕ → Registers → Registers → Reads → ℕ → Out → Type 0
FitsDelta pages s thread end count start finish reads n x =
    (y : Stored) × ((length y.0 ≡ n) × Chained (FitsStored pages) 0 y.0 y.1)
    × (x ≡ made s thread end count start finish reads y)

abbrev FitsCount : List Mapped → RecordState → ℕ → ℕ → ℕ → Registers → Registers → Reads → Out → Type 0
FitsCount pages s thread end count start finish reads x =
    (length x.0.kept.delta < 2 ^ 16) × FitsDelta pages s thread end count start finish reads (length x.0.kept.delta) x

abbrev FitsReads : List Mapped → List (List ℕ) → RecordState → ℕ → ℕ → ℕ → Registers → Registers → ℕ → Out → Type 0
FitsReads pages pool s thread end count start finish n x =
    (y : Reads) × ((length y.0 ≡ n) × Chained (FitsRead pages pool) (start_of s) y.0 y.1)
    × FitsCount pages s thread end count start finish y x

abbrev FitsTail : List Mapped → List (List ℕ) → RecordState → ℕ → ℕ → ℕ → Registers → Registers → Out → Type 0
FitsTail pages pool s thread end count start finish x =
    (length x.0.kept.reads < 2 ^ 16) × FitsReads pages pool s thread end count start finish (length x.0.kept.reads) x

abbrev delta_tail : List Mapped → Out → List ℕ
delta_tail pages x = half (length x.0.kept.delta) ++ flat_map (stored_page pages) x.0.kept.delta

abbrev tail_bytes : List Mapped → List (List ℕ) → Out → List ℕ
tail_bytes pages pool x =
    half (length x.0.kept.reads) ++ (flat_map (read_page pages pool) x.0.kept.reads ++ delta_tail pages x)

agrees_delta : (pages : List Mapped) (s : RecordState) (thread end count : ℕ) (start finish : Registers) (reads : Reads)
    (n : ℕ) → IsPageMap pages
    → Agrees (chain (stored_page_at pages) n 0 >>= λ delta. done (made s thread end count start finish reads delta))
    (λ x. flat_map (stored_page pages) x.0.kept.delta) (FitsDelta pages s thread end count start finish reads n)
agrees_delta pages s thread end count start finish reads n is_map =
    agrees_then (chain (stored_page_at pages) n 0) (λ y. flat_map (stored_page pages) y.0)
    (λ y. (length y.0 ≡ n) × Chained (FitsStored pages) 0 y.0 y.1)
    (λ delta. done (made s thread end count start finish reads delta)) (λ y x. [])
    (λ y x. x ≡ made s thread end count start finish reads y)
    (λ x. flat_map (stored_page pages) x.0.kept.delta) (FitsDelta pages s thread end count start finish reads n)
    (agrees_chain (stored_page_at pages) (stored_page pages) (FitsStored pages)
    (λ low. agrees_stored_page pages low is_map) n 0)
    (λ y _. agrees_done (made s thread end count start finish reads y))
    (λ y x f g. (
      (y, f, g),
      append-nil (flat_map (stored_page pages) y.0)
          ∙ ap (λ (z : Out). flat_map (stored_page pages) z.0.kept.delta) (sym g),
    ))
    (λ x h. h)

agrees_count : (pages : List Mapped) (s : RecordState) (thread end count : ℕ) (start finish : Registers) (reads : Reads)
    → IsPageMap pages
    → Agrees (number_at w16 >>= λ n. chain (stored_page_at pages) n 0 >>= λ delta. done
    (made s thread end count start finish reads delta))
    (delta_tail pages) (FitsCount pages s thread end count start finish reads)
agrees_count pages s thread end count start finish reads is_map =
    agrees_part (number_at w16) half (λ n. n < 2 ^ 16)
    (λ n. chain (stored_page_at pages) n 0 >>= λ delta. done (made s thread end count start finish reads delta))
    (λ n x. flat_map (stored_page pages) x.0.kept.delta)
    (λ n x. FitsDelta pages s thread end count start finish reads n x)
    (agrees_number w16 (2 ^ 16) wide16) (λ n _. agrees_delta pages s thread end count start finish reads n is_map)
    (λ x. length x.0.kept.delta) (λ n x _ h. ap (λ (z : Out). length z.0.kept.delta) h.2 ∙ h.1.0)

agrees_reads : (pages : List Mapped) (pool : List (List ℕ)) (s : RecordState) (thread end count : ℕ)
    (start finish : Registers) (n : ℕ) → IsPageMap pages → IsPool pool
    → Agrees (chain (read_page_at pages pool) n (start_of s) >>= λ reads. number_at w16 >>= λ m. chain
    (stored_page_at pages) m 0 >>= λ delta. done (made s thread end count start finish reads delta))
    (λ x. flat_map (read_page pages pool) x.0.kept.reads ++ delta_tail pages x)
    (FitsReads pages pool s thread end count start finish n)
agrees_reads pages pool s thread end count start finish n is_map is_pool =
    agrees_then (chain (read_page_at pages pool) n (start_of s)) (λ y. flat_map (read_page pages pool) y.0)
    (λ y. (length y.0 ≡ n) × Chained (FitsRead pages pool) (start_of s) y.0 y.1)
    (λ reads. number_at w16 >>= λ m. chain (stored_page_at pages) m 0 >>= λ delta. done
    (made s thread end count start finish reads delta))
    (λ y x. delta_tail pages x) (λ y x. FitsCount pages s thread end count start finish y x)
    (λ x. flat_map (read_page pages pool) x.0.kept.reads ++ delta_tail pages x)
    (FitsReads pages pool s thread end count start finish n)
    (agrees_chain (read_page_at pages pool) (read_page pages pool) (FitsRead pages pool)
    (λ t. agrees_read_page pages pool t is_map is_pool) n (start_of s))
    (λ y _. agrees_count pages s thread end count start finish y is_map)
    (λ y x f g. (
      (y, f, g),
      ap (λ (l : List ReadPage). flat_map (read_page pages pool) l ++ delta_tail pages x)
          (sym (ap (λ (z : Out). z.0.kept.reads) g.1.2)),
    ))
    (λ x h. h)

agrees_tail : (pages : List Mapped) (pool : List (List ℕ)) (s : RecordState) (thread end count : ℕ)
    (start finish : Registers) → IsPageMap pages → IsPool pool
    → Agrees (number_at w16 >>= λ n. chain (read_page_at pages pool) n
    (start_of s) >>= λ reads. number_at w16 >>= λ m. chain (stored_page_at pages) m 0 >>= λ delta. done
    (made s thread end count start finish reads delta))
    (tail_bytes pages pool) (FitsTail pages pool s thread end count start finish)
agrees_tail pages pool s thread end count start finish is_map is_pool =
    agrees_part (number_at w16) half (λ n. n < 2 ^ 16)
    (λ n. chain (read_page_at pages pool) n (start_of s) >>= λ reads. number_at w16 >>= λ m. chain
    (stored_page_at pages) m 0 >>= λ delta. done (made s thread end count start finish reads delta))
    (λ n x. flat_map (read_page pages pool) x.0.kept.reads ++ delta_tail pages x)
    (λ n x. FitsReads pages pool s thread end count start finish n x)
    (agrees_number w16 (2 ^ 16) wide16)
    (λ n _. agrees_reads pages pool s thread end count start finish n is_map is_pool)
    (λ x. length x.0.kept.reads) (λ n x _ h. ap (λ (z : Out). length z.0.kept.reads) h.2.1.2 ∙ h.1.0)

abbrev FitsFinish : List Mapped → List (List ℕ) → RecordState → ℕ → ℕ → ℕ → Registers → Out → Type 0
FitsFinish pages pool s thread end count start x = AreRegisters x.0.kept.finish
    × FitsTail pages pool s thread end count start x.0.kept.finish x

abbrev FitsStart : List Mapped → List (List ℕ) → RecordState → ℕ → ℕ → ℕ → Out → Type 0
FitsStart pages pool s thread end count x = AreRegisters x.0.start
    × FitsFinish pages pool s thread end count x.0.start x

abbrev Turns : ℕ → ℕ → Type 0
Turns fuel n = (n < 2 ^ 32) × (is_within 1 fuel n ≡ true)

abbrev FitsTurns : List Mapped → ℕ → List (List ℕ) → RecordState → ℕ → ℕ → Out → Type 0
FitsTurns pages fuel pool s thread end x = Turns fuel x.0.kept.count
    × FitsStart pages pool s thread end x.0.kept.count x

abbrev below : ℕ → ℕ → Bool
below limit n = nat_lt n limit

abbrev Below : ℕ → ℕ → Type 0
Below limit n = (n < 256) × (below limit n ≡ true)

abbrev FitsEnd : List Mapped → ℕ → List (List ℕ) → RecordState → ℕ → Out → Type 0
FitsEnd pages fuel pool s thread x = Below 10 (end_number x.0.kept.end)
    × FitsTurns pages fuel pool s thread (end_number x.0.kept.end) x

abbrev FitsRaw : List Mapped → ℕ → List (List ℕ) → RecordState → Out → Type 0
FitsRaw pages fuel pool s x = Below 32 x.0.thread × FitsEnd pages fuel pool s x.0.thread x

abbrev raw_bytes : List Mapped → List (List ℕ) → Out → List ℕ
raw_bytes pages pool x =
    byte x.0.thread ++ (byte (end_number x.0.kept.end) ++
    (word x.0.kept.count ++ (registers x.0.start ++ (registers x.0.kept.finish ++ tail_bytes pages pool x))))

agrees_raw : (pages : List Mapped) (fuel : ℕ) (pool : List (List ℕ)) (s : RecordState) → IsPageMap pages → IsPool pool
    → Agrees (record_at pages fuel pool s) (raw_bytes pages pool) (FitsRaw pages fuel pool s)
unfolding record_at
agrees_raw pages fuel pool s is_map is_pool =
    agrees_part (ruled (number_at w8) (below 32)) byte (Below 32) (λ thread. ends thread)
    (λ thread x. byte (end_number x.0.kept.end) ++
    (word x.0.kept.count ++ (registers x.0.start ++ (registers x.0.kept.finish ++ tail_bytes pages pool x))))
    (λ thread x. FitsEnd pages fuel pool s thread x)
    (agrees_tested (number_at w8) byte (λ n. n < 256) (below 32) _ (agrees_number w8 256 wide8))
    (λ thread _. agrees_part (ruled (number_at w8) (below 10)) byte (Below 10) (λ end. counts thread end)
    (λ end x. word x.0.kept.count ++
    (registers x.0.start ++ (registers x.0.kept.finish ++ tail_bytes pages pool x)))
    (λ end x. FitsTurns pages fuel pool s thread end x)
    (agrees_tested (number_at w8) byte (λ n. n < 256) (below 10) _ (agrees_number w8 256 wide8))
    (λ end _. agrees_part (ruled (number_at w32) (is_within 1 fuel)) word (Turns fuel)
    (λ count. starts thread end count)
    (λ count x. registers x.0.start ++ (registers x.0.kept.finish ++ tail_bytes pages pool x))
    (λ count x. FitsStart pages pool s thread end count x)
    (agrees_tested (number_at w32) word (λ n. n < 2 ^ 32) (is_within 1 fuel) _ (agrees_number w32 (2 ^ 32) wide32))
    (λ count _. agrees_part registers_at registers AreRegisters (λ start. finishes thread end count start)
    (λ start x. registers x.0.kept.finish ++ tail_bytes pages pool x)
    (λ start x. FitsFinish pages pool s thread end count start x)
    agrees_registers
    (λ start _. agrees_part registers_at registers AreRegisters (λ finish. tails thread end count start finish)
    (λ finish x. tail_bytes pages pool x)
    (λ finish x. FitsTail pages pool s thread end count start finish x)
    agrees_registers (λ finish _. agrees_tail pages pool s thread end count start finish is_map is_pool)
    (λ x. x.0.kept.finish) (λ finish x _ h. ap (λ (z : Out). z.0.kept.finish) h.1.2.1.2))
    (λ x. x.0.start) (λ start x _ h. ap (λ (z : Out). z.0.start) h.1.1.2.1.2))
    (λ x. x.0.kept.count) (λ count x _ h. ap (λ (z : Out). z.0.kept.count) h.1.1.1.2.1.2))
    (λ x. end_number x.0.kept.end)
    (λ end x f h. ap (λ (z : Out). end_number z.0.kept.end) h.1.1.1.1.2.1.2
    ∙ (number_of_end end (ltb-true _ _ f.1)).0))
    (λ x. x.0.thread) (λ thread x _ h. ap (λ (z : Out). z.0.thread) h.1.1.1.1.1.2.1.2)
  where
    tails : ℕ → ℕ → ℕ → Registers → Registers → Reader Out
    tails thread end count start finish = number_at w16 >>= λ n. chain (read_page_at pages pool) n
        (start_of s) >>= λ reads. number_at w16 >>= λ m. chain (stored_page_at pages) m 0 >>= λ delta. done
        (made s thread end count start finish reads delta)

    finishes : ℕ → ℕ → ℕ → Registers → Reader Out
    finishes thread end count start = registers_at >>= λ finish. tails thread end count start finish

    starts : ℕ → ℕ → ℕ → Reader Out
    starts thread end count = registers_at >>= λ start. finishes thread end count start

    counts : ℕ → ℕ → Reader Out
    counts thread end = ruled (number_at w32) (is_within 1 fuel) >>= λ count. starts thread end count

    ends : ℕ → Reader Out
    ends thread = ruled (number_at w8) (below 10) >>= λ end. counts thread end

-- ---- the record, as it is defined

-- A record that was read in a state, and the next state.
pub record FitsRecord (pages : List Mapped) (fuel : ℕ) (pool : List (List ℕ)) (s : RecordState)
    (x : Record × RecordState) : Type 0 where
  pub thread : x.0.thread < 32
  pub number : x.0.number ≡ count_by (λ t. t == x.0.thread) s.earlier
  pub end : IsEnd x.0.kept.end
  pub some_turns : 1 ≤ x.0.kept.count
  pub most_turns : x.0.kept.count ≤ fuel
  pub few_turns : x.0.kept.count < 2 ^ 32
  pub start : AreRegisters x.0.start
  pub finish : AreRegisters x.0.kept.finish
  pub few_reads : length x.0.kept.reads < 2 ^ 16
  pub few_stored : length x.0.kept.delta < 2 ^ 16
  pub last : ReadState
  pub reads : Chained (FitsRead pages pool) (start_of s) x.0.kept.reads last
  pub next_slot : ℕ
  pub delta : Chained (FitsStored pages) 0 x.0.kept.delta next_slot
  pub next : x.1 ≡ record { earlier = s.earlier ++ x.0.thread ∷ []; used = last.used }

to_left : (a b c d e f g h i : List ℕ) → a ++ (b ++ (c ++ (d ++ (e ++ (f ++ (g ++ (h ++ i))))))) ≡ a ++ b ++ c ++ d ++ e
    ++ f ++ g ++ h ++ i
to_left a b c d e f g h i = simp append_assoc refl

pub agrees_record : (pages : List Mapped) (fuel : ℕ) (pool : List (List ℕ)) (s : RecordState) → IsPageMap pages
    → IsPool pool
    → Agrees (record_at pages fuel pool s) (λ x. record_bytes pages pool x.0) (FitsRecord pages fuel pool s)
agrees_record pages fuel pool s is_map is_pool =
    agrees_said (record_at pages fuel pool s) (raw_bytes pages pool) (λ x. record_bytes pages pool x.0)
    (FitsRaw pages fuel pool s) (FitsRecord pages fuel pool s) (agrees_raw pages fuel pool s is_map is_pool)
    (λ x h. (
      there x h,
      to_left (byte x.0.thread) (byte (end_number x.0.kept.end)) (word x.0.kept.count)
          (registers x.0.start) (registers x.0.kept.finish) (half (length x.0.kept.reads))
          (flat_map (read_page pages pool) x.0.kept.reads) (half (length x.0.kept.delta))
          (flat_map (stored_page pages) x.0.kept.delta),
    ))
    (λ x h. let k = end_of_number x.0.kept.end h.end in (
      (omega (arith, h.thread), lt-ltb _ _ h.thread),
      (
        (omega (arith, k.1), lt-ltb _ _ k.1),
        (
          (h.few_turns, both_true (le-leb _ _ h.some_turns) (le-leb _ _ h.most_turns)),
          (
            h.start,
            (
              h.finish,
              (
                h.few_reads,
                (reads_of x h, (refl, h.reads), (h.few_stored, (stored_of x h, (refl, h.delta), same x h k.0))),
              ),
            ),
          ),
        ),
      ),
    ))
  where
    reads_of : (x : Out) → FitsRecord pages fuel pool s x → Reads
    reads_of x h = (x.0.kept.reads, h.last)

    stored_of : (x : Out) → FitsRecord pages fuel pool s x → Stored
    stored_of x h = (x.0.kept.delta, h.next_slot)

    same : (x : Out) (h : FitsRecord pages fuel pool s x) → end_of (end_number x.0.kept.end) ≡ x.0.kept.end
        → x ≡ made s x.0.thread (end_number x.0.kept.end) x.0.kept.count x.0.start x.0.kept.finish (reads_of x h)
        (stored_of x h)
    same x h e = rw (e, ← h.number, ← h.next) refl

    there : (x : Out) → FitsRaw pages fuel pool s x → FitsRecord pages fuel pool s x
    there x h =
        let reads = h.1.1.1.1.1.1 in
        let delta = reads.2.1 in
        let e = delta.2 in
        let lt = ltb-true _ _ h.1.0.1 in
        let turns = and_parts _ _ h.1.1.0.1 in
        record {
          thread = ltb-true _ _ h.0.1;
          number = ap (λ (z : Out). z.0.number) e;
          end = subst IsEnd (sym (ap (λ (z : Out). z.0.kept.end) e)) (number_of_end (end_number x.0.kept.end) lt).1;
          some_turns = leb-true _ _ turns.0;
          most_turns = leb-true _ _ turns.1;
          few_turns = h.1.1.0.0;
          start = h.1.1.1.0;
          finish = h.1.1.1.1.0;
          few_reads = h.1.1.1.1.1.0;
          few_stored = reads.2.0;
          last = reads.0.1;
          reads = subst (λ (l : List ReadPage). Chained (FitsRead pages pool) (start_of s) l reads.0.1)
              (sym (ap (λ (z : Out). z.0.kept.reads) e)) reads.1.1;
          next_slot = delta.0.1;
          delta = subst (λ (l : List PageDelta). Chained (FitsStored pages) 0 l delta.0.1)
              (sym (ap (λ (z : Out). z.0.kept.delta) e)) delta.1.1;
          next = ap (λ (z : Out). z.1) e;
        }
