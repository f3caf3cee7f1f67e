-- One more page is taken from the front of the remaining ones.
use Rattle.std.proofs.Common.{◌≡◌, ◌<◌, ◌≤◌, ◌+◌, ℕ, Bool, true, false, eqb, cond, List, [], ◌∷◌, ◌++◌, length, drop, get_or, append_assoc, append-nil, refl, ap, ap₂, sym, ◌∙◌, inl, inr, ◌⊎◌, arith}
use mir.Val.{bool_byte}
use Rattle.std.proofs.lemmas.Bool.{cases_lt}
use Rattle.std.proofs.lemmas.Bool.Decides.{nat_tests}
use Rattle.std.proofs.lemmas.List.{get_or-drop, drop-drop, drop_all, get_or_past}
use Rattle.memo_reports.specs.declared.races.touches.Touch.{Touch}
use Rattle.memo_reports.specs.Touches.{ascends, touches_in}
use Rattle.memo_reports.proofs.Merging.{touch, ascends-drop, first-merged, none-merged}
use Rattle.memo_reports.proofs.races.touches.merged.Goals as goal
use Rattle.memo_reports.proofs.races.touches.merged.Goals.{then-next_read-reads, else-next_read-reads+then-next_written-written}

head-of-rest : (ps : List ℕ) (n pages : ℕ) → get_or (drop n ps) 0 pages ≡ get_or ps n pages
head-of-rest ps n pages = get_or-drop n ps 0 pages ∙ ap (λ (k : ℕ). get_or ps k pages) (omega arith)

-- the remaining pages of both lists, after one more was taken
one-more :
    (pages slot a b : ℕ) (reads written : List ℕ)
    → ascends 0 reads ≡ true → ascends 0 written ≡ true → slot < pages
    → slot ≤ get_or reads a pages → slot ≤ get_or written b pages
    → (slot ≡ get_or reads a pages) ⊎ (slot ≡ get_or written b pages)
    → touches_in pages (drop a reads) (drop b written)
    ≡ touch slot (eqb (get_or written b pages) slot)
    ∷ touches_in pages (drop (a + cond (eqb (get_or reads a pages) slot) 1 0) reads)
    (drop (b + cond (eqb (get_or written b pages) slot) 1 0) written)
one-more pages slot a b reads written asc_r asc_w less low_r low_w one =
    let hr = head-of-rest reads a pages in
    let hw = head-of-rest written b pages in
    first-merged pages slot (drop a reads) (drop b written) (ascends-drop a reads asc_r) (ascends-drop b written asc_w) less
    (omega arith) (omega arith)
    (elim one [
      | inl is ↦ inl (is ∙ sym hr)
      | inr is ↦ inr (is ∙ sym hw)
    ])
    ∙ ap₂ (λ (r w : ℕ). touch slot (eqb w slot)
    ∷ touches_in pages (drop (cond (eqb r slot) 1 0) (drop a reads)) (drop (cond (eqb w slot) 1 0) (drop b written))) hr hw
    ∙ ap₂ (λ (rs ws : List ℕ). touch slot (eqb (get_or written b pages) slot) ∷ touches_in pages rs ws)
    (drop-drop (cond (eqb (get_or reads a pages) slot) 1 0) a reads)
    (drop-drop (cond (eqb (get_or written b pages) slot) 1 0) b written)

byte : (b : Bool) → bool_byte b ≡ cond b 1 0
byte true = refl
byte false = refl

-- no page is taken if none remains
stays-within :
    (ps : List ℕ) (n pages slot : ℕ) → n ≤ length ps → slot < pages
    → n + cond (eqb (get_or ps n pages) slot) 1 0 ≤ length ps
stays-within ps n pages slot low less =
    elim (cases_lt n (length ps)) [
      | inl some ↦ by-bit (eqb (get_or ps n pages) slot) some
      | inr past ↦
          let is : get_or ps n pages ≡ pages = get_or_past ps n pages past in
          let isnt : eqb (get_or ps n pages) slot ≡ false = grind (arith, nat_tests) in
          rw isnt (omega arith)
    ]
  where
    by-bit : (bit : Bool) → n < length ps → n + cond bit 1 0 ≤ length ps
    by-bit true some = omega arith
    by-bit false some = omega arith

pub loop-next_read-preserved : goal.loop-next_read-preserved
loop-next_read-preserved c =
    let reads = c.args.reads.now in
    let written = c.args.written.now in
    let pages = c.args.pages in
    let a = c.loop-next_read.next_read in
    let b = c.loop-next_read.next_written in
    let slot = c.min-slot.result in
    let items = c.loop-next_read.touches.items in
    let is_read = c.slot_at-read.ensures in
    let is_write = c.slot_at-write.ensures in
    let low_r : slot ≤ get_or reads a pages = omega (arith, c.min-slot.ensures) in
    let low_w : slot ≤ get_or written b pages = omega (arith, c.min-slot.ensures) in
    let one : (slot ≡ get_or reads a pages) ⊎ (slot ≡ get_or written b pages) =
    elim (cases_lt (get_or reads a pages) (get_or written b pages)) [
      | inl less ↦ inl (omega (arith, c.min-slot.ensures))
      | inr more ↦ inr (omega (arith, c.min-slot.ensures))
    ] in
    let less : slot < pages =
    elim c.if-next_read-reads.branch [
      | then-next_read-reads w ↦
          (let below = c.requires.reads_mapped a pages (let is = w.if-next_read-reads.true in omega arith) in omega arith)
      | else-next_read-reads+then-next_written-written w ↦
          (let below = c.requires.written_mapped b pages (let is = w.if-next_written-written.true in omega arith) in
          omega arith)
    ] in
    let bit_r : c.from-next_read.result ≡ cond (eqb (get_or reads a pages) slot) 1 0 =
    c.from-next_read.ensures ∙ byte (eqb c.slot_at-read.result slot) ∙ ap (λ (r : ℕ). cond (eqb r slot) 1 0) is_read in
    let bit_w : c.from-next_written.result ≡ cond (eqb (get_or written b pages) slot) 1 0 =
    c.from-next_written.ensures ∙ byte (eqb c.slot_at-write.result slot) ∙ ap (λ (w : ℕ). cond (eqb w slot) 1 0) is_write in
    let in_r = stays-within reads a pages slot c.loop-next_read.invariant.reads less in
    let in_w = stays-within written b pages slot c.loop-next_read.invariant.written less in
    let rest =
    ap₂ (λ (x y : ℕ). touches_in pages (drop (a + x) reads) (drop (b + y) written)) bit_r bit_w in
    let more = one-more pages slot a b reads written c.requires.reads c.requires.written less low_r low_w one in
    record {
      reads = omega arith;
      written = omega arith;
      all =
          ap₂ (λ (xs ys : List Touch). xs ++ ys) c.in_ok-push.ensures.items rest
          ∙ append_assoc items (touch slot (eqb c.slot_at-write.result slot) ∷ [])
          (touches_in pages (drop (a + cond (eqb (get_or reads a pages) slot) 1 0) reads)
          (drop (b + cond (eqb (get_or written b pages) slot) 1 0) written))
          ∙ ap (λ (ts : List Touch). items ++ ts)
          (ap (λ (w : ℕ). touch slot (eqb w slot)
          ∷ touches_in pages (drop (a + cond (eqb (get_or reads a pages) slot) 1 0) reads)
          (drop (b + cond (eqb (get_or written b pages) slot) 1 0) written)) is_write
          ∙ sym more)
          ∙ c.loop-next_read.invariant.all;
    }

pub returns : goal.returns
returns c =
    let one = drop_all c.loop-next_read.next_read c.args.reads.now (omega arith) in
    let two = drop_all c.loop-next_read.next_written c.args.written.now (omega arith) in
    sym (append-nil c.loop-next_read.touches.items)
    ∙ ap (λ (ts : List Touch). c.loop-next_read.touches.items ++ ts) (sym (none-merged c.args.pages))
    ∙ ap₂ (λ (rs ws : List ℕ). c.loop-next_read.touches.items ++ touches_in c.args.pages rs ws) (sym one) (sym two)
    ∙ c.loop-next_read.invariant.all
