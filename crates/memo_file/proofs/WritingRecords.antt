-- Records written one after the other, and the pages of each.
use Rattle.std.proofs.Common.{◌≡◌, ℕ, zero, suc, ◌+◌, ◌≤◌, List, [], ◌∷◌, ◌++◌, length, map, drop, Some, None, refl, sym, ap, subst, ◌∙◌, append_assoc, arith}
use Rattle.std.specs.Prelude.{All, slice_get, slice_index}
use Rattle.std.specs.List.{flat_map}
use Rattle.std.proofs.Math.ListN.{drop_of_length-le}
use Rattle.std.proofs.lemmas.List.{append-nil, get_or-drop, drop-drop, length-append, length-map, length-drop}
use Rattle.std.proofs.lemmas.List.Elements.{All-get_or}
use Rattle.std.proofs.lemmas.Option.{get_or_from_slice_get, slice_get_within}
use Rattle.memory_spec.specs.Pages.{Mapped}
use Rattle.thunk_spec.specs.Record.{Record}
use Rattle.thunk_spec.specs.Reads.{ReadPage}
use Rattle.history_spec.specs.History.{IsMappedIn}
use Rattle.memo_spec.specs.Encoding.{word, page_number, index_in, read_page, pages_read}
use Rattle.memo_file.specs.WritingPool.{bytes_read, ArePlaced}
use Rattle.memo_file.proofs.WritingPool.{drop_at, pages_from}

-- What was written and what is to come, after one more was written.
pub one_written : {A : Type 0} (f : A → List ℕ) (xs : List A) (k : ℕ) (x : A) (out new all : List ℕ)
    → slice_get xs k ≡ Some x → new ≡ out ++ f x → out ++ flat_map f (drop k xs) ≡ all
    → new ++ flat_map f (drop (k + 1) xs) ≡ all
one_written f xs k x out new all e w h =
    rw w (append_assoc out (f x) (flat_map f (drop (k + 1) xs))
    ∙ sym (ap (λ l. out ++ flat_map f l) (drop_at xs k x e)) ∙ h)

-- What was written, after the last one.
pub all_written : {A : Type 0} (f : A → List ℕ) (xs : List A) (k : ℕ) (out all : List ℕ)
    → length xs ≤ k → out ++ flat_map f (drop k xs) ≡ all → out ≡ all
all_written f xs k out all le h =
    sym (append-nil out) ∙ ap (λ l. out ++ flat_map f l) (sym (drop_of_length-le xs le)) ∙ h

-- Each record of a history that is mapped is mapped.
pub mapped_in : (n : ℕ) (rs : List Record) (k : ℕ) (r : Record) → slice_get rs k ≡ Some r → All (IsMappedIn n) rs
    → IsMappedIn n r
mapped_in n rs k r e all = subst (IsMappedIn n) (get_or_from_slice_get rs k r r e)
    (All-get_or (IsMappedIn n) rs k r (slice_get_within rs k r e) all)

-- A read page that was written as its number and its place.
pub read_written : (slots : List Mapped) (pool : List (List ℕ)) (p : ReadPage) (out mid new : List ℕ) (number place : ℕ)
    → number ≡ page_number slots p.slot → place ≡ index_in pool p.bytes → mid ≡ out ++ word number
    → new ≡ mid ++ word place → new ≡ out ++ read_page slots pool p
read_written slots pool p out mid new number place n i w v =
    v
    ∙ ap (λ (l : List ℕ). l ++ word place) w
    ∙ append_assoc out (word number) (word place)
    ∙ ap (λ (k : ℕ). out ++ (word k ++ word place)) n
    ∙ ap (λ (k : ℕ). out ++ (word (page_number slots p.slot) ++ word k)) i

-- ---- places of the read pages of a record

mapped_at : (f : List ℕ → ℕ) (reads : List ReadPage) (rest : List (List ℕ)) (j : ℕ) (p : ReadPage)
    → slice_get reads j ≡ Some p → slice_index (map f (bytes_read reads ++ rest)) j ≡ f p.bytes
mapped_at f [] rest j p e = absurd (differ p e)
  where
    differ : (p : ReadPage) → None ≡ Some p → ⊥
    differ p e = cc
mapped_at f (r ∷ reads) rest zero p e = let same : r ≡ p = cc in ap (λ (x : ReadPage). f x.bytes) same
mapped_at f (r ∷ reads) rest (suc j) p e = mapped_at f reads rest j p e

rest_of : (f : List ℕ → ℕ) (reads : List ReadPage) (rest : List (List ℕ))
    → drop (length reads) (map f (bytes_read reads ++ rest)) ≡ map f rest
rest_of f [] rest = refl
rest_of f (r ∷ reads) rest = rest_of f reads rest

long_enough : (f : List ℕ → ℕ) (places : List ℕ) (start : ℕ) (reads : List ReadPage) (rest : List (List ℕ))
    → start ≤ length places → drop start places ≡ map f (bytes_read reads ++ rest)
    → start + length reads ≤ length places
long_enough f places start reads rest le h =
    omega (
      arith,
      ap length h,
      length-drop start places,
      length-map (bytes_read reads ++ rest) f,
      length-append
          (bytes_read reads) rest,
      length-map reads (λ (p : ReadPage). p.bytes),
    )

are_placed : (pool : List (List ℕ)) (places : List ℕ) (start : ℕ) (reads : List ReadPage) (rest : List (List ℕ))
    → start ≤ length places → drop start places ≡ map (index_in pool) (bytes_read reads ++ rest)
    → ArePlaced pool places start reads
are_placed pool places start reads rest le h = record {
  within = long_enough (index_in pool) places start reads rest le h;
  place = λ j p e. sym (get_or-drop start places j 0) ∙ ap (λ (l : List ℕ). slice_index l j) h
      ∙ mapped_at (index_in pool) reads rest j p e;
}

pub placed_at : (pool lent : List (List ℕ)) (places : List ℕ) (start : ℕ) (rs : List Record) (k : ℕ) (r : Record)
    (reads : List ReadPage)
    → slice_get rs k ≡ Some r → reads ≡ r.kept.reads → lent ≡ pool → start ≤ length places
    → drop start places ≡ map (index_in pool) (pages_read (drop k rs))
    → ArePlaced lent places start reads
placed_at pool lent places start rs k r reads e same is le h =
    subst (λ (l : List (List ℕ)). ArePlaced l places start reads) (sym is)
    (subst (λ (l : List ReadPage). ArePlaced pool places start l) (sym same)
    (are_placed pool places start r.kept.reads (pages_read (drop (k + 1) rs)) le
    (h ∙ ap (map (index_in pool)) (pages_from rs k r e))))

pub places_left : (pool : List (List ℕ)) (places : List ℕ) (start : ℕ) (rs : List Record) (k : ℕ) (r : Record)
    (reads : List ReadPage)
    → slice_get rs k ≡ Some r → reads ≡ r.kept.reads → start ≤ length places
    → drop start places ≡ map (index_in pool) (pages_read (drop k rs))
    → (drop (start + length reads) places ≡ map (index_in pool) (pages_read (drop (k + 1) rs))) ×
    (start + length reads ≤ length places)
places_left pool places start rs k r reads e same le h =
    let from : drop start places ≡ map (index_in pool) (bytes_read r.kept.reads ++ pages_read (drop (k + 1) rs)) = h
    ∙ ap (map (index_in pool)) (pages_from rs k r e) in
    let long = long_enough (index_in pool) places start r.kept.reads (pages_read (drop (k + 1) rs)) le from in
    let n : length reads ≡ length r.kept.reads = ap length same in (
      ap (λ (i : ℕ). drop i places) (omega (arith, n))
          ∙ sym (drop-drop (length r.kept.reads) start places)
          ∙ ap (drop (length r.kept.reads)) from
          ∙ rest_of (index_in pool) r.kept.reads (pages_read (drop (k + 1) rs)),
      omega (arith, n, long),
    )
