-- The lines of records, one after the other.
use Rattle.std.proofs.Common.{◌≡◌, ℕ, suc, ◌+◌, ◌*◌, ◌<◌, ◌≤◌, List, [], ◌∷◌, ◌++◌, append-nil, append_assoc, length, take, drop, All, get_or, slice_get, Some, sym, ap, ◌∙◌, subst, drop-cons, arith}
use Rattle.std.specs.Prelude.{codes}
use Rattle.std.specs.List.{flat_map}
use Rattle.std.proofs.lemmas.List.{take_all, take_more}
use Rattle.std.proofs.lemmas.List.Concat.{flat_map-append}
use Rattle.std.proofs.lemmas.Option.{slice_get_within, get_or_from_slice_get}
use Rattle.thunk_spec.specs.Record.{Record}
use Rattle.std.proofs.lemmas.List.{length-map}
use Rattle.memory_spec.specs.Pages.{Mapped}
use Rattle.machine_spec.specs.Setup.{map_of}
use Rattle.history_spec.specs.History.{History, IsMapped, IsMappedIn}
use Rattle.memo_reports.specs.Listing.{address_text, addresses_of, pages_text, entry_line, entry_lines}

-- the record at a place is mapped if all are
pub mapped_at :
    (n : ℕ) (rs : List Record) (k : ℕ) (r : Record) → All (IsMappedIn n) rs → slice_get rs k ≡ Some r → IsMappedIn n r
mapped_at n rs k r all at =
    subst (IsMappedIn n) (get_or_from_slice_get rs k r r at) (all k r (slice_get_within rs k r at))

-- the lines from a place on begin with the line of the record there
pub lines_from :
    (addresses : List ℕ) (rs : List Record) (k : ℕ) (r : Record) → slice_get rs k ≡ Some r
    → entry_lines addresses k (drop k rs) ≡ entry_line addresses k r ++ entry_lines addresses (k + 1) (drop (k + 1) rs)
lines_from addresses rs k r at =
    let below = slice_get_within rs k r at in
    let here : drop k rs ≡ r ∷ drop (suc k) rs =
    drop-cons rs k r below ∙ ap (λ x. x ∷ drop (suc k) rs) (get_or_from_slice_get rs k r r at) in
    let next : suc k ≡ k + 1 = omega arith in
    let P : ℕ → Type 0 =
    λ n. entry_lines addresses k (drop k rs) ≡ entry_line addresses k r ++ entry_lines addresses n (drop n rs) in
    subst P next (ap (entry_lines addresses k) here)

-- the slots of a history's records have addresses
pub mapped_records :
    (h : History) (addresses : List ℕ) (rs : List Record) → addresses ≡ addresses_of h.setup → rs ≡ h.records
    → IsMapped h → All (IsMappedIn (length addresses)) rs
mapped_records h addresses rs are records mapped =
    let count : length addresses ≡ length (map_of h.setup) =
    ap length are ∙ length-map (map_of h.setup) (λ (page : Mapped). page.number * 4096) in
    rw (count, records) mapped

-- the elements after the first one are in range if all are
pub later_in_range :
    {X : Type 0} (slot : X → ℕ) (n : ℕ) (all : List X) (first : X) (others : List X) (k : ℕ) (x : X)
    → All (λ y. slot y < n) all → all ≡ first ∷ others → k < length others → x ≡ get_or others k x → slot x < n
later_in_range slot n all first others k x mapped is below at =
    let inside : All (λ y. slot y < n) (first ∷ others) = subst (All (λ y. slot y < n)) is mapped in
    subst (λ y. slot y < n) (sym at) (inside (suc k) x (omega arith))

-- an address after a comma
abbrev further : {X : Type 0} → List ℕ → (X → ℕ) → X → List ℕ
further addresses slot x = codes "," ++ address_text addresses (slot x)

-- the texts of the first elements, with one more
pub texts_next :
    {X : Type 0} (f : X → List ℕ) (xs : List X) (k : ℕ) (d : X) (before into new : List ℕ)
    → k < length xs → into ≡ before ++ flat_map f (take k xs) → new ≡ into ++ f (get_or xs k d)
    → new ≡ before ++ flat_map f (take (k + 1) xs)
texts_next f xs k d before into new below so more =
    let x = get_or xs k d in
    more
    ∙ ap (λ (l : List ℕ). l ++ f x) so
    ∙ append_assoc before (flat_map f (take k xs)) (f x)
    ∙ ap (λ (l : List ℕ). before ++ l)
    (sym (ap (flat_map f) (take_more xs k d below)
    ∙ flat_map-append f (take k xs) (x ∷ [])
    ∙ ap (λ (l : List ℕ). flat_map f (take k xs) ++ l) (append-nil (f x))))

-- the addresses of the first elements after the first one, with one more
pub address_next :
    {X : Type 0} (addresses : List ℕ) (slot : X → ℕ) (xs : List X) (k : ℕ) (x : X) (s : ℕ)
    (before into pushed new : List ℕ)
    → k < length xs → x ≡ get_or xs k x → s ≡ slot x
    → into ≡ before ++ flat_map (further addresses slot) (take k xs)
    → pushed ≡ into ++ codes "," → new ≡ pushed ++ address_text addresses s
    → new ≡ before ++ flat_map (further addresses slot) (take (k + 1) xs)
address_next addresses slot xs k x s before into pushed new below at same so comma address =
    texts_next (further addresses slot) xs k x before into new below so
    (address
    ∙ ap (λ (n : ℕ). pushed ++ address_text addresses n) (same ∙ ap slot at)
    ∙ ap (λ (l : List ℕ). l ++ address_text addresses (slot (get_or xs k x))) comma
    ∙ append_assoc into (codes ",") (address_text addresses (slot (get_or xs k x))))

-- the addresses of all elements
pub addresses_whole :
    {X : Type 0} (addresses : List ℕ) (slot : X → ℕ) (all : List X) (first : X) (others : List X) (k s : ℕ)
    (old before into : List ℕ)
    → all ≡ first ∷ others → s ≡ slot first → before ≡ old ++ address_text addresses s → length others ≤ k
    → into ≡ before ++ flat_map (further addresses slot) (take k others)
    → into ≡ old ++ pages_text addresses slot all
addresses_whole {X = X} addresses slot all first others k s old before into are same start end so =
    let rest = flat_map (further addresses slot) others in
    so
    ∙ ap (λ (xs : List X). before ++ flat_map (further addresses slot) xs) (take_all k others end)
    ∙ ap (λ (l : List ℕ). l ++ rest) start
    ∙ append_assoc old (address_text addresses s) rest
    ∙ ap (λ (n : ℕ). old ++ (address_text addresses n ++ rest)) same
    ∙ ap (λ (xs : List X). old ++ pages_text addresses slot xs) (sym are)
