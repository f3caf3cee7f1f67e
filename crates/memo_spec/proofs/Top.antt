-- The reader of a history agrees with its encoding, and bytes are accepted as the history that they encode.
use Rattle.std.proofs.Common.{◌≡◌, ℕ, ◌^◌, ◌<◌, Bool, true, leb, eq-eqb, List, [], ◌∷◌, ◌++◌, length, refl, sym, ap, subst, ◌∙◌, append_assoc, arith}
use Rattle.std.specs.Prelude.{◌==◌}
use Rattle.std.specs.List.{flat_map, concat}
use Rattle.std.specs.Int.{w32}
use Rattle.std.specs.Cmp.Derive.{both_true}
use Rattle.std.proofs.lemmas.Bool.{and_parts, leb-true, le-leb, eqb-true}
use Rattle.std.proofs.lemmas.List.{append-nil, length-append, nil_from_length}
use Rattle.thunk_spec.specs.Record.{Record}
use Rattle.machine_spec.specs.Setup.{Setup, map_of}
use Rattle.history_spec.specs.History.{History}
use Rattle.memo_spec.specs.declared.Format.{Format}
use Rattle.memo_spec.specs.declared.Format.TheVariants.{Version1, Version2}
use Rattle.memo_spec.specs.declared.Refusal.TheVariants.{Limit}
use Rattle.memo_spec.specs.declared.Limit.TheVariants as limit
use Rattle.memo_spec.specs.Encoding.{word, distinct, pages_read, pool_of, record_bytes, magic, profile, head, body, IsEncodable}
use Rattle.memo_spec.specs.Reader.{Reader, ◌>>=◌, done, number_at, ruled, limited}
use Rattle.memo_spec.specs.Reading.{RecordState, is_within, pool_and_records_at, setup_at, history_at, behind_version}
use Rattle.memo_spec.proofs.Records.{FitsRecord}
use Rattle.memo_spec.proofs.Formats.{Agrees, Chained, agrees_then, agrees_done, agrees_said, agrees_part, agrees_tested, agrees_number, wide32}
use Rattle.memo_spec.proofs.Order.{Pages, IsOnce, fold_once}
use Rattle.memo_spec.proofs.Chains.{records_are, records_again}
use Rattle.memo_spec.proofs.Setups.{FitsSetup, setup_bytes, agrees_setup}
use Rattle.memo_spec.proofs.Shelf.{Shelf, RawShelf, opening, pages_bytes, records_bytes, is_pool, nothing_once, pool_again, agrees_shelf}
use Rattle.memo_spec.proofs.Whole.{is_page_map, few_pages, fold_few, read_few, fold_pages, read_pages}

abbrev used_up : Shelf → Bool
used_up x = x.2.used == length x.0

abbrev IsShelf : Setup → ℕ → Shelf → Type 0
IsShelf setup n x = RawShelf setup n x × (used_up x ≡ true)

abbrev made : Setup → Shelf → History
made setup x = record { setup = setup; records = x.1 }

abbrev Shelved : Setup → ℕ → History → Type 0
Shelved setup n h = (x : Shelf) × IsShelf setup n x × (h ≡ made setup x)

abbrev shelf_bytes : Setup → Shelf → List ℕ
shelf_bytes setup x = word (length x.0) ++ (pages_bytes x.0 ++ records_bytes setup x)

abbrev pub tail_bytes : Setup → History → List ℕ
tail_bytes setup h = word (length (pool_of h)) ++
    (pages_bytes (pool_of h) ++ flat_map (record_bytes (map_of setup) (pool_of h)) h.records)

-- The pool that was read is the pool of the history.
pool_is : (setup : Setup) (n : ℕ) (x : Shelf) → IsShelf setup n x → x.0 ≡ distinct (pages_read x.1)
pool_is setup n x h =
    let pooled = h.0.1 in
    let recorded = pooled.2 in
    let pool : x.0 ≡ pooled.0.0 = ap (λ (z : Shelf). z.0) recorded.1 in
    let are = records_are (map_of setup) setup.fuel pooled.0.0
    (is_pool pooled.0 (length x.0) h.0.0 pooled.1) x.1 opening x.2 [] pooled.0.0 refl refl recorded.0.1 in
    let nothing : are.more ≡ [] =
    nil_from_length are.more
    (omega (
      arith,
      are.last_is,
      eqb-true _ _ h.1,
      ap length pool,
      ap length are.pool_is,
      length-append
          (distinct (pages_read x.1)) are.more,
    )) in
    pool ∙ sym are.pool_is ∙ ap (λ (l : Pages). distinct (pages_read x.1) ++ l) nothing
    ∙ append-nil (distinct (pages_read x.1))

agrees_shelved : (setup : Setup) (n : ℕ) → FitsSetup setup
    → Agrees (ruled (pool_and_records_at setup n) used_up >>= λ x. done (made setup x)) (tail_bytes setup)
    (Shelved setup n)
agrees_shelved setup n fit =
    agrees_then (ruled (pool_and_records_at setup n) used_up) (shelf_bytes setup) (IsShelf setup n)
    (λ x. done (made setup x)) (λ x h. []) (λ x h. h ≡ made setup x) (tail_bytes setup) (Shelved setup n)
    (agrees_tested (pool_and_records_at setup n) (shelf_bytes setup) (RawShelf setup n) used_up _
    (agrees_shelf setup n (is_page_map setup fit.valid)))
    (λ x _. agrees_done (made setup x))
    (λ x h f g. (
      (x, f, g),
      append-nil (shelf_bytes setup x)
          ∙ ap (λ (pool : Pages). word (length pool) ++
          (pages_bytes pool ++ flat_map (record_bytes (map_of setup) pool) x.1)) (pool_is setup n x f)
          ∙ ap (tail_bytes setup) (sym g),
    ))
    (λ h k. k)

abbrev Within : ℕ → ℕ → Type 0
Within high n = (n < 2 ^ 32) × (is_within 1 high n ≡ true)

abbrev Raw : History → Type 0
Raw h = FitsSetup h.setup × (Within h.setup.limit (length h.records) × Shelved h.setup (length h.records) h)

abbrev pub raw_bytes : History → List ℕ
raw_bytes h = setup_bytes h.setup ++ (word (length h.records) ++ tail_bytes h.setup h)

agrees_raw : Agrees history_at raw_bytes Raw
unfolding history_at
agrees_raw =
    agrees_part setup_at setup_bytes FitsSetup (λ setup. entries setup)
    (λ setup h. word (length h.records) ++ tail_bytes setup h)
    (λ setup h. Within setup.limit (length h.records) × Shelved setup (length h.records) h)
    agrees_setup
    (λ setup fit. agrees_part (limited (number_at w32) (is_within 1 setup.limit) (Limit limit.Entries)) word
    (Within setup.limit) (λ n. ruled (pool_and_records_at setup n) used_up >>= λ x. done (made setup x))
    (λ n h. tail_bytes setup h) (λ n h. Shelved setup n h)
    (agrees_tested (number_at w32) word (λ n. n < 2 ^ 32) (is_within 1 setup.limit) (λ _. Limit limit.Entries)
    (agrees_number w32 (2 ^ 32) wide32))
    (λ n _. agrees_shelved setup n fit) (λ h. length h.records)
    (λ n h _ k. ap (λ (z : History). length z.records) k.2 ∙ k.1.0.1.2.0.0))
    (λ h. h.setup) (λ setup h _ k. ap (λ (z : History). z.setup) k.1.2)
  where
    entries : Setup → Reader History
    entries setup = limited (number_at w32) (is_within 1 setup.limit) (Limit limit.Entries) >>= λ n. ruled
        (pool_and_records_at setup n) used_up >>= λ x. done (made setup x)

-- ---- a history, as it is defined

encodable : (h : History) → Raw h → IsEncodable h
encodable h raw =
    let k = and_parts (leb 1 (length h.records)) (leb (length h.records) h.setup.limit) raw.1.0.1 in
    let x = raw.1.1.0 in
    let f = raw.1.1.1 in
    let same : h.records ≡ x.1 = ap (λ (z : History). z.records) raw.1.1.2 in
    let pooled = f.0.1 in
    let are = records_are (map_of h.setup) h.setup.fuel pooled.0.0
    (is_pool pooled.0 (length x.0) f.0.0 pooled.1) x.1 opening x.2 [] pooled.0.0 refl refl pooled.2.0.1 in
    record {
      setup = raw.0.valid;
      elf_bytes = raw.0.elf_bytes;
      input_bytes = raw.0.input_bytes;
      some_records =
          leb-true _ _ k.0;
      most_records = leb-true _ _ k.1;
      numbered = rw same are.numbered;
      records = rw same are.each;
    }

raw_again : (h : History) → IsEncodable h → Raw h
raw_again h fit =
    let few = few_pages h.setup fit.setup in
    let again = records_again (map_of h.setup) h.setup.fuel few
    (omega (arith, fit.setup.limits.most_fuel)) h.records [] [] [] fit.numbered fit.records in
    let pool = distinct (pages_read h.records) in
    let once : IsOnce pool = fold_once (pages_read h.records) [] nothing_once in
    let pages = fold_pages (pages_read h.records) []
    (read_pages (map_of h.setup) h.setup.fuel h.records fit.records) tt in
    let size : length pool < 2 ^ 32 =
    omega (
      arith,
      fold_few (pages_read h.records) [],
      read_few
          (map_of h.setup) h.setup.fuel h.records few fit.records,
      fit.most_records,
      fit.setup.limits.most_steps,
    ) in
    let chained = subst (λ (l : Pages). Chained (FitsRecord (map_of h.setup) h.setup.fuel l) opening h.records again.0)
    (ap distinct (append-nil (pages_read h.records))) again.1 in (
      record { valid = fit.setup; elf_bytes = fit.elf_bytes; input_bytes = fit.input_bytes },
      (
        (
          omega (arith, fit.most_records, fit.setup.limits.most_steps),
          both_true (le-leb _ _ fit.some_records)
              (le-leb _ _ fit.most_records),
        ),
        (
          pair pool h.records again.0,
          ((size, (both pool, (refl, pool_again pool [] once pages), ((refl, chained), refl))), eq-eqb _ _ again.2),
          refl,
        ),
      ),
    )
  where
    pair : Pages → List Record → RecordState → Shelf
    pair a b c = (a, b, c)

    both : Pages → Pages × Pages
    both a = (a, a)

concat_is : (pool : Pages) → concat pool ≡ pages_bytes pool
concat_is [] = refl
concat_is (p ∷ pool) = ap (λ (l : List ℕ). p ++ l) (concat_is pool)

pieces : (a c d e f g i j k l m : List ℕ) → a ++ ((c ++ d ++ e ++ f ++ g ++ i) ++ (j ++ (k ++ (l ++ m)))) ≡ a
    ++ c ++ d ++ e ++ f ++ g ++ i ++ j ++ k ++ l ++ m
pieces a c d e f g i j k l m = simp append_assoc refl

body_parts : (format : Format) (h : History) → body format h ≡ head format ++ raw_bytes h
body_parts format h =
    ap (λ (x : List ℕ). head format ++ word (length h.setup.elf) ++ h.setup.elf ++ word (length h.setup.input)
    ++ h.setup.input ++ word h.setup.fuel ++ word h.setup.limit ++ word (length h.records)
    ++ word (length (pool_of h)) ++ x ++ flat_map (record_bytes (map_of h.setup) (pool_of h)) h.records)
    (concat_is (pool_of h))
    ∙ sym (pieces (head format) (word (length h.setup.elf)) h.setup.elf
    (word (length h.setup.input)) h.setup.input (word h.setup.fuel) (word h.setup.limit) (word (length h.records))
    (word (length (pool_of h))) (pages_bytes (pool_of h))
    (flat_map (record_bytes (map_of h.setup) (pool_of h)) h.records))

pub agrees_history : Agrees history_at raw_bytes IsEncodable
agrees_history = agrees_said history_at raw_bytes raw_bytes Raw IsEncodable agrees_raw
    (λ h raw. (encodable h raw, refl)) raw_again

-- ---- all after the version

abbrev pub number : Format → ℕ
number Version1 = 1
number Version2 = 2

abbrev pub first_eight : Format → List ℕ
first_eight format = magic ++ word (number format)

abbrev pub rest_bytes : Format → History → List ℕ
rest_bytes Version1 h = raw_bytes h
rest_bytes Version2 h = word profile ++ raw_bytes h

head_is : (format : Format) (h : History) → head format ++ raw_bytes h ≡ first_eight format ++ rest_bytes format h
head_is Version1 h = refl
head_is Version2 h = refl

pub body_is : (format : Format) (h : History) → body format h ≡ first_eight format ++ rest_bytes format h
body_is format h = body_parts format h ∙ head_is format h

abbrev IsProfile : ℕ → Type 0
IsProfile n = (n < 2 ^ 32) × ((n == profile) ≡ true)

pub agrees_behind : (format : Format) → Agrees (behind_version format) (rest_bytes format) IsEncodable
unfolding behind_version
agrees_behind Version1 = agrees_history
agrees_behind Version2 =
    agrees_then (ruled (number_at w32) (λ n. n == profile)) word IsProfile (λ _. history_at) (λ _ h. raw_bytes h)
    (λ _ h. IsEncodable h) (rest_bytes Version2) IsEncodable
    (agrees_tested (number_at w32) word (λ n. n < 2 ^ 32) (λ n. n == profile) _ (agrees_number w32 (2 ^ 32) wide32))
    (λ _ _. agrees_history)
    (λ n h is fit. (fit, ap (λ (m : ℕ). word m ++ raw_bytes h) (eqb-true n profile is.1)))
    (λ h fit. (profile, (omega arith, refl), fit))
