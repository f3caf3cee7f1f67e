-- What follows from the fields after the records.
use Rattle.std.proofs.Common.{◌≡◌, ◌≢◌, ◌+◌, ◌^◌, ◌<◌, ℕ, List, ◌++◌, length, drop, get_or, true, Result, Ok, Err, refl, sym, ap, subst, ◌∙◌, arith, eq-eqb}
use Rattle.std.proofs.lemmas.Bool.{ne_eqb}
use Rattle.std.proofs.lemmas.List.{get_or-drop, drop_at}
use Rattle.memory_spec.specs.Pages.{Mapped}
use Rattle.thunk_spec.specs.Record.{Record}
use Rattle.machine_spec.specs.Setup.{Setup, first, map_of}
use Rattle.machine_spec.specs.Machine.{Machine}
use Rattle.history_spec.specs.History.{History, is_coherent}
use Rattle.ith_text.specs.Place.{Place, Takes}
use Rattle.memo_spec.specs.declared.Format.{Format}
use Rattle.memo_spec.specs.declared.Format.TheVariants.{Version1, Version2}
use Rattle.memo_spec.specs.declared.Refusal.{Refusal}
use Rattle.memo_spec.specs.declared.Refusal.TheVariants.{Field, Limit}
use Rattle.memo_spec.specs.declared.Limit.TheVariants as limit
use Rattle.std.specs.Prelude.{◌==◌, slice_index}
use Rattle.std.specs.Int.{w32}
use Rattle.memo_file.specs.Wholes.{uses_all}
use Rattle.memo_spec.specs.Reader.{onward, done, number_at, ruled, limited}
use Rattle.memo_spec.specs.Reading.{RecordState, is_within, setup_at, pool_and_records_at, todays, ended, history_at, behind_version, taken_as, IsTaken}
use Rattle.memo_spec.specs.Encoding.{word, profile, memo, IsEncodable}
use Rattle.memo_spec.proofs.Formats.{ok_is, wide32, agrees_number, agrees_tested}
use Rattle.memo_spec.proofs.Laws.{memo_taken}
use Rattle.memo_file.specs.declared.error.ReadError.{ReadError}
use Rattle.memo_file.specs.declared.error.ReadError.TheVariants as errors
use Rattle.memo_file.specs.Gives.{Fails}

abbrev Many : Type 0
Many = List (List ℕ) × List Record × RecordState

abbrev pub history : Setup → List Record → History
history s rs = record { setup = s; records = rs }

abbrev whole : Setup → List Record × Place → Result (History × Place) Refusal
whole s y = Ok (history s y.0, y.1)

-- The records that were read make a history of the setup.
pub made_of : (s : Setup) (r : Result (Many × Place) Refusal) (rs : List Record) (q : Place)
    → onward r (λ x. done x.1) ≡ Ok (rs, q) → onward r (λ x. done (history s x.1)) ≡ Ok (history s rs, q)
made_of s (Ok x) rs q e = ap (whole s) (ok_is (x.0.1, x.1) (rs, q) e)
made_of s (Err f) rs q e = absurd cc

abbrev pub entries_at : ℕ → Place → Result (ℕ × Place) Refusal
entries_at high p = limited (number_at w32) (is_within 1 high) (Limit limit.Entries) p

pub history_taken : (p a b q : Place) (s : Setup) (high entries : ℕ) (rs : List Record) → setup_at p ≡ Ok (s, a)
    → high ≡ s.limit → entries_at high a ≡ Ok (entries, b)
    → onward (ruled (pool_and_records_at s entries) uses_all b) (λ x. done x.1) ≡ Ok (rs, q)
    → history_at p ≡ Ok (history s rs, q)
unfolding history_at
history_taken p a b q s high entries rs setup steps count read =
    let within : entries_at s.limit a ≡ Ok (entries, b) = ap (λ (n : ℕ). entries_at n a) (sym steps) ∙ count in
    rw (setup, within) (made_of s (ruled (pool_and_records_at s entries) uses_all b) rs q read)

-- ---- the profile

abbrev pub profile_at : Place → Result (ℕ × Place) Refusal
profile_at = ruled (number_at w32) (λ n. n == profile)

pub profile_fails : (e : ReadError) (p : Place) → Fails e (profile_at p) → Fails e (behind_version Version2 p)
unfolding behind_version
profile_fails errors.NoMemory p h = tt
profile_fails (errors.Refused why) p h = ap (λ (r : Result (ℕ × Place) Refusal). onward r (λ _. history_at)) h

pub profile_read : (p q : Place) → profile_at p ≡ Ok (profile, q) → behind_version Version2 p ≡ history_at q
unfolding behind_version
profile_read p q e = ap (λ (r : Result (ℕ × Place) Refusal). onward r (λ _. history_at)) e

pub profile_leaves : (p q : Place) → ((i : ℕ) → slice_index p.left i < 256) → profile_at p ≡ Ok (profile, q)
    → (i : ℕ) → slice_index q.left i < 256
profile_leaves p q bytes e = ((agrees_tested (number_at w32) word (λ n. n < 2 ^ 32) (λ n. n == profile)
    (λ (r : Place). Field r.taken) (agrees_number w32 (2 ^ 32) wide32)).takes p profile q bytes e).0.rest

pub first_version : (format : Format) (p : Place) → format ≡ Version1 → behind_version format p ≡ history_at p
unfolding behind_version
first_version format p e = ap (λ (f : Format). behind_version f p) e

-- ---- what comes after the records

abbrev pub starts : List ℕ → Place
starts text = record { taken = 8; left = drop 8 text }

ended_fails : (format : Format) (e : ReadError) (r : Result (History × Place) Refusal) → Fails e r
    → Fails e (ended format r)
ended_fails format errors.NoMemory r h = tt
ended_fails format (errors.Refused why) r h = ap (ended format) h

pub history_fails : (format : Format) (e : ReadError) (text : List ℕ)
    → Fails e (behind_version format (starts text)) → Fails e (taken_as format text)
unfolding taken_as
history_fails format e text h = ended_fails format e (behind_version format (starts text)) h

pub bytes_left : (format : Format) (text : List ℕ) (h : History) (q : Place)
    → behind_version format (starts text) ≡ Ok (h, q) → length q.left ≢ 0
    → taken_as format text ≡ Err (Field q.taken)
unfolding taken_as
bytes_left format text h q e ne = rw (e, ne_eqb _ _ ne) refl

pub none_left : (format : Format) (text : List ℕ) (h : History) (q : Place)
    → behind_version format (starts text) ≡ Ok (h, q)
    → length q.left ≡ 0 → taken_as format text ≡ todays format h
unfolding taken_as
none_left format text h q e none = rw (e, eq-eqb _ _ none) refl

pub judge_fails : (format : Format) (e : ReadError) (text : List ℕ) (r : Result History Refusal)
    → taken_as format text ≡ r → Fails e r → Fails e (taken_as format text)
judge_fails format errors.NoMemory text r same h = tt
judge_fails format (errors.Refused why) text r same h = same ∙ h

pub are_bytes : (text : List ℕ) → ((i : ℕ) → get_or text i 0 < 256) → (i : ℕ) → get_or (drop 8 text) i 0 < 256
are_bytes text h i = rw get_or-drop (h (8 + i))

-- The page map of the machine that a setup starts as.
pub map_is : (s : Setup) (m : Machine) (pages : List Mapped) → m ≡ first s → pages ≡ m.frame.map → pages ≡ map_of s
unfolding first
map_is s m pages e p = p ∙ ap (λ (n : Machine). n.frame.map) e

abbrev place : ℕ → List ℕ → Place
place n l = record { taken = n; left = l }

-- A reader that took eight bytes.
pub opened : (text piece : List ℕ) (old new : Place) → old ≡ record { taken = 0; left = text } → Takes piece old new
    → length piece ≡ 8 → new ≡ record { taken = 8; left = drop 8 text }
opened text piece old new e t len =
    let front : text ≡ piece ++ new.left = sym (ap (λ (p : Place). p.left) e) ∙ t.front in
    let left : new.left ≡ drop 8 text = sym (ap (drop 8) front ∙ drop_at piece new.left 8 len) in
    let at : new.taken ≡ 8 = omega (arith, t.count, len, ap (λ (p : Place). p.taken) e) in
    ap (λ (n : ℕ). place n new.left) at ∙ ap (place 8) left

-- ---- what is read

abbrev good : History → Result History Refusal
good h = Ok h

pub one_reading : (r : Result History Refusal) (k h : History) → r ≡ Ok k → r ≡ Ok h → k ≡ h
one_reading r k h a b = let e : good k ≡ good h = sym a ∙ b in cc

pub no_refusal : (e : ReadError) (r : Result History Refusal) (h : History) → Fails e r → r ≡ Ok h
    → e ≡ errors.NoMemory
no_refusal errors.NoMemory r h fails taken = refl
no_refusal (errors.Refused why) r h fails taken = absurd cc

pub written_taken : (bytes : List ℕ) (h : History) → IsEncodable h → is_coherent h ≡ true → bytes ≡ memo h
    → IsTaken bytes h
written_taken bytes h fit whole is = subst (λ (b : List ℕ). IsTaken b h) (sym is) (memo_taken h fit whole)
