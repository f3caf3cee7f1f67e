-- What follows for a file without a refusal, row by row.
use Rattle.std.proofs.Common.{◌≡◌, ℕ, zero, suc, ◌/◌, ◌%◌, ◌≤◌, Bool, true, false, not, ◌&&◌, ◌==◌, List, [], ◌∷◌, Option, Some, None, is_none, refl, get_or}
use Rattle.std.specs.Int.{bit_at}
use Rattle.std.proofs.lemmas.Bool.{and_parts, ltb-false, eqb-true, not-false}
use Rattle.elf_spec.specs.declared.Refusal.{Refusal}
use Rattle.elf_spec.specs.declared.Refusal.TheVariants.{TooManyPages, Entry}
use Rattle.elf_spec.specs.Header.{segments, e_entry}
use Rattle.elf_spec.specs.Segments.{page_permission}
use Rattle.elf_spec.specs.Refusals.{refuse_if, first_given, refusals, refusal_of, page_count, is_executable}
use Rattle.elf_spec.specs.Image.{is_image}

-- a file is accepted if it gets no refusal
pub none_given : (bytes : List ℕ) → is_image bytes ≡ true → first_given (refusals bytes) ≡ None
unfolding is_image refusal_of
none_given bytes accepted =
    elim (first_given (refusals bytes)) as
    (λ o. is_none o ≡ true → o ≡ None) [ None ↦ λ _. refl | Some r ↦ λ h. absurd (cc) ] accepted

-- if no refusal is given, no row gives one
pub none_at : (rows : List (Option Refusal)) (k : ℕ) → first_given rows ≡ None → get_or rows k None ≡ None
none_at [] k none = refl
none_at (None ∷ rest) zero none = refl
none_at (None ∷ rest) (suc k) none = none_at rest k none
none_at (Some r ∷ rest) k none = absurd (cc)

-- a test that refuses nothing doesn't hold
pub not_refused : (test : Bool) (refusal : Refusal) → refuse_if test refusal ≡ None → test ≡ false
not_refused true refusal none = absurd (cc)
not_refused false refusal none = refl

-- a file without a refusal maps at most 1,024 pages
pub few_pages : (bytes : List ℕ) → is_image bytes ≡ true → page_count bytes ≤ 1024
few_pages bytes accepted =
    ltb-false 1024 (page_count bytes)
    (not_refused _ (TooManyPages (page_count bytes)) (none_at (refusals bytes) 11 (none_given bytes accepted)))

-- the entry point of a file without a refusal is aligned, on a page that may be executed
pub sound_start :
    (bytes : List ℕ) → is_image bytes ≡ true
    → (e_entry bytes % 4 ≡ 0) × (bit_at (page_permission (segments bytes) (e_entry bytes / 4096)) 0 ≡ 1)
sound_start bytes accepted =
    let aligned = e_entry bytes % 4 == 0 in
    let may_run = is_executable bytes (e_entry bytes) in
    let not_off : not (aligned && may_run) ≡ false =
    not_refused (not (aligned && may_run)) Entry (none_at (refusals bytes) 12 (none_given bytes accepted)) in
    let on = and_parts aligned may_run (not-false (aligned && may_run) not_off) in
    (eqb-true _ _ on.0, eqb-true _ _ on.1)
