-- One more header was looked at.
use Rattle.std.proofs.Common.{◌≡◌, ◌<◌, ◌+◌, ℕ, Bool, true, false, cond, List, [], ◌∷◌, ◌++◌, length, get_or, take, filter, refl, sym, ap, ◌∙◌, append-nil, arith}
use Rattle.std.proofs.lemmas.List.{take_more}
use Rattle.std.proofs.lemmas.List.Elements.{filter-append}
use Rattle.elf_spec.specs.Segments.{touches}
use Rattle.elf_load.specs.declared.header.Header.{Header}
use Rattle.elf_load.specs.Header.{header_of}
use Rattle.elf_load.proofs.image.segments_on.Goals as goal

-- a list, with one more element if a test holds
pushed : (b : Bool) (found : List Header) (x : Header) → cond b (found ++ x ∷ []) found ≡ found ++ cond b (x ∷ []) []
pushed true found x = refl
pushed false found x = sym (append-nil found)

-- the first headers that pass a test, with one more header
filter-next :
    (p : Header → Bool) (xs found new : List Header) (k : ℕ) (d : Header) → k < length xs
    → new ≡ cond (p (get_or xs k d)) (found ++ get_or xs k d ∷ []) found
    → found ≡ filter p (take k xs) → new ≡ filter p (take (k + 1) xs)
filter-next p xs found new k d below is known =
    let x = get_or xs k d in
    is ∙ pushed (p x) found x
    ∙ ap (λ (l : List Header). l ++ cond (p x) (x ∷ []) []) known
    ∙ sym (ap (filter p) (take_more xs k d below) ∙ filter-append p (take k xs) (x ∷ []))

pub loop-header-preserved : goal.loop-header-preserved
loop-header-preserved c =
    filter-next (λ (h : Header). touches c.args.number (header_of h)) c.args.headers.now c.loop-header.found.items
    c.push_touching.new.found.items c.loop-header.header-index _ (omega arith) c.in_ok-push_touching.ensures
    c.loop-header.invariant
