-- The touched slots, after one of them changed or one more was touched.
use Rattle.std.proofs.Common.{◌≡◌, ℕ, ◌<◌, ◌≤◌, ◌^◌, suc, ◌⊎◌, Bool, true, false, IsTrue, IsFalse, List, [], ◌∷◌, ◌++◌, length, get_or, set, replicate, inl, inr, Option, Some, None, Result, Ok, Err, IsErr, MatchResult, Vec, refl, ap, sym, subst, ◌∙◌, arith}
use Rattle.std.proofs.lemmas.Bool.{cases_eq, cases_lt}
use Rattle.std.proofs.lemmas.List.{get_or-map, get_or-set_same, get_or-set_other, get_or_append_left, get_or_past, get_or_default, set-get_or, ext_get_or, length-map, length-set, length-append, with_items_is}
use Rattle.std.proofs.Math.Seq.{get_or-append_seam}
use Rattle.std.specs.Vec.{with_items}
use Rattle.std.specs.declared.alloc.AllocError.{AllocError}
use Rattle.memory_spec.specs.Pages.{Memory, page_of}
use Rattle.priv_space.specs.declared.slot.Slot.{Slot}
use Rattle.priv_space.specs.declared.slot.Access.{Access}
use Rattle.priv_space.specs.declared.slots.TheConstants.{LISTED}
use Rattle.priv_space.specs.Slots.{untouched, SharesPage, IsPermitted, IsOver}
use Rattle.priv_space.specs.Held.{held_at, all_held, IsHeld, HoldsSlot, PlacesSlot, FindsNext, FindsLeast}
use Rattle.priv_space.specs.Changes.{OnSlot, StoresAgain}
use Rattle.priv_space.proofs.Views.{map-replicate}

pub length-all_held : (places : List ℕ) (held : List Slot) → length (all_held places held) ≡ length places
length-all_held places held = length-map places (held_at held)

-- a slot is what is held at its place
get_or-all_held :
    (places : List ℕ) (held : List Slot) (i : ℕ) → i < length places
    → get_or (all_held places held) i untouched ≡ held_at held (get_or places i 0)
get_or-all_held places held i lt = get_or-map (held_at held) places i 0 untouched lt

-- a slot without a place wasn't touched
pub untouched-held :
    {listed : List ℕ} (places : List ℕ) (held : List Slot) (i : ℕ) → IsHeld listed places held → get_or places i 0 ≡ 0
    → get_or (all_held places held) i untouched ≡ untouched
untouched-held places held i h free =
    elim (cases_lt i (length places)) [
      | inl lt ↦ get_or-all_held places held i lt ∙ ap (held_at held) free ∙ h.first
      | inr le ↦ get_or_past (all_held places held) i untouched (omega (arith, length-all_held places held))
    ]

-- what is found among places is found among slots
pub next-free :
    {IsFree IsClear : ℕ → Type 0} (from count count' : ℕ) (found : Option ℕ) → ((k : ℕ) → IsFree k → IsClear k)
    → count ≡ count' → FindsNext IsFree from count found → FindsNext IsClear from count' found
next-free from count count' (Some slot) clear same next = record {
  above = next.above;
  within = omega (arith, next.within);
  fits = next.fits;
  before = λ k above below. clear k (next.before k above below);
}
next-free from count count' None clear same free = λ k above. clear k (free k above)

-- slots that have no place
pub held-fresh :
    (count : ℕ) (held : List Slot) → held_at held 0 ≡ untouched
    → all_held (replicate count 0) held ≡ replicate count untouched
held-fresh count held first = map-replicate (held_at held) count 0 ∙ ap (replicate count) first

-- an element, after one of them was set
at_set :
    {A : Type 0} (xs : List A) (i j : ℕ) (v d : A) → i < length xs
    → ((j ≡ i) × (get_or (set xs i v) j d ≡ v)) ⊎ ((j ≡ i → ⊥) × (get_or (set xs i v) j d ≡ get_or xs j d))
at_set xs i j v d lt =
    elim (cases_eq j i) [
      | inl is ↦ inl (is, ap (λ n. get_or (set xs i v) n d) is ∙ get_or-set_same xs i v d lt)
      | inr other ↦ inr (other, get_or-set_other xs i j v d other)
    ]

-- a change of what is held at an own place changes one slot; place 0 stays untouched
pub all_held-set :
    {listed : List ℕ} (places : List ℕ) (held : List Slot) (i k : ℕ) (s : Slot) → IsHeld listed places held → i < length places
    → k ≡ get_or places i 0 → (k ≡ 0 → s ≡ untouched)
    → all_held places (set held k s) ≡ set (all_held places held) i s
all_held-set places held i k s h lt k_is none =
    let under : k < length held = omega (arith, h.inside i) in
    let count : length (all_held places held) ≡ length places = length-all_held places held in
    ext_get_or untouched (all_held places (set held k s)) (set (all_held places held) i s)
    (length-all_held places (set held k s) ∙ sym (length-set (all_held places held) i s ∙ count))
    (λ j below.
    let inside : j < length places = omega (arith, length-all_held places (set held k s)) in
    let was = get_or-all_held places held j inside in
    get_or-all_held places (set held k s) j inside
    ∙ elim (at_set (all_held places held) i j s untouched (omega arith)) [
      | inl new ↦
          ap (λ n. held_at (set held k s) (get_or places n 0)) new.0
          ∙ ap (held_at (set held k s)) (sym k_is)
          ∙ get_or-set_same held k s untouched under
          ∙ sym new.1
      | inr other ↦ elim (at_set held k (get_or places j 0) s untouched under) [
        | inl same ↦ elim (cases_lt 0 k) [
          | inl some ↦ absurd (other.0 (h.apart j i (same.0 ∙ k_is) (omega (arith, same.0))))
          | inr low ↦
              let free : k ≡ 0 = omega arith in
              same.1 ∙ none free ∙ sym (other.1 ∙ was ∙ ap (held_at held) (same.0 ∙ free) ∙ h.first)
        ]
        | inr unlike ↦ unlike.1 ∙ sym (other.1 ∙ was)
      ]
    ])

is_held-set :
    {listed : List ℕ} (places : List ℕ) (held : List Slot) (k : ℕ) (s : Slot) → IsHeld listed places held → k < length held
    → (k ≡ 0 → s ≡ untouched) → IsHeld listed places (set held k s)
is_held-set places held k s h under none = record {
  first =
      elim (at_set held k 0 s untouched under) [
        | inl same ↦ same.1 ∙ none (sym same.0)
        | inr unlike ↦ unlike.1 ∙ h.first
      ];
  some = omega (arith, h.some, length-set held k s);
  inside = λ slot. omega (arith, h.inside slot, length-set held k s);
  apart = h.apart;
  room = h.room;
  owned = λ place some below. h.owned place some (omega (arith, below, length-set held k s));
}

-- if an untouched slot gets the next place, it is as before
pub all_held-more :
    {listed : List ℕ} (places : List ℕ) (held : List Slot) (i : ℕ) → IsHeld listed places held → i < length places → get_or places i 0 ≡ 0
    → all_held (set places i (length held)) (held ++ untouched ∷ []) ≡ all_held places held
all_held-more places held i h lt free =
    let places' = set places i (length held) in
    let held' = held ++ untouched ∷ [] in
    let whole : length places' ≡ length places = length-set places i (length held) in
    ext_get_or untouched (all_held places' held') (all_held places held)
    (length-all_held places' held' ∙ whole ∙ sym (length-all_held places held))
    (λ j below.
    let inside : j < length places = omega (arith, length-all_held places' held') in
    let was = get_or-all_held places held j inside in
    get_or-all_held places' held' j (omega arith)
    ∙ elim (at_set places i j (length held) 0 lt) [
      | inl new ↦
          ap (held_at held') new.1 ∙ get_or-append_seam held untouched [] untouched
          ∙ sym (was ∙ ap (λ n. held_at held (get_or places n 0)) new.0 ∙ ap (held_at held) free ∙ h.first)
      | inr other ↦
          ap (held_at held') other.1
          ∙ get_or_append_left held (untouched ∷ []) untouched (get_or places j 0) (h.inside j)
          ∙ sym was
    ])

-- so the places and their list keep their invariant
pub is_held-more :
    (listed places : List ℕ) (held : List Slot) (i : ℕ) → IsHeld listed places held → i < length places
    → get_or places i 0 ≡ 0
    → IsHeld (set listed (length held) i) (set places i (length held)) (held ++ untouched ∷ [])
is_held-more listed places held i h lt free =
    let n = length held in
    let places' = set places i n in
    let listed' = set listed n i in
    let whole : length places' ≡ length places = length-set places i n in
    let many : length listed' ≡ length listed = length-set listed n i in
    let more : length (held ++ untouched ∷ []) ≡ suc n =
    omega (arith, length-append held (untouched ∷ [])) in
    record {
      first = get_or_append_left held (untouched ∷ []) untouched 0 h.some ∙ h.first;
      some = omega (arith, more);
      inside = λ slot.
          elim (at_set places i slot n 0 lt) [
            | inl new ↦ omega (arith, new.1, more)
            | inr other ↦ omega (arith, other.1, h.inside slot, more)
          ];
      apart = λ a b same some.
          elim (at_set places i a n 0 lt) [
            | inl new ↦ elim (at_set places i b n 0 lt) [
              | inl new' ↦ new.0 ∙ sym new'.0
              | inr other' ↦ absurd (omega (arith, new.1, other'.1, h.inside b))
            ]
            | inr other ↦ elim (at_set places i b n 0 lt) [
              | inl new' ↦ absurd (omega (arith, new'.1, other.1, h.inside a))
              | inr other' ↦ h.apart a b (sym other.1 ∙ same ∙ other'.1) (omega (arith, other.1))
            ]
          ];
      room = many ∙ h.room;
      owned = λ place some below first.
          elim (cases_eq place n) [
            | inl is ↦
                ap (λ p. get_or places' (get_or listed' p 0) 0) is
                ∙ ap (λ slot. get_or places' slot 0) (get_or-set_same listed n i 0 (omega (arith, is, h.room)))
                ∙ get_or-set_same places i n 0 lt
                ∙ sym is
            | inr other ↦
                let was = h.owned place some (omega (arith, more)) first in
                ap (λ slot. get_or places' slot 0) (get_or-set_other listed n place i 0 other)
                ∙ get_or-set_other places i (get_or listed place 0) n 0
                (λ is. absurd (omega (arith, was, free, ap (λ slot. get_or places slot 0) is)))
                ∙ was
          ];
    }

-- a slot that has one of the first places is listed there
listed-slot :
    (listed places : List ℕ) (held : List Slot) (slot : ℕ) → IsHeld listed places held → 0 < get_or places slot 0
    → get_or places slot 0 < LISTED → get_or listed (get_or places slot 0) 0 ≡ slot
listed-slot listed places held slot h some below =
    let own = h.owned (get_or places slot 0) some (h.inside slot) below in
    h.apart (get_or listed (get_or places slot 0) 0) slot own (omega (arith, own))

-- and a listed slot is one of the slots
listed-within :
    (listed places : List ℕ) (held : List Slot) (place : ℕ) → IsHeld listed places held → 0 < place
    → place < length held → place < LISTED → get_or listed place 0 < length places
listed-within listed places held place h some below first =
    elim (cases_lt (get_or listed place 0) (length places)) [
      | inl lt ↦ lt
      | inr le ↦ absurd (omega (arith, h.owned place some below first, get_or_past places (get_or listed place 0) 0 le))
    ]

-- the least listed slot is the next one that has a place, if all places are listed
pub next-listed :
    (listed places : List ℕ) (held : List Slot) (from count : ℕ) (found : Option ℕ) → IsHeld listed places held
    → count ≡ length held → count ≤ LISTED → length places < 2 ^ 64 → FindsLeast listed count from found
    → FindsNext (λ k. get_or places k 0 ≡ 0) from (length places) found
next-listed listed places held from count (Some slot) h is all fits least =
    let within : slot < length places =
    omega (
      arith,
      least.is,
      listed-within listed places held least.place h least.inside.0 (omega (arith, least.inside.1))
          (omega (arith, least.inside.1)),
    ) in
    record {
      above = least.above;
      within = within;
      fits = omega (arith, within, fits);
      before = λ k above below.
          elim (cases_lt 0 (get_or places k 0)) [
            | inl some ↦
                let here = listed-slot listed places held k h some (omega (arith, h.inside k)) in
                absurd (omega (arith, least.least (get_or places k 0) some (omega (arith, h.inside k)) (omega (arith, here)), here))
            | inr low ↦ omega arith
          ];
    }
next-listed listed places held from count None h is all fits none = λ k above.
    elim (cases_lt 0 (get_or places k 0)) [
      | inl some ↦
          absurd (
          omega (
            arith,
            listed-slot listed places held k h some (omega (arith, h.inside k)),
            none (get_or places k 0) some (omega (arith, h.inside k)),
          ))
      | inr low ↦ omega arith
    ]

-- One slot is replaced by another, and no other slot changes.
pub record IsPut (slots : List Slot) (listed places : List ℕ) (held : List Slot) (i : ℕ) (old new : Slot) : Type 0 where
  pub each : IsHeld listed places held
  pub all : all_held places held ≡ set slots i new
  pub within : i < length slots
  pub was : old ≡ get_or slots i untouched

-- so it is if what is held at a place changes; place 0 only gets untouched slots
pub put-slot :
    {slots held : List Slot} {listed places places' : List ℕ} {i k : ℕ} {x : Slot} (s : Slot)
    → all_held places held ≡ slots → IsHeld listed places held → i < length slots → k ≡ get_or places i 0
    → x ≡ get_or held k x → places' ≡ places → (k ≡ 0 → x ≡ untouched → s ≡ untouched)
    → IsPut slots listed places' (set held k s) i x s
put-slot {slots} {held} {listed} {places} {places'} {i} {k} {x} s all each within place x_is same none =
    let inside : i < length places = omega (arith, ap length all, length-all_held places held) in
    let under : k < length held = omega (arith, each.inside i) in
    let here : x ≡ held_at held k = x_is ∙ get_or_default held k x untouched under in
    let first : k ≡ 0 → s ≡ untouched = λ free. none free (here ∙ ap (held_at held) free ∙ each.first) in
    record {
      each = subst (λ q. IsHeld listed q (set held k s)) (sym same) (is_held-set places held k s each under first);
      all =
          ap (λ q. all_held q (set held k s)) same
          ∙ all_held-set places held i k s each inside place first
          ∙ ap (λ xs. set xs i s) all;
      within = within;
      was =
          here
          ∙ ap (held_at held) place
          ∙ sym (get_or-all_held places held i inside)
          ∙ ap (λ xs. get_or xs i untouched) all;
    }

-- and so it is at the place that a slot got to be touched
pub put-touched :
    {X : Type 0} {slots old held : List Slot} {listed before places : List ℕ} {i k : ℕ} {x : Slot} (s : Slot) (v : Vec ℕ X)
    → all_held v.items old ≡ slots → before ≡ v.items → PlacesSlot i listed before places old held (Ok k)
    → i < length slots → x ≡ get_or held k x → length places ≡ v.len
    → IsPut slots listed (with_items v places).items (set held k s) i x s
put-touched {old = old} {places = places} s v was seen placed within x_is fits =
    put-slot s (placed.same ∙ ap (λ p. all_held p old) seen ∙ was) placed.each within placed.place.0 x_is
    (with_items_is v places fits) (λ free. absurd (omega (arith, placed.place.1)))

-- the places after a search for one, whether it succeeded or not, are such ones
pub placed-held :
    {X : Type 0} {old held : List Slot} {listed before places : List ℕ} {i : ℕ} {r : Result ℕ AllocError} (v : Vec ℕ X)
    → PlacesSlot i listed before places old held r → length places ≡ v.len
    → IsHeld listed (with_items v places).items held
placed-held {held = held} {listed = listed} {places = places} v placed fits =
    subst (λ q. IsHeld listed q held) (sym (with_items_is v places fits)) placed.each

-- and all slots are as before
pub placed-same :
    {X : Type 0} {slots old held : List Slot} {listed before places : List ℕ} {i : ℕ} {r : Result ℕ AllocError}
    (v : Vec ℕ X)
    → all_held v.items old ≡ slots → before ≡ v.items → PlacesSlot i listed before places old held r
    → length places ≡ v.len
    → all_held (with_items v places).items held ≡ slots
placed-same {old = old} {held = held} {places = places} v was seen placed fits =
    ap (λ q. all_held q held) (with_items_is v places fits) ∙ placed.same ∙ ap (λ p. all_held p old) seen ∙ was

-- a search for a place is made for a slot of such places
pub holds-slot :
    {slots held : List Slot} {listed places items : List ℕ} {i : ℕ}
    → all_held items held ≡ slots → IsHeld listed items held → i < length slots → places ≡ items
    → HoldsSlot i listed places held
holds-slot {held = held} {listed = listed} {items = items} was each within seen = record {
  each = subst (λ q. IsHeld listed q held) (sym seen) each;
  within = omega (arith, ap length was, ap length seen, length-all_held items held);
}

-- what is to be shown of a call that failed
pub failed : {T E : Type 0} (r : Result T E) (P : T → Type 0) (Q : Type 0) → IsErr r → Q → MatchResult r P (λ _. Q)
failed (Ok x) P Q err q = absurd (cc)
failed (Err e) P Q err q = q

-- the slot before the change shares the view's page, as each slot does
pub shared-put :
    {slots held : List Slot} {listed places : List ℕ} {i : ℕ} {x s : Slot} (view : Memory)
    → IsPut slots listed places held i x s → IsOver view slots → SharesPage (page_of view i) x
shared-put {i = i} view p over = rw p.was (over.shared i)

-- so a change of what is held is the same change of the slot
pub change-put :
    (Change : Slot → Slot → Type 0) {slots held : List Slot} {listed places : List ℕ} {i : ℕ} {x s : Slot}
    → IsPut slots listed places held i x s → Change x s → OnSlot i Change slots (all_held places held)
change-put Change {slots} {held} {listed} {places} {i} {x} {s} p change =
    let now : get_or (all_held places held) i untouched ≡ s =
    ap (λ xs. get_or xs i untouched) p.all ∙ get_or-set_same slots i s untouched p.within in
    record {
      others = p.all ∙ ap (set slots i) (sym now);
      change =
          subst (λ y. Change y (get_or (all_held places held) i untouched)) p.was (subst (Change x) (sym now) change);
    }

-- and none if the slot stays as it is
pub stays-put :
    {slots held : List Slot} {listed places : List ℕ} {i : ℕ} {x s : Slot}
    → IsPut slots listed places held i x s → s ≡ x → all_held places held ≡ slots
stays-put {slots} {i = i} p stays = p.all ∙ ap (set slots i) (stays ∙ p.was) ∙ set-get_or slots i untouched

-- and of a call that may fail, which then changes nothing
pub outcome-put :
    {T E : Type 0} (Change : T → Slot → Slot → Type 0) {slots held : List Slot} {listed places : List ℕ} {i : ℕ} {x s : Slot}
    (r : Result T E) → IsPut slots listed places held i x s → MatchResult r (λ value. Change value x s) (λ error. s ≡ x)
    → MatchResult r (λ value. OnSlot i (Change value) slots (all_held places held)) (λ error. all_held places held ≡ slots)
outcome-put Change (Ok value) p done = change-put (Change value) p done
outcome-put Change (Err error) p stays = stays-put p stays

-- a slot that wasn't touched has no own copy to store to
pub still-untouched :
    {access : Access} {value : ℕ} {x s : Slot} (stored : Bool) → x ≡ untouched
    → (IsTrue stored → StoresAgain access value x s) → (IsFalse stored → s ≡ x) → s ≡ untouched
unfolding untouched
still-untouched true is stores stays =
    let no : false ≡ true = (stores refl).writes 0 (subst (IsPermitted 0) (sym is) tt) in
    cc
still-untouched false is stores stays = stays refl ∙ is
