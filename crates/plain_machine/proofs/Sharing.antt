-- A page of a list of shared pages, and another one in its place.
use Rattle.std.proofs.Common.{◌≡◌, ◌<◌, ℕ, List, [], length, map, get_or, set, ap, sym, ◌∙◌, arith}
use Rattle.std.proofs.lemmas.List.{get_or-map, map-set, length-map}

module _ {X Y : Type 0} (f : Y → List X) where
  -- the page in a slot is the value at its place in the list
  pub page_at :
      (items : List Y) (now : List (List X)) (slot : ℕ) (y : Y) → map f items ≡ now → slot < length now
      → y ≡ get_or items slot y
      → f y ≡ get_or now slot []
  page_at items now slot y view lt read =
      let count : slot < length items = omega (arith, lt, ap length view, length-map items f) in
      ap f read
      ∙ sym (get_or-map f items slot y [] count)
      ∙ ap (λ pages. get_or pages slot []) view

  -- and another page is there after it was put there
  pub page_set :
      (items : List Y) (now : List (List X)) (slot : ℕ) (z : Y) (page : List X) → map f items ≡ now → f z ≡ page
      → map f (set items slot z) ≡ set now slot page
  page_set items now slot z page view made =
      map-set f items slot z
      ∙ ap (λ pages. set pages slot (f z)) view
      ∙ ap (λ bytes. set now slot bytes) made
