-- A slot of a table or a place of a shelf, found in its list of shared groups.
use Rattle.std.proofs.Common.{◌≡◌, ℕ, ◌+◌, ◌*◌, ◌/◌, ◌%◌, ◌<◌, List, [], ◌∷◌, ◌++◌, length, map, get_or, set, ap, sym, subst, ◌∙◌, arith}
use Rattle.std.proofs.lemmas.List.{get_or-map, map-set, map_push, length-map, length-set}
use Rattle.page_store.specs.Groups.{joined, AreGroupsOf}
use Rattle.page_store.proofs.Groups.{length-joined, place_at, get_or-joined, joined-set, are_groups-set, joined-push, are_groups-push, last_group, joined-extended, are_groups-extended, length-last}

module _ {X Y : Type 0} (size : ℕ) (any : 0 < size) (f : Y → List X) where
  -- the table has this number of pages
  pub count_is :
      (count : ℕ) (items : List Y) (now : List X) → AreGroupsOf size count (map f items) → joined (map f items) ≡ now
      → count ≡ length now
  count_is count items now is view = sym (length-joined size count (map f items) is) ∙ ap length view

  -- the group of a slot is one of the table's
  pub group_of :
      (count slot : ℕ) (items : List Y) (now : List X) → AreGroupsOf size count (map f items) → joined (map f items) ≡ now
      → slot < length now
      → slot / size < length items
  group_of count slot items now is view lt =
      let all = count_is count items now is view in
      let at = place_at size count (slot / size) (slot % size) (map f items) is (omega arith) (omega arith) in
      omega (arith, at.group, length-map items f)

  -- what was read of the list of groups
  group_read :
      (items : List Y) (i : ℕ) (y : Y) → i < length items → y ≡ get_or items i y
      → get_or (map f items) i [] ≡ f y
  group_read items i y lt read = get_or-map f items i y [] lt ∙ ap f (sym read)

  -- the place of a slot is one of its group's
  pub place_of :
      (count slot : ℕ) (items : List Y) (now : List X) (y : Y)
      → AreGroupsOf size count (map f items) → joined (map f items) ≡ now → slot < length now
      → y ≡ get_or items (slot / size) y
      → slot % size < length (f y)
  place_of count slot items now y is view lt read =
      let all = count_is count items now is view in
      let at = place_at size count (slot / size) (slot % size) (map f items) is (omega arith) (omega arith) in
      subst (λ group. slot % size < length group)
      (group_read items (slot / size) y (group_of count slot items now is view lt) read) at.place

  -- the page of a slot is there
  pub page_at :
      (count slot : ℕ) (items : List Y) (now : List X) (y : Y) (d : X)
      → AreGroupsOf size count (map f items) → joined (map f items) ≡ now → slot < length now
      → y ≡ get_or items (slot / size) y
      → get_or (f y) (slot % size) d ≡ get_or now slot d
  page_at count slot items now y d is view lt read =
      let all = count_is count items now is view in
      let whole : size * (slot / size) + slot % size ≡ slot = omega arith in
      ap (λ group. get_or group (slot % size) d)
      (sym (group_read items (slot / size) y (group_of count slot items now is view lt) read))
      ∙ sym (get_or-joined size count (slot / size) (slot % size) (map f items) d is (omega arith) (omega arith))
      ∙ ap (λ k. get_or (joined (map f items)) k d) whole
      ∙ ap (λ pages. get_or pages slot d) view

  -- A group z with another page in the slot's place, in the place of group y.
  module _ (count slot : ℕ) (items : List Y) (now : List X) (y z : Y) (x : X)
      (is : AreGroupsOf size count (map f items)) (view : joined (map f items) ≡ now) (lt : slot < length now)
      (read : y ≡ get_or items (slot / size) y)
      (made : f z ≡ set (f y) (slot % size) x) where
    read_is : get_or (map f items) (slot / size) [] ≡ f y
    read_is = group_read items (slot / size) y (group_of count slot items now is view lt) read

    pub pages-set : joined (map f (set items (slot / size) z)) ≡ set now slot x
    pages-set =
        let all = count_is count items now is view in
        let whole : size * (slot / size) + slot % size ≡ slot = omega arith in
        ap joined (map-set f items (slot / size) z)
        ∙ ap (λ group. joined (set (map f items) (slot / size) group))
        (made ∙ ap (λ group. set group (slot % size) x) (sym read_is))
        ∙ joined-set size count (slot / size) (slot % size) (map f items) x is (omega arith) (omega arith)
        ∙ ap (λ k. set (joined (map f items)) k x) whole
        ∙ ap (λ pages. set pages slot x) view

    pub groups-set : AreGroupsOf size count (map f (set items (slot / size) z))
    groups-set =
        subst (AreGroupsOf size count) (sym (map-set f items (slot / size) z))
        (are_groups-set size count (slot / size) (map f items) (f z) is
        (ap length made ∙ length-set (f y) (slot % size) x ∙ ap length (sym read_is)))

  -- The groups of a table that has one more page than before.
  pub record HasOneMore (count : ℕ) (now : List X) (x : X) (items : List Y) : Type 0 where
    pub grouped : AreGroupsOf size (count + 1) (map f items)
    pub pages : joined (map f items) ≡ now ++ x ∷ []

  -- a group z of one page, after full groups
  pub begun :
      (count : ℕ) (items : List Y) (now : List X) (z : Y) (x : X)
      → AreGroupsOf size count (map f items) → joined (map f items) ≡ now → count % size ≡ 0 → f z ≡ x ∷ []
      → HasOneMore count now x (items ++ z ∷ [])
  begun count items now z x is view whole made = record {
    grouped =
        subst (AreGroupsOf size (count + 1)) (ap (λ group. map f items ++ group ∷ []) (sym made) ∙ sym (map_push f items z))
        (are_groups-push size count (count / size) (map f items) x any is (omega arith));
    pages =
        ap joined (map_push f items z) ∙ joined-push (map f items) (f z) ∙ ap (λ pages. pages ++ f z) view
        ∙ ap (λ group. now ++ group) made;
  }

  -- the last group, if it isn't full
  pub last_of :
      (count : ℕ) (items : List Y) → AreGroupsOf size count (map f items) → 0 < count % size
      → count / size < length items
  last_of count items is some =
      omega (arith, last_group size count (count / size) (map f items) any is (omega arith), length-map items f)

  -- how many pages that group has
  pub length_of_last :
      (count : ℕ) (items : List Y) (y : Y) → AreGroupsOf size count (map f items) → 0 < count % size
      → y ≡ get_or items (count / size) y
      → length (f y) ≡ count % size
  length_of_last count items y is some read =
      ap length (sym (group_read items (count / size) y (last_of count items is some) read))
      ∙ length-last size count (count / size) (count % size) (map f items) is some (omega arith) (omega arith)

  -- a group z with one more page, in the place of the last group y
  pub extended :
      (count : ℕ) (items : List Y) (now : List X) (y z : Y) (x : X)
      → AreGroupsOf size count (map f items) → joined (map f items) ≡ now → 0 < count % size → y ≡ get_or items (count / size) y
      → f z ≡ f y ++ x ∷ []
      → HasOneMore count now x (set items (count / size) z)
  extended count items now y z x is view some read made =
      let made_is : f z ≡ get_or (map f items) (count / size) [] ++ x ∷ [] =
      made ∙ ap (λ group. group ++ x ∷ []) (sym (group_read items (count / size) y (last_of count items is some) read)) in
      record {
        grouped =
            subst (AreGroupsOf size (count + 1))
            (ap (λ group. set (map f items) (count / size) group) (sym made_is) ∙ sym (map-set f items (count / size) z))
            (are_groups-extended size count (count / size) (count % size) (map f items) x is some (omega arith) (omega arith));
        pages =
            ap joined (map-set f items (count / size) z)
            ∙ ap (λ group. joined (set (map f items) (count / size) group)) made_is
            ∙ joined-extended size count (count / size) (count % size) (map f items) x is some (omega arith) (omega arith)
            ∙ ap (λ pages. pages ++ x ∷ []) view;
      }
