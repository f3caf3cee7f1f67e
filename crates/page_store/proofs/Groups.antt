-- The element of number size * i + j is in group i, at place j.
use Rattle.std.proofs.Common.{◌≡◌, ℕ, zero, suc, ◌+◌, ◌-◌, ◌*◌, ◌<◌, List, [], ◌∷◌, ◌++◌, length, get_or, set, refl, ap, sym, subst, ◌∙◌, arith, append_assoc, length-append, mul-suc, mul-zero}
use Rattle.std.proofs.lemmas.List.{get_or_append_left, get_or-append-add, set-append_left, set-append_right, length_push, append-nil}
use Rattle.page_store.specs.Groups.{joined, AreGroupsOf}

pub length-joined :
    {X : Type 0} (size count : ℕ) (groups : List (List X)) → AreGroupsOf size count groups
    → length (joined groups) ≡ count
length-joined size count [] is = sym is
length-joined size count (group ∷ groups) is =
    let rest = length-joined size (count - size) groups is.2 in
    let here = is.1 in
    let all = length-append group (joined groups) in
    omega arith

-- groups have as many elements as the list that joins them
pub of_length :
    {X : Type 0} (size count : ℕ) (groups : List (List X)) → AreGroupsOf size count groups
    → AreGroupsOf size (length (joined groups)) groups
of_length size count groups is = subst (λ k. AreGroupsOf size k groups) (sym (length-joined size count groups is)) is

-- A place of a group that exists.
pub record IsPlace {X : Type 0} (groups : List (List X)) (i j : ℕ) : Type 0 where
  pub group : i < length groups
  pub place : j < length (get_or groups i [])

pub place_at :
    {X : Type 0} (size count i j : ℕ) (groups : List (List X))
    → AreGroupsOf size count groups → j < size → size * i + j < count
    → IsPlace groups i j
place_at size count i j [] is inside lt = absurd (omega arith)
place_at size count zero j (group ∷ groups) is inside lt =
    record { group = omega arith; place = omega (arith, is.1, mul-zero size) }
place_at size count (suc i) j (group ∷ groups) is inside lt =
    let rest = place_at size (count - size) i j groups is.2 inside (omega (arith, mul-suc size i)) in
    record { group = omega (arith, rest.group); place = rest.place }

pub get_or-joined :
    {X : Type 0} (size count i j : ℕ) (groups : List (List X)) (d : X)
    → AreGroupsOf size count groups → j < size → size * i + j < count
    → get_or (joined groups) (size * i + j) d ≡ get_or (get_or groups i []) j d
get_or-joined size count i j [] d is inside lt = absurd (omega arith)
get_or-joined size count zero j (group ∷ groups) d is inside lt =
    let at : size * 0 + j ≡ j = omega (arith, mul-zero size) in
    ap (λ k. get_or (group ++ joined groups) k d) at
    ∙ get_or_append_left group (joined groups) d j (omega (arith, is.1, mul-zero size))
get_or-joined size count (suc i) j (group ∷ groups) d is inside lt =
    let at : size * suc i + j ≡ length group + (size * i + j) = omega (arith, is.1, mul-suc size i) in
    ap (λ k. get_or (group ++ joined groups) k d) at
    ∙ get_or-append-add group (joined groups) (size * i + j) d
    ∙ get_or-joined size (count - size) i j groups d is.2 inside (omega (arith, mul-suc size i))

-- another element at a place
pub joined-set :
    {X : Type 0} (size count i j : ℕ) (groups : List (List X)) (x : X)
    → AreGroupsOf size count groups → j < size → size * i + j < count
    → joined (set groups i (set (get_or groups i []) j x)) ≡ set (joined groups) (size * i + j) x
joined-set size count i j [] x is inside lt = absurd (omega arith)
joined-set size count zero j (group ∷ groups) x is inside lt =
    let at : j ≡ size * 0 + j = omega (arith, mul-zero size) in
    sym (set-append_left group (joined groups) j x (omega (arith, is.1, mul-zero size)))
    ∙ ap (λ k. set (group ++ joined groups) k x) at
joined-set size count (suc i) j (group ∷ groups) x is inside lt =
    let here : size * suc i + j - length group ≡ size * i + j = omega (arith, is.1, mul-suc size i) in
    ap (λ rest. group ++ rest) (joined-set size (count - size) i j groups x is.2 inside (omega (arith, mul-suc size i)))
    ∙ ap (λ k. group ++ set (joined groups) k x) (sym here)
    ∙ sym (set-append_right group (joined groups) (length group) (size * suc i + j) x refl
    (omega (arith, is.1, mul-suc size i)))

-- another group of the same length in the place of one
pub are_groups-set :
    {X : Type 0} (size count i : ℕ) (groups : List (List X)) (group : List X)
    → AreGroupsOf size count groups → length group ≡ length (get_or groups i [])
    → AreGroupsOf size count (set groups i group)
are_groups-set size count i [] group is same = is
are_groups-set size count zero (first ∷ groups) group is same = (is.0, same ∙ is.1, is.2)
are_groups-set size count (suc i) (first ∷ groups) group is same =
    (is.0, is.1, are_groups-set size (count - size) i groups group is.2 same)

-- one more group
pub joined-push :
    {X : Type 0} (groups : List (List X)) (group : List X)
    → joined (groups ++ group ∷ []) ≡ joined groups ++ group
joined-push [] group = append-nil group
joined-push (first ∷ groups) group =
    ap (λ rest. first ++ rest) (joined-push groups group) ∙ sym (append_assoc first (joined groups) group)

pub are_groups-push :
    {X : Type 0} (size count i : ℕ) (groups : List (List X)) (x : X)
    → 0 < size → AreGroupsOf size count groups → count ≡ size * i
    → AreGroupsOf size (count + 1) (groups ++ (x ∷ []) ∷ [])
are_groups-push size count i [] x any is whole = (omega arith, omega (arith, is), omega (arith, is))
are_groups-push size count zero (group ∷ groups) x any is whole = absurd (omega (arith, is.0, mul-zero size))
are_groups-push size count (suc i) (group ∷ groups) x any is whole =
    let here = is.1 in
    let next : count - size + 1 ≡ count + 1 - size = omega (arith, mul-suc size i) in (
      omega arith,
      omega (arith, mul-suc size i),
      subst (λ k. AreGroupsOf size k (groups ++ (x ∷ []) ∷ [])) next
          (are_groups-push size (count - size) i groups x any is.2 (omega (arith, mul-suc size i))),
    )

-- one more element in the last group
pub last_group :
    {X : Type 0} (size count i : ℕ) (groups : List (List X))
    → 0 < size → AreGroupsOf size count groups → size * i < count
    → i < length groups
last_group size count i groups any is lt = (place_at size count i 0 groups is any (omega arith)).group

pub joined-extended :
    {X : Type 0} (size count i j : ℕ) (groups : List (List X)) (x : X)
    → AreGroupsOf size count groups → 0 < j → j < size → count ≡ size * i + j
    → joined (set groups i (get_or groups i [] ++ x ∷ [])) ≡ joined groups ++ x ∷ []
joined-extended size count i j [] x is some inside sum = absurd (omega (arith, is))
joined-extended size count zero j (group ∷ []) x is some inside sum =
    append-nil (group ++ x ∷ []) ∙ ap (λ all. all ++ x ∷ []) (sym (append-nil group))
joined-extended size count zero j (group ∷ next ∷ groups) x is some inside sum =
    let more = is.2.0 in
    absurd (omega (arith, mul-zero size))
joined-extended size count (suc i) j (group ∷ groups) x is some inside sum =
    ap (λ rest. group ++ rest) (joined-extended size (count - size) i j groups x is.2 some inside
    (omega (arith, mul-suc size i)))
    ∙ sym (append_assoc group (joined groups) (x ∷ []))

pub are_groups-extended :
    {X : Type 0} (size count i j : ℕ) (groups : List (List X)) (x : X)
    → AreGroupsOf size count groups → 0 < j → j < size → count ≡ size * i + j
    → AreGroupsOf size (count + 1) (set groups i (get_or groups i [] ++ x ∷ []))
are_groups-extended size count i j [] x is some inside sum = absurd (omega (arith, is))
are_groups-extended size count zero j (group ∷ groups) x is some inside sum =
    let here = is.1 in
    let long = length_push group x in
    let next : count - size ≡ count + 1 - size = omega (arith, mul-zero size) in
    (omega arith, omega (arith, mul-zero size), subst (λ k. AreGroupsOf size k groups) next is.2)
are_groups-extended size count (suc i) j (group ∷ groups) x is some inside sum =
    let here = is.1 in
    let next : count - size + 1 ≡ count + 1 - size = omega (arith, mul-suc size i) in (
      omega arith,
      omega (arith, mul-suc size i),
      subst (λ k. AreGroupsOf size k (set groups i (get_or groups i [] ++ x ∷ []))) next
          (are_groups-extended size (count - size) i j groups x is.2 some inside
          (omega (arith, mul-suc size i))),
    )

-- how many elements the last group has, if it isn't full
pub length-last :
    {X : Type 0} (size count i j : ℕ) (groups : List (List X))
    → AreGroupsOf size count groups → 0 < j → j < size → count ≡ size * i + j
    → length (get_or groups i []) ≡ j
length-last size count i j [] is some inside sum = absurd (omega (arith, is))
length-last size count zero j (group ∷ groups) is some inside sum = omega (arith, is.1, mul-zero size)
length-last size count (suc i) j (group ∷ groups) is some inside sum =
    length-last size (count - size) i j groups is.2 some inside (omega (arith, mul-suc size i))
