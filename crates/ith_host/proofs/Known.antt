-- Two transfers, one after the other.
use Rattle.std.proofs.Common.{◌≡◌, ◌<◌, ℕ, List, ◌++◌, length, Option, Some, None, IfSome, append-nil, append_assoc, length-append, sym, ap, subst, ◌∙◌, arith}
use Rattle.std.specs.Io.KnownBytes.{Appends, Consumes, Keeps, IsAtEnd}

-- the bytes that a sink got in two pieces
pub Appends-more : (first second third : Option (List ℕ)) (xs ys zs : List ℕ) → Appends first second xs
    → Appends second third ys → zs ≡ xs ++ ys → Appends first third zs
Appends-more None second third xs ys zs one two is = tt
Appends-more (Some a) None third xs ys zs one two is = absurd one
Appends-more (Some a) (Some b) None xs ys zs one two is = absurd two
Appends-more (Some a) (Some b) (Some c) xs ys zs one two is = two ∙ ap (λ s. s ++ ys) one ∙ append_assoc a xs ys
    ∙ ap (λ s. a ++ s) (sym is)

-- the bytes that a source gave in two pieces
pub Consumes-more : (first second third : Option (List ℕ)) (xs ys : List ℕ) → Consumes first second xs
    → Consumes second third ys → Consumes first third (xs ++ ys)
Consumes-more None second third xs ys one two = tt
Consumes-more (Some a) None third xs ys one two = absurd one
Consumes-more (Some a) (Some b) None xs ys one two = absurd two
Consumes-more (Some a) (Some b) (Some c) xs ys one two = one ∙ ap (λ s. xs ++ s) two ∙ sym (append_assoc xs ys c)

-- the same, as one list
pub Consumes-both : (first second third : Option (List ℕ)) (xs ys zs : List ℕ) → Consumes first second xs
    → Consumes second third ys → zs ≡ xs ++ ys → Consumes first third zs
Consumes-both first second third xs ys zs one two is =
    subst (Consumes first third) (sym is) (Consumes-more first second third xs ys one two)

-- the bytes that a source gave before a call that failed
pub Consumes-kept : (first second third : Option (List ℕ)) (xs : List ℕ) → Consumes first second xs
    → Keeps second third → Consumes first third xs
Consumes-kept None second third xs one same = tt
Consumes-kept (Some a) None third xs one same = absurd one
Consumes-kept (Some a) (Some b) None xs one same = absurd same
Consumes-kept (Some a) (Some b) (Some c) xs one same = one ∙ ap (λ s. xs ++ s) (sym same)

-- a source that is at its end gave all its bytes
pub Consumes-all : (first last : Option (List ℕ)) (xs : List ℕ) → Consumes first last xs → IsAtEnd last
    → IfSome first (λ content. content ≡ xs)
Consumes-all None last xs took end = tt
Consumes-all (Some a) None xs took end = absurd took
Consumes-all (Some a) (Some b) xs took end = took ∙ ap (λ s. xs ++ s) end ∙ append-nil xs

-- a source has no fewer bytes than it gave
pub Consumes-longer : (first last : Option (List ℕ)) (xs : List ℕ) (limit : ℕ) → Consumes first last xs
    → limit < length xs → IfSome first (λ content. limit < length content)
Consumes-longer None last xs limit took long = tt
Consumes-longer (Some a) None xs limit took long = absurd took
Consumes-longer (Some a) (Some b) xs limit took long =
    let whole = ap length took in
    let parts = length-append xs b in
    omega (arith, whole, parts, long)
