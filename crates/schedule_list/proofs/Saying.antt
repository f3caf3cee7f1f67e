-- A text encodes one thing.
use Rattle.std.proofs.Common.{◌≡◌, ℕ, zero, suc, List, [], ◌∷◌, Result, Ok, Err, refl, ap}
use Rattle.std.specs.List.{AllZip}
use Rattle.schedule_list.specs.Schedule.{Encodes, IsFirstBad, Say}
use Rattle.schedule_list.proofs.Encoding.{one_thread}

-- tokens encode one list of threads
same_threads : (tokens : List (List ℕ)) (a b : List ℕ) → AllZip Encodes tokens a → AllZip Encodes tokens b → a ≡ b
same_threads [] [] [] p q = refl
same_threads [] [] (y ∷ b) p q = absurd q
same_threads [] (x ∷ a) b p q = absurd p
same_threads (token ∷ tokens) [] b p q = absurd p
same_threads (token ∷ tokens) (x ∷ a) [] p q = absurd q
same_threads (token ∷ tokens) (x ∷ a) (y ∷ b) p q =
    let first = one_thread token x y p.0 q.0 in let rest = same_threads tokens a b p.1 q.1 in cc

-- if all tokens encode threads, none is bad
none_bad :
    (tokens : List (List ℕ)) (threads : List ℕ) (number : ℕ) → AllZip Encodes tokens threads → IsFirstBad tokens number
    → ⊥
none_bad [] threads number p q = q
none_bad (token ∷ tokens) [] number p q = p
none_bad (token ∷ tokens) (t ∷ threads) zero p q = q (t, p.0)
none_bad (token ∷ tokens) (t ∷ threads) (suc number) p q = none_bad tokens threads number p.1 q.1

-- one token is the first bad one
same_token : (tokens : List (List ℕ)) (m n : ℕ) → IsFirstBad tokens m → IsFirstBad tokens n → m ≡ n
same_token [] m n p q = absurd p
same_token (token ∷ tokens) zero zero p q = refl
same_token (token ∷ tokens) zero (suc n) p q = absurd (p q.0)
same_token (token ∷ tokens) (suc m) zero p q = absurd (q p.0)
same_token (token ∷ tokens) (suc m) (suc n) p q = ap (λ k. suc k) (same_token tokens m n p.1 q.1)

pub one_thing : (tokens : List (List ℕ)) (a b : Result (List ℕ) ℕ) → Say tokens a → Say tokens b → a ≡ b
one_thing tokens (Ok threads) (Ok others) p q = ap (λ x. Ok x) (same_threads tokens threads others p q)
one_thing tokens (Ok threads) (Err number) p q = absurd (none_bad tokens threads number p q)
one_thing tokens (Err number) (Ok threads) p q = absurd (none_bad tokens threads number q p)
one_thing tokens (Err m) (Err n) p q = ap (λ x. Err x) (same_token tokens m n p q)
