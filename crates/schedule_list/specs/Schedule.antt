-- What the bytes of a schedule say: threads in order, each with a mark or without one.
use Rattle.std.specs.Prelude.{ℕ, zero, suc, ◌≡◌, ◌<◌, ◌==◌, ◌||◌, Bool, List, [], ◌∷◌, ◌++◌, filter, codes, decimal, Result, Ok, Err, ◌⊎◌}
use Rattle.std.specs.List.{AllZip, slice_split}
use Rattle.edit_spec.specs.Grammar.{is_filled}
use Rattle.guest_call.specs.declared.thread_number.TheConstants.{THREADS}

-- A byte that separates tokens: a space or a newline. (ISO/IEC 646)
abbrev pub is_gap : ℕ → Bool
is_gap byte = byte == 32 || byte == 10

-- The tokens of a text: the pieces between spaces and newlines, without the empty ones.
unfoldable pub tokens : List ℕ → List (List ℕ)
tokens text = filter is_filled (slice_split is_gap text)

-- What may follow a thread's number: nothing, or the mark of a reused or of an executed step.
abbrev pub IsMark : List ℕ → Type 0
IsMark mark = (mark ≡ []) ⊎ ((mark ≡ codes "=") ⊎ (mark ≡ codes "+"))

-- A token encodes a thread: its number in decimal, without leading zeros, and then a mark, which says nothing.
abbrev pub Encodes : List ℕ → ℕ → Type 0
Encodes token thread = (thread < THREADS) × (mark : List ℕ) × IsMark mark × (token ≡ decimal thread ++ mark)

-- Some thread is encoded by a token.
abbrev pub IsEncoding : List ℕ → Type 0
IsEncoding token = (thread : ℕ) × Encodes token thread

-- Of some tokens, numbered from 0, the first that encodes no thread has this number.
abbrev pub IsFirstBad : List (List ℕ) → ℕ → Type 0
IsFirstBad [] number = ⊥
IsFirstBad (token ∷ tokens) zero = IsEncoding token → ⊥
IsFirstBad (token ∷ tokens) (suc number) = IsEncoding token × IsFirstBad tokens number

-- What tokens say: the threads that they encode, in order, or the number of the first that encodes none.
abbrev pub Say : List (List ℕ) → Result (List ℕ) ℕ → Type 0
Say tokens (Ok threads) = AllZip Encodes tokens threads
Say tokens (Err number) = IsFirstBad tokens number

-- What the bytes of a schedule say.
abbrev pub Says : List ℕ → Result (List ℕ) ℕ → Type 0
Says text answer = Say (tokens text) answer
