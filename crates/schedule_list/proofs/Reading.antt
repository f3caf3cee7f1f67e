-- A text is read token by token.
use Rattle.std.proofs.Common.{◌≡◌, ℕ, ◌<◌, true, false, List, [], ◌∷◌, ◌++◌, length, filter, refl, sym, ap, subst, ◌∙◌, Ok, arith, append_assoc}
use Rattle.std.specs.List.{All, AllZip, slice_split}
use Rattle.std.proofs.lemmas.List.{append-nil}
use Rattle.std.proofs.lemmas.List.Splits.{slice_split_at, slice_split_none}
use Rattle.std.proofs.lemmas.Slice.Zip.{all_zipped_more}
use Rattle.edit_spec.specs.Grammar.{is_filled}
use Rattle.schedule_list.specs.Schedule.{is_gap, tokens, IsEncoding, Encodes, IsFirstBad, Says}
use Rattle.schedule_list.specs.Adding.{AddsToken}
use Rattle.schedule_list.specs.Refusals.{WhyNotAdded, WhyNotParsed}
use Rattle.schedule_list.specs.declared.parser.ParseError.{ParseError}
use Rattle.schedule_list.specs.declared.parser.ParseError.TheVariants.{BadToken, NoMemory}

-- a piece before tokens: an empty one is no token
abbrev pub with_piece : List ℕ → List (List ℕ) → List (List ℕ)
with_piece [] tokens = tokens
with_piece (byte ∷ piece) tokens = (byte ∷ piece) ∷ tokens

-- the tokens of pieces, by the first piece and the others
first_piece :
    (piece : List ℕ) (pieces : List (List ℕ))
    → filter is_filled (piece ∷ pieces)
    ≡ with_piece piece (filter is_filled pieces)
first_piece [] pieces = refl
first_piece (byte ∷ piece) pieces = refl

-- the first piece ends at the first gap
pub tokens-gap :
    (piece : List ℕ) (gap : ℕ) (after : List ℕ) → All (λ b. is_gap b ≡ false) piece → is_gap gap ≡ true
    → tokens (piece ++ gap ∷ after) ≡ with_piece piece (tokens after)
unfolding tokens
tokens-gap piece gap after none is =
    ap (filter is_filled) (slice_split_at is_gap piece gap after none is)
    ∙ first_piece piece (slice_split is_gap after)

-- a text without a gap is one piece
pub tokens-last : (piece : List ℕ) → All (λ b. is_gap b ≡ false) piece → tokens piece ≡ with_piece piece []
unfolding tokens
tokens-last piece none =
    ap (filter is_filled) (slice_split_none is_gap piece none) ∙ first_piece piece []

-- the tokens of a text before these were read, and they encode these threads
pub record HasRead (text : List ℕ) (more : List (List ℕ)) (threads : List ℕ) : Type 0 where
  pub before : List (List ℕ)
  pub cut : tokens text ≡ before ++ more
  pub encoded : AllZip Encodes before threads

-- one more piece was read
pub piece_read :
    (text piece : List ℕ) (more : List (List ℕ)) (before after : List ℕ) → HasRead text (with_piece piece more) before
    → AddsToken piece before after
    → HasRead text more after
piece_read text [] more before after has same = subst (λ (l : List ℕ). HasRead text more l) (sym same) has
piece_read text (byte ∷ piece) more before after has adds =
    record {
      before = has.before ++ (byte ∷ piece) ∷ [];
      cut = has.cut ∙ sym (append_assoc has.before ((byte ∷ piece) ∷ []) more);
      encoded =
          subst (λ (l : List ℕ). AllZip Encodes (has.before ++ (byte ∷ piece) ∷ []) l) (sym adds.2)
          (all_zipped_more Encodes has.before before (byte ∷ piece) adds.0 has.encoded adds.1);
    }

-- all tokens were read
pub all_read : (text threads : List ℕ) → HasRead text [] threads → Says text (Ok threads)
all_read text threads has =
    subst (λ (l : List (List ℕ)). AllZip Encodes l threads) (sym (has.cut ∙ append-nil has.before)) has.encoded

-- a bad token after tokens that encode threads
bad_behind :
    (before : List (List ℕ)) (token : List ℕ) (more : List (List ℕ)) (threads : List ℕ) → AllZip Encodes before threads
    → (IsEncoding token → ⊥)
    → IsFirstBad (before ++ token ∷ more) (length threads)
bad_behind [] token more [] encoded bad = bad
bad_behind [] token more (t ∷ threads) encoded bad = absurd encoded
bad_behind (b ∷ before) token more [] encoded bad = absurd encoded
bad_behind (b ∷ before) token more (t ∷ threads) encoded bad =
    ((t, encoded.0), bad_behind before token more threads encoded.1 bad)

-- why a text gave no threads if a piece was not added
pub refused_there :
    (text piece : List ℕ) (more : List (List ℕ)) (threads : List ℕ) (error : ParseError)
    → HasRead text (with_piece piece more) threads → WhyNotAdded (length threads) piece error
    → WhyNotParsed text error
refused_there text [] more threads (BadToken number) has why = absurd (let some : 0 < 0 = why.1 in omega arith)
refused_there text (byte ∷ piece) more threads (BadToken number) has why =
    subst (λ (n : ℕ). IsFirstBad (tokens text) n) (sym why.0)
    (subst (λ (l : List (List ℕ)). IsFirstBad l (length threads)) (sym has.cut)
    (bad_behind has.before (byte ∷ piece) more threads has.encoded why.2))
refused_there text piece more threads NoMemory has why = tt

-- the rest is cut at its first gap
pub cut_at_gap :
    (text rest piece after threads : List ℕ)
    → All (λ b. is_gap b ≡ false) piece × ((gap : ℕ) × (is_gap gap ≡ true) × (rest ≡ piece ++ gap ∷ after))
    → HasRead text (tokens rest) threads
    → HasRead text (with_piece piece (tokens after)) threads
cut_at_gap text rest piece after threads parts has =
    subst (λ (l : List (List ℕ)). HasRead text l threads)
    (ap tokens parts.1.2 ∙ tokens-gap piece parts.1.0 after parts.0 parts.1.1) has

-- the rest without a gap is its last piece
pub last_piece :
    (text rest threads : List ℕ) → All (λ b. is_gap b ≡ false) rest → HasRead text (tokens rest) threads
    → HasRead text (with_piece rest []) threads
last_piece text rest threads none has =
    subst (λ (l : List (List ℕ)). HasRead text l threads) (tokens-last rest none) has
