-- The first refusal of bytes by what is before and behind their fields: the magic number, the version, the digest.
use Rattle.std.proofs.Common.{◌≡◌, ℕ, ◌-◌, ◌<◌, ◌≤◌, Bool, true, false, not, cond, List, length, take, drop, Option, Some, None, Result, Err, refl, sym, ap, ◌∙◌, arith}
use Rattle.std.specs.Prelude.{bytes_eq}
use Rattle.std.proofs.lemmas.Bool.{lt-ltb, le-ltb}
use Rattle.byteorder.specs.Endian.{little_from}
use Rattle.byteorder.specs.Numbers.{little_from-take}
use Rattle.sha2.specs.Sha256.{sha256}
use Rattle.history_spec.specs.History.{History}
use Rattle.memo_spec.specs.declared.Format.{Format}
use Rattle.memo_spec.specs.declared.Refusal.{Refusal}
use Rattle.memo_spec.specs.declared.Refusal.TheVariants.{Short, Magic, Version, Digest}
use Rattle.memo_spec.specs.Encoding.{magic}
use Rattle.memo_spec.specs.Reading.{version_of, format_of, reading_in, taken_as, reading}

pub too_short : (bytes : List ℕ) → length bytes < 40 → reading bytes ≡ Err Short
unfolding reading
too_short bytes few = rw (lt-ltb _ _ few) refl

pub other_magic :
    (bytes : List ℕ) → 40 ≤ length bytes → not (bytes_eq (take 4 bytes) magic) ≡ true → reading bytes ≡ Err Magic
unfolding reading
other_magic bytes long other = rw (le-ltb _ _ long, other) refl

version_read :
    (bytes : List ℕ) (version : ℕ)
    → 40 ≤ length bytes → version ≡ little_from 0 4 (take (length bytes - 4) (drop 4 bytes))
    → version ≡ version_of bytes
version_read bytes version long is =
    is ∙ little_from-take 0 4 (length bytes - 4) (drop 4 bytes) (omega arith) ∙ omega arith

-- Bytes of the magic number are read by their version.
pub by_version :
    (bytes : List ℕ) (version : ℕ) (format : Option Format)
    → 40 ≤ length bytes → not (bytes_eq (take 4 bytes) magic) ≡ false
    → version ≡ little_from 0 4 (take (length bytes - 4) (drop 4 bytes)) → format ≡ format_of version
    → reading bytes ≡ reading_in format bytes
unfolding reading
by_version bytes version format long same is of =
    rw (le-ltb _ _ long, same) (ap (λ v. reading_in (format_of v) bytes) (sym (version_read bytes version long is))
    ∙ ap (λ f. reading_in f bytes) (sym of))

pub other_version :
    (bytes : List ℕ) (version : ℕ) (format : Option Format)
    → 40 ≤ length bytes → not (bytes_eq (take 4 bytes) magic) ≡ false
    → version ≡ little_from 0 4 (take (length bytes - 4) (drop 4 bytes)) → format ≡ format_of version → format ≡ None
    → reading bytes ≡ Err (Version version)
other_version bytes version format long same is of none =
    by_version bytes version format long same is of ∙ ap (λ f. reading_in f bytes) none
    ∙ ap refused (sym (version_read bytes version long is))
  where
    refused : ℕ → Result History Refusal
    refused v = Err (Version v)

-- Bytes of a format are taken if the digest is theirs.
pub by_digest :
    (bytes text digest sum : List ℕ) (f : Format) (format : Option Format) (other : Bool)
    → reading bytes ≡ reading_in format bytes → format ≡ Some f
    → text ≡ take (length bytes - 32) bytes → digest ≡ drop (length bytes - 32) bytes → sum ≡ sha256 text
    → not (bytes_eq digest sum) ≡ other → reading bytes ≡ cond other (Err Digest) (taken_as f text)
by_digest bytes text digest sum f format other read is front back its result =
    read ∙ ap (λ x. reading_in x bytes) is ∙ rw (← front, ← back, ← its, result) refl
