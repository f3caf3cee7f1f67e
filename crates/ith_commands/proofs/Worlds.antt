-- One change of the world after another.
use Rattle.std.proofs.Common.{◌≡◌, ◌<◌, ◌≤◌, ℕ, List, length, Option, refl, ◌∙◌, subst, arith}
use Rattle.std.specs.Prelude.{IfSome}
use Rattle.ith_host.specs.World.{World, Rose, NoneFell, Stays, IsContent}
use Rattle.ith_commands.specs.Files.{Named, Reads, Quiet, IsLong, IsWithin}

pub stays_trans : (a b c : World) → Stays a b → Stays b c → Stays a c
stays_trans a b c one other =
    record { is_stated = other.is_stated ∙ one.is_stated; files = other.files ∙ one.files; printed = other.printed ∙ one.printed }

pub none_fell_trans : (a b c : World) → NoneFell a b → NoneFell b c → NoneFell a c
none_fell_trans a b c one other =
    record {
      reads = λ name. let x = one.reads name in let y = other.reads name in omega arith;
      writes = λ name. let x = one.writes name in let y = other.writes name in omega arith;
      prints = let x = one.prints in let y = other.prints in omega arith;
    }

pub stays_same : (a : World) → Stays a a
stays_same a = record { is_stated = refl; files = refl; printed = refl }

pub none_fell_same : (a : World) → NoneFell a a
none_fell_same a = record { reads = λ name. omega arith; writes = λ name. omega arith; prints = omega arith }

-- files were read, and then nothing happened
pub reads_then : (files : List Named) (a b c : World) → Reads files a b → Quiet b c → Reads files a c
reads_then files a b c reads quiet =
    record {
      asked = quiet.asked ∙ reads.asked;
      stays = stays_trans a b c reads.stays quiet.stays;
      counts = none_fell_trans a b c reads.counts quiet.counts;
    }

-- a count that rose has also risen later
pub rose_then : (a b c : ℕ) → Rose a b → b ≤ c → Rose a c
rose_then a b c rose later = omega arith

-- a count that rose from a later moment has also risen from an earlier one
pub rose_before : (a b c : ℕ) → a ≤ b → Rose b c → Rose a c
rose_before a b c earlier rose = omega arith

-- a file has the same stated content before a change that keeps the files
pub content_before : (a b : World) (name bytes : List ℕ) → Stays a b → IsContent b name bytes → IsContent a name bytes
content_before a b name bytes stays content =
    subst (λ (files : List ℕ → Option (List ℕ)). IfSome (files name) (λ reported. reported ≡ bytes)) stays.files content

-- a file that is too long after such a change was too long before it
pub long_before : (a b : World) (file : Named) → Stays a b → IsLong b file → IsLong a file
long_before a b file stays long =
    subst (λ (files : List ℕ → Option (List ℕ)). IfSome (files file.name) (λ reported. file.most < length reported)) stays.files
    long

-- and one within its limit was within it
pub within_before : (a b : World) (file : Named) → Stays a b → IsWithin b file → IsWithin a file
within_before a b file stays within =
    subst (λ (files : List ℕ → Option (List ℕ)). IfSome (files file.name) (λ reported. length reported ≤ file.most)) stays.files
    within
