-- What is printed in parts, and beside changes that print nothing.
use Rattle.std.proofs.Common.{ℕ, List, [], ◌∷◌, ◌++◌, Option, Some, None, refl, ap, sym, subst, ◌∙◌, append_assoc}
use Rattle.std.specs.Io.KnownBytes.{Appends}
use Rattle.std.proofs.lemmas.List.{append-nil}
use Rattle.ith_host.specs.World.{World, NoneFell, Stays}
use Rattle.ith_commands.specs.declared.status.Status.TheVariants as status
use Rattle.ith_commands.specs.Ends.{Prints, IsPrintedInPart}
use Rattle.ith_commands.specs.Refusals.{WhyUnprinted}
use Rattle.ith_commands.proofs.Worlds.{rose_before}

appends-none : (reported : Option (List ℕ)) → Appends reported reported []
appends-none None = tt
appends-none (Some bytes) = sym (append-nil bytes)

appends-both : (a b c : Option (List ℕ)) (one other : List ℕ) → Appends a b one → Appends b c other
    → Appends a c (one ++ other)
appends-both None b c one other first second = tt
appends-both (Some x) None c one other first second = absurd first
appends-both (Some x) (Some y) None one other first second = absurd second
appends-both (Some x) (Some y) (Some z) one other first second = second ∙ ap (λ (l : List ℕ). l ++ other) first
    ∙ append_assoc x one other

-- nothing was printed
pub prints_none : (a : World) → Prints a a []
prints_none a = record { is_stated = refl; files = refl; printed = appends-none a.printed }

-- printing in two parts
pub prints_both : (a b c : World) (one other : List ℕ) → Prints a b one → Prints b c other → Prints a c (one ++ other)
prints_both a b c one other first second =
    record {
      is_stated = second.is_stated ∙ first.is_stated;
      files = second.files ∙ first.files;
      printed = appends-both a.printed b.printed c.printed one other first.printed second.printed;
    }

-- printing, and then a change that keeps files and printed bytes
pub prints_then : (a b c : World) (bytes : List ℕ) → Prints a b bytes → Stays b c → Prints a c bytes
prints_then a b c bytes prints stays =
    record {
      is_stated = stays.is_stated ∙ prints.is_stated;
      files = stays.files ∙ prints.files;
      printed = subst (λ (reported : Option (List ℕ)). Appends a.printed reported bytes) (sym stays.printed) prints.printed;
    }

-- printing after a change that keeps files and printed bytes
pub prints_after : (a b c : World) (bytes : List ℕ) → Stays a b → Prints b c bytes → Prints a c bytes
prints_after a b c bytes stays prints =
    record {
      is_stated = prints.is_stated ∙ stays.is_stated;
      files = prints.files ∙ stays.files;
      printed = subst (λ (reported : Option (List ℕ)). Appends reported c.printed bytes) stays.printed prints.printed;
    }

-- a text wasn't printed whole
pub in_part :
    (text : List ℕ) (a b c : World) → Stays a b → NoneFell a b → WhyUnprinted text b c status.WriteFault
    → IsPrintedInPart (text ∷ []) a c
in_part text a b c stays fell why =
    record {
      cause = rose_before _ _ _ fell.prints why.0;
      whole = 0;
      next = text;
      is_next = refl;
      count = why.1.0;
      prints = prints_after a b c _ stays why.1.1;
    }
