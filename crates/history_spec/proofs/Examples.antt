-- The smallest history, by which the definitions of histories are tried.
use Rattle.std.proofs.Common.{◌≡◌, ◌<◌, ℕ, Bool, true, false, ◌&&◌, [], ◌∷◌, length, Option, Some, None, is_none, is_some, refl, ap, sym, ◌∙◌, arith}
use Rattle.std.proofs.lemmas.List.Elements.{recursion_from_All, All-from_recursion}
use Rattle.elf_spec.proofs.Examples.{hi_elf, hi_is_accepted}
use Rattle.thunk_spec.specs.declared.ends.ThunkEnd.TheVariants.{Fuel}
use Rattle.thunk_spec.specs.Delta.{PageDelta}
use Rattle.thunk_spec.specs.Reads.{ReadPage}
use Rattle.thunk_spec.specs.Record.{Record, may_end}
use Rattle.machine_spec.specs.declared.states.End.{End}
use Rattle.machine_spec.specs.Machine.{Machine}
use Rattle.machine_spec.specs.Step.{step, apply, fits, can_step}
use Rattle.machine_spec.specs.Schedule.{record_of}
use Rattle.machine_spec.specs.Setup.{Setup, IsSetup, first, is_permitted, is_complete, records}
use Rattle.machine_spec.specs.Whole.{IsWhole}
use Rattle.machine_spec.proofs.Alone.{step-limit, step-steps, first-limit}
use Rattle.machine_spec.proofs.Beginning.{IsWhole-first}
use Rattle.machine_spec.proofs.Steps.{step-whole}
use Rattle.history_spec.specs.History.{History, IsHonest, CanGoBy, IsMappedIn, is_coherent, can_apply_from}
use Rattle.history_spec.proofs.Truth.{fits-within, record-apply, honest-coherent}

-- the guest that prints "hi", on no input, with one turn and one step
abbrev pub shortest : Setup
shortest = record { elf = hi_elf; input = []; fuel = 1; limit = 1 }

-- It may be run.
pub shortest-setup : IsSetup shortest
shortest-setup =
    let long : length hi_elf ≡ 119 = refl in
    record {
      elf_size = omega arith;
      elf_accepted = hi_is_accepted;
      input_size = omega arith;
      limits =
          record {
            some_fuel = omega arith;
            most_fuel = omega arith;
            some_steps = omega arith;
            most_steps = omega arith;
          };
    }

-- the history of its one step
abbrev pub only_step : History
only_step = record { setup = shortest; records = records shortest (0 ∷ []) }

first-can : can_step (first shortest) 0 ≡ true
unfolding first
first-can = refl

only-permitted : is_permitted shortest (0 ∷ []) ≡ true
only-permitted = rw first-can refl

-- the limit ends it
only-complete : is_complete shortest (0 ∷ []) ≡ true
only-complete = ended (step (first shortest) 0).ending refl
  where
    ended : (e : Option End) → (step (first shortest) 0).ending ≡ e → is_some (step (first shortest) 0).ending ≡ true
    ended (Some e) is = ap (λ (o : Option End). is_some o) is
    ended None is =
        absurd (let whole : IsWhole (step (first shortest) 0) = step-whole (first shortest) 0
        (IsWhole-first shortest shortest-setup) first-can in
        let left = whole.steps_left is in
        let steps = step-steps (first shortest) 0 in
        let limit = step-limit (first shortest) 0 in
        let begins = first-limit shortest in
        omega arith)

-- An honest history exists.
pub only-honest : IsHonest only_step
only-honest = record { valid = shortest-setup; permitted = only-permitted; complete = only-complete; recorded = refl }

-- So does a coherent one.
pub only-coherent : is_coherent only_step ≡ true
only-coherent = honest-coherent only_step only-honest

-- the history without its end
abbrev pub no_end : History
no_end = record { setup = shortest; records = [] }

-- Each of its records fits, but it isn't coherent, since it has no end.
pub no_end-fits : can_apply_from (first shortest) no_end.records ≡ true
no_end-fits = refl

pub no_end-not_coherent : is_coherent no_end ≡ false
unfolding first
no_end-not_coherent = refl

-- Nor is it honest.
pub no_end-not_honest : IsHonest no_end → ⊥
no_end-not_honest honest = let coherent = honest-coherent no_end honest in let not = no_end-not_coherent in cc

-- the history with its one step twice
abbrev pub twice : History
twice = record { setup = shortest; records = record_of (first shortest) 0 ∷ record_of (first shortest) 0 ∷ [] }

-- It isn't coherent, since an end comes before its last record.
pub twice-not_coherent : is_coherent twice ≡ false
twice-not_coherent =
    after (is_none (first shortest).ending) (fits (first shortest) (record_of (first shortest) 0))
    (fits (apply (first shortest) (record_of (first shortest) 0)) (record_of (first shortest) 0))
    (apply (first shortest) (record_of (first shortest) 0)).ending _
    (ap (λ (m : Machine). is_some m.ending)
    (record-apply (first shortest) 0 (IsWhole-first shortest shortest-setup) first-can) ∙ only-complete)
  where
    after :
        (a b c : Bool) (e : Option End) (d : Bool) → is_some e ≡ true
        → (((a && b) && ((is_none e && c) && true)) && d) ≡ false
    after true true c (Some e) d ended = refl
    after true true c None d ended = cc
    after true false c e d ended = refl
    after false b c e d ended = refl

-- a program of two turns a thunk, and a record of it that the fuel ended after one turn
abbrev pub longer : Setup
longer = record shortest { fuel = 2 }

abbrev pub early : Record
early =
    let r : Record = record_of (first shortest) 0 in record r { kept = record r.kept { end = Fuel; count = 1 } }

longer-fuel : (first longer).frame.fuel ≡ 2
unfolding first
longer-fuel = refl

pub early-fits : fits (first longer) early ≡ false
unfolding may_end
early-fits = refused (fits (first longer) early) refl
  where
    refused : (b : Bool) → fits (first longer) early ≡ b → b ≡ false
    refused true fit =
        let no : false ≡ true =
        ap (λ (fuel : ℕ). may_end fuel Fuel 1) (sym longer-fuel) ∙ fits-within (first longer) early fit in
        cc
    refused false fit = refl

-- Its history isn't coherent, since the fuel ends a thunk only after as many turns as it allows.
pub early-not_coherent : is_coherent (record { setup = longer; records = early ∷ [] }) ≡ false
early-not_coherent =
    rw early-fits (never (is_none (first longer).ending) (is_some (apply (first longer) early).ending))
  where
    never : (a b : Bool) → (((a && false) && true) && b) ≡ false
    never true b = refl
    never false b = refl

-- Its program may be run on another input, and with other limits, based on the history of the one step.
pub goes-edited : CanGoBy (Some only_step) (record shortest { input = 7 ∷ [] })
goes-edited =
    record {
      valid = record {
        elf_size = shortest-setup.elf_size;
        elf_accepted = hi_is_accepted;
        input_size = omega arith;
        limits = shortest-setup.limits;
      };
      sound = (only-honest, refl);
    }

pub goes-fuel : CanGoBy (Some only_step) longer
goes-fuel =
    record {
      valid = record {
        elf_size = shortest-setup.elf_size;
        elf_accepted = hi_is_accepted;
        input_size = shortest-setup.input_size;
        limits =
            record {
              some_fuel = omega arith;
              most_fuel = omega arith;
              some_steps = omega arith;
              most_steps = omega arith;
            };
      };
      sound = (only-honest, refl);
    }

-- With another step limit it may, too.
pub goes-limit : CanGoBy (Some only_step) (record shortest { limit = 2 })
goes-limit =
    record {
      valid = record {
        elf_size = shortest-setup.elf_size;
        elf_accepted = hi_is_accepted;
        input_size = shortest-setup.input_size;
        limits =
            record {
              some_fuel = omega arith;
              most_fuel = omega arith;
              some_steps = omega arith;
              most_steps = omega arith;
            };
      };
      sound = (only-honest, refl);
    }

-- Another executable may not be run, based on it.
pub goes-elf : CanGoBy (Some only_step) (record shortest { elf = [] }) → ⊥
goes-elf can = let same : hi_elf ≡ [] = can.sound.1 in absurd cc

-- It may be run based on no history, but not based on one that isn't honest.
pub goes-alone : CanGoBy None shortest
goes-alone = record { valid = shortest-setup; sound = tt }

pub goes-no_end : CanGoBy (Some no_end) shortest → ⊥
goes-no_end can = no_end-not_honest can.sound.0

-- a record of one read page and of stored bytes of one page, in these slots
abbrev in_slots : ℕ → ℕ → Record
in_slots read stored =
    record {
      thread = 0;
      number = 0;
      start = record { pc = 0; x = [] };
      kept = record {
        reads = record { slot = read; bytes = [] } ∷ [];
        delta = record { slot = stored; mask = []; bytes = [] } ∷ [];
        finish = record { pc = 0; x = [] };
        end = Fuel;
        count = 1;
      };
    }

-- Of two pages the slots are 0 and 1, of read pages and of stored bytes.
pub mapped-both : IsMappedIn 2 (in_slots 1 1)
mapped-both =
    record {
      reads = All-from_recursion (λ (p : ReadPage). p.slot < 2) (in_slots 1 1).kept.reads (omega arith, tt);
      delta = All-from_recursion (λ (d : PageDelta). d.slot < 2) (in_slots 1 1).kept.delta (omega arith, tt);
    }

pub mapped-read_past : IsMappedIn 2 (in_slots 2 1) → ⊥
mapped-read_past mapped =
    let past : 2 < 2 = (recursion_from_All (λ (p : ReadPage). p.slot < 2) (in_slots 2 1).kept.reads mapped.reads).0 in
    omega arith

pub mapped-stored_past : IsMappedIn 2 (in_slots 1 2) → ⊥
mapped-stored_past mapped =
    let past : 2 < 2 = (recursion_from_All (λ (d : PageDelta). d.slot < 2) (in_slots 1 2).kept.delta mapped.delta).0 in
    omega arith
