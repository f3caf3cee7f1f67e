-- A round stays on the page map of its setup.
use Rattle.std.proofs.Common.{◌≡◌, Bool, true, false, List, ◌++◌, All, length, Option, Some, None, Vec, ap, sym, ◌∙◌, subst, refl}
use Rattle.std.proofs.lemmas.List.{append_cancel_right}
use Rattle.std.proofs.lemmas.List.Elements.{All-from_recursion}
use Rattle.std.specs.Bool.{OnTrue}
use Rattle.std.specs.Global.{Global}
use Rattle.memory_spec.specs.Pages.{Mapped, Memory}
use Rattle.thunk_spec.specs.Thunk.{Frame}
use Rattle.elf_spec.specs.Image.{image_pages}
use Rattle.machine_spec.specs.Setup.{Setup, first, map_of, data_pages}
use Rattle.machine_spec.specs.Whole.{IsWhole}
use Rattle.machine_spec.proofs.Beginning.{IsMemory-start}
use Rattle.history_spec.specs.History.{History, IsSound, IsMappedIn, IsMapped, past_records}
use Rattle.history_spec.proofs.Mapped.{first-map}
use Rattle.round_spec.specs.declared.events.Event.{Event}
use Rattle.round_spec.specs.Rounds.{RoundState, opening, happens, history_of}
use Rattle.round_spec.proofs.Leaving.{same-happens}
use Rattle.round_spec.proofs.Mapping.{happens-frame, event-mapped}
use Rattle.known_pages.specs.Alike.{ContinuesAs, IsAsMarked}
use Rattle.known_pages.specs.Versions.{IsComparable}
use Rattle.known_pages.proofs.Alike.{first-memory}
use Rattle.known_pages.proofs.Passing.{first-fuel}
use Rattle.propagate.specs.Consistency.{IsOfMap, IsOnMap}

pub opening-on_map : (setup : Setup) (past : Option History) → IsOnMap (opening setup past)
opening-on_map setup past =
    record {
      frame = first-map setup;
      mapped = λ there. All-from_recursion (IsMappedIn (length (map_of setup))) (opening setup past).records tt;
    }

pub happens-on_map : (w : RoundState) (e : Event) → IsOnMap w → IsOnMap (happens w e)
happens-on_map w e on =
    let same = same-happens w e in
    record {
      frame = ap (λ (f : Frame). f.map) (happens-frame w e) ∙ on.frame ∙ ap map_of (sym same.setup);
      mapped = λ there.
          let here : All (IsMappedIn (length (map_of w.setup))) (past_records w.past) =
          subst (λ (past : Option History). All (IsMappedIn (length (map_of w.setup))) (past_records past)) same.past
          (subst (λ (s : Setup). All (IsMappedIn (length (map_of s))) (past_records (happens w e).past)) same.setup
          there) in
          subst (λ (s : Setup). All (IsMappedIn (length (map_of s))) (happens w e).records) (sym same.setup)
          (event-mapped (length (map_of w.setup)) w e here (ap (λ (m : List Mapped). length m) on.frame)
          (on.mapped here));
    }

-- two setups have the same page map if their images have
pub same_image : (a b : Setup) → image_pages a.elf ≡ image_pages b.elf → map_of a ≡ map_of b
unfolding map_of
same_image a b same =
    ap (λ (pages : List Mapped). pages ++ data_pages 0xC0000 1 ++ data_pages 0xC0001 256 ++ data_pages 0xD0000 512) same

pub same_map : (a b : Setup) → map_of a ≡ map_of b → image_pages a.elf ≡ image_pages b.elf
unfolding map_of
same_map a b same =
    append_cancel_right (image_pages a.elf) (image_pages b.elf) (data_pages 0xC0000 1)
    (append_cancel_right (image_pages a.elf ++ data_pages 0xC0000 1) (image_pages b.elf ++ data_pages 0xC0000 1)
    (data_pages 0xC0001 256)
    (append_cancel_right (image_pages a.elf ++ data_pages 0xC0000 1 ++ data_pages 0xC0001 256)
    (image_pages b.elf ++ data_pages 0xC0000 1 ++ data_pages 0xC0001 256) (data_pages 0xD0000 512) same))

-- so comparing the images is comparing the page maps
pub of_map :
    (w : RoundState) (h : History) (b : Bool) (m n : List Mapped)
    → w.past ≡ Some h → m ≡ image_pages h.setup.elf → n ≡ image_pages w.setup.elf
    → (b ≡ true → m ≡ n) × (m ≡ n → b ≡ true)
    → (b ≡ true → IsOfMap w.past w.setup) × (IsOfMap w.past w.setup → b ≡ true)
of_map w h b m n there first second equal = (
  λ yes.
      subst (λ (past : Option History). IsOfMap past w.setup) (sym there)
      (same_image h.setup w.setup (sym first ∙ equal.0 yes ∙ second)),
  λ of.
      equal.1
      (first
      ∙ same_map h.setup w.setup (subst (λ (past : Option History). IsOfMap past w.setup) there of)
      ∙ sym second),
)

-- the round's own history is mapped

pub none_mapped : (w : RoundState) → IsOnMap w → w.past ≡ None → IsMapped (history_of w)
none_mapped w on none =
    on.mapped
    (subst (λ (past : Option History). All (IsMappedIn (length (map_of w.setup))) (past_records past)) (sym none)
    (All-from_recursion (IsMappedIn (length (map_of w.setup))) (past_records None) tt))

pub all_mapped :
    (w : RoundState) (h : History) → IsOnMap w → w.past ≡ Some h → IsMapped h → map_of h.setup ≡ map_of w.setup
    → IsMapped (history_of w)
all_mapped w h on there mapped same =
    on.mapped
    (subst (λ (past : Option History). All (IsMappedIn (length (map_of w.setup))) (past_records past)) (sym there)
    (subst (λ (map : List Mapped). All (IsMappedIn (length map)) h.records) same mapped))

pub of_map-mapped :
    (w : RoundState) (h : History) (b : Bool) (m n : List Mapped)
    → IsOnMap w → w.past ≡ Some h → IsMapped h → m ≡ image_pages h.setup.elf → n ≡ image_pages w.setup.elf
    → (b ≡ true → m ≡ n) → OnTrue b (IsMapped (history_of w))
of_map-mapped w h true m n on there mapped first second equal =
    all_mapped w h on there mapped (same_image h.setup w.setup (sym first ∙ equal refl ∙ second))
of_map-mapped w h false m n on there mapped first second equal = tt

-- a sound history has the setup's page map
pub sound_map : (past : Option History) (s : Setup) → IsSound past s → IsOfMap past s
sound_map None s sound = tt
sound_map (Some h) s sound = same_image h.setup s (ap image_pages sound.1)

-- a round that continued as its history did can be compared with it
pub comparable :
    (w : RoundState) (h : History) (marks : Vec Bool Global)
    → IsAsMarked w (Some marks) → w.past ≡ Some h → IsWhole w.machine → w.machine.frame ≡ (first w.setup).frame
    → h.setup.fuel ≡ w.setup.fuel → IsOfMap w.past w.setup
    → IsComparable w h
comparable w h marks was past whole framed fuel map =
    let goes : ContinuesAs h marks.items w = was h past in
    record {
      valid = goes.valid;
      coherent = goes.coherent;
      fuel = ap (λ (f : Frame). f.fuel) framed ∙ first-fuel w.setup ∙ sym fuel;
      size =
          whole.memory.count
          ∙ ap (λ (f : Frame). length f.map) framed ∙ ap (λ (m : List _). length m) (first-map w.setup)
          ∙ ap (λ (m : List _). length m) (sym (subst (λ (p : Option History). IsOfMap p w.setup) past map))
          ∙ sym (IsMemory-start h.setup).count
          ∙ ap (λ (m : Memory). length m) (sym (first-memory h.setup));
    }
