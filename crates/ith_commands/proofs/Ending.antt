-- How a command line ends before its first round, from how its parts did.
use Rattle.std.proofs.Common.{◌≡◌, ◌≤◌, ℕ, false, List, [], ◌∷◌, Option, Some, None, length, refl, ◌∙◌, inl, inr}
use Rattle.std.proofs.lemmas.List.Elements.{All-cons, All-nil}
use Rattle.elf_spec.specs.declared.TheConstants.{MOST_ELF_BYTES}
use Rattle.machine_spec.specs.declared.TheConstants.{MOST_INPUT_BYTES}
use Rattle.memo_spec.specs.declared.TheConstants.{MOST_MEMO_BYTES}
use Rattle.ith_host.specs.World.{World, Stays, AsksNothing, IsContent}
use Rattle.elf_spec.specs.declared.Refusal.{Refusal}
use Rattle.elf_spec.specs.Refusals.{refusal_of}
use Rattle.elf_spec.specs.Image.{is_image}
use Rattle.history_spec.specs.History.{History}
use Rattle.ith_words.specs.Words.{Text, Line, Runs, Reruns, Shows, RunLine, RerunLine}
use Rattle.ith_commands.specs.declared.status.Status.{Status}
use Rattle.ith_commands.specs.declared.status.Status.TheVariants as status
use Rattle.ith_commands.specs.Files.{Named, elf_named, input_named, memo_named, lists_named, files_named, Reads, IsWithin}
use Rattle.ith_commands.specs.Contents.{Contents, AreLists, AreContents, WasRead, IsMemoContent, IsMemoOf, as_show}
use Rattle.ith_commands.specs.Ends.{SomeRead, EndsBy, EndsEarly, EndsLate, Ends}
use Rattle.ith_commands.specs.Refusals.{WhyUnread, WhyNoSetup, WhyNoHistory, WhyUnedited}
use Rattle.ith_commands.proofs.Worlds.{content_before, stays_trans}
use Rattle.ith_commands.proofs.Asking.{within_reported, unbegun, unread_front, unread_more}
use Rattle.ith_commands.proofs.Printing.{prints_then}

-- a file with this refusal isn't accepted
pub refused_image : (bytes : List ℕ) (refusal : Refusal) → refusal_of bytes ≡ Some refusal → is_image bytes ≡ false
unfolding is_image
refused_image bytes refusal is = rw is refl

-- edit lists have the same stated contents before a change that keeps the files
pub lists_before : (a b : World) (names : List Text) (lists : List (List ℕ)) → Stays a b → AreLists b names lists
    → AreLists a names lists
lists_before a b [] [] stays are = tt
lists_before a b [] (list ∷ lists) stays are = absurd are
lists_before a b (name ∷ names) [] stays are = absurd are
lists_before a b (name ∷ names) (list ∷ lists) stays are =
    ((content_before a b name list stays are.0.0, are.0.1), lists_before a b names lists stays are.1)

-- all files were read
pub files_read :
    (line : RunLine) (a b : World) (elf input : List ℕ) (lists : List (List ℕ))
    → Stays a b
    → IsContent a line.elf elf → length elf ≤ MOST_ELF_BYTES
    → IsContent a line.input input → length input ≤ MOST_INPUT_BYTES
    → AreLists b line.edits lists
    → AreContents a line (record { elf = elf; input = input; lists = lists })
files_read line a b elf input lists stays first first_within second second_within third =
    record {
      elf = first;
      elf_within = first_within;
      input = second;
      input_within = second_within;
      lists = lists_before a b line.edits lists stays third;
    }

-- an executable wasn't read, before an input
pub elf_unread : (elf input : Text) (a b : World) (s : Status) → WhyUnread (elf_named elf ∷ []) a b s
    → WhyUnread (elf_named elf ∷ input_named input ∷ []) a b s
elf_unread elf input a b s why = unread_front (elf_named elf ∷ []) (input_named input ∷ []) a b s why

-- the input wasn't, after the executable was
pub input_unread :
    (elf input : Text) (a b c : World) (s : Status) (bytes : List ℕ)
    → Reads (elf_named elf ∷ []) a b → IsContent a elf bytes → length bytes ≤ MOST_ELF_BYTES
    → WhyUnread (input_named input ∷ []) b c s → WhyUnread (elf_named elf ∷ input_named input ∷ []) a c s
input_unread elf input a b c s bytes reads first within why =
    unread_more (elf_named elf ∷ []) (input_named input ∷ []) a b c s reads
    (All-cons (IsWithin a) (elf_named elf) [] (within_reported (a.files elf) bytes MOST_ELF_BYTES first within)
    (All-nil (IsWithin a)))
    why

-- executable or input weren't read, before other files
pub guest_unread :
    (elf input : Text) (more : List Named) (a b : World) (s : Status)
    → WhyUnread (elf_named elf ∷ input_named input ∷ []) a b s
    → WhyUnread (elf_named elf ∷ input_named input ∷ more) a b s
guest_unread elf input more a b s why = unread_front (elf_named elf ∷ input_named input ∷ []) more a b s why

-- other files weren't, after the executable and the input were
pub others_unread :
    (elf input : Text) (more : List Named) (a b c : World) (s : Status) (one other : List ℕ)
    → Reads (elf_named elf ∷ input_named input ∷ []) a b
    → IsContent a elf one → length one ≤ MOST_ELF_BYTES
    → IsContent a input other → length other ≤ MOST_INPUT_BYTES
    → WhyUnread more b c s → WhyUnread (elf_named elf ∷ input_named input ∷ more) a c s
others_unread elf input more a b c s one other reads first within second shorter why =
    unread_more (elf_named elf ∷ input_named input ∷ []) more a b c s reads
    (All-cons (IsWithin a) (elf_named elf) (input_named input ∷ [])
    (within_reported (a.files elf) one MOST_ELF_BYTES first within)
    (All-cons (IsWithin a) (input_named input) []
    (within_reported (a.files input) other MOST_INPUT_BYTES second shorter) (All-nil (IsWithin a))))
    why

-- the memo of a rerun wasn't read
pub memo_unread : (line : RerunLine) (a b : World) (s : Status) → WhyUnread (memo_named line.memo ∷ []) a b s
    → WhyUnread (files_named (Reruns line)) a b s
memo_unread line a b s why = unread_front (memo_named line.memo ∷ []) (lists_named line.edits) a b s why

-- an edit list wasn't, after the memo was
pub rerun_list_unread :
    (line : RerunLine) (a b c : World) (s : Status) (memo : List ℕ)
    → Reads (memo_named line.memo ∷ []) a b → IsMemoContent a line.memo memo
    → WhyUnread (lists_named line.edits) b c s → WhyUnread (files_named (Reruns line)) a c s
rerun_list_unread line a b c s memo reads read why =
    unread_more (memo_named line.memo ∷ []) (lists_named line.edits) a b c s reads
    (All-cons (IsWithin a) (memo_named line.memo) []
    (within_reported (a.files line.memo) memo MOST_MEMO_BYTES read.content read.within) (All-nil (IsWithin a)))
    why

-- a command line whose files weren't all read ends so, whatever else is refused
pub unread_ends :
    (files : List Named) (image memo list : Type 0) (a b : World) (s : Status) → WhyUnread files a b s
    → EndsBy files image memo list a b s
unread_ends files image memo list a b status.ReadFault why = why
unread_ends files image memo list a b status.NoMemory why = why
unread_ends files image memo list a b status.TooLarge why = why
unread_ends files image memo list a b _ why = absurd why

-- the host's memory ran out after all files were read
pub cut_ends : (files : List Named) (a b : World) → Reads files a b → SomeRead files a b
cut_ends files a b reads = unbegun files a b reads.asked reads.stays

-- all files were read, and no setup was made of the executable
pub refused_ends :
    (line : RunLine) (a b : World) (contents : Contents) (s : Status) → Reads (files_named (Runs line)) a b
    → AreContents a line contents → WhyNoSetup contents.elf s → EndsEarly (Runs line) a b s
refused_ends line a b contents status.Image reads are why =
    record { asked = reads.asked; contents = contents; read = are; refused = why; stays = reads.stays }
refused_ends line a b contents status.NoMemory reads are why = cut_ends (files_named (Runs line)) a b reads
refused_ends line a b contents _ reads are why = absurd why

-- all files were read, and the memo gave no history
pub forgotten_ends :
    (line : RerunLine) (a b : World) (memo : List ℕ) (lists : List (List ℕ)) (s : Status)
    → Reads (files_named (Reruns line)) a b → IsMemoContent a line.memo memo → AreLists a line.edits lists
    → WhyNoHistory memo s → EndsEarly (Reruns line) a b s
forgotten_ends line a b memo lists status.Memo reads read reported why =
    record {
      asked = reads.asked;
      memo = memo;
      read = read;
      lists = lists;
      lists_read = reported;
      why = why.0;
      refused = why.1;
      stays = reads.stays;
    }
forgotten_ends line a b memo lists status.NoMemory reads read reported why = cut_ends (files_named (Reruns line)) a b reads
forgotten_ends line a b memo lists _ reads read reported why = absurd why

-- the executable was accepted, and the edit lists made no inputs
pub unedited_ends :
    (line : RunLine) (a b : World) (contents : Contents) (s : Status) → Reads (files_named (Runs line)) a b
    → WasRead line a contents → WhyUnedited contents.input contents.lists s → EndsEarly (Runs line) a b s
unedited_ends line a b contents status.EditList reads read why =
    record {
      asked = reads.asked;
      contents = contents;
      read = read;
      place = why.0;
      why = why.1;
      refused = why.2;
      stays = reads.stays;
    }
unedited_ends line a b contents status.NoMemory reads read why = cut_ends (files_named (Runs line)) a b reads
unedited_ends line a b contents _ reads read why = absurd why

-- the memo was accepted, and the edit lists made no inputs
pub rerun_unedited_ends :
    (line : RerunLine) (a b : World) (memo : List ℕ) (lists : List (List ℕ)) (h : History) (s : Status)
    → Reads (files_named (Reruns line)) a b → IsMemoContent a line.memo memo → AreLists a line.edits lists
    → IsMemoOf memo h → WhyUnedited h.setup.input lists s → EndsEarly (Reruns line) a b s
rerun_unedited_ends line a b memo lists h status.EditList reads read reported is why =
    record {
      asked = reads.asked;
      memo = memo;
      read = read;
      lists = lists;
      lists_read = reported;
      history = h;
      accepted = is;
      place = why.0;
      why = why.1;
      refused = why.2;
      stays = reads.stays;
    }
rerun_unedited_ends line a b memo lists h status.NoMemory reads read reported is why =
    cut_ends (files_named (Reruns line)) a b reads
rerun_unedited_ends line a b memo lists h _ reads read reported is why = absurd why

-- the memo of a name was read, and it gave no history
pub unremembered :
    (name : Text) (a b : World) (memo : List ℕ) (s : Status) → Reads (memo_named name ∷ []) a b
    → IsMemoContent a name memo → WhyNoHistory memo s → EndsEarly (Shows (as_show name)) a b s
unremembered name a b memo status.Memo reads read why =
    record {
      asked = reads.asked;
      memo = memo;
      read = read;
      why = why.0;
      refused = why.1;
      stays = reads.stays;
    }
unremembered name a b memo status.NoMemory reads read why = cut_ends (memo_named name ∷ []) a b reads
unremembered name a b memo _ reads read why = absurd why

-- once the host's memory ran out, a later change that requests no read keeps how the command line ends
late_short : (line : Line) (a b c : World) → EndsLate line a b status.NoMemory → AsksNothing b c → Stays b c
    → EndsLate line a c status.NoMemory
late_short (Runs line) a b c late none then =
    record { asked = none ∙ late.asked; has = late.has; prints = prints_then a b c _ late.prints then }
late_short (Reruns line) a b c late none then =
    record { asked = none ∙ late.asked; has = late.has; prints = prints_then a b c _ late.prints then }
late_short _ a b c late none then = absurd late

pub short_of_memory :
    (line : Option Line) (a b c : World) → Ends line a b status.NoMemory → AsksNothing b c → Stays b c
    → Ends line a c status.NoMemory
short_of_memory None a b c ends none then =
    (ends.0, record { stays = stays_trans a b c ends.1.stays then; asked = none ∙ ends.1.asked })
short_of_memory (Some line) a b c ends none then =
    elim ends [
      | inl early ↦
          let some = early.asked in
          inl
          (record {
            asked = record { first = some.first; later = some.later; are = some.are; asked = none ∙ some.asked };
            stays = stays_trans a b c early.stays then;
          })
      | inr late ↦ inr (late_short line a b c late none then)
    ]
