-- The number and the name of each refusal.
use Rattle.std.specs.Prelude.{ℕ, List, [], ◌∷◌, Option, ◌==◌, find, codes}
use Rattle.council_core.specs.declared.refusals.Refusal.{Refusal}
use Rattle.council_core.specs.declared.refusals.Refusal.TheVariants.{ChairOpen, ChairNotOpen, ChairHasMembers}
use Rattle.council_core.specs.declared.refusals.Refusal.TheVariants.{UnknownMember, MemberSuspended, AlreadyThere}
use Rattle.council_core.specs.declared.refusals.Refusal.TheVariants.{AlreadySuspended, NotSuspended, JournalFull}
use Rattle.council_core.specs.declared.refusals.Refusal.TheVariants.{OutOfMemory, DuplicateMember, TooManyMembers}
use Rattle.council_core.specs.declared.refusals.Refusal.TheVariants.{BadLimit, BadChair, BadMember, VotesTooLarge}
use Rattle.council_core.specs.declared.refusals.Refusal.TheVariants.{BadRecord, NoEntry, ReadFault, WriteFault}
use Rattle.council_core.specs.declared.refusals.Refusal.TheVariants.{BadHeader, BadReader, Busy, Mismatch, MemberExists}
use Rattle.council_core.specs.declared.refusals.Refusal.TheVariants.{MemberSeated, GateClosed, NoScript, TooLong}
use Rattle.council_core.specs.declared.refusals.Refusal.TheVariants.{BadJournal, BadCuts, BadSheet, TooManyChairs, NoRegister, BadIndex}

-- the number of each refusal
abbrev pub code_of : Refusal → ℕ
code_of ChairOpen = 1
code_of ChairNotOpen = 2
code_of ChairHasMembers = 3
code_of UnknownMember = 4
code_of MemberSuspended = 5
code_of AlreadyThere = 6
code_of AlreadySuspended = 7
code_of NotSuspended = 8
code_of JournalFull = 9
code_of OutOfMemory = 10
code_of DuplicateMember = 11
code_of TooManyMembers = 12
code_of BadLimit = 13
code_of BadChair = 14
code_of BadMember = 15
code_of VotesTooLarge = 16
code_of BadRecord = 17
code_of NoEntry = 18
code_of ReadFault = 19
code_of WriteFault = 20
code_of BadHeader = 21
code_of BadReader = 22
code_of Busy = 23
code_of Mismatch = 24
code_of MemberExists = 25
code_of MemberSeated = 26
code_of GateClosed = 27
code_of NoScript = 28
code_of TooLong = 29
code_of BadJournal = 30
code_of BadCuts = 31
code_of BadSheet = 32
code_of TooManyChairs = 33
code_of NoRegister = 34
code_of BadIndex = 35

-- the name of each refusal, in ASCII
abbrev pub name_of : Refusal → List ℕ
name_of ChairOpen = codes "ChairOpen"
name_of ChairNotOpen = codes "ChairNotOpen"
name_of ChairHasMembers = codes "ChairHasMembers"
name_of UnknownMember = codes "UnknownMember"
name_of MemberSuspended = codes "MemberSuspended"
name_of AlreadyThere = codes "AlreadyThere"
name_of AlreadySuspended = codes "AlreadySuspended"
name_of NotSuspended = codes "NotSuspended"
name_of JournalFull = codes "JournalFull"
name_of OutOfMemory = codes "OutOfMemory"
name_of DuplicateMember = codes "DuplicateMember"
name_of TooManyMembers = codes "TooManyMembers"
name_of BadLimit = codes "BadLimit"
name_of BadChair = codes "BadChair"
name_of BadMember = codes "BadMember"
name_of VotesTooLarge = codes "VotesTooLarge"
name_of BadRecord = codes "BadRecord"
name_of NoEntry = codes "NoEntry"
name_of ReadFault = codes "ReadFault"
name_of WriteFault = codes "WriteFault"
name_of BadHeader = codes "BadHeader"
name_of BadReader = codes "BadReader"
name_of Busy = codes "Busy"
name_of Mismatch = codes "Mismatch"
name_of MemberExists = codes "MemberExists"
name_of MemberSeated = codes "MemberSeated"
name_of GateClosed = codes "GateClosed"
name_of NoScript = codes "NoScript"
name_of TooLong = codes "TooLong"
name_of BadJournal = codes "BadJournal"
name_of BadCuts = codes "BadCuts"
name_of BadSheet = codes "BadSheet"
name_of TooManyChairs = codes "TooManyChairs"
name_of NoRegister = codes "NoRegister"
name_of BadIndex = codes "BadIndex"

-- every refusal once, by number
abbrev pub every_refusal : List Refusal
every_refusal = ChairOpen ∷ ChairNotOpen ∷ ChairHasMembers ∷ UnknownMember ∷ MemberSuspended ∷ AlreadyThere
    ∷ AlreadySuspended ∷ NotSuspended ∷ JournalFull ∷ OutOfMemory ∷ DuplicateMember ∷ TooManyMembers
    ∷ BadLimit ∷ BadChair ∷ BadMember ∷ VotesTooLarge ∷ BadRecord ∷ NoEntry ∷ ReadFault ∷ WriteFault
    ∷ BadHeader ∷ BadReader ∷ Busy ∷ Mismatch ∷ MemberExists ∷ MemberSeated ∷ GateClosed ∷ NoScript
    ∷ TooLong ∷ BadJournal ∷ BadCuts ∷ BadSheet ∷ TooManyChairs ∷ NoRegister
    ∷ BadIndex ∷ []

-- the refusal with this number, or None
abbrev pub refusal_of : ℕ → Option Refusal
refusal_of code = find (λ r. code_of r == code) every_refusal
