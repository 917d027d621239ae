-- The numbers of the statuses, the lines that some of them write at last, and which of them share a clause.
use Rattle.std.specs.Prelude.{ℕ, List, [], ◌++◌, codes, decimal}
use Rattle.apl_run.specs.declared.statuses.Status.{Status}
use Rattle.apl_run.specs.declared.statuses.Status.TheVariants.{Done, Reported, Refused, Spent, WsFull, NoMemory, WriteFault, ReadFault, Words}

-- the exit status of the program
abbrev pub code_of : Status → ℕ
code_of Done = 0
code_of Reported = 1
code_of (Refused refusal) = 2
code_of Spent = 3
code_of (WsFull live asked) = 4
code_of NoMemory = 5
code_of (WriteFault which) = 6
code_of ReadFault = 7
code_of Words = 8

-- the line of a store that has no room: so many cells live, and so many more were asked for
abbrev pub line_end : ℕ → List ℕ
line_end asked = (codes " " ++ decimal asked) ++ codes "\n"

abbrev pub full_line : ℕ → ℕ → List ℕ
full_line live asked = (codes "WS FULL " ++ decimal live) ++ line_end asked

-- the last line of the trace, for the statuses that have one
abbrev pub last_line : Status → List ℕ
last_line Spent = codes "TURNS SPENT\n"
last_line (WsFull live asked) = full_line live asked
last_line NoMemory = codes "NO MEMORY\n"
last_line ReadFault = codes "READ FAULT\n"
last_line Words = codes "WORDS REFUSED\n"
last_line _ = []

-- the script came to its end: it was refused, run to its end, or no turn was left
abbrev pub IsEnd : Status → Type 0
IsEnd Done = Unit {0}
IsEnd Reported = Unit {0}
IsEnd (Refused refusal) = Unit {0}
IsEnd Spent = Unit {0}
IsEnd _ = ⊥

-- the run was cut short: cells had no room, memory was wanting, or a sink failed
abbrev pub IsCutShort : Status → Type 0
IsCutShort (WsFull live asked) = Unit {0}
IsCutShort NoMemory = Unit {0}
IsCutShort (WriteFault which) = Unit {0}
IsCutShort _ = ⊥

-- the script was not read, so nothing was printed
abbrev pub IsUnread : Status → Type 0
IsUnread ReadFault = Unit {0}
IsUnread Words = Unit {0}
IsUnread _ = ⊥

-- nothing was run: the script was refused, or it was not read
abbrev pub IsNotRun : Status → Type 0
IsNotRun (Refused refusal) = Unit {0}
IsNotRun status = IsUnread status

-- what it leaves may be asked for: the end of a script, or a script that was not read
abbrev pub IsLasting : Status → Type 0
IsLasting (WsFull live asked) = ⊥
IsLasting NoMemory = ⊥
IsLasting (WriteFault which) = ⊥
IsLasting _ = Unit {0}

-- every status but want of memory, a read fault and refused words: the source was read to its end, or too far
abbrev pub HasRead : Status → Type 0
HasRead NoMemory = ⊥
HasRead ReadFault = ⊥
HasRead Words = ⊥
HasRead _ = Unit {0}

-- the end of a script, want of room or want of memory
abbrev pub IsEndOrWant : Status → Type 0
IsEndOrWant (WsFull live asked) = Unit {0}
IsEndOrWant NoMemory = Unit {0}
IsEndOrWant status = IsEnd status
