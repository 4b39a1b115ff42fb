-- What the functions of a command answer, against its recipe. Their private contracts cite it; the recipe alone says
-- what a command does.
use Rattle.std.specs.Prelude.{◌≡◌, ◌⊎◌, ℕ, List, Option, Some, None, Result, Ok, Err, Vec, string_bytes}
use Rattle.std.specs.declared.alloc.Global.{Global}
use Rattle.outside.specs.Steps.{Step}
use Rattle.outside.specs.World.{Io}
use Rattle.replies.specs.Asking.{Asked}
use Rattle.replies.specs.Plan.{done, Went, stop_of}
use Rattle.replies.specs.Recipe.{Own, checked, owe, Recipe, read, own, File}
use Rattle.replies.specs.Steps.{NotEmpty}
use Rattle.replies.specs.declared.stop.Stop.{Stop}
use Rattle.replies.specs.declared.stop.Stop.TheVariants as stops

-- ---- a check

-- it refuses by the line of this stop; out of memory is free
abbrev pub Refuses : {V : Type 0} → (Result V (List ℕ) → Type 0) → Stop → Type 0
Refuses is (stops.Refused line) = is (Err (string_bytes line))
Refuses is stops.ReadFault = ⊥
Refuses is stops.WriteFault = ⊥
Refuses is stops.NoMemory = Unit {0}

-- something was checked, and this is its value
abbrev pub Checks : {T V : Type 0} → (T → V) → (Result V (List ℕ) → Type 0) → Result T Stop → Type 0
Checks view is (Ok x) = is (Ok (view x))
Checks view is (Err stop) = Refuses is stop

-- ---- a file

-- it was asked for and reads as this value
abbrev pub FileGives : {V : Type 0} → File V → V → Io → Io → Type 0
FileGives file value before after =
    (bytes : Vec ℕ Global)
    × Asked file.name file.most file.place before after (Ok bytes)
    × file.format file.place bytes.items (Ok value)

-- asking for it stopped, or its bytes are refused
abbrev pub FileStops : {V : Type 0} → File V → Stop → Io → Io → Type 0
FileStops file stop before after =
    Asked file.name file.most file.place before after (Err stop)
    ⊎ ((bytes : Vec ℕ Global)
    × Asked file.name file.most file.place before after (Ok bytes)
    × Refuses (file.format file.place bytes.items) stop)

-- a file was read
abbrev pub FileRead : {T V : Type 0} → File V → (T → V) → Io → Io → Result T Stop → Type 0
FileRead file view before after (Ok x) = FileGives file (view x) before after
FileRead file view before after (Err stop) = FileStops file stop before after

-- ---- a command, one part after the other, up to what stopped it

abbrev pub OwnRuns : Own → Io → Io → Option Stop → Type 0
OwnRuns (checked {V = V} is next) before after stop =
    ((e : Stop) × Refuses is e × (after ≡ before) × (stop ≡ Some e))
    ⊎ ((value : V) × is (Ok value) × OwnRuns (next value) before after stop)
OwnRuns (owe owes) before after stop = (ss : List Step) × owes ss × Went (done ss) before after stop

abbrev pub Runs : Recipe → Io → Io → Option Stop → Type 0
Runs (read {V = V} file next) before after stop =
    ((e : Stop) × FileStops file e before after × (stop ≡ Some e))
    ⊎ ((value : V) × (mid : Io) × FileGives file value before mid × Runs (next value) mid after stop)
Runs (own part) before after stop = OwnRuns part before after stop

-- what a function answers that does a recipe
abbrev pub Obeys : {T : Type 0} → Recipe → Io → Io → Result T Stop → Type 0
Obeys recipe before after result = Runs recipe before after (stop_of result)

-- ---- steps in a loop

-- steps may stop where there are some
abbrev pub MayStop : List Step → Option Stop → Type 0
MayStop steps None = Unit {0}
MayStop steps (Some stop) = NotEmpty steps

-- Whoever does the rest from now on, where it may stop, has done all from the start.
abbrev pub Onto : List Step → Io → List Step → Io → Type 0
Onto all start rest now =
    (end : Io) (stop : Option Stop) → MayStop rest stop → Went (done rest) now end stop → Went (done all) start end stop
