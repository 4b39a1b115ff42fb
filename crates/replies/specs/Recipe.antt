-- A command as data: the files that it reads, in the order of their words, then its own checks, and then its steps.
use Rattle.std.specs.Prelude.{◌≡◌, ◌⊎◌, ℕ, ◌≤◌, List, [], ◌∷◌, length, Some, Result, Ok, Err}
use Rattle.outside.specs.Bytes.{AreBytes}
use Rattle.outside.specs.Files.{Content}
use Rattle.outside.specs.Steps.{Step, Read}
use Rattle.replies.specs.Asking.{asks, checks, IsCheck}
use Rattle.replies.specs.Plan.{Refused, Plan, done, Given}
use Rattle.replies.specs.Reply.{Reply, ended}
use Rattle.replies.specs.Steps.{reads_of}

-- What the bytes of a file read as, or the line that refuses the file, which the word at this place names.
abbrev pub Format : Type 0 → Type 1
Format V = ℕ → List ℕ → Result V (List ℕ) → Type 0

-- a file that is read: the word that names it, the place of that word, the most bytes, and the format
pub record File (V : Type 0) : Type 1 where
  pub name : List ℕ
  pub place : ℕ
  pub most : ℕ
  pub format : Format V

-- Checks over what was read, of which the first that refuses ends the command; then steps that something says.
pub data Own : Type 1 where
  checked : {V : Type 0} (is : Result V (List ℕ) → Type 0) (next : V → Own) → Own
  owe : (owes : List Step → Type 0) → Own

-- Files, each checked before the next is read, and what comes after them goes by their values; then the own part.
pub data Recipe : Type 1 where
  read : {V : Type 0} (file : File V) (next : V → Recipe) → Recipe
  own : (part : Own) → Recipe

-- steps that are known
abbrev pub steps : List Step → Own
steps these = owe (λ ss. ss ≡ these)

-- a check that is computed
abbrev pub gives : {V : Type 0} → Result V (List ℕ) → Result V (List ℕ) → Type 0
gives computed r = computed ≡ r

-- ---- the model

abbrev pub own_model : Own → Given → Plan → Type 0
own_model (checked is next) = checks is (λ v. own_model (next v))
own_model (owe owes) = λ given plan. (ss : List Step) × owes ss × (plan ≡ done ss)

abbrev pub model : Recipe → Given → Plan → Type 0
model (read file next) =
    asks file.name file.most file.place (λ bytes. checks (file.format file.place bytes) (λ v. model (next v)))
model (own part) = own_model part

-- ---- what a recipe has to have, so that it has one plan

-- steps that something says: some, one list, and no read
pub record IsOwed (owes : List Step → Type 0) : Type 0 where
  pub some : (ss : List Step) × owes ss
  pub one : (xs ys : List Step) → owes xs → owes ys → xs ≡ ys
  pub quiet : (xs : List Step) → owes xs → reads_of xs ≡ []

-- bytes have a reading or a refusal, and no two
abbrev pub IsFormat : {V : Type 0} → Format V → Type 0
IsFormat format = (place : ℕ) (bytes : List ℕ) → AreBytes bytes → IsCheck (format place bytes)

abbrev pub OwnSound : Own → Type 0
OwnSound (checked {V = V} is next) = IsCheck is × ((v : V) → is (Ok v) → OwnSound (next v))
OwnSound (owe owes) = IsOwed owes

abbrev pub Sound : Recipe → Type 0
Sound (read {V = V} file next) =
    IsFormat file.format
    × ((bytes : List ℕ) (v : V) → AreBytes bytes → file.format file.place bytes (Ok v) → Sound (next v))
Sound (own part) = OwnSound part

-- ---- completeness

-- The files are there, within their sizes, and read by their formats; so much holds of the own part and the reads
-- before it.
abbrev pub AfterFiles : Recipe → (List ℕ → Content) → (Own → List Step → Type 0) → Type 0
AfterFiles (read {V = V} file next) of P =
    (bytes : List ℕ)
    × (v : V)
    × (of file.name ≡ Some bytes)
    × (length bytes ≤ file.most)
    × file.format file.place bytes (Ok v)
    × AfterFiles (next v) of (λ part ss. P part (Read file.name file.most ∷ ss))
AfterFiles (own part) of P = P part []

-- every file that the command reads is there, within its size, and reads by its format
abbrev pub FilesRead : Recipe → (List ℕ → Content) → Type 0
FilesRead recipe of = AfterFiles recipe of (λ part ss. Unit {0})

-- one of the own checks refuses by this line, and those before it do not
abbrev pub OwnRefuses : Own → List ℕ → Type 0
OwnRefuses (checked {V = V} is next) line = is (Err line) ⊎ ((v : V) × is (Ok v) × OwnRefuses (next v) line)
OwnRefuses (owe owes) line = ⊥

-- the reply where all files were read, and then a check of the command's own refused
abbrev pub OwnRefusal : Recipe → (List ℕ → Content) → Reply → Type 0
OwnRefusal recipe of reply =
    AfterFiles recipe of
    (λ part ss. (line : List ℕ) × OwnRefuses part line × (reply ≡ ended ss (Refused line)))
