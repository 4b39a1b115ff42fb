-- What the calls on files do to their contents, and what of them is begun.
use Rattle.std.specs.Prelude.{◌≡◌, ◌⊎◌, ◌+◌, ℕ, Bool, true, false, List, [], ◌∷◌, ◌++◌, take, Option, Some, None}
use Rattle.std.specs.Prelude.{IsNone, IfSome, IsSomeAnd, MatchBool, Result, Ok, Err, bytes_eq}
use Rattle.std.specs.Option.{option_map}
use Rattle.outside.specs.declared.fault.FileFault.{FileFault}
use Rattle.outside.specs.declared.fault.FileFault.TheVariants.{Failed, NoMemory}

-- the bytes of a file, or that it is missing
abbrev pub Content : Type 0
Content = Option (List ℕ)

-- a read that was begun
pub record Read : Type 0 where
  pub name : List ℕ
  pub most : ℕ

pub data WriteKind : Type 0 where
  Append : WriteKind
  Replace : WriteKind

-- an append or a replace that was begun, and whether it was answered Ok
pub record Write : Type 0 where
  pub kind : WriteKind
  pub name : List ℕ
  pub bytes : List ℕ
  pub done : Bool

-- the old content of a missing file is empty
abbrev pub bytes_in : Content → List ℕ
bytes_in None = []
bytes_in (Some bytes) = bytes

-- the old content and then these bytes; where there are none, a missing file may stay missing
abbrev pub IsAppended : Content → List ℕ → Content → Type 0
IsAppended old bytes new = (new ≡ Some (bytes_in old ++ bytes)) ⊎ ((bytes ≡ []) × (new ≡ old))

-- what a read gives of the written name, before and after a write that was done or failed
abbrev pub ReadsAfter : WriteKind → Bool → List ℕ → Content → Content → Type 0
ReadsAfter Append true bytes old new = new ≡ Some (bytes_in old ++ bytes)
ReadsAfter Append false bytes old new = (n : ℕ) × IsAppended old (take n bytes) new
ReadsAfter Replace true bytes old new = new ≡ Some bytes
ReadsAfter Replace false bytes old new = (new ≡ old) ⊎ (new ≡ Some bytes)

-- the same of any name: a write leaves every name but its own
abbrev pub ReadsAt : Write → List ℕ → Content → Content → Type 0
ReadsAt w name old new = MatchBool (bytes_eq name w.name) (ReadsAfter w.kind w.done w.bytes old new) (new ≡ old)

-- the first most + 1 bytes of a file that is there, where the files say what they hold
abbrev pub ReadGives : Option (List ℕ → Content) → List ℕ → ℕ → List ℕ → Type 0
ReadGives contents name most bytes =
    IfSome contents (λ of. IsSomeAnd (of name) (λ whole. bytes ≡ take (most + 1) whole))

-- a read is begun where it is answered Ok or Failed
abbrev pub ReadBegun : {T : Type 0} → List ℕ → ℕ → Result T FileFault → Option (List Read) → Option (List Read) → Type 0
ReadBegun name most (Ok _) old new = new ≡ option_map (λ reads. reads ++ record { name = name; most = most } ∷ []) old
ReadBegun name most (Err Failed) old new =
    new ≡ option_map (λ reads. reads ++ record { name = name; most = most } ∷ []) old
ReadBegun name most (Err NoMemory) old new = new ≡ old

-- and so is a write
abbrev pub write_of : WriteKind → List ℕ → List ℕ → Bool → Write
write_of kind name bytes done = record { kind = kind; name = name; bytes = bytes; done = done }

abbrev pub WriteBegun :
    {T : Type 0} → WriteKind → List ℕ → List ℕ → Result T FileFault → Option (List Write) → Option (List Write) → Type 0
WriteBegun kind name bytes (Ok _) old new =
    new ≡ option_map (λ writes. writes ++ write_of kind name bytes true ∷ []) old
WriteBegun kind name bytes (Err Failed) old new =
    new ≡ option_map (λ writes. writes ++ write_of kind name bytes false ∷ []) old
WriteBegun kind name bytes (Err NoMemory) old new = new ≡ old

-- every name goes on as the write says, where the files say what they hold
abbrev pub AllRead : Write → Option (List ℕ → Content) → Option (List ℕ → Content) → Type 0
AllRead w None new = IsNone new
AllRead w (Some old) new = IsSomeAnd new (λ now. (name : List ℕ) → ReadsAt w name (old name) (now name))

-- what a write does to the contents
abbrev pub Wrote :
    {T : Type 0}
    → WriteKind
    → List ℕ
    → List ℕ
    → Result T FileFault
    → Option (List ℕ → Content)
    → Option (List ℕ → Content)
    → Type 0
Wrote kind name bytes (Ok _) old new = AllRead (write_of kind name bytes true) old new
Wrote kind name bytes (Err Failed) old new = AllRead (write_of kind name bytes false) old new
Wrote kind name bytes (Err NoMemory) old new = new ≡ old
