-- The tokens of texts, for any language of tokens: which of them a text has, and where each begins.
-- Public statements of crates above name it.
use Rattle.std.specs.Prelude.{◌≡◌, ◌≤◌, ◌+◌, ℕ, Bool, false, List, [], ◌∷◌, ◌++◌, length}
use Rattle.std.specs.List.{flat_map}

-- the tokens of a language, and what is passed over between them
pub record Lexicon (T : Type 0) : Type 1 where
  -- These bytes are this token.
  pub Spells : T → List ℕ → Type 0
  -- This may stand after it.
  pub EndsBefore : T → List ℕ → Type 0
  -- The text begins with this gap, which is no part of a token, and then goes on with the rest.
  pub BeginsGap : (text gap rest : List ℕ) → Type 0
  -- the end of a text
  pub end : T
  -- bytes with which no token begins
  pub bad : T

-- ---- what a text begins with

-- The text does not begin with a byte that passes the test.
abbrev pub StopsAt : (ℕ → Bool) → List ℕ → Type 0
StopsAt passes [] = Unit {0}
StopsAt passes (b ∷ rest) = passes b ≡ false

-- The text begins with this token, which takes these bytes, and then goes on with the rest.
pub record Begins {T : Type 0} (L : Lexicon T) (text : List ℕ) (token : T) (bytes rest : List ℕ) : Type 0 where
  pub whole : text ≡ bytes ++ rest
  pub spelled : L.Spells token bytes
  pub ends : L.EndsBefore token rest

-- Of the tokens with which the text begins this is the longest.
pub record Longest {T : Type 0} (L : Lexicon T) (text : List ℕ) (token : T) (bytes rest : List ℕ) : Type 0 where
  pub begins : Begins L text token bytes rest
  pub longest : (other : T) (others more : List ℕ) → Begins L text other others more → length others ≤ length bytes

-- No token begins here.
abbrev pub NoToken : {T : Type 0} → Lexicon T → List ℕ → Type 0
NoToken L text = (token : _) (bytes rest : List ℕ) → Begins L text token bytes rest → ⊥

-- No gap begins here.
abbrev pub NoGap : {T : Type 0} → Lexicon T → List ℕ → Type 0
NoGap L text = (gap rest : List ℕ) → L.BeginsGap text gap rest → ⊥

-- ---- the tokens of a text

-- The text, before which stand so many bytes, has these tokens, each with the number of bytes that stand before it.
-- Gaps are passed over. At the text's end stands the end; where neither a gap nor a token begins stands the bad token,
-- and nothing after it; else the longest token, and then those of the rest.
pub data AreTokens {T : Type 0} (L : Lexicon T) : ℕ → List ℕ → List (T × ℕ) → Type 0 where
  ends : (at : ℕ)
      → AreTokens L at [] ((L.end, at) ∷ [])
  passes : (at : ℕ) (text gap rest : List ℕ) (tokens : List (T × ℕ))
      → L.BeginsGap text gap rest
      → AreTokens L (at + length gap) rest tokens
      → AreTokens L at text tokens
  takes : (at : ℕ) (text : List ℕ) (token : T) (bytes rest : List ℕ) (tokens : List (T × ℕ))
      → NoGap L text
      → Longest L text token bytes rest
      → AreTokens L (at + length bytes) rest tokens
      → AreTokens L at text ((token, at) ∷ tokens)
  stops : (at b : ℕ) (rest : List ℕ)
      → NoGap L (b ∷ rest)
      → NoToken L (b ∷ rest)
      → AreTokens L at (b ∷ rest) ((L.bad, at) ∷ [])

-- Each text has exactly one list of tokens, however many bytes stand before it.
abbrev pub EachHasOneReading : {T : Type 0} → Lexicon T → Type 0
EachHasOneReading {T} L = (at : ℕ) (text : List ℕ) → (tokens : List (T × ℕ)) × AreTokens L at text tokens
    × ((others : List (T × ℕ)) → AreTokens L at text others → tokens ≡ others)

-- ---- the text that writes tokens

-- the tokens with a space before each
abbrev pub spaced : {T : Type 0} → (T → List ℕ) → List T → List ℕ
spaced spelling tokens = flat_map (λ token. 32 ∷ spelling token) tokens

-- the tokens with one space between two
abbrev pub written : {T : Type 0} → (T → List ℕ) → List T → List ℕ
written spelling [] = []
written spelling (token ∷ tokens) = spelling token ++ spaced spelling tokens
