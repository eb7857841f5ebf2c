-- What the words behind the program's name ask for.
use Rattle.std.specs.Prelude.{ℕ, ◌-◌, List, [], ◌∷◌, ◌⊎◌, ◌≡◌, take, Option, Some, None}
use Rattle.decimal.specs.Decimal.{Says}
use Rattle.words.specs.declared.Word as word
use Rattle.words.specs.declared.Word.TheVariants as is
use Rattle.words.specs.declared.Order.{Order}
use Rattle.words.specs.declared.Order.TheVariants.{Report, Renumber, Chain, Followed, Size, Value, Help}

-- the words, in ASCII: renumber, chain, followed, size, value, help, --help, -h
abbrev pub renumber_word : List ℕ
renumber_word = 114 ∷ 101 ∷ 110 ∷ 117 ∷ 109 ∷ 98 ∷ 101 ∷ 114 ∷ []

abbrev pub chain_word : List ℕ
chain_word = 99 ∷ 104 ∷ 97 ∷ 105 ∷ 110 ∷ []

abbrev pub followed_word : List ℕ
followed_word = 102 ∷ 111 ∷ 108 ∷ 108 ∷ 111 ∷ 119 ∷ 101 ∷ 100 ∷ []

abbrev pub size_word : List ℕ
size_word = 115 ∷ 105 ∷ 122 ∷ 101 ∷ []

abbrev pub value_word : List ℕ
value_word = 118 ∷ 97 ∷ 108 ∷ 117 ∷ 101 ∷ []

abbrev pub help_word : List ℕ
help_word = 104 ∷ 101 ∷ 108 ∷ 112 ∷ []

abbrev pub long_help_word : List ℕ
long_help_word = 45 ∷ 45 ∷ help_word

abbrev pub short_help_word : List ℕ
short_help_word = 45 ∷ 104 ∷ []

-- the bytes are a word for help
abbrev pub IsHelp : List ℕ → Type 0
IsHelp w = (w ≡ help_word) ⊎ (w ≡ long_help_word) ⊎ (w ≡ short_help_word)

-- the bytes are this word, or none
abbrev pub IsWord : List ℕ → Option word.Word → Type 0
IsWord w (Some is.Renumber) = w ≡ renumber_word
IsWord w (Some is.Chain) = w ≡ chain_word
IsWord w (Some is.Followed) = w ≡ followed_word
IsWord w (Some is.Size) = w ≡ size_word
IsWord w (Some is.Value) = w ≡ value_word
IsWord w (Some is.Help) = IsHelp w
IsWord w None = (w ≡ renumber_word → ⊥) × (w ≡ chain_word → ⊥) × (w ≡ followed_word → ⊥) × (w ≡ size_word → ⊥) × (w ≡ value_word → ⊥) × (IsHelp w → ⊥)

-- this word, and two that say names
pub record AsksNames (word : List ℕ) (words : List (List ℕ)) (from to : ℕ) : Type 0 where
  pub first : List ℕ
  pub last : List ℕ
  pub all : words ≡ word ∷ first ∷ last ∷ []
  pub says_from : Says first from
  pub says_to : Says last to

-- this word, and one that says a number
pub record AsksNumber (word : List ℕ) (words : List (List ℕ)) (definition : ℕ) : Type 0 where
  pub number : List ℕ
  pub all : words ≡ word ∷ number ∷ []
  pub says : Says number definition

-- one word for help and no other
pub record AsksHelp (words : List (List ℕ)) : Type 0 where
  pub word : List ℕ
  pub all : words ≡ word ∷ []
  pub is_help : IsHelp word

-- nothing that there is
pub record AsksNothing (words : List (List ℕ)) : Type 0 where
  pub some : words ≡ [] → ⊥
  pub renumber : words ≡ renumber_word ∷ [] → ⊥
  pub help : AsksHelp words → ⊥
  pub chain : (from to : ℕ) → AsksNames chain_word words from to → ⊥
  pub followed : (from to : ℕ) → AsksNames followed_word words from to → ⊥
  pub size : (definition : ℕ) → AsksNumber size_word words definition → ⊥
  pub value : (definition : ℕ) → AsksNumber value_word words definition → ⊥

-- the words ask for this, or for nothing that there is
abbrev pub Asks : List (List ℕ) → Option Order → Type 0
Asks words (Some Report) = words ≡ []
Asks words (Some Renumber) = words ≡ renumber_word ∷ []
Asks words (Some (Chain from to)) = AsksNames chain_word words from to
Asks words (Some (Followed from to)) = AsksNames followed_word words from to
Asks words (Some (Size definition)) = AsksNumber size_word words definition
Asks words (Some (Value definition)) = AsksNumber value_word words definition
Asks words (Some Help) = AsksHelp words
Asks words None = AsksNothing words

-- the words ask for nothing else
abbrev pub AsksOnly : List (List ℕ) → Option Order → Type 0
AsksOnly words o = (p : Option Order) → Asks words p → p ≡ o

-- the words behind the program's name, where there are `count` with it: those behind the third stand as one empty word
abbrev pub words_of : ℕ → List ℕ → List ℕ → List ℕ → List (List ℕ)
words_of count first second third = take (count - 1) (first ∷ second ∷ third ∷ [] ∷ [])
