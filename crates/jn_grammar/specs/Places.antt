-- Where a fault stands, of any grammar of whole inputs: `Is parts x` says that the words are one, with the tree x.
use Rattle.std.specs.Prelude.{◌≡◌, ℕ, suc, List, [], ◌∷◌, ◌++◌, length, Some}
use Rattle.jn_base.specs.declared.refusal.Limit.{Limit}
use Rattle.jn_base.specs.declared.word.Lexeme.{Lexeme}
use Rattle.jn_base.specs.Parts.{Part, lexeme_of}
use Rattle.jn_base.specs.Spelling.{limit_of}
use Rattle.jn_grammar.specs.Begins.{lexemes}

module _ {A : Type 0} (Is : List Part → A → Type 0) where
  -- These words are a whole input with this tree.
  pub record IsSpelled (ws : List Lexeme) (x : A) : Type 0 where
    pub parts : List Part
    pub are_words : lexemes parts ≡ ws
    pub is : Is parts x

  -- A whole input begins with these words, with what they count.
  pub record IsBegun (ts : List Part) : Type 0 where
    pub others : List Part
    pub tree : A
    pub is : Is (ts ++ others) tree

  -- ... with these words
  pub record BeginsSo (ws : List Lexeme) : Type 0 where
    pub parts : List Part
    pub are_words : lexemes parts ≡ ws
    pub begun : IsBegun parts

  -- Behind the words front, the word t passes the limit l, in an input that begins so.
  pub record PassesSo (front : List Lexeme) (t : Lexeme) (l : Limit) : Type 0 where
    pub before : List Part
    pub part : Part
    pub are_words : lexemes before ≡ front
    pub is_word : lexeme_of part ≡ t
    pub begun : IsBegun (before ++ part ∷ [])
    pub limit : limit_of part.role ≡ Some l

  -- With t behind front an input begins, and t passes no limit.
  pub record IsCleanSo (front : List Lexeme) (t : Lexeme) : Type 0 where
    pub begins : BeginsSo (front ++ t ∷ [])
    pub within : (l : Limit) → PassesSo front t l → ⊥

  -- Before the last `left` words, and the first of them, all is clean; with that word no input begins.
  pub record IsSyntaxAt (ws : List Lexeme) (left : ℕ) : Type 0 where
    pub front : List Lexeme
    pub word_there : Lexeme
    pub others : List Lexeme
    pub split : ws ≡ front ++ word_there ∷ others
    pub count : left ≡ suc (length others)
    pub clean : (before behind : List Lexeme) (t : Lexeme) → front ≡ before ++ t ∷ behind → IsCleanSo before t
    pub no_more : BeginsSo (front ++ word_there ∷ []) → ⊥

  -- Before it all is clean; with the word an input begins, and it passes this limit alone.
  pub record IsLimitAt (ws : List Lexeme) (l : Limit) (left : ℕ) : Type 0 where
    pub front : List Lexeme
    pub word_there : Lexeme
    pub others : List Lexeme
    pub split : ws ≡ front ++ word_there ∷ others
    pub count : left ≡ suc (length others)
    pub clean : (before behind : List Lexeme) (t : Lexeme) → front ≡ before ++ t ∷ behind → IsCleanSo before t
    pub begins : BeginsSo (front ++ word_there ∷ [])
    pub passes : PassesSo front word_there l
    pub alone : (m : Limit) → PassesSo front word_there m → m ≡ l
