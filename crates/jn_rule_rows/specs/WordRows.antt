-- Rows of words: a word with which no program begins, and a word that passes a limit.
use Rattle.std.specs.Prelude.{ℕ, suc, zero, List, [], ◌∷◌, ◌++◌, Some, None, codes}
use Rattle.jn_base.specs.declared.word.Keyword.TheVariants.{Class}
use Rattle.jn_base.specs.declared.word.Mark.TheVariants.{OpenBrace}
use Rattle.jn_base.specs.declared.word.Word.{Word}
use Rattle.jn_base.specs.declared.word.Word.TheVariants as word
use Rattle.jn_base.specs.declared.word.Lexeme.{Lexeme}
use Rattle.jn_base.specs.declared.refusal.Rule.TheVariants as rule
use Rattle.jn_base.specs.declared.refusal.Limit.TheVariants as limit
use Rattle.jn_base.specs.ExampleTrees.{name}
use Rattle.jn_base.specs.Spelling.{refusal, IsRefusedAt}
use Rattle.jn_rules.specs.Verdict.{start_of_file, IsRefused}

-- the places of these words are left out: all are 1:1
abbrev pub placed : Word → Lexeme
placed w = record { word = w; at = start_of_file }

abbrev pub class_word : Lexeme
class_word = placed (word.Keyword Class)

abbrev pub name_word : Lexeme
name_word = placed (word.Name (name 0))

-- k times `class A {`
abbrev pub opened : ℕ → List Lexeme
opened zero = []
opened (suc k) = class_word ∷ (name_word ∷ (placed (word.Mark OpenBrace) ∷ opened k))

pub record WordRows : Type 0 where
  -- a source with one word: }
  pub syntax : IsRefused (codes "}") (refusal rule.E01 start_of_file None)
  -- eight times `class A {`, and then `class A`: the name of the ninth declaration in one another passes the limit
  pub declarations : IsRefusedAt (opened 8 ++ class_word ∷ []) name_word rule.E04 (Some limit.Declarations)
