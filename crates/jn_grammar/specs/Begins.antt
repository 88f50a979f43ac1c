-- Tests of the first of some words.
use Rattle.std.specs.Prelude.{ℕ, Bool, true, false, List, [], ◌∷◌, eqb, map}
use Rattle.jn_base.specs.declared.tree.Place.{Place}
use Rattle.jn_base.specs.declared.word.Keyword.{Keyword}
use Rattle.jn_base.specs.declared.word.Keyword.TheVariants as keyword
use Rattle.jn_base.specs.declared.word.Mark.{Mark}
use Rattle.jn_base.specs.declared.word.Mark.TheVariants as mark
use Rattle.jn_base.specs.declared.word.Word.{Word}
use Rattle.jn_base.specs.declared.word.Word.TheVariants as word
use Rattle.jn_base.specs.declared.word.Lexeme.{Lexeme}
use Rattle.jn_base.specs.Parts.{Part, lexeme_of}

-- the marks and the keywords by number
abbrev pub mark_code : Mark → ℕ
mark_code mark.EqualEqual = 0
mark_code mark.NotEqual = 1
mark_code mark.LessEqual = 2
mark_code mark.GreaterEqual = 3
mark_code mark.AndAnd = 4
mark_code mark.OrOr = 5
mark_code mark.Arrow = 6
mark_code mark.OpenBrace = 7
mark_code mark.CloseBrace = 8
mark_code mark.OpenParen = 9
mark_code mark.CloseParen = 10
mark_code mark.OpenBracket = 11
mark_code mark.CloseBracket = 12
mark_code mark.Dot = 13
mark_code mark.Comma = 14
mark_code mark.Semicolon = 15
mark_code mark.Equals = 16
mark_code mark.Bang = 17
mark_code mark.Less = 18
mark_code mark.Greater = 19
mark_code mark.Plus = 20
mark_code mark.Minus = 21
mark_code mark.Star = 22
mark_code mark.Slash = 23
mark_code mark.Percent = 24
mark_code mark.Ampersand = 25
mark_code mark.Backslash = 26

abbrev pub key_code : Keyword → ℕ
key_code keyword.Adapts = 0
key_code keyword.Boolean = 1
key_code keyword.Class = 2
key_code keyword.Else = 3
key_code keyword.Extends = 4
key_code keyword.False = 5
key_code keyword.Final = 6
key_code keyword.If = 7
key_code keyword.Int = 8
key_code keyword.Is = 9
key_code keyword.New = 10
key_code keyword.Null = 11
key_code keyword.Package = 12
key_code keyword.Print = 13
key_code keyword.Return = 14
key_code keyword.Shares = 15
key_code keyword.Sharing = 16
key_code keyword.Super = 17
key_code keyword.This = 18
key_code keyword.True = 19
key_code keyword.View = 20
key_code keyword.Void = 21
key_code keyword.While = 22

abbrev pub same_mark : Mark → Mark → Bool
same_mark a b = eqb (mark_code a) (mark_code b)

abbrev pub same_key : Keyword → Keyword → Bool
same_key a b = eqb (key_code a) (key_code b)

-- It is this mark, this keyword or the end of the file.
abbrev pub is_word : Word → Word → Bool
is_word (word.Mark m) (word.Mark k) = same_mark k m
is_word (word.Keyword m) (word.Keyword k) = same_key k m
is_word word.End word.End = true
is_word _ _ = false

abbrev pub begins : Word → List Lexeme → Bool
begins w [] = false
begins w (t ∷ ts) = is_word w t.word

abbrev pub behind : List Lexeme → List Lexeme
behind [] = []
behind (t ∷ ts) = ts

-- where the first of them stands
abbrev pub nowhere : Place
nowhere = record { line = 0; column = 0 }

abbrev pub place : List Lexeme → Place
place [] = nowhere
place (t ∷ ts) = t.at

-- without what they count
abbrev pub lexemes : List Part → List Lexeme
lexemes w = map lexeme_of w
