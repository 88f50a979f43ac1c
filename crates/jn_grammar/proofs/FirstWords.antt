-- What a test of the first word shows.
use Rattle.std.proofs.Common.{◌≡◌, suc, true, false, List, [], ◌∷◌, length, Some, refl, sym, ◌∙◌, ap}
use Rattle.std.specs.Prelude.{slice_get}
use Rattle.std.proofs.lemmas.Bool.{eqb-true}
use Rattle.jn_base.specs.declared.word.Keyword.{Keyword}
use Rattle.jn_base.specs.declared.word.Keyword.TheVariants as keyword
use Rattle.jn_base.specs.declared.word.Mark.{Mark}
use Rattle.jn_base.specs.declared.word.Mark.TheVariants as mark
use Rattle.jn_base.specs.declared.word.Word.{Word}
use Rattle.jn_base.specs.declared.word.Word.TheVariants as word
use Rattle.jn_base.specs.declared.word.Lexeme.{Lexeme}
use Rattle.jn_base.specs.Words.{lexeme}
use Rattle.jn_grammar.specs.Begins.{mark_code, key_code, same_mark, same_key, is_word, begins, behind, place}

pub never : false ≡ true → ⊥
never h = cc

some_is : {A : Type 0} (a b : A) → Some a ≡ Some b → a ≡ b
some_is a b e = cc

abbrev marks : List Mark
marks = mark.EqualEqual ∷ mark.NotEqual ∷ mark.LessEqual ∷ mark.GreaterEqual ∷ mark.AndAnd ∷ mark.OrOr ∷ mark.Arrow ∷ mark.OpenBrace ∷ mark.CloseBrace ∷ mark.OpenParen ∷ mark.CloseParen ∷ mark.OpenBracket ∷ mark.CloseBracket ∷ mark.Dot ∷ mark.Comma ∷ mark.Semicolon ∷ mark.Equals ∷ mark.Bang ∷ mark.Less ∷ mark.Greater ∷ mark.Plus ∷ mark.Minus ∷ mark.Star ∷ mark.Slash ∷ mark.Percent ∷ mark.Ampersand ∷ mark.Backslash ∷ []

mark_back : (m : Mark) → slice_get marks (mark_code m) ≡ Some m
mark_back mark.EqualEqual = refl
mark_back mark.NotEqual = refl
mark_back mark.LessEqual = refl
mark_back mark.GreaterEqual = refl
mark_back mark.AndAnd = refl
mark_back mark.OrOr = refl
mark_back mark.Arrow = refl
mark_back mark.OpenBrace = refl
mark_back mark.CloseBrace = refl
mark_back mark.OpenParen = refl
mark_back mark.CloseParen = refl
mark_back mark.OpenBracket = refl
mark_back mark.CloseBracket = refl
mark_back mark.Dot = refl
mark_back mark.Comma = refl
mark_back mark.Semicolon = refl
mark_back mark.Equals = refl
mark_back mark.Bang = refl
mark_back mark.Less = refl
mark_back mark.Greater = refl
mark_back mark.Plus = refl
mark_back mark.Minus = refl
mark_back mark.Star = refl
mark_back mark.Slash = refl
mark_back mark.Percent = refl
mark_back mark.Ampersand = refl
mark_back mark.Backslash = refl

abbrev keywords : List Keyword
keywords = keyword.Adapts ∷ keyword.Boolean ∷ keyword.Class ∷ keyword.Else ∷ keyword.Extends ∷ keyword.False ∷ keyword.Final ∷ keyword.If ∷ keyword.Int ∷ keyword.Is ∷ keyword.New ∷ keyword.Null ∷ keyword.Package ∷ keyword.Print ∷ keyword.Return ∷ keyword.Shares ∷ keyword.Sharing ∷ keyword.Super ∷ keyword.This ∷ keyword.True ∷ keyword.View ∷ keyword.Void ∷ keyword.While ∷ []

key_back : (k : Keyword) → slice_get keywords (key_code k) ≡ Some k
key_back keyword.Adapts = refl
key_back keyword.Boolean = refl
key_back keyword.Class = refl
key_back keyword.Else = refl
key_back keyword.Extends = refl
key_back keyword.False = refl
key_back keyword.Final = refl
key_back keyword.If = refl
key_back keyword.Int = refl
key_back keyword.Is = refl
key_back keyword.New = refl
key_back keyword.Null = refl
key_back keyword.Package = refl
key_back keyword.Print = refl
key_back keyword.Return = refl
key_back keyword.Shares = refl
key_back keyword.Sharing = refl
key_back keyword.Super = refl
key_back keyword.This = refl
key_back keyword.True = refl
key_back keyword.View = refl
key_back keyword.Void = refl
key_back keyword.While = refl

pub same_mark_is : (a b : Mark) → same_mark a b ≡ true → a ≡ b
same_mark_is a b h = some_is a b (sym (mark_back a) ∙ ap (λ n. slice_get marks n) (eqb-true (mark_code a) (mark_code b) h) ∙ mark_back b)

pub same_key_is : (a b : Keyword) → same_key a b ≡ true → a ≡ b
same_key_is a b h = some_is a b (sym (key_back a) ∙ ap (λ n. slice_get keywords n) (eqb-true (key_code a) (key_code b) h) ∙ key_back b)

pub word_is : (f w : Word) → is_word f w ≡ true → w ≡ f
word_is (word.Mark m) (word.Mark k) h = ap word.Mark (same_mark_is k m h)
word_is (word.Keyword m) (word.Keyword k) h = ap word.Keyword (same_key_is k m h)
word_is word.End word.End h = refl
word_is _ _ h = cc

-- A test of the first word that succeeds shows it.
pub begins_is : (f : Word) (ts : List Lexeme) → begins f ts ≡ true → ts ≡ lexeme f (place ts) ∷ behind ts
begins_is f [] h = cc
begins_is f (t ∷ ts) h = ap (λ (k : Word). lexeme k t.at ∷ ts) (word_is f t.word h)

pub behind_less : (f : Word) (ts : List Lexeme) → begins f ts ≡ true → suc (length (behind ts)) ≡ length ts
behind_less f [] h = cc
behind_less f (t ∷ ts) h = refl
