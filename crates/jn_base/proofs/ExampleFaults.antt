-- Worked first faults: the first word with which no program begins.
use Rattle.std.specs.Prelude.{◌≡◌, ℕ, pos, Some, None, List, [], ◌∷◌, ◌++◌, map}
use Rattle.std.proofs.Common.{refl, ap, subst, ◌∙◌}
use Rattle.jn_base.specs.declared.tree.Decl.{Decl}
use Rattle.jn_base.specs.declared.tree.Named.{Named}
use Rattle.jn_base.specs.declared.tree.Kind.TheVariants as kind
use Rattle.jn_base.specs.declared.word.Keyword.TheVariants.{Adapts, Class, Extends, Is, Package, Shares}
use Rattle.jn_base.specs.declared.word.Mark.TheVariants.{CloseBrace, OpenBrace, OpenParen}
use Rattle.jn_base.specs.declared.word.Word.{Word}
use Rattle.jn_base.specs.declared.word.Word.TheVariants as word
use Rattle.jn_base.specs.declared.word.Lexeme.{Lexeme}
use Rattle.jn_base.specs.Words.{lexeme}
use Rattle.jn_base.specs.declared.refusal.Limit.TheVariants as limit
use Rattle.jn_base.specs.Parts.{Part, Declares, Opens, Parameter, Local, Atom, lexeme_of, key, mark, name, opening, new_name, end_of_file, named}
use Rattle.jn_base.specs.GrammarDecl.{last_name, then_name, no_list, list, IsList, a_class, a_package, decl, no_member, IsTop, top, IsProgram, no_top, then_top}
use Rattle.jn_base.specs.Spelling.{Begins, limit_of}
use Rattle.jn_base.proofs.ExampleWords.{called, at}

-- What the words of a program begin with: the end, or a declaration up to its first list or its body.
abbrev IsAfterName : List Word → Type 0
IsAfterName (word.Keyword Extends ∷ word.Name x ∷ ws) = Unit {0}
IsAfterName (word.Keyword Adapts ∷ word.Name x ∷ ws) = Unit {0}
IsAfterName (word.Mark OpenBrace ∷ ws) = Unit {0}
IsAfterName ws = ⊥

abbrev IsAfterKind : List Word → Type 0
IsAfterKind (word.Name x ∷ ws) = IsAfterName ws
IsAfterKind ws = ⊥

abbrev IsFront : List Word → Type 0
IsFront (word.End ∷ ws) = Unit {0}
IsFront (word.Keyword Class ∷ ws) = IsAfterKind ws
IsFront (word.Keyword Package ∷ ws) = IsAfterKind ws
IsFront ws = ⊥

abbrev words_of : List Part → List Word
words_of ts = map (λ (t : Part). t.word) ts

after_name : {u v : List Part} {es adapted : List Named} → IsList Extends u es → IsList Adapts v adapted → (o : _) (behind rest : List Part)
    → IsAfterName (words_of ((u ++ (v ++ (opening 0 OpenBrace o ∷ behind))) ++ rest))
after_name no_list no_list o behind rest = tt
after_name no_list (list last_name) o behind rest = tt
after_name no_list (list (then_name l)) o behind rest = tt
after_name (list last_name) a o behind rest = tt
after_name (list (then_name l)) a o behind rest = tt

top_front : {ts : List Part} {t : Decl} → IsTop ts t → (rest : List Part) → IsFront (words_of (ts ++ rest))
top_front (top o c a_class es adapted ms) rest = after_name es adapted o _ rest
top_front (top o c a_package es adapted ms) rest = after_name es adapted o _ rest

front_of : {ts : List Part} {ds : List Decl} → IsProgram ts ds → IsFront (words_of ts)
front_of no_top = tt
front_of (then_top {w = w} t p) = top_front t w

joined : (ts others : List Part) → words_of (ts ++ others) ≡ map (λ (w : Lexeme). w.word) (map lexeme_of ts) ++ words_of others
joined [] others = refl
joined (t ∷ ts) others = ap (λ (ws : List Word). t.word ∷ ws) (joined ts others)

-- so do the words with which a program begins, with others behind
record IsFrontOf (ws : List Lexeme) : Type 0 where
  others : List Word
  front : IsFront (map (λ (w : Lexeme). w.word) ws ++ others)

begins_front : {ws : List Lexeme} → Begins ws → IsFrontOf ws
begins_front b = record {
  others = words_of b.begins.others;
  front = subst IsFront (joined b.parts b.begins.others ∙ ap (λ (us : List Lexeme). map (λ (w : Lexeme). w.word) us ++ words_of b.begins.others) b.are_words) (front_of b.begins.is_program);
}

-- class A extends B { } and the end
whole : IsProgram
    (key Class (at 1) ∷ new_name (Declares 1) (called 0) (at 7) ∷ key Extends (at 9) ∷ name (called 1) (at 17) ∷ opening 0 OpenBrace (at 19) ∷ mark CloseBrace (at 21) ∷ end_of_file (at 22) ∷ [])
    (decl kind.Class (named (called 0) (at 7)) (named (called 1) (at 17) ∷ []) [] [] [] ∷ [])
whole = then_top (top {x = called 0} {p = at 7} (at 19) (at 21) (a_class {p = at 1}) (list {p = at 9} (last_name {x = called 1} {p = at 17})) no_list no_member) (no_top {p = at 22})

-- nothing; class; class A; class A extends
pub nothing_begins : Begins []
nothing_begins = record { parts = []; are_words = refl; begins = record { others = _; decls = _; is_program = whole } }

pub class_begins : Begins (lexeme (word.Keyword Class) (at 1) ∷ [])
class_begins = record { parts = key Class (at 1) ∷ []; are_words = refl; begins = record { others = _; decls = _; is_program = whole } }

pub name_begins : Begins (lexeme (word.Keyword Class) (at 1) ∷ lexeme (word.Name (called 0)) (at 7) ∷ [])
name_begins = record { parts = key Class (at 1) ∷ new_name (Declares 1) (called 0) (at 7) ∷ []; are_words = refl; begins = record { others = _; decls = _; is_program = whole } }

pub list_begins : Begins (lexeme (word.Keyword Class) (at 1) ∷ lexeme (word.Name (called 0)) (at 7) ∷ lexeme (word.Keyword Extends) (at 9) ∷ [])
list_begins = record { parts = key Class (at 1) ∷ new_name (Declares 1) (called 0) (at 7) ∷ key Extends (at 9) ∷ []; are_words = refl; begins = record { others = _; decls = _; is_program = whole } }

-- With the front a program begins, and with this word behind it none.
pub record IsFirstBad (front : List Lexeme) (w : Word) : Type 0 where
  pub begins : Begins front
  pub bad : (p : ℕ) → Begins (front ++ lexeme w (at p) ∷ []) → ⊥

-- }
pub brace_first : IsFirstBad ([]) (word.Mark CloseBrace)
brace_first = record { begins = nothing_begins; bad = λ p b. (begins_front b).front }

-- a name
pub name_first : IsFirstBad ([]) (word.Name (called 0))
name_first = record { begins = nothing_begins; bad = λ p b. (begins_front b).front }

-- a number
pub number_first : IsFirstBad ([]) (word.Number (pos 0))
number_first = record { begins = nothing_begins; bad = λ p b. (begins_front b).front }

-- a text
pub text_first : IsFirstBad ([]) (word.Text 0)
text_first = record { begins = nothing_begins; bad = λ p b. (begins_front b).front }

-- what is no word
pub fault_first : IsFirstBad ([]) (word.Fault)
fault_first = record { begins = nothing_begins; bad = λ p b. (begins_front b).front }

-- shares
pub shares_first : IsFirstBad ([]) (word.Keyword Shares)
shares_first = record { begins = nothing_begins; bad = λ p b. (begins_front b).front }

-- is
pub is_first : IsFirstBad ([]) (word.Keyword Is)
is_first = record { begins = nothing_begins; bad = λ p b. (begins_front b).front }

-- class class
pub class_class : IsFirstBad (lexeme (word.Keyword Class) (at 1) ∷ []) (word.Keyword Class)
class_class = record { begins = class_begins; bad = λ p b. (begins_front b).front }

-- class {
pub class_brace : IsFirstBad (lexeme (word.Keyword Class) (at 1) ∷ []) (word.Mark OpenBrace)
class_brace = record { begins = class_begins; bad = λ p b. (begins_front b).front }

-- class and the end
pub class_end : IsFirstBad (lexeme (word.Keyword Class) (at 1) ∷ []) (word.End)
class_end = record { begins = class_begins; bad = λ p b. (begins_front b).front }

-- class A B
pub class_name_name : IsFirstBad (lexeme (word.Keyword Class) (at 1) ∷ lexeme (word.Name (called 0)) (at 7) ∷ []) (word.Name (called 1))
class_name_name = record { begins = name_begins; bad = λ p b. (begins_front b).front }

-- class A shares: a declaration at the top shares nothing
pub class_name_shares : IsFirstBad (lexeme (word.Keyword Class) (at 1) ∷ lexeme (word.Name (called 0)) (at 7) ∷ []) (word.Keyword Shares)
class_name_shares = record { begins = name_begins; bad = λ p b. (begins_front b).front }

-- class A (
pub class_name_paren : IsFirstBad (lexeme (word.Keyword Class) (at 1) ∷ lexeme (word.Name (called 0)) (at 7) ∷ []) (word.Mark OpenParen)
class_name_paren = record { begins = name_begins; bad = λ p b. (begins_front b).front }

-- class A and the end
pub class_name_end : IsFirstBad (lexeme (word.Keyword Class) (at 1) ∷ lexeme (word.Name (called 0)) (at 7) ∷ []) (word.End)
class_name_end = record { begins = name_begins; bad = λ p b. (begins_front b).front }

-- class A extends {
pub class_extends_brace : IsFirstBad (lexeme (word.Keyword Class) (at 1) ∷ lexeme (word.Name (called 0)) (at 7) ∷ lexeme (word.Keyword Extends) (at 9) ∷ []) (word.Mark OpenBrace)
class_extends_brace = record { begins = list_begins; bad = λ p b. (begins_front b).front }

-- class A extends and the end
pub class_extends_end : IsFirstBad (lexeme (word.Keyword Class) (at 1) ∷ lexeme (word.Name (called 0)) (at 7) ∷ lexeme (word.Keyword Extends) (at 9) ∷ []) (word.End)
class_extends_end = record { begins = list_begins; bad = λ p b. (begins_front b).front }

-- The greatest number of each limit that the grammar counts, and the next one.
pub declarations_within : limit_of (Declares 8) ≡ None
declarations_within = refl

pub declarations_passed : limit_of (Declares 9) ≡ Some limit.Declarations
declarations_passed = refl

pub nesting_within : limit_of (Opens 200) ≡ None
nesting_within = refl

pub nesting_passed : limit_of (Opens 201) ≡ Some limit.Nesting
nesting_passed = refl

pub parameters_within : limit_of (Parameter 15) ≡ None
parameters_within = refl

pub parameters_passed : limit_of (Parameter 16) ≡ Some limit.Parameters
parameters_passed = refl

pub locals_within : limit_of (Local 200) ≡ None
locals_within = refl

pub locals_passed : limit_of (Local 201) ≡ Some limit.Locals
locals_passed = refl

pub atoms_within : limit_of (Atom 8) ≡ None
atoms_within = refl

pub atoms_passed : limit_of (Atom 9) ≡ Some limit.Atoms
atoms_passed = refl
