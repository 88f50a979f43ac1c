-- Whatever is expected can come: each state that the machine reaches has an end.
use Rattle.std.proofs.Common.{◌≡◌, ℕ, zero, suc, Bool, true, false, List, [], ◌∷◌, ◌++◌, length, ◌⊎◌, inl, inr, Option, Some, None, refl, sym, subst, if◌then◌else◌}
use Rattle.std.specs.Prelude.{pos}
use Rattle.std.proofs.lemmas.Bool.{eq-eqb}
use Rattle.jn_base.specs.declared.tree.Level.{Level}
use Rattle.jn_base.specs.declared.tree.Level.TheVariants as level_
use Rattle.jn_base.specs.declared.tree.Op.{Op}
use Rattle.jn_base.specs.declared.refusal.Limit.{Limit}
use Rattle.jn_base.specs.declared.tree.Kind.{Kind}
use Rattle.jn_base.specs.declared.tree.Kind.TheVariants as kind
use Rattle.jn_base.specs.declared.word.Keyword.TheVariants.{Boolean, Class, Else, False, Final, If, Int, New, Null, Package, Print, Return, Sharing as SharingKey, Super, This, True, View as ViewKey, Void, While}
use Rattle.jn_base.specs.declared.word.Mark.TheVariants.{Ampersand, Arrow, Backslash, Bang, CloseBrace, CloseBracket, CloseParen, Comma, Dot, Equals, Minus, OpenBrace, OpenBracket, OpenParen, Semicolon}
use Rattle.jn_base.specs.declared.word.Word.{Word}
use Rattle.jn_base.specs.declared.word.Word.TheVariants.{Name as Named_, Keyword as Key, Number, Text, Mark as Marked, End}
use Rattle.jn_base.specs.declared.word.Lexeme.{Lexeme}
use Rattle.jn_base.specs.Words.{lexeme}
use Rattle.jn_base.specs.Parts.{Parameter}
use Rattle.jn_grammar.specs.Begins.{mark_code, key_code, begins, nowhere, is_word}
use Rattle.jn_grammar.specs.ReadExprs.{operator}
use Rattle.jn_grammar.specs.Expected.{Symbol, Expects, Shuts, AName, Dots, MayBang, Tail, Names, Term, AfterName, NameOrClass, AfterNames, Ref, Masks, View, Type_, Atom, Atoms, Prim, Suffixes, SuffixName, MayCall, Post, InParens, Unary, OperandEnd, Expr, Rest, CallArgs, Args, MoreArgs, SuperTerm, Body, Stmts, MayElse, FirstName, NameOrClassPart, OneName, Path, PathName, AfterThis, ThisPart, Bare, PartName, AfterPart, AfterCall, Block, Test, Returned, Printed, TextOrExpr, NewName, Params, Param, MoreParams, Sharing, MoreRels, ListOf, MoreNames, Members, DeclBody, SlotOrMethod, MethodOpen, MethodBody, Tops, EndOfFile, deeper, value, local_value, type_rest, local_end, behind_block, after_path, on_stmts, on_member, on_param, on_type, on_expr, inner_rest, Act, Takes, Counts, Opens, Closes, Leaves, Ends, Finishes, Refuses, on, on_operator, linked, rests, does, led, opened, counts_by, step, State, Going, Done, Fails, read}
use Rattle.jn_grammar.proofs.FirstWords.{never}
use Rattle.jn_grammar.proofs.TermsAgain.{EndsNames, EndsTerm}
use Rattle.jn_grammar.proofs.TypesAgain.{EndsView, EndsType}
use Rattle.jn_grammar.proofs.ExprAgain.{EndsPost, EndsProduct, EndsSum, EndsComparison, EndsEquality, EndsConjunction, EndsExpr, paren_ends}

abbrev pub lone : Word → List Lexeme
lone w = lexeme w nowhere ∷ []

abbrev pub some_name : Word
some_name = Named_ (record { 0 = 0 })

abbrev pub some_number : Word
some_number = Number (pos 0)

-- the ends of the blocks of a body, and of the body; a value that is set, and these
abbrev pub closing : List Bool → List Lexeme
closing [] = lone (Marked CloseBrace)
closing (x ∷ blocks) = lexeme (Marked CloseBrace) nowhere ∷ closing blocks

abbrev pub set_value : Body → List Lexeme
set_value b = lexeme (Marked Equals) nowhere ∷ lexeme some_number nowhere ∷ lexeme (Marked Semicolon) nowhere ∷ closing b.blocks

abbrev pub empty_block : List Lexeme
empty_block = lexeme (Marked OpenBrace) nowhere ∷ lexeme (Marked CloseBrace) nowhere ∷ []

-- words that a symbol may stand for
unfoldable pub word : Symbol → List Lexeme
word (Expects w) = lone w
word (Shuts w) = lone w
word AName = lone some_name
word Dots = []
word MayBang = []
word Tail = []
word Names = lone some_name
word Term = lone some_name
word AfterName = []
word NameOrClass = lone some_name
word AfterNames = []
word Ref = lone some_name
word Masks = []
word View = lone some_name
word Type_ = lone (Key Int)
word (Atom k) = lone some_name
word (Atoms k) = []
word Prim = lone some_number
word Suffixes = []
word SuffixName = lone some_name
word MayCall = []
word Post = lone some_number
word InParens = lexeme some_number nowhere ∷ lexeme (Marked CloseParen) nowhere ∷ []
word Unary = lone some_number
word OperandEnd = []
word (Expr l) = lone some_number
word (Rest l) = []
word CallArgs = lexeme (Marked OpenParen) nowhere ∷ lexeme (Marked CloseParen) nowhere ∷ []
word Args = []
word MoreArgs = []
word SuperTerm = lexeme (Marked OpenBracket) nowhere ∷ lexeme some_name nowhere ∷ lexeme (Marked CloseBracket) nowhere ∷ lexeme (Marked Dot) nowhere ∷ lexeme some_name nowhere
    ∷ lexeme (Marked OpenParen) nowhere ∷ lexeme (Marked CloseParen) nowhere ∷ []
word (Stmts b) = closing b.blocks
word (MayElse b) = closing b.blocks
word (FirstName b) = set_value b
word (NameOrClassPart b) = lexeme some_name nowhere ∷ set_value b
word (OneName b) = set_value b
word (Path b) = set_value b
word (PathName b) = lexeme some_name nowhere ∷ set_value b
word (AfterThis b) = lexeme (Marked Dot) nowhere ∷ lexeme some_name nowhere ∷ set_value b
word (ThisPart b) = lexeme some_name nowhere ∷ set_value b
word (Bare b) = lexeme (Marked Dot) nowhere ∷ lexeme some_name nowhere ∷ set_value b
word (PartName b) = lexeme some_name nowhere ∷ set_value b
word (AfterPart b) = set_value b
word (AfterCall b) = lexeme (Marked Semicolon) nowhere ∷ closing b.blocks
word (Block may_else b) = lexeme (Marked OpenBrace) nowhere ∷ lexeme (Marked CloseBrace) nowhere ∷ closing b.blocks
word Test = lexeme (Marked OpenParen) nowhere ∷ lexeme some_number nowhere ∷ lexeme (Marked CloseParen) nowhere ∷ []
word Returned = lone (Marked Semicolon)
word Printed = lexeme (Marked OpenParen) nowhere ∷ lexeme some_number nowhere ∷ lexeme (Marked CloseParen) nowhere ∷ lexeme (Marked Semicolon) nowhere ∷ []
word TextOrExpr = lone some_number
word (NewName r) = lone some_name
word Params = []
word (Param k) = lexeme (Key Int) nowhere ∷ lexeme some_name nowhere ∷ []
word (MoreParams k) = []
word Sharing = []
word MoreRels = []
word (ListOf k) = []
word MoreNames = []
word (Members k n) = []
word (DeclBody k n) = empty_block
word SlotOrMethod = lone (Marked Semicolon)
word MethodOpen = lexeme (Marked OpenParen) nowhere ∷ lexeme (Marked CloseParen) nowhere ∷ empty_block
word MethodBody = empty_block
word Tops = []
word EndOfFile = lone End

unfoldable pub finish : List Symbol → List Lexeme
finish [] = []
finish (x ∷ below) = word x ++ finish below

abbrev pub EndsLevel : Level → List Lexeme → Type 0
EndsLevel level_.Product v = EndsProduct v
EndsLevel level_.Sum v = EndsSum v
EndsLevel level_.Compare v = EndsComparison v
EndsLevel level_.Equal v = EndsEquality v
EndsLevel level_.And v = EndsConjunction v
EndsLevel level_.Or v = EndsExpr v

-- a mark or a keyword
abbrev pub is_fixed : Word → Bool
is_fixed (Marked m) = true
is_fixed (Key k) = true
is_fixed w = false

pub fixed_same : (w : Word) → is_fixed w ≡ true → is_word w w ≡ true
fixed_same (Marked m) h = eq-eqb (mark_code m) (mark_code m) refl
fixed_same (Key k) h = eq-eqb (key_code k) (key_code k) refl
fixed_same w h = absurd (never h)

-- what must come behind a symbol, so that it does not go on
unfoldable pub Follow : Symbol → List Lexeme → Type 0
Follow (Expects w) v = is_fixed w ≡ true
Follow (Shuts w) v = is_fixed w ≡ true
Follow Dots v = begins (Marked Dot) v ≡ false
Follow MayBang v = EndsNames v
Follow Tail v = EndsNames v
Follow Names v = EndsNames v
Follow Term v = EndsTerm v
Follow AfterName v = EndsTerm v
Follow NameOrClass v = EndsTerm v
Follow AfterNames v = EndsTerm v
Follow Masks v = begins (Marked Backslash) v ≡ false
Follow View v = EndsView v
Follow Type_ v = EndsType v
Follow (Atom k) v = EndsTerm v
Follow (Atoms k) v = EndsTerm v × (begins (Marked Ampersand) v ≡ false)
Follow Suffixes v = EndsPost v
Follow SuffixName v = begins (Marked OpenParen) v ≡ false
Follow MayCall v = begins (Marked OpenParen) v ≡ false
Follow Post v = EndsPost v
Follow InParens v = EndsPost v
Follow Unary v = EndsPost v
Follow (Expr l) v = EndsLevel l v
Follow (Rest l) v = EndsLevel l v
Follow Args v = begins (Marked CloseParen) v ≡ true
Follow MoreArgs v = begins (Marked CloseParen) v ≡ true
Follow TextOrExpr v = EndsExpr v
Follow Params v = begins (Marked CloseParen) v ≡ true
Follow (MoreParams k) v = begins (Marked CloseParen) v ≡ true
Follow Sharing v = begins (Marked OpenBrace) v ≡ true
Follow MoreRels v = begins (Marked OpenBrace) v ≡ true
Follow (ListOf k) v = begins (Marked OpenBrace) v ≡ true
Follow MoreNames v = begins (Marked OpenBrace) v ≡ true
Follow (Members k n) v = begins (Marked CloseBrace) v ≡ true
Follow Tops v = begins End v ≡ true
Follow _ v = Unit {0}

-- each symbol has what must come behind it, and the end of the file comes last
unfoldable pub Tidy : List Symbol → Type 0
Tidy [] = ⊥
Tidy (EndOfFile ∷ []) = Unit {0}
Tidy (EndOfFile ∷ x ∷ below) = ⊥
Tidy (x ∷ below) = Follow x (finish below) × Tidy below

pub close_is : (v : List Lexeme) → begins (Marked CloseParen) v ≡ true → EndsExpr v
close_is [] h = absurd (never h)
close_is (t ∷ ts) h = by_word t.word h
  where
    by_word : (k : Word) → is_word (Marked CloseParen) k ≡ true → EndsExpr (lexeme k t.at ∷ ts)
    by_word (Marked CloseParen) h = paren_ends t.at ts
    by_word (Marked m) h = cc
    by_word k h = absurd (never h)

-- a symbol's act keeps the rest tidy
pub TidyAct : Act → List Symbol → Type 0
TidyAct (Takes s) below = Tidy (s ++ below)
TidyAct (Counts r s) below = Tidy (s ++ below)
TidyAct (Opens s) below = Tidy (s ++ below)
TidyAct (Closes s) below = Tidy (s ++ below)
TidyAct Leaves below = Tidy below
TidyAct Ends below = Tidy below
TidyAct Finishes below = Unit {0}
TidyAct Refuses below = Unit {0}

on_tidy : (w : Word) (a other : Act) (k : Word) (below : List Symbol) → TidyAct a below → TidyAct other below → TidyAct (on w a other k) below
on_tidy w a other k below x y = by_bool (is_word w k)
  where
    by_bool : (c : Bool) → TidyAct (if c then a else other) below
    by_bool true = x
    by_bool false = y

pub post_of : (l : Level) (v : List Lexeme) → EndsLevel l v → EndsPost v
post_of level_.Product v a = a.post
post_of level_.Sum v a = a.below.post
post_of level_.Compare v a = a.below.below.post
post_of level_.Equal v a = a.below.below.below.post
post_of level_.And v a = a.below.below.below.below.post
post_of level_.Or v a = a.below.below.below.below.below.post

-- what an expression of a level expects behind its first operand
rests_tidy : (l : Level) (below : List Symbol) → EndsLevel l (finish below) → Tidy below → Tidy (rests l ++ below)
unfolding Tidy Follow finish word
rests_tidy level_.Product below a t = (a, t)
rests_tidy level_.Sum below a t = (a.below, (a, t))
rests_tidy level_.Compare below a t = (a.below.below, (a.below, (a, t)))
rests_tidy level_.Equal below a t = (a.below.below.below, (a.below.below, (a.below, (a, t))))
rests_tidy level_.And below a t = (a.below.below.below.below, (a.below.below.below, (a.below.below, (a.below, (a, t)))))
rests_tidy level_.Or below a t = (a.below.below.below.below.below, (a.below.below.below.below, (a.below.below.below, (a.below.below, (a.below, (a, t))))))

linked_tidy : (l : Level) (below : List Symbol) → EndsLevel l (finish below) → Tidy below → Tidy (linked l ++ below)
unfolding Tidy Follow finish word
linked_tidy level_.Product below a t = (a.post, (a, t))
linked_tidy level_.Sum below a t = (a.below, (a, t))
linked_tidy level_.Compare below a t = (a.below, t)
linked_tidy level_.Equal below a t = (a.below, t)
linked_tidy level_.And below a t = (a.below, (a, t))
linked_tidy level_.Or below a t = (a.below, (a, t))

term_ends_paren : (v : List Lexeme) → EndsTerm (lexeme (Marked OpenParen) nowhere ∷ v)
term_ends_paren v = record { names = record { dot = refl; bang = refl }; bracket = refl }

term_ends_bracket : (v : List Lexeme) → EndsTerm (lexeme (Marked CloseBracket) nowhere ∷ v)
term_ends_bracket v = record { names = record { dot = refl; bang = refl }; bracket = refl }

view_ends_paren : (v : List Lexeme) → EndsView (lexeme (Marked CloseParen) nowhere ∷ v)
view_ends_paren v = record { term = record { names = record { dot = refl; bang = refl }; bracket = refl }; mask = refl }

-- a unary operator, operand or "(" with z behind
unary_tidy : (k : Word) (z : List Symbol) → EndsPost (finish z) → Tidy z → TidyAct (does Unary k) z
unfolding TidyAct Tidy Follow finish word
unary_tidy (Number v) z a t = (a, t)
unary_tidy (Named_ x) z a t = (a, t)
unary_tidy (Key True) z a t = (a, t)
unary_tidy (Key False) z a t = (a, t)
unary_tidy (Key Null) z a t = (a, t)
unary_tidy (Key This) z a t = (a, t)
unary_tidy (Key New) z a t = (term_ends_paren _, (tt, (a, t)))
unary_tidy (Key Super) z a t = (tt, (a, t))
unary_tidy (Marked OpenParen) z a t = (a, t)
unary_tidy (Marked Bang) z a t = (a, (tt, t))
unary_tidy (Marked Minus) z a t = (a, (tt, t))
unary_tidy (Marked m) z a t = tt
unary_tidy (Key k) z a t = tt
unary_tidy k z a t = tt

rests_end : (l : Level) (below : List Symbol) → EndsPost (finish below) → EndsPost (finish (rests l ++ below))
unfolding finish word
rests_end level_.Product below a = a
rests_end level_.Sum below a = a
rests_end level_.Compare below a = a
rests_end level_.Equal below a = a
rests_end level_.And below a = a
rests_end level_.Or below a = a

-- an expression of the level: as its first operand
expr_tidy : (l : Level) (k : Word) (below : List Symbol) → EndsLevel l (finish below) → Tidy below → TidyAct (does (Expr l) k) below
unfolding TidyAct
expr_tidy l k below a t = by_word k (rests_end l below (post_of l (finish below) a)) (rests_tidy l below a t)
  where
    by_word : (k : Word) → EndsPost (finish (rests l ++ below)) → Tidy (rests l ++ below) → TidyAct (does (Expr l) k) below
    by_word (Number v) a t = unary_tidy (Number v) (rests l ++ below) a t
    by_word (Named_ x) a t = unary_tidy (Named_ x) (rests l ++ below) a t
    by_word (Key True) a t = unary_tidy (Key True) (rests l ++ below) a t
    by_word (Key False) a t = unary_tidy (Key False) (rests l ++ below) a t
    by_word (Key Null) a t = unary_tidy (Key Null) (rests l ++ below) a t
    by_word (Key This) a t = unary_tidy (Key This) (rests l ++ below) a t
    by_word (Key New) a t = unary_tidy (Key New) (rests l ++ below) a t
    by_word (Key Super) a t = unary_tidy (Key Super) (rests l ++ below) a t
    by_word (Marked OpenParen) a t = unary_tidy (Marked OpenParen) (rests l ++ below) a t
    by_word (Marked Bang) a t = unary_tidy (Marked Bang) (rests l ++ below) a t
    by_word (Marked Minus) a t = unary_tidy (Marked Minus) (rests l ++ below) a t
    by_word (Marked m) a t = tt
    by_word (Key k) a t = tt
    by_word k a t = tt

-- an expression with z behind, at a symbol that begins as it does
first_tidy : (k : Word) (z : List Symbol) → EndsExpr (finish z) → Tidy z → TidyAct (does (Expr level_.Or) k) z
first_tidy k z a t = expr_tidy level_.Or k z a t

in_parens_tidy : (k : Word) (below : List Symbol) → EndsPost (finish below) → Tidy below → TidyAct (does InParens k) below
unfolding TidyAct Tidy Follow finish word
in_parens_tidy (Key ViewKey) below f t = (view_ends_paren _, (refl, (f, (tt, t))))
in_parens_tidy k below f t = by_word k (first_tidy k (Shuts (Marked CloseParen) ∷ Suffixes ∷ below) (paren_ends nowhere (finish below)) (refl, (f, t)))
  where
    by_word : (k : Word) → TidyAct (does (Expr level_.Or) k) (Shuts (Marked CloseParen) ∷ Suffixes ∷ below) → TidyAct (does InParens k) below
    by_word (Key ViewKey) t' = (view_ends_paren _, (refl, (f, (tt, t))))
    by_word (Key True) t = t
    by_word (Key False) t = t
    by_word (Key Null) t = t
    by_word (Key This) t = t
    by_word (Key New) t = t
    by_word (Key Super) t = t
    by_word (Marked OpenParen) t = t
    by_word (Marked Bang) t = t
    by_word (Marked Minus) t = t
    by_word (Marked m) t = tt
    by_word (Key k) t = tt
    by_word (Number v) t = t
    by_word (Named_ x) t = t
    by_word k t = tt

args_tidy : (k : Word) (below : List Symbol) → begins (Marked CloseParen) (finish below) ≡ true → Tidy below → TidyAct (does Args k) below
unfolding TidyAct Tidy Follow finish word
args_tidy k below f t = by_word k (first_tidy k (MoreArgs ∷ below) (close_is (finish below) f) (f, t))
  where
    by_word : (k : Word) → TidyAct (does (Expr level_.Or) k) (MoreArgs ∷ below) → TidyAct (does Args k) below
    by_word (Marked CloseParen) t' = t
    by_word (Key True) t = t
    by_word (Key False) t = t
    by_word (Key Null) t = t
    by_word (Key This) t = t
    by_word (Key New) t = t
    by_word (Key Super) t = t
    by_word (Marked OpenParen) t = t
    by_word (Marked Bang) t = t
    by_word (Marked Minus) t = t
    by_word (Marked m) t = tt
    by_word (Key k) t = tt
    by_word (Number v) t = t
    by_word (Named_ x) t = t
    by_word k t = tt

rest_tidy : (l : Level) (k : Word) (below : List Symbol) → EndsLevel l (finish below) → Tidy below → TidyAct (does (Rest l) k) below
unfolding TidyAct
rest_tidy l k below f t = by_operator (operator l k)
  where
    by_operator : (o : Option Op) → TidyAct (on_operator (Takes (linked l)) o) below
    by_operator (Some o) = linked_tidy l below f t
    by_operator None = t

-- ---- statements and declarations

semicolon_ends : (v : List Lexeme) → EndsExpr (lexeme (Marked Semicolon) nowhere ∷ v)
semicolon_ends v = record { below = record { below = record { below = record { below = record { below = record { post = record { dot = refl; open_paren = refl }; product = refl }; sum = refl }; compare = refl }; equal = refl }; and = refl }; or = refl }

name_ends_term : (v : List Lexeme) → EndsTerm (lexeme some_name nowhere ∷ v)
name_ends_term v = record { names = record { dot = refl; bang = refl }; bracket = refl }

name_ends_type : (v : List Lexeme) → EndsType (lexeme some_name nowhere ∷ v)
name_ends_type v = record { view = record { term = name_ends_term v; mask = refl }; ampersand = refl }

value_tidy : (b : Body) (below : List Symbol) → Tidy below → Tidy (value b ++ below)
unfolding Tidy Follow finish word
value_tidy b below t = (semicolon_ends _, (refl, (tt, t)))

local_value_tidy : (b : Body) (below : List Symbol) → Tidy below → Tidy (local_value b ++ below)
unfolding Tidy Follow finish word
local_value_tidy b below t = (refl, (semicolon_ends _, (refl, (tt, t))))

local_end_tidy : (b : Body) (below : List Symbol) → Tidy below → Tidy (local_end b ++ below)
unfolding Tidy Follow finish word
local_end_tidy b below t = (tt, local_value_tidy b below t)

type_rest_tidy : (b : Body) (below : List Symbol) → Tidy below → Tidy (type_rest b ++ below)
unfolding Tidy Follow finish word
type_rest_tidy b below t = ((name_ends_term _, refl), (refl, local_end_tidy b below t))

behind_tidy : (used : ℕ) (blocks : List Bool) (below : List Symbol) → Tidy below → Tidy (behind_block used blocks ++ below)
unfolding Tidy Follow finish word
behind_tidy used [] below t = t
behind_tidy used (true ∷ blocks) below t = (tt, t)
behind_tidy used (false ∷ blocks) below t = (tt, t)

stmts_tidy : (b : Body) (k : Word) (below : List Symbol) → Tidy below → TidyAct (on_stmts b k) below
unfolding TidyAct Tidy Follow finish word
stmts_tidy b (Marked CloseBrace) below t = behind_tidy b.used b.blocks below t
stmts_tidy b (Marked OpenBrace) below t = (tt, t)
stmts_tidy b (Marked OpenParen) below t = (paren_ends nowhere _, (refl, (tt, t)))
stmts_tidy b (Marked m) below t = tt
stmts_tidy b (Key Final) below t = (name_ends_type _, local_end_tidy b below t)
stmts_tidy b (Key Int) below t = local_end_tidy b below t
stmts_tidy b (Key Boolean) below t = local_end_tidy b below t
stmts_tidy b (Key If) below t = (tt, (tt, t))
stmts_tidy b (Key While) below t = (tt, (tt, t))
stmts_tidy b (Key Return) below t = (tt, (tt, t))
stmts_tidy b (Key Print) below t = (tt, (tt, t))
stmts_tidy b (Key This) below t = (tt, t)
stmts_tidy b (Key New) below t = (term_ends_paren _, (tt, (tt, t)))
stmts_tidy b (Key Super) below t = (tt, (tt, t))
stmts_tidy b (Key True) below t = (tt, t)
stmts_tidy b (Key False) below t = (tt, t)
stmts_tidy b (Key Null) below t = (tt, t)
stmts_tidy b (Key k) below t = tt
stmts_tidy b (Named_ x) below t = (tt, t)
stmts_tidy b (Number v) below t = (tt, t)
stmts_tidy b k below t = tt

may_else_tidy : (b : Body) (k : Word) (below : List Symbol) → Tidy below → TidyAct (does (MayElse b) k) below
unfolding TidyAct Tidy Follow finish word
may_else_tidy b (Key Else) below t = (tt, t)
may_else_tidy b k below t = by_word k (stmts_tidy b k below t)
  where
    by_word : (k : Word) → TidyAct (on_stmts b k) below → TidyAct (does (MayElse b) k) below
    by_word (Key Else) u = (tt, t)
    by_word (Key k) u = u
    by_word k u = u

after_path_tidy : (b : Body) (k : Word) (below : List Symbol) → Tidy below → TidyAct (after_path b k) below
unfolding TidyAct Tidy Follow finish word
after_path_tidy b (Named_ x) below t = local_value_tidy b below t
after_path_tidy b (Marked Bang) below t = (refl, type_rest_tidy b below t)
after_path_tidy b (Marked OpenBracket) below t = (tt, (refl, (refl, (refl, (record { dot = refl; bang = refl }, type_rest_tidy b below t)))))
after_path_tidy b (Marked Ampersand) below t = (name_ends_term _, ((name_ends_term _, refl), (refl, local_end_tidy b below t)))
after_path_tidy b (Marked Backslash) below t = (tt, (refl, local_end_tidy b below t))
after_path_tidy b (Marked Equals) below t = value_tidy b below t
after_path_tidy b (Marked m) below t = tt
after_path_tidy b k below t = tt

path_tidy : (b : Body) (k : Word) (below : List Symbol) → Tidy below → TidyAct (does (FirstName b) k) below × TidyAct (does (OneName b) k) below × TidyAct (does (Path b) k) below
unfolding TidyAct Tidy Follow finish word
path_tidy b k below t = by_word k (after_path_tidy b k below t)
  where
    by_word : (k : Word) → TidyAct (after_path b k) below → TidyAct (does (FirstName b) k) below × TidyAct (does (OneName b) k) below × TidyAct (does (Path b) k) below
    by_word (Marked Dot) u = ((tt, t), (tt, t), (tt, t))
    by_word (Marked OpenParen) u = (u, u, (refl, (refl, (tt, t))))
    by_word (Marked m) u = (u, u, u)
    by_word k u = (u, u, u)

-- an expression in parentheses or in front of a ";"
expr_then : (k : Word) (z : List Symbol) → EndsExpr (finish z) → Tidy z → TidyAct (on_expr k) z
unfolding TidyAct
expr_then k z a t = by_word k (first_tidy k z a t)
  where
    by_word : (k : Word) → TidyAct (does (Expr level_.Or) k) z → TidyAct (on_expr k) z
    by_word (Key k) u = u
    by_word (Marked m) u = u
    by_word k u = u

returned_tidy : (k : Word) (below : List Symbol) → Tidy below → TidyAct (does Returned k) below
unfolding TidyAct Tidy Follow finish word
returned_tidy k below t = by_word k (expr_then k (Expects (Marked Semicolon) ∷ below) (semicolon_ends _) (refl, t))
  where
    by_word : (k : Word) → TidyAct (on_expr k) (Expects (Marked Semicolon) ∷ below) → TidyAct (does Returned k) below
    by_word (Marked Semicolon) u = t
    by_word (Marked OpenParen) u = u
    by_word (Marked Bang) u = u
    by_word (Marked Minus) u = u
    by_word (Marked m) u = tt
    by_word (Key True) u = u
    by_word (Key False) u = u
    by_word (Key Null) u = u
    by_word (Key This) u = u
    by_word (Key New) u = u
    by_word (Key Super) u = u
    by_word (Key k) u = tt
    by_word (Number v) u = u
    by_word (Named_ x) u = u
    by_word k u = tt

shown_tidy : (k : Word) (below : List Symbol) → EndsExpr (finish below) → Tidy below → TidyAct (does TextOrExpr k) below
unfolding TidyAct
shown_tidy k below a t = by_word k (expr_then k below a t)
  where
    by_word : (k : Word) → TidyAct (on_expr k) below → TidyAct (does TextOrExpr k) below
    by_word (Text n) u = t
    by_word (Key k) u = u
    by_word (Marked m) u = u
    by_word k u = u

-- a type and what stands behind it, which begins with a name
type_then : (k : Word) (z : List Symbol) → EndsType (finish z) → Tidy z → TidyAct (on_type k) z
unfolding TidyAct Tidy Follow finish word
type_then (Key Int) z f t = t
type_then (Key Boolean) z f t = t
type_then (Named_ x) z f t = (f.view.term, ((f.view.term, f.ampersand), (f.view.mask, t)))
type_then (Key This) z f t = (refl, (refl, (f.view.term.names, ((f.view.term, f.ampersand), (f.view.mask, t)))))
type_then (Key k) z f t = tt
type_then k z f t = tt

param_tidy : (i : ℕ) (k : Word) (below : List Symbol) → Tidy below → TidyAct (on_param i k) below
unfolding TidyAct Tidy Follow finish word
param_tidy i k below t = by_word k (type_then k (NewName (Parameter i) ∷ below) (name_ends_type _) (tt, t))
  where
    by_word : (k : Word) → TidyAct (on_type k) (NewName (Parameter i) ∷ below) → TidyAct (on_param i k) below
    by_word (Key Final) u = (name_ends_type _, (tt, t))
    by_word (Key Int) u = u
    by_word (Key Boolean) u = u
    by_word (Key This) u = u
    by_word (Key k) u = tt
    by_word (Named_ x) u = u
    by_word k u = tt

params_tidy : (k : Word) (below : List Symbol) → begins (Marked CloseParen) (finish below) ≡ true → Tidy below → TidyAct (does Params k) below
unfolding TidyAct Tidy Follow finish word
params_tidy k below f t = by_word k (param_tidy 1 k (MoreParams 2 ∷ below) (f, t))
  where
    by_word : (k : Word) → TidyAct (on_param 1 k) (MoreParams 2 ∷ below) → TidyAct (does Params k) below
    by_word (Marked CloseParen) u = t
    by_word (Marked m) u = tt
    by_word (Key Final) u = u
    by_word (Key Int) u = u
    by_word (Key Boolean) u = u
    by_word (Key This) u = u
    by_word (Key k) u = tt
    by_word (Named_ x) u = u
    by_word k u = tt

-- a "{" and more
brace_no_comma : (v : List Lexeme) → begins (Marked OpenBrace) v ≡ true → EndsView v
brace_no_comma [] h = absurd (never h)
brace_no_comma (t ∷ ts) h = by_word t.word h
  where
    by_word : (k : Word) → is_word (Marked OpenBrace) k ≡ true → EndsView (lexeme k t.at ∷ ts)
    by_word (Marked OpenBrace) h = record { term = record { names = record { dot = refl; bang = refl }; bracket = refl }; mask = refl }
    by_word (Marked m) h = cc
    by_word k h = absurd (never h)

rel_tidy : (below : List Symbol) → begins (Marked OpenBrace) (finish below) ≡ true → Tidy below → Tidy (View ∷ Expects (Marked Arrow) ∷ View ∷ MoreRels ∷ below)
unfolding Tidy Follow finish word
rel_tidy below f t = (record { term = record { names = record { dot = refl; bang = refl }; bracket = refl }; mask = refl }, (refl, (brace_no_comma (finish below) f, (f, t))))

inner_rest_tidy : (k : Kind) (i : ℕ) (below : List Symbol) → Tidy below → Tidy (inner_rest k i ++ below)
unfolding Tidy Follow finish word
inner_rest_tidy k i below t = (tt, (refl, (refl, (tt, t))))

member_tidy : (k : Kind) (i : ℕ) (w : Word) (below : List Symbol) → Tidy below → TidyAct (on_member k i w) below
unfolding TidyAct Tidy Follow finish word
member_tidy k i w below t = by_word k w (type_then w (AName ∷ SlotOrMethod ∷ below) (name_ends_type _) (tt, (tt, t)))
  where
    by_word : (k : Kind) (w : Word) → TidyAct (on_type w) (AName ∷ SlotOrMethod ∷ below) → TidyAct (on_member k i w) below
    by_word k (Key Class) u = inner_rest_tidy kind.Class i below t
    by_word k (Key Package) u = inner_rest_tidy kind.Package i below t
    by_word kind.Class (Key Void) u = (tt, (tt, t))
    by_word kind.Class (Key Int) u = u
    by_word kind.Class (Key Boolean) u = u
    by_word kind.Class (Key This) u = u
    by_word kind.Class (Key w) u = tt
    by_word kind.Class (Named_ x) u = u
    by_word kind.Class w u = tt
    by_word kind.Package (Key w) u = tt
    by_word kind.Package w u = tt

members_tidy : (k : Kind) (i : ℕ) (w : Word) (below : List Symbol) → begins (Marked CloseBrace) (finish below) ≡ true → Tidy below → TidyAct (does (Members k i) w) below
unfolding TidyAct Tidy Follow finish word
members_tidy k i w below f t = by_word k w (member_tidy k i w (Members k i ∷ below) (f, t))
  where
    by_word : (j : Kind) (w : Word) → TidyAct (on_member j i w) (Members j i ∷ below) → TidyAct (does (Members j i) w) below
    by_word j (Marked CloseBrace) u = t
    by_word kind.Class (Marked m) u = tt
    by_word kind.Package (Marked m) u = tt
    by_word j (Key Class) u = u
    by_word j (Key Package) u = u
    by_word kind.Class (Key Void) u = u
    by_word kind.Class (Key Int) u = u
    by_word kind.Class (Key Boolean) u = u
    by_word kind.Class (Key This) u = u
    by_word kind.Class (Key w) u = tt
    by_word kind.Class (Named_ x) u = u
    by_word kind.Class w u = tt
    by_word kind.Package (Key w) u = tt
    by_word kind.Package w u = tt

-- THE TABLE KEEPS WHAT IS EXPECTED TIDY
pub does_tidy : (x : Symbol) (k : Word) (below : List Symbol) → Follow x (finish below) → Tidy below → TidyAct (does x k) below
unfolding TidyAct Tidy Follow finish word
does_tidy (Expects w) k below f t = on_tidy w (Takes []) Refuses k below t tt
does_tidy (Shuts w) k below f t = on_tidy w (Closes []) Refuses k below t tt
does_tidy AName (Named_ x) below f t = t
does_tidy AName k below f t = tt
does_tidy Dots k below f t = on_tidy (Marked Dot) (Takes (AName ∷ Dots ∷ [])) Leaves k below (tt, (f, t)) t
does_tidy MayBang k below f t = on_tidy (Marked Bang) (Takes (Dots ∷ [])) Leaves k below (f.dot, t) t
does_tidy Tail k below f t = on_tidy (Marked Dot) (Takes (Names ∷ [])) Leaves k below (f, t) t
does_tidy Names (Named_ x) below f t = (f.dot, (f, t))
does_tidy Names k below f t = tt
does_tidy Term (Named_ x) below f t = (f, t)
does_tidy Term (Key This) below f t = (refl, (refl, (f.names, t)))
does_tidy Term k below f t = tt
does_tidy AfterName (Marked Dot) below f t = (f, t)
does_tidy AfterName (Marked Bang) below f t = (f.names.dot, t)
does_tidy AfterName (Marked OpenBracket) below f t = (tt, (refl, (refl, (refl, (f.names, t)))))
does_tidy AfterName (Marked m) below f t = t
does_tidy AfterName k below f t = t
does_tidy NameOrClass (Named_ x) below f t = (f.names.dot, (f, t))
does_tidy NameOrClass (Key Class) below f t = (f.names, t)
does_tidy NameOrClass k below f t = tt
does_tidy AfterNames (Marked Bang) below f t = (f.names.dot, t)
does_tidy AfterNames (Marked OpenBracket) below f t = (tt, (refl, (refl, (refl, (f.names, t)))))
does_tidy AfterNames (Marked m) below f t = t
does_tidy AfterNames k below f t = t
does_tidy Ref (Named_ x) below f t = t
does_tidy Ref (Key This) below f t = t
does_tidy Ref k below f t = tt
does_tidy Masks k below f t = on_tidy (Marked Backslash) (Takes (AName ∷ Masks ∷ [])) Leaves k below (tt, (f, t)) t
does_tidy View (Named_ x) below f t = (f.term, (f.mask, t))
does_tidy View (Key This) below f t = (refl, (refl, (f.term.names, (f.mask, t))))
does_tidy View k below f t = tt
does_tidy Type_ (Key Int) below f t = t
does_tidy Type_ (Key Boolean) below f t = t
does_tidy Type_ (Named_ x) below f t = (f.view.term, ((f.view.term, f.ampersand), (f.view.mask, t)))
does_tidy Type_ (Key This) below f t = (refl, (refl, (f.view.term.names, ((f.view.term, f.ampersand), (f.view.mask, t)))))
does_tidy Type_ k below f t = tt
does_tidy (Atom i) (Named_ x) below f t = (f, t)
does_tidy (Atom i) (Key This) below f t = (refl, (refl, (f.names, t)))
does_tidy (Atom i) k below f t = tt
does_tidy (Atoms i) k below f t = on_tidy (Marked Ampersand) (Takes (Atom i ∷ Atoms (suc i) ∷ [])) Leaves k below (f.0, (f, t)) t
does_tidy Prim (Number v) below f t = t
does_tidy Prim (Named_ x) below f t = t
does_tidy Prim (Key True) below f t = t
does_tidy Prim (Key False) below f t = t
does_tidy Prim (Key Null) below f t = t
does_tidy Prim (Key This) below f t = t
does_tidy Prim (Key New) below f t = (term_ends_paren _, (tt, t))
does_tidy Prim (Key Super) below f t = (tt, t)
does_tidy Prim (Marked OpenParen) below f t = (paren_ends nowhere _, (refl, t))
does_tidy Prim k below f t = tt
does_tidy Suffixes k below f t = on_tidy (Marked Dot) (Takes (SuffixName ∷ Suffixes ∷ [])) Leaves k below (f.open_paren, (f, t)) t
does_tidy SuffixName (Named_ x) below f t = (f, t)
does_tidy SuffixName k below f t = tt
does_tidy MayCall k below f t = on_tidy (Marked OpenParen) (Opens (Args ∷ Shuts (Marked CloseParen) ∷ [])) Leaves k below (refl, (refl, t)) t
does_tidy Post (Number v) below f t = (f, t)
does_tidy Post (Named_ x) below f t = (f, t)
does_tidy Post (Key True) below f t = (f, t)
does_tidy Post (Key False) below f t = (f, t)
does_tidy Post (Key Null) below f t = (f, t)
does_tidy Post (Key This) below f t = (f, t)
does_tidy Post (Key New) below f t = (term_ends_paren _, (tt, (f, t)))
does_tidy Post (Key Super) below f t = (tt, (f, t))
does_tidy Post (Marked OpenParen) below f t = (paren_ends nowhere _, (refl, (f, t)))
does_tidy Post k below f t = tt
does_tidy InParens k below f t = in_parens_tidy k below f t
does_tidy Unary k below f t = unary_tidy k below f t
does_tidy OperandEnd k below f t = t
does_tidy (Expr l) k below f t = expr_tidy l k below f t
does_tidy (Rest l) k below f t = rest_tidy l k below f t
does_tidy CallArgs k below f t = on_tidy (Marked OpenParen) (Opens (Args ∷ Shuts (Marked CloseParen) ∷ [])) Refuses k below (refl, (refl, t)) tt
does_tidy Args k below f t = args_tidy k below f t
does_tidy MoreArgs k below f t = on_tidy (Marked Comma) (Takes (Expr level_.Or ∷ MoreArgs ∷ [])) Leaves k below (close_is (finish below) f, (f, t)) t
does_tidy SuperTerm k below f t = on_tidy (Marked OpenBracket) (Opens (Term ∷ Shuts (Marked CloseBracket) ∷ Expects (Marked Dot) ∷ AName ∷ CallArgs ∷ [])) Refuses k below (term_ends_bracket _, (refl, (refl, (tt, (tt, t))))) tt
does_tidy (Stmts b) k below f t = stmts_tidy b k below t
does_tidy (MayElse b) k below f t = may_else_tidy b k below t
does_tidy (FirstName b) k below f t = (path_tidy b k below t).0
does_tidy (OneName b) k below f t = (path_tidy b k below t).1
does_tidy (Path b) k below f t = (path_tidy b k below t).2
does_tidy (NameOrClassPart b) (Named_ x) below f t = (tt, t)
does_tidy (NameOrClassPart b) (Key Class) below f t = (record { dot = refl; bang = refl }, type_rest_tidy b below t)
does_tidy (NameOrClassPart b) k below f t = tt
does_tidy (PathName b) (Named_ x) below f t = (tt, t)
does_tidy (PathName b) k below f t = tt
does_tidy (AfterThis b) k below f t = on_tidy (Marked Dot) (Takes (ThisPart b ∷ [])) Refuses k below (tt, t) tt
does_tidy (ThisPart b) (Named_ x) below f t = (tt, t)
does_tidy (ThisPart b) (Key Class) below f t = (record { dot = refl; bang = refl }, type_rest_tidy b below t)
does_tidy (ThisPart b) k below f t = tt
does_tidy (Bare b) k below f t = on_tidy (Marked Dot) (Takes (PartName b ∷ [])) Refuses k below (tt, t) tt
does_tidy (PartName b) (Named_ x) below f t = (tt, t)
does_tidy (PartName b) k below f t = tt
does_tidy (AfterPart b) (Marked Dot) below f t = (tt, t)
does_tidy (AfterPart b) (Marked Equals) below f t = value_tidy b below t
does_tidy (AfterPart b) (Marked OpenParen) below f t = (refl, (refl, (tt, t)))
does_tidy (AfterPart b) k below f t = tt
does_tidy (AfterCall b) (Marked Dot) below f t = (tt, t)
does_tidy (AfterCall b) (Marked Semicolon) below f t = (tt, t)
does_tidy (AfterCall b) k below f t = tt
does_tidy (Block e b) k below f t = on_tidy (Marked OpenBrace) (Opens (Stmts (deeper e b) ∷ [])) Refuses k below (tt, t) tt
does_tidy Test k below f t = on_tidy (Marked OpenParen) (Opens (Expr level_.Or ∷ Shuts (Marked CloseParen) ∷ [])) Refuses k below (paren_ends nowhere _, (refl, t)) tt
does_tidy Returned k below f t = returned_tidy k below t
does_tidy Printed k below f t = on_tidy (Marked OpenParen) (Opens (TextOrExpr ∷ Shuts (Marked CloseParen) ∷ Expects (Marked Semicolon) ∷ [])) Refuses k below (paren_ends nowhere _, (refl, (refl, t))) tt
does_tidy TextOrExpr k below f t = shown_tidy k below f t
does_tidy (NewName r) (Named_ x) below f t = t
does_tidy (NewName r) k below f t = tt
does_tidy Params k below f t = params_tidy k below f t
does_tidy (Param i) k below f t = param_tidy i k below t
does_tidy (MoreParams i) k below f t = on_tidy (Marked Comma) (Takes (Param i ∷ MoreParams (suc i) ∷ [])) Leaves k below (tt, (f, t)) t
does_tidy Sharing k below f t = on_tidy (Key SharingKey) (Takes (View ∷ Expects (Marked Arrow) ∷ View ∷ MoreRels ∷ [])) Leaves k below (rel_tidy below f t) t
does_tidy MoreRels k below f t = on_tidy (Marked Comma) (Takes (View ∷ Expects (Marked Arrow) ∷ View ∷ MoreRels ∷ [])) Leaves k below (rel_tidy below f t) t
does_tidy (ListOf i) k below f t = on_tidy (Key i) (Takes (AName ∷ MoreNames ∷ [])) Leaves k below (tt, (f, t)) t
does_tidy MoreNames k below f t = on_tidy (Marked Ampersand) (Takes (AName ∷ MoreNames ∷ [])) Leaves k below (tt, (f, t)) t
does_tidy (Members i n) k below f t = members_tidy i n k below f t
does_tidy (DeclBody i n) k below f t = on_tidy (Marked OpenBrace) (Opens (Members i n ∷ Shuts (Marked CloseBrace) ∷ [])) Refuses k below (refl, (refl, t)) tt
does_tidy SlotOrMethod (Marked Semicolon) below f t = t
does_tidy SlotOrMethod (Marked OpenParen) below f t = (refl, (refl, (refl, (tt, t))))
does_tidy SlotOrMethod k below f t = tt
does_tidy MethodOpen k below f t = on_tidy (Marked OpenParen) (Opens (Params ∷ Shuts (Marked CloseParen) ∷ Sharing ∷ MethodBody ∷ [])) Refuses k below (refl, (refl, (refl, (tt, t)))) tt
does_tidy MethodBody k below f t = on_tidy (Marked OpenBrace) (Opens (Stmts (record { used = 0; blocks = [] }) ∷ [])) Refuses k below (tt, t) tt
does_tidy Tops End below f t = t
does_tidy Tops (Key Class) below f t = (tt, (refl, (refl, (tt, (f, t)))))
does_tidy Tops (Key Package) below f t = (tt, (refl, (refl, (tt, (f, t)))))
does_tidy Tops k below f t = tt
does_tidy EndOfFile k below f t = on_tidy End Finishes Refuses k below tt tt

unfoldable pub TidyState : State → Type 0
TidyState (Going n expected) = Tidy expected
TidyState Done = Unit {0}
TidyState (Fails f) = Unit {0}

opened_tidy : (n : ℕ) (s : List Symbol) (left : ℕ) → Tidy s → TidyState (opened n s left)
unfolding TidyState
opened_tidy zero s left t = tt
opened_tidy (suc n) s left t = t

counts_tidy : (k : Option Limit) (n : ℕ) (s : List Symbol) (left : ℕ) → Tidy s → TidyState (counts_by k n s left)
unfolding TidyState
counts_tidy (Some k) n s left t = tt
counts_tidy None n s left t = t

led_tidy : (s : Bool) (a : Act) (n : ℕ) (below : List Symbol) (left : ℕ) (others : ℕ → State) → TidyAct a below → (Tidy below → (m : ℕ) → TidyState (others m)) → TidyState (led s a n below left others)
unfolding TidyState TidyAct
led_tidy s (Takes z) n below left others t h = t
led_tidy s (Counts r z) n below left others t h = counts_tidy _ n (z ++ below) left t
led_tidy s (Opens z) n below left others t h = opened_tidy n (z ++ below) left t
led_tidy s (Closes z) n below left others t h = t
led_tidy s Leaves n below left others t h = h t n
led_tidy s Ends n below left others t h = h t (suc n)
led_tidy s Finishes n below left others t h = tt
led_tidy s Refuses n below left others t h = tt

-- the end of the file stands last, and leaves no word to what is below
pub end_step : (s : Bool) (n : ℕ) (below : List Symbol) (k : Word) (left : ℕ) → TidyState (step s (EndOfFile ∷ below) n k left)
unfolding TidyState
end_step s n below k left = by_bool (is_word End k)
  where
    by_bool : (c : Bool) → TidyState (led s (if c then Finishes else Refuses) n below left (λ m. step s below m k left))
    by_bool true = tt
    by_bool false = tt

pub parts_of : (x : Symbol) (below : List Symbol) → Tidy (x ∷ below) → (x ≡ EndOfFile) ⊎ (Follow x (finish below) × Tidy below)
unfolding Tidy
parts_of EndOfFile below t = inl refl
parts_of (Expects w) below t = inr t
parts_of x below t = inr t

pub step_tidy : (s : Bool) (expected : List Symbol) → Tidy expected → (n : ℕ) (k : Word) (left : ℕ) → TidyState (step s expected n k left)
step_tidy s [] t n k left = unfold Tidy in absurd t
step_tidy s (x ∷ below) t n k left = by_parts (parts_of x below t) (λ u m. step_tidy s below u m k left)
  where
    by_parts : (x ≡ EndOfFile) ⊎ (Follow x (finish below) × Tidy below) → (Tidy below → (m : ℕ) → TidyState (step s below m k left)) → TidyState (step s (x ∷ below) n k left)
    by_parts (inl e) h = subst (λ (y : Symbol). TidyState (step s (y ∷ below) n k left)) (sym e) (end_step s n below k left)
    by_parts (inr p) h = led_tidy s (does x k) n below left (λ m. step s below m k left) (does_tidy x k below p.0 p.1) h

pub read_tidy : (s : Bool) (ts : List Lexeme) (st : State) → TidyState st → TidyState (read s ts st)
unfolding TidyState
read_tidy s [] st t = t
read_tidy s (u ∷ ts) (Going n expected) t = read_tidy s ts (step s expected n u.word (suc (length ts))) (step_tidy s expected t n u.word (suc (length ts)))
read_tidy s (u ∷ ts) Done t = tt
read_tidy s (u ∷ ts) (Fails f) t = tt
