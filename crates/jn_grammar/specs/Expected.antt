-- What may come next: a stack of what is still expected, and how many more marks and operators may open. One step a word.
use Rattle.std.specs.Prelude.{ℕ, zero, suc, Bool, true, false, List, [], ◌∷◌, ◌++◌, length, Option, Some, None, if◌then◌else◌}
use Rattle.jn_base.specs.declared.tree.Level.{Level}
use Rattle.jn_base.specs.declared.tree.Level.TheVariants.{Or, And, Equal, Compare, Sum, Product}
use Rattle.jn_base.specs.declared.tree.Op.{Op}
use Rattle.jn_base.specs.declared.tree.Kind.{Kind}
use Rattle.jn_base.specs.declared.tree.Kind.TheVariants as kind
use Rattle.jn_base.specs.declared.refusal.Limit.{Limit}
use Rattle.jn_base.specs.declared.refusal.Limit.TheVariants.{Nesting}
use Rattle.jn_base.specs.declared.word.Keyword.{Keyword}
use Rattle.jn_base.specs.declared.word.Keyword.TheVariants.{Adapts, Boolean, Class, Else, Extends, False, Final, If, Int, New, Null, Package, Print, Return, Shares, Sharing as SharingKey, Super, This, True, View as ViewKey, Void, While}
use Rattle.jn_base.specs.declared.word.Mark.TheVariants.{Ampersand, Arrow, Backslash, Bang, CloseBrace, CloseBracket, CloseParen, Comma, Dot, Equals, Minus, OpenBrace, OpenBracket, OpenParen, Semicolon}
use Rattle.jn_base.specs.declared.word.Word.{Word}
use Rattle.jn_base.specs.declared.word.Word.TheVariants.{Name as Named_, Keyword as Key, Number, Text, Mark as Marked, End}
use Rattle.jn_base.specs.declared.word.Lexeme.{Lexeme}
use Rattle.jn_base.specs.Parts.{Role, Declares, Parameter, Local, Atom as AtomRole}
use Rattle.jn_grammar.specs.declared.fault.Fault.{Fault}
use Rattle.jn_grammar.specs.declared.fault.Fault.TheVariants.{Syntax, Passed}
use Rattle.jn_grammar.specs.Begins.{is_word}
use Rattle.jn_grammar.specs.Answers.{passed}
use Rattle.jn_grammar.specs.ReadExprs.{operator}

-- How far a method's body is: its locals so far, and the blocks that are open inside its own, the innermost first: true, where an
-- "else" may follow.
pub record Body : Type 0 where
  pub used : ℕ
  pub blocks : List Bool

abbrev pub one_more : Body → Body
one_more b = record { used = suc b.used; blocks = b.blocks }

abbrev pub deeper : Bool → Body → Body
deeper may_else b = record { used = b.used; blocks = may_else ∷ b.blocks }

pub data Symbol : Type 0 where
  -- this word, or this mark, which shuts the last that is open
  Expects Shuts : Word → Symbol
  -- names: one; more behind dots; "!" and what follows; a tail; those of a tail
  AName Dots MayBang Tail Names : Symbol
  -- terms: one; behind a name; behind a name and a dot; behind two names; a variable or "this"
  Term AfterName NameOrClass AfterNames Ref : Symbol
  -- masks, views and types; the k-th term of a type; the terms from the k-th on
  Masks View Type_ : Symbol
  Atom Atoms : ℕ → Symbol
  -- expressions: parts; the name of a part and its arguments; what stands in parentheses, with what follows them
  Prim Suffixes SuffixName MayCall Post InParens Unary OperandEnd : Symbol
  Expr Rest : Level → Symbol
  CallArgs Args MoreArgs SuperTerm : Symbol
  -- statements: the rest of a body; that behind the block of an "if"
  Stmts MayElse : Body → Symbol
  -- a statement's rest: behind a first name; behind that and a dot; behind one name, several, and these and a dot; behind "this", and a dot
  FirstName NameOrClassPart OneName Path PathName AfterThis ThisPart : Body → Symbol
  -- behind a Prim that is no name; behind a dot there; behind a field; behind a call
  Bare PartName AfterPart AfterCall : Body → Symbol
  -- a block and the rest of the body
  Block : Bool → Body → Symbol
  -- behind "if" or "while"; behind "return"; behind "print"; what is printed
  Test Returned Printed TextOrExpr : Symbol
  -- a name that is declared
  NewName : Role → Symbol
  -- parameters: those up to the ")"; the k-th; those from the k-th on
  Params : Symbol
  Param MoreParams : ℕ → Symbol
  -- constraints, and those behind one
  Sharing MoreRels : Symbol
  -- names behind the keyword, if it stands there; those behind one
  ListOf : Keyword → Symbol
  MoreNames : Symbol
  -- members of a declaration of the kind at the depth, and the body that they stand in
  Members DeclBody : Kind → ℕ → Symbol
  -- behind a type and a name; behind "void" and a name; the block of a method
  SlotOrMethod MethodOpen MethodBody : Symbol
  Tops : Symbol
  EndOfFile : Symbol

-- What a symbol does with a word.
pub data Act : Type 0 where
  -- takes it, and then expects these
  Takes : List Symbol → Act
  -- so, and it counts
  Counts : Role → List Symbol → Act
  -- takes it as one that opens, and then expects these
  Opens : List Symbol → Act
  -- takes it as the one that shuts, and then expects these
  Closes : List Symbol → Act
  -- leaves it to the next symbol; an operand that ends so is no longer open
  Leaves Ends : Act
  -- takes it as the last of all
  Finishes : Act
  Refuses : Act

-- with these behind
abbrev pub followed : Act → List Symbol → Act
followed (Takes s) more = Takes (s ++ more)
followed (Counts r s) more = Counts r (s ++ more)
followed (Opens s) more = Opens (s ++ more)
followed (Closes s) more = Refuses
followed Leaves more = Refuses
followed Ends more = Refuses
followed Finishes more = Refuses
followed Refuses more = Refuses

-- taken with what it counts
abbrev pub counted : Role → Act → Act
counted r (Takes s) = Counts r s
counted r (Counts q s) = Refuses
counted r (Opens s) = Refuses
counted r (Closes s) = Refuses
counted r Leaves = Refuses
counted r Ends = Refuses
counted r Finishes = Refuses
counted r Refuses = Refuses

-- this act on this word, and else that
abbrev pub on : Word → Act → Act → Word → Act
on w a other v = if is_word w v then a else other

abbrev pub on_name : Act → Word → Act
on_name a (Named_ x) = a
on_name a w = Refuses

abbrev pub on_ref : Word → Act
on_ref (Named_ x) = Takes []
on_ref (Key This) = Takes []
on_ref w = Refuses

-- "." "class"
abbrev pub class_word : List Symbol
class_word = Expects (Marked Dot) ∷ Expects (Key Class) ∷ []

abbrev pub on_term : Word → Act
on_term (Named_ x) = Takes (AfterName ∷ [])
on_term (Key This) = Takes (Expects (Marked Dot) ∷ Expects (Key Class) ∷ Tail ∷ [])
on_term w = Refuses

abbrev pub after_names : Word → Act
after_names (Marked Bang) = Takes (Dots ∷ [])
after_names (Marked OpenBracket) = Opens (Ref ∷ Expects (Marked Dot) ∷ Expects (Key Class) ∷ Shuts (Marked CloseBracket) ∷ Tail ∷ [])
after_names w = Leaves

abbrev pub after_name : Word → Act
after_name (Marked Dot) = Takes (NameOrClass ∷ [])
after_name w = after_names w

abbrev pub name_or_class : Word → Act
name_or_class (Named_ x) = Takes (Dots ∷ AfterNames ∷ [])
name_or_class (Key Class) = Takes (Tail ∷ [])
name_or_class w = Refuses

abbrev pub on_type : Word → Act
on_type (Key Int) = Takes []
on_type (Key Boolean) = Takes []
on_type w = followed (counted (AtomRole 1) (on_term w)) (Atoms 2 ∷ Masks ∷ [])

abbrev pub on_prim : Word → Act
on_prim (Number v) = Takes []
on_prim (Named_ x) = Takes []
on_prim (Key True) = Takes []
on_prim (Key False) = Takes []
on_prim (Key Null) = Takes []
on_prim (Key This) = Takes []
on_prim (Key New) = Takes (Term ∷ CallArgs ∷ [])
on_prim (Key Super) = Takes (SuperTerm ∷ [])
on_prim (Marked OpenParen) = Opens (Expr Or ∷ Shuts (Marked CloseParen) ∷ [])
on_prim w = Refuses

-- the operands of a level, what follows the first of them, and what follows an operator's
abbrev pub operand : Level → Symbol
operand Product = Unary
operand Sum = Expr Product
operand Compare = Expr Sum
operand Equal = Expr Compare
operand And = Expr Equal
operand Or = Expr And

abbrev pub rests : Level → List Symbol
rests Product = Rest Product ∷ []
rests Sum = Rest Product ∷ Rest Sum ∷ []
rests Compare = Rest Product ∷ Rest Sum ∷ Rest Compare ∷ []
rests Equal = Rest Product ∷ Rest Sum ∷ Rest Compare ∷ Rest Equal ∷ []
rests And = Rest Product ∷ Rest Sum ∷ Rest Compare ∷ Rest Equal ∷ Rest And ∷ []
rests Or = Rest Product ∷ Rest Sum ∷ Rest Compare ∷ Rest Equal ∷ Rest And ∷ Rest Or ∷ []

abbrev pub linked : Level → List Symbol
linked Product = Unary ∷ Rest Product ∷ []
linked Sum = Expr Product ∷ Rest Sum ∷ []
linked Compare = Expr Sum ∷ []
linked Equal = Expr Compare ∷ []
linked And = Expr Equal ∷ Rest And ∷ []
linked Or = Expr And ∷ Rest Or ∷ []

abbrev pub on_unary : Word → Act
on_unary (Marked Bang) = Opens (Unary ∷ OperandEnd ∷ [])
on_unary (Marked Minus) = Opens (Unary ∷ OperandEnd ∷ [])
on_unary (Marked OpenParen) = Opens (InParens ∷ [])
on_unary w = followed (on_prim w) (Suffixes ∷ [])

-- an expression and its ")", or a view and its operand
abbrev pub in_parens : Word → Act
in_parens (Key ViewKey) = Takes (View ∷ Expects (Marked CloseParen) ∷ Unary ∷ OperandEnd ∷ [])
in_parens w = followed (followed (on_unary w) (rests Or)) (Shuts (Marked CloseParen) ∷ Suffixes ∷ [])

abbrev pub on_operator : Act → Option Op → Act
on_operator a (Some o) = a
on_operator a None = Leaves

abbrev pub on_expr : Word → Act
on_expr w = followed (on_unary w) (rests Or)

-- ---- statements

-- Expr ";" and the rest of the body
abbrev pub value : Body → List Symbol
value b = Expr Or ∷ Expects (Marked Semicolon) ∷ Stmts b ∷ []

-- behind the name of a local, and from there on behind its type
abbrev pub local_value : Body → List Symbol
local_value b = Expects (Marked Equals) ∷ value (one_more b)

abbrev pub local_end : Body → List Symbol
local_end b = NewName (Local (suc b.used)) ∷ local_value b

-- ... behind the first term of its type
abbrev pub type_rest : Body → List Symbol
type_rest b = Atoms 2 ∷ Masks ∷ local_end b

-- "}": the body's own, or that of a block in it
abbrev pub behind_block : ℕ → List Bool → List Symbol
behind_block used [] = []
behind_block used (true ∷ blocks) = MayElse (record { used = used; blocks = blocks }) ∷ []
behind_block used (false ∷ blocks) = Stmts (record { used = used; blocks = blocks }) ∷ []

-- the arguments of a part, and what follows
abbrev pub part_args : Body → Act
part_args b = Opens (Args ∷ Shuts (Marked CloseParen) ∷ AfterCall b ∷ [])

abbrev pub on_stmts : Body → Word → Act
on_stmts b (Marked CloseBrace) = Closes (behind_block b.used b.blocks)
on_stmts b (Marked OpenBrace) = Opens (Stmts (deeper false b) ∷ [])
on_stmts b (Key Final) = Takes (Type_ ∷ local_end b)
on_stmts b (Key Int) = Takes (local_end b)
on_stmts b (Key Boolean) = Takes (local_end b)
on_stmts b (Key If) = Takes (Test ∷ Block true b ∷ [])
on_stmts b (Key While) = Takes (Test ∷ Block false b ∷ [])
on_stmts b (Key Return) = Takes (Returned ∷ Stmts b ∷ [])
on_stmts b (Key Print) = Takes (Printed ∷ Stmts b ∷ [])
on_stmts b (Key This) = Takes (AfterThis b ∷ [])
on_stmts b (Key New) = Takes (Term ∷ CallArgs ∷ AfterCall b ∷ [])
on_stmts b (Key Super) = Takes (SuperTerm ∷ AfterCall b ∷ [])
on_stmts b (Named_ x) = Takes (FirstName b ∷ [])
on_stmts b w = followed (on_prim w) (Bare b ∷ [])

-- behind names: a local whose type begins with them
abbrev pub after_path : Body → Word → Act
after_path b (Named_ x) = Counts (Local (suc b.used)) (local_value b)
after_path b (Marked Bang) = Takes (Dots ∷ type_rest b)
after_path b (Marked OpenBracket) = Opens (Ref ∷ Expects (Marked Dot) ∷ Expects (Key Class) ∷ Shuts (Marked CloseBracket) ∷ Tail ∷ type_rest b)
after_path b (Marked Ampersand) = Takes (Atom 2 ∷ Atoms 3 ∷ Masks ∷ local_end b)
after_path b (Marked Backslash) = Takes (AName ∷ Masks ∷ local_end b)
after_path b (Marked Equals) = Takes (value b)
after_path b w = Refuses

abbrev pub on_first_name : Body → Word → Act
on_first_name b (Marked Dot) = Takes (NameOrClassPart b ∷ [])
on_first_name b w = after_path b w

abbrev pub on_one_name : Body → Word → Act
on_one_name b (Marked Dot) = Takes (PathName b ∷ [])
on_one_name b w = after_path b w

abbrev pub on_path : Body → Word → Act
on_path b (Marked Dot) = Takes (PathName b ∷ [])
on_path b (Marked OpenParen) = part_args b
on_path b w = after_path b w

abbrev pub name_or_class_part : Body → Word → Act
name_or_class_part b (Named_ x) = Takes (Path b ∷ [])
name_or_class_part b (Key Class) = Takes (Tail ∷ type_rest b)
name_or_class_part b w = Refuses

abbrev pub this_part : Body → Word → Act
this_part b (Named_ x) = Takes (AfterPart b ∷ [])
this_part b (Key Class) = Takes (Tail ∷ type_rest b)
this_part b w = Refuses

abbrev pub after_part : Body → Word → Act
after_part b (Marked Dot) = Takes (PartName b ∷ [])
after_part b (Marked Equals) = Takes (value b)
after_part b (Marked OpenParen) = part_args b
after_part b w = Refuses

abbrev pub after_call : Body → Word → Act
after_call b (Marked Dot) = Takes (PartName b ∷ [])
after_call b (Marked Semicolon) = Takes (Stmts b ∷ [])
after_call b w = Refuses

-- ---- declarations

abbrev pub on_param : ℕ → Word → Act
on_param k (Key Final) = Takes (Type_ ∷ NewName (Parameter k) ∷ [])
on_param k w = followed (on_type w) (NewName (Parameter k) ∷ [])

abbrev pub a_rel : List Symbol
a_rel = View ∷ Expects (Marked Arrow) ∷ View ∷ MoreRels ∷ []

abbrev pub inner_rest : Kind → ℕ → List Symbol
inner_rest k n = NewName (Declares n) ∷ ListOf Extends ∷ ListOf Shares ∷ DeclBody k (suc n) ∷ []

abbrev pub top_rest : Kind → List Symbol
top_rest k = NewName (Declares 1) ∷ ListOf Extends ∷ ListOf Adapts ∷ DeclBody k 2 ∷ []

abbrev pub params_open : Act
params_open = Opens (Params ∷ Shuts (Marked CloseParen) ∷ Sharing ∷ MethodBody ∷ [])

abbrev pub on_member : Kind → ℕ → Word → Act
on_member k n (Key Class) = Takes (inner_rest kind.Class n)
on_member k n (Key Package) = Takes (inner_rest kind.Package n)
on_member kind.Class n (Key Void) = Takes (AName ∷ MethodOpen ∷ [])
on_member kind.Class n w = followed (on_type w) (AName ∷ SlotOrMethod ∷ [])
on_member kind.Package n w = Refuses

abbrev pub slot_or_method : Word → Act
slot_or_method (Marked Semicolon) = Takes []
slot_or_method (Marked OpenParen) = params_open
slot_or_method w = Refuses

abbrev pub on_top : Word → Act
on_top (Key Class) = Takes (top_rest kind.Class)
on_top (Key Package) = Takes (top_rest kind.Package)
on_top w = Refuses

-- THE TABLE
abbrev pub does : Symbol → Word → Act
does (Expects v) w = on v (Takes []) Refuses w
does (Shuts v) w = on v (Closes []) Refuses w
does AName w = on_name (Takes []) w
does Dots w = on (Marked Dot) (Takes (AName ∷ Dots ∷ [])) Leaves w
does MayBang w = on (Marked Bang) (Takes (Dots ∷ [])) Leaves w
does Tail w = on (Marked Dot) (Takes (Names ∷ [])) Leaves w
does Names w = on_name (Takes (Dots ∷ MayBang ∷ [])) w
does Term w = on_term w
does AfterName w = after_name w
does NameOrClass w = name_or_class w
does AfterNames w = after_names w
does Ref w = on_ref w
does Masks w = on (Marked Backslash) (Takes (AName ∷ Masks ∷ [])) Leaves w
does View w = followed (on_term w) (Masks ∷ [])
does Type_ w = on_type w
does (Atom k) w = counted (AtomRole k) (on_term w)
does (Atoms k) w = on (Marked Ampersand) (Takes (Atom k ∷ Atoms (suc k) ∷ [])) Leaves w
does Prim w = on_prim w
does Suffixes w = on (Marked Dot) (Takes (SuffixName ∷ Suffixes ∷ [])) Leaves w
does SuffixName w = on_name (Takes (MayCall ∷ [])) w
does MayCall w = on (Marked OpenParen) (Opens (Args ∷ Shuts (Marked CloseParen) ∷ [])) Leaves w
does Post w = followed (on_prim w) (Suffixes ∷ [])
does InParens w = in_parens w
does Unary w = on_unary w
does OperandEnd w = Ends
does (Expr l) w = followed (on_unary w) (rests l)
does (Rest l) w = on_operator (Takes (linked l)) (operator l w)
does CallArgs w = on (Marked OpenParen) (Opens (Args ∷ Shuts (Marked CloseParen) ∷ [])) Refuses w
does SuperTerm w = on (Marked OpenBracket) (Opens (Term ∷ Shuts (Marked CloseBracket) ∷ Expects (Marked Dot) ∷ AName ∷ CallArgs ∷ [])) Refuses w
does Args (Marked CloseParen) = Leaves
does Args w = followed (followed (on_unary w) (rests Or)) (MoreArgs ∷ [])
does MoreArgs w = on (Marked Comma) (Takes (Expr Or ∷ MoreArgs ∷ [])) Leaves w
does (Stmts b) w = on_stmts b w
does (MayElse b) (Key Else) = Takes (Block false b ∷ [])
does (MayElse b) w = on_stmts b w
does (FirstName b) w = on_first_name b w
does (NameOrClassPart b) w = name_or_class_part b w
does (OneName b) w = on_one_name b w
does (Path b) w = on_path b w
does (PathName b) w = on_name (Takes (Path b ∷ [])) w
does (AfterThis b) w = on (Marked Dot) (Takes (ThisPart b ∷ [])) Refuses w
does (ThisPart b) w = this_part b w
does (Bare b) w = on (Marked Dot) (Takes (PartName b ∷ [])) Refuses w
does (PartName b) w = on_name (Takes (AfterPart b ∷ [])) w
does (AfterPart b) w = after_part b w
does (AfterCall b) w = after_call b w
does (Block may_else b) w = on (Marked OpenBrace) (Opens (Stmts (deeper may_else b) ∷ [])) Refuses w
does Test w = on (Marked OpenParen) (Opens (Expr Or ∷ Shuts (Marked CloseParen) ∷ [])) Refuses w
does Returned (Marked Semicolon) = Takes []
does Returned w = followed (on_expr w) (Expects (Marked Semicolon) ∷ [])
does Printed w = on (Marked OpenParen) (Opens (TextOrExpr ∷ Shuts (Marked CloseParen) ∷ Expects (Marked Semicolon) ∷ [])) Refuses w
does TextOrExpr (Text n) = Takes []
does TextOrExpr w = on_expr w
does (NewName r) w = on_name (Counts r []) w
does Params (Marked CloseParen) = Leaves
does Params w = followed (on_param 1 w) (MoreParams 2 ∷ [])
does (Param k) w = on_param k w
does (MoreParams k) w = on (Marked Comma) (Takes (Param k ∷ MoreParams (suc k) ∷ [])) Leaves w
does Sharing w = on (Key SharingKey) (Takes a_rel) Leaves w
does MoreRels w = on (Marked Comma) (Takes a_rel) Leaves w
does (ListOf k) w = on (Key k) (Takes (AName ∷ MoreNames ∷ [])) Leaves w
does MoreNames w = on (Marked Ampersand) (Takes (AName ∷ MoreNames ∷ [])) Leaves w
does (Members k n) (Marked CloseBrace) = Leaves
does (Members k n) w = followed (on_member k n w) (Members k n ∷ [])
does (DeclBody k n) w = on (Marked OpenBrace) (Opens (Members k n ∷ Shuts (Marked CloseBrace) ∷ [])) Refuses w
does SlotOrMethod w = slot_or_method w
does MethodOpen w = on (Marked OpenParen) params_open Refuses w
does MethodBody w = on (Marked OpenBrace) (Opens (Stmts (record { used = 0; blocks = [] }) ∷ [])) Refuses w
does Tops End = Leaves
does Tops w = followed (on_top w) (Tops ∷ [])
does EndOfFile w = on End Finishes Refuses w

-- What there is after a word, or behind several: how many more may open and what is expected, or the fault at a word.
pub data State : Type 0 where
  Going : ℕ → List Symbol → State
  Done : State
  Fails : Fault → State

-- What an act leads to: n more may open, `below` is expected behind the symbol, `left` words stand from here to the end;
-- `others` is the answer of what is below where the symbol leaves the word.
abbrev pub opened : ℕ → List Symbol → ℕ → State
opened zero after left = Fails (Passed Nesting left)
opened (suc n) after left = Going n after

abbrev pub counts_by : Option Limit → ℕ → List Symbol → ℕ → State
counts_by (Some l) n after left = Fails (Passed l left)
counts_by None n after left = Going n after

module _ (strict : Bool) where
  abbrev pub led : Act → ℕ → List Symbol → ℕ → (ℕ → State) → State
  led (Takes s) n below left others = Going n (s ++ below)
  led (Counts r s) n below left others = counts_by (passed strict r) n (s ++ below) left
  led (Opens s) n below left others = opened n (s ++ below) left
  led (Closes s) n below left others = Going (suc n) (s ++ below)
  led Leaves n below left others = others n
  led Ends n below left others = others (suc n)
  led Finishes n below left others = Done
  led Refuses n below left others = Fails (Syntax left)

  -- one word, the first of `left` up to the end
  abbrev pub step : List Symbol → ℕ → Word → ℕ → State
  step [] n w left = Fails (Syntax left)
  step (x ∷ below) n w left = led (does x w) n below left (λ m. step below m w left)

  -- these words, one after another; nothing follows the end of the file
  abbrev pub read : List Lexeme → State → State
  read [] s = s
  read (t ∷ ts) (Going n expected) = read ts (step expected n t.word (suc (length ts)))
  read (t ∷ ts) Done = Fails (Syntax (suc (length ts)))
  read (t ∷ ts) (Fails f) = Fails f

-- what it ends with
abbrev pub ended : State → State
ended (Going n expected) = Fails (Syntax 0)
ended Done = Done
ended (Fails f) = Fails f

abbrev pub run : Bool → List Lexeme → State → State
run strict ts s = ended (read strict ts s)
