-- A nonterminal as a whole input: with the end of the file behind it, and nothing more.
use Rattle.std.specs.Prelude.{ℕ, Bool, true, List, [], ◌∷◌, ◌++◌, Ok}
use Rattle.jn_base.specs.declared.tree.Place.{Place}
use Rattle.jn_base.specs.declared.tree.Expr.{Expr as ExprTree}
use Rattle.jn_base.specs.declared.tree.TypeTerm.{TypeTerm}
use Rattle.jn_base.specs.declared.tree.ViewTerm.{ViewTerm}
use Rattle.jn_base.specs.declared.tree.Decl.{Decl}
use Rattle.jn_base.specs.declared.word.Word.TheVariants.{End}
use Rattle.jn_base.specs.declared.word.Lexeme.{Lexeme}
use Rattle.jn_base.specs.Parts.{Part, end_of_file}
use Rattle.jn_base.specs.GrammarTypes.{IsType, IsView}
use Rattle.jn_base.specs.GrammarExpr.{IsExpr}
use Rattle.jn_grammar.specs.Answers.{Answer, ◌>>=◌, here, expect}
use Rattle.jn_grammar.specs.ReadTypes.{type_in, view_in}
use Rattle.jn_grammar.specs.ReadExprs.{expr_in, level}
use Rattle.jn_grammar.specs.ReadDecls.{tops_in}
use Rattle.jn_grammar.specs.Expected.{Symbol, EndOfFile}

-- `Is p w x`: the words w, which begin at p, have the tree x.
pub data IsWhole {A : Type 0} (Is : Place → List Part → A → Type 0) : List Part → A → Type 0 where
  whole : {p : Place} (q : Place) {w : List Part} {x : A} → Is p w x → IsWhole Is (w ++ end_of_file q ∷ []) x

-- nothing more
abbrev pub last_in : {A : Type 0} → A → List Lexeme → Answer A
last_in x [] = Ok (x, [])
last_in x (t ∷ ts) = here (t ∷ ts)

-- with this reader in front of the end
unfoldable pub whole_in : {A : Type 0} → (Bool → ℕ → List Lexeme → Answer A) → Bool → ℕ → List Lexeme → Answer A
whole_in inner strict left ts = do
  x ← inner strict left ts
  z ← expect End x.1
  last_in x.0 z.1

abbrev pub first : Symbol → List Symbol
first x = x ∷ EndOfFile ∷ []

-- ---- expressions, types and views, no mark being open before them

abbrev pub IsWholeExpr : List Part → ExprTree → Type 0
IsWholeExpr = IsWhole (IsExpr 0)

abbrev pub inner_expr : Bool → ℕ → List Lexeme → Answer ExprTree
inner_expr strict left ts = expr_in (level left) ts

abbrev pub whole_expr_in : List Lexeme → Answer ExprTree
whole_expr_in = whole_in inner_expr true 200

abbrev pub IsTypeAt : Place → List Part → TypeTerm → Type 0
IsTypeAt p = IsType 0

abbrev pub IsWholeType : List Part → TypeTerm → Type 0
IsWholeType = IsWhole IsTypeAt

abbrev pub whole_type_in : List Lexeme → Answer TypeTerm
whole_type_in = whole_in type_in true 200

abbrev pub IsViewAt : Place → List Part → ViewTerm → Type 0
IsViewAt p = IsView 0

abbrev pub IsWholeView : List Part → ViewTerm → Type 0
IsWholeView = IsWhole IsViewAt

abbrev pub inner_view : Bool → ℕ → List Lexeme → Answer ViewTerm
inner_view strict left ts = view_in left ts

abbrev pub whole_view_in : List Lexeme → Answer ViewTerm
whole_view_in = whole_in inner_view true 200

-- ---- programs
abbrev pub program_in : List Lexeme → Answer (List Decl)
program_in = whole_in tops_in true 200
