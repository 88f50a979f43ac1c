-- Reading statements and blocks. `left` more marks and prefix operators may be open, and `used` locals stand before in the body.
use Rattle.std.specs.Prelude.{ℕ, zero, suc, Bool, true, false, ◌&&◌, not, List, [], ◌∷◌, length, Option, Some, None, Ok, if◌then◌else◌}
use Rattle.jn_base.specs.declared.tree.Name.{Name}
use Rattle.jn_base.specs.declared.tree.Place.{Place}
use Rattle.jn_base.specs.declared.tree.Named.{Named}
use Rattle.jn_base.specs.declared.tree.Term.{Term}
use Rattle.jn_base.specs.declared.tree.TypeTerm.{TypeTerm}
use Rattle.jn_base.specs.declared.tree.TypeTerm.TheVariants as type_term
use Rattle.jn_base.specs.declared.tree.Expr.{Expr}
use Rattle.jn_base.specs.declared.tree.Suffix.{Suffix, out-Suffix}
use Rattle.jn_base.specs.declared.tree.Stmt.{Stmt}
use Rattle.jn_base.specs.declared.tree.Stmt.TheVariants as stmt
use Rattle.jn_base.specs.declared.word.Keyword.TheVariants.{Boolean, Class, Else, Final, If, Int, New, Print, Return, Super, This, While}
use Rattle.jn_base.specs.declared.word.Mark.TheVariants.{Ampersand, CloseBrace, CloseParen, Dot, Equals, OpenBrace, OpenParen, Semicolon}
use Rattle.jn_base.specs.declared.word.Word.{Word}
use Rattle.jn_base.specs.declared.word.Word.TheVariants.{Name as Named_, Keyword as Key, Text, Mark as Marked}
use Rattle.jn_base.specs.declared.word.Lexeme.{Lexeme}
use Rattle.jn_base.specs.Parts.{Role, Local, named, posted}
pub use Rattle.jn_grammar.specs.declared.shape.Shape.{Shape}
use Rattle.jn_grammar.specs.declared.shape.Shape.TheVariants as shape
use Rattle.jn_grammar.specs.Begins.{is_word, begins, behind, nowhere}
use Rattle.jn_grammar.specs.Answers.{Answer, ◌>>=◌, here, expect, name_in, within, row}
use Rattle.jn_grammar.specs.ReadTypes.{masks_in, after_names_in, next_atom_in, type_in}
use Rattle.jn_grammar.specs.ReadExprs.{denied, level, prim_in, suffix_in, expr_in}

-- ---- what all of them share

abbrev pub is_name : Word → Bool
is_name (Named_ x) = true
is_name w = false

abbrev pub begins_name : List Lexeme → Bool
begins_name [] = false
begins_name (t ∷ ts) = is_name t.word

-- a name that is declared, with what it counts
unfoldable pub new_name_in : Bool → Role → List Lexeme → Answer Named
new_name_in strict r ts = if begins_name ts then within strict r ts (name_in ts) else here ts

-- Items as long as `more` says so, each with the count up to it; the clock is at least the number of words.
unfoldable pub counting : {A : Type 0} → (List Lexeme → Bool) → (ℕ → List Lexeme → Answer (A × ℕ)) → ℕ → ℕ → List Lexeme → Answer (List A × ℕ)
counting more item zero k ts = Ok (([], k), ts)
counting more item (suc clock) k ts = if more ts then (do
  x ← item k ts
  others ← counting more item clock x.0.1 x.1
  Ok ((x.0.0 ∷ others.0.0, others.0.1), others.1)) else Ok (([], k), ts)

-- up to a "}"
abbrev pub in_body : List Lexeme → Bool
in_body [] = false
in_body (t ∷ ts) = not (is_word (Marked CloseBrace) t.word)

-- Expr ";"
unfoldable pub value_in : ℕ → List Lexeme → Answer Expr
value_in left ts = do
  e ← expr_in (level left) ts
  semi ← expect (Marked Semicolon) e.1
  Ok (e.0, semi.1)

-- "(" Expr ")", from the "(" on, which stands there
unfoldable pub tested_in : ℕ → List Lexeme → Answer Expr
tested_in zero ts = denied ts
tested_in (suc left) ts = do
  e ← expr_in (level left) (behind ts)
  shut ← expect (Marked CloseParen) e.1
  Ok (e.0, shut.1)

unfoldable pub test_in : ℕ → List Lexeme → Answer Expr
test_in left ts = if begins (Marked OpenParen) ts then tested_in left ts else here ts

-- behind "return" at p
unfoldable pub return_in : ℕ → Place → List Lexeme → Answer Stmt
return_in left p ts = if begins (Marked Semicolon) ts then Ok (stmt.Return None p, behind ts) else (do
  e ← value_in left ts
  Ok (stmt.Return (Some e.0) p, e.1))

-- behind "print" at p and its "(": an expression or a text
unfoldable pub printed_by : ℕ → Place → Word → Lexeme → List Lexeme → Answer Stmt
printed_by left p (Text n) t ts = Ok (stmt.PrintText n p, ts)
printed_by left p w t ts = do
  e ← expr_in (level left) (t ∷ ts)
  Ok (stmt.Print e.0 p, e.1)

unfoldable pub printed_in : ℕ → Place → List Lexeme → Answer Stmt
printed_in left p [] = here []
printed_in left p (t ∷ ts) = printed_by left p t.word t ts

-- from the "(" on, which stands there
unfoldable pub print_open_in : ℕ → Place → List Lexeme → Answer Stmt
print_open_in zero p ts = denied ts
print_open_in (suc left) p ts = do
  x ← printed_in left p (behind ts)
  shut ← expect (Marked CloseParen) x.1
  semi ← expect (Marked Semicolon) shut.1
  Ok (x.0, semi.1)

-- behind "print" at p
unfoldable pub print_in : ℕ → Place → List Lexeme → Answer Stmt
print_in left p ts = if begins (Marked OpenParen) ts then print_open_in left p ts else here ts

-- ---- statements that begin with a Prim and its parts

abbrev pub grow_by : Option (List Expr) → Shape → Shape
grow_by (Some es) s = shape.Call
grow_by None shape.Name = shape.Path
grow_by None shape.Path = shape.Path
grow_by None shape.Call = shape.Part
grow_by None shape.Part = shape.Part
grow_by None shape.Bare = shape.Part

-- with these parts behind
abbrev pub grown : Shape → List Suffix → Shape
grown s [] = s
grown s (x ∷ xs) = grown (grow_by (out-Suffix x).args s) xs

-- the Prim by its first word
abbrev pub shape_by : Word → Shape
shape_by (Named_ x) = shape.Name
shape_by (Key New) = shape.Call
shape_by (Key Super) = shape.Call
shape_by w = shape.Bare

abbrev pub shape_of : List Lexeme → Shape
shape_of [] = shape.Bare
shape_of (t ∷ ts) = shape_by t.word

-- the first word, where it is a name
abbrev pub name_of_word : Word → Name
name_of_word (Named_ x) = x
name_of_word w = record { 0 = 0 }

abbrev pub named_of : List Lexeme → Named
named_of [] = named (record { 0 = 0 }) nowhere
named_of (t ∷ ts) = named (name_of_word t.word) t.at

-- the names of parts
abbrev pub names_of : List Suffix → List Name
names_of [] = []
names_of (x ∷ xs) = (out-Suffix x).name.name ∷ names_of xs

-- all but the last, and the name of the last
abbrev pub but_last : List Suffix → List Suffix
but_last [] = []
but_last (x ∷ []) = []
but_last (x ∷ y ∷ xs) = x ∷ but_last (y ∷ xs)

abbrev pub last_name : List Suffix → Named
last_name [] = named (record { 0 = 0 }) nowhere
last_name (x ∷ []) = (out-Suffix x).name
last_name (x ∷ y ∷ xs) = last_name (y ∷ xs)

-- ".", "class"
abbrev pub begins_class : List Lexeme → Bool
begins_class ts = begins (Marked Dot) ts && begins (Key Class) (behind ts)

module _ (strict : Bool) (left : ℕ) where
  -- behind the type: a name, "=", an expression and ";"
  unfoldable pub local_end_in : ℕ → Bool → TypeTerm → List Lexeme → Answer (Stmt × ℕ)
  local_end_in used fixed ty ts = do
    x ← new_name_in strict (Local (suc used)) ts
    eq ← expect (Marked Equals) x.1
    e ← value_in left eq.1
    Ok ((stmt.Local fixed ty x.0 e.0, suc used), e.1)

  unfoldable pub local_in : ℕ → Bool → List Lexeme → Answer (Stmt × ℕ)
  local_in used fixed ts = do
    ty ← type_in strict left ts
    local_end_in used fixed ty.0 ty.1

  -- the type that goes on behind its first term
  unfoldable pub type_rest_in : Term → List Lexeme → Answer TypeTerm
  type_rest_in t ts = do
    others ← row (begins (Marked Ampersand)) (next_atom_in strict left) 2 ts
    ms ← masks_in others.1
    Ok (type_term.Class (t ∷ others.0) ms.0, ms.1)

  -- a local whose type begins with these names, the first of them at p
  unfoldable pub path_local_in : ℕ → Place → List Name → List Lexeme → Answer (Stmt × ℕ)
  path_local_in used p xs ts = do
    t ← after_names_in left p xs ts
    ty ← type_rest_in t.0 t.1
    local_end_in used false ty.0 ty.1

  -- behind one name and "="
  unfoldable pub assign_in : ℕ → Named → List Lexeme → Answer (Stmt × ℕ)
  assign_in used x ts = do
    v ← value_in left ts
    Ok ((stmt.Assign x v.0, used), v.1)

  -- behind the Prim e at p, its parts, and "="
  unfoldable pub set_in : ℕ → Place → Expr → List Suffix → List Lexeme → Answer (Stmt × ℕ)
  set_in used p e ss ts = do
    v ← value_in left ts
    Ok ((stmt.Set (posted p e (but_last ss)) (last_name ss) v.0, used), v.1)

  -- behind the Prim e and its parts, of this shape; `first` is the first word, and its place that of the Prim
  unfoldable pub simple_by : Shape → ℕ → Named → Expr → List Suffix → List Lexeme → Answer (Stmt × ℕ)
  simple_by shape.Name used first e ss ts = if begins (Marked Equals) ts then assign_in used first (behind ts)
      else path_local_in used first.at (first.name ∷ names_of ss) ts
  simple_by shape.Path used first e ss ts = if begins (Marked Equals) ts then set_in used first.at e ss (behind ts)
      else path_local_in used first.at (first.name ∷ names_of ss) ts
  simple_by shape.Call used first e ss ts = if begins (Marked Semicolon) ts then Ok ((stmt.Do (posted first.at e ss), used), behind ts)
      else here ts
  simple_by shape.Part used first e ss ts = if begins (Marked Equals) ts then set_in used first.at e ss (behind ts) else here ts
  simple_by shape.Bare used first e ss ts = here ts

  unfoldable pub simple_in : ℕ → List Lexeme → Answer (Stmt × ℕ)
  simple_in used ts = do
    e ← prim_in (level left) ts
    ss ← row (begins (Marked Dot)) (suffix_in (level left)) 1 e.1
    simple_by (grown (shape_of ts) ss.0) used (named_of ts) e.0 ss.0 ss.1

  -- a name or "this": before ".", "class" it begins a type
  unfoldable pub led_in : ℕ → List Lexeme → Answer (Stmt × ℕ)
  led_in used ts = if begins_class (behind ts) then local_in used false ts else simple_in used ts

-- ---- statements. `deeper` reads the statements of a block, from its "{" on, which stands there.
module _ (strict : Bool) (left : ℕ) (deeper : ℕ → List Lexeme → Answer (List Stmt × ℕ)) where
  unfoldable pub block_in : ℕ → List Lexeme → Answer (List Stmt × ℕ)
  block_in used ts = if begins (Marked OpenBrace) ts then (do
    ss ← deeper used ts
    shut ← expect (Marked CloseBrace) ss.1
    Ok (ss.0, shut.1)) else here ts

  unfoldable pub else_in : ℕ → List Lexeme → Answer (List Stmt × ℕ)
  else_in used ts = if begins (Key Else) ts then block_in used (behind ts) else Ok (([], used), ts)

  -- behind "if" at p
  unfoldable pub if_in : ℕ → Place → List Lexeme → Answer (Stmt × ℕ)
  if_in used p ts = do
    e ← test_in left ts
    ss ← block_in used e.1
    rs ← else_in ss.0.1 ss.1
    Ok ((stmt.If e.0 ss.0.0 rs.0.0 p, rs.0.1), rs.1)

  -- behind "while" at p
  unfoldable pub while_in : ℕ → Place → List Lexeme → Answer (Stmt × ℕ)
  while_in used p ts = do
    e ← test_in left ts
    ss ← block_in used e.1
    Ok ((stmt.While e.0 ss.0.0 p, ss.0.1), ss.1)

  unfoldable pub block_stmt_in : ℕ → List Lexeme → Answer (Stmt × ℕ)
  block_stmt_in used ts = do
    ss ← block_in used ts
    Ok ((stmt.Block ss.0.0, ss.0.1), ss.1)

  -- with the count as before
  abbrev pub same_count : ℕ → Answer Stmt → Answer (Stmt × ℕ)
  same_count used r = do
    s ← r
    Ok ((s.0, used), s.1)

  unfoldable pub stmt_by : ℕ → Word → Lexeme → List Lexeme → Answer (Stmt × ℕ)
  stmt_by used (Marked OpenBrace) t ts = block_stmt_in used (t ∷ ts)
  stmt_by used (Key Final) t ts = local_in strict left used true ts
  stmt_by used (Key Int) t ts = local_in strict left used false (t ∷ ts)
  stmt_by used (Key Boolean) t ts = local_in strict left used false (t ∷ ts)
  stmt_by used (Key If) t ts = if_in used t.at ts
  stmt_by used (Key While) t ts = while_in used t.at ts
  stmt_by used (Key Return) t ts = same_count used (return_in left t.at ts)
  stmt_by used (Key Print) t ts = same_count used (print_in left t.at ts)
  stmt_by used (Key This) t ts = led_in strict left used (t ∷ ts)
  stmt_by used (Named_ x) t ts = led_in strict left used (t ∷ ts)
  stmt_by used w t ts = simple_in strict left used (t ∷ ts)

  unfoldable pub stmt_in : ℕ → List Lexeme → Answer (Stmt × ℕ)
  stmt_in used [] = here []
  stmt_in used (t ∷ ts) = stmt_by used t.word t ts

  abbrev pub stmts_in : ℕ → List Lexeme → Answer (List Stmt × ℕ)
  stmts_in used ts = counting in_body stmt_in (length ts) used ts

-- the statements of a block, from its "{" on, which stands there
unfoldable pub stmts_of : Bool → ℕ → ℕ → List Lexeme → Answer (List Stmt × ℕ)
stmts_of strict zero used ts = denied ts
stmts_of strict (suc left) used ts = stmts_in strict left (stmts_of strict left) used (behind ts)
