-- Reading declarations. `left` more marks and prefix operators may be open; a declaration has its depth, from 1 at the top.
use Rattle.std.specs.Prelude.{ℕ, zero, suc, Bool, true, false, not, List, [], ◌∷◌, Option, Some, None, Ok, if◌then◌else◌}
use Rattle.jn_base.specs.declared.tree.Named.{Named}
use Rattle.jn_base.specs.declared.tree.Kind.{Kind}
use Rattle.jn_base.specs.declared.tree.Kind.TheVariants as kind
use Rattle.jn_base.specs.declared.tree.TypeTerm.{TypeTerm}
use Rattle.jn_base.specs.declared.tree.Param.{Param}
use Rattle.jn_base.specs.declared.tree.Constraint.{Constraint}
use Rattle.jn_base.specs.declared.tree.Decl.{Decl}
use Rattle.jn_base.specs.declared.tree.Member.{Member}
use Rattle.jn_base.specs.declared.tree.Member.TheVariants as member
use Rattle.jn_base.specs.declared.word.Keyword.{Keyword}
use Rattle.jn_base.specs.declared.word.Keyword.TheVariants.{Adapts, Class, Extends, Final, Package, Shares, Sharing, Void}
use Rattle.jn_base.specs.declared.word.Mark.TheVariants.{Ampersand, Arrow, CloseBrace, CloseParen, Comma, OpenBrace, OpenParen, Semicolon}
use Rattle.jn_base.specs.declared.word.Word.{Word}
use Rattle.jn_base.specs.declared.word.Word.TheVariants.{Keyword as Key, Mark as Marked, End}
use Rattle.jn_base.specs.declared.word.Lexeme.{Lexeme}
use Rattle.jn_base.specs.Parts.{Declares, Parameter}
use Rattle.jn_base.specs.GrammarDecl.{decl}
use Rattle.jn_grammar.specs.Begins.{is_word, begins, behind}
use Rattle.jn_grammar.specs.Answers.{Answer, ◌>>=◌, here, expect, name_in, row}
use Rattle.jn_grammar.specs.ReadTypes.{view_in, type_in}
use Rattle.jn_grammar.specs.ReadExprs.{denied}
use Rattle.jn_grammar.specs.ReadStmts.{new_name_in, in_body, block_in, stmts_of}

-- ---- the parts of a method's header

-- ["final"]
abbrev pub final_in : List Lexeme → Bool × List Lexeme
final_in ts = if begins (Key Final) ts then (true, behind ts) else (false, ts)

-- the k-th parameter of its method
unfoldable pub param_in : Bool → ℕ → ℕ → List Lexeme → Answer Param
param_in strict left k ts = do
  ty ← type_in strict left (final_in ts).1
  x ← new_name_in strict (Parameter k) ty.1
  Ok (record { fixed = (final_in ts).0; ty = ty.0; name = x.0 }, x.1)

-- behind a comma
unfoldable pub next_param_in : Bool → ℕ → ℕ → List Lexeme → Answer Param
next_param_in strict left k ts = param_in strict left k (behind ts)

-- parameters up to a ")"
unfoldable pub params_in : Bool → ℕ → List Lexeme → Answer (List Param)
params_in strict left ts = if begins (Marked CloseParen) ts then Ok ([], ts) else (do
  p ← param_in strict left 1 ts
  ps ← row (begins (Marked Comma)) (next_param_in strict left) 2 p.1
  Ok (p.0 ∷ ps.0, ps.1))

-- from the "(" on, which stands there, up to its ")" and with it
unfoldable pub params_of : Bool → ℕ → List Lexeme → Answer (List Param)
params_of strict zero ts = denied ts
params_of strict (suc left) ts = do
  ps ← params_in strict left (behind ts)
  shut ← expect (Marked CloseParen) ps.1
  Ok (ps.0, shut.1)

-- View "->" View
unfoldable pub rel_in : ℕ → List Lexeme → Answer Constraint
rel_in left ts = do
  s ← view_in left ts
  o ← expect (Marked Arrow) s.1
  t ← view_in left o.1
  Ok (record { from = s.0; to = t.0 }, t.1)

-- behind a comma
unfoldable pub next_rel_in : ℕ → ℕ → List Lexeme → Answer Constraint
next_rel_in left k ts = rel_in left (behind ts)

-- ["sharing" Rel { "," Rel }]
unfoldable pub sharing_in : ℕ → List Lexeme → Answer (List Constraint)
sharing_in left ts = if begins (Key Sharing) ts then (do
  r ← rel_in left (behind ts)
  rs ← row (begins (Marked Comma)) (next_rel_in left) 1 r.1
  Ok (r.0 ∷ rs.0, rs.1)) else Ok ([], ts)

-- ---- lists of names

-- behind an ampersand
unfoldable pub next_name_in : ℕ → List Lexeme → Answer Named
next_name_in k ts = name_in (behind ts)

-- Name { "&" Name }
unfoldable pub listed_in : List Lexeme → Answer (List Named)
listed_in ts = do
  x ← name_in ts
  xs ← row (begins (Marked Ampersand)) next_name_in 1 x.1
  Ok (x.0 ∷ xs.0, xs.1)

-- [keyword Names]
unfoldable pub list_in : Keyword → List Lexeme → Answer (List Named)
list_in k ts = if begins (Key k) ts then listed_in (behind ts) else Ok ([], ts)

-- ---- members

module _ (strict : Bool) (left : ℕ) where
  -- a method, from its "(" on, which stands there
  unfoldable pub method_in : Option TypeTerm → Named → List Lexeme → Answer Member
  method_in result x ts = do
    ps ← params_of strict left ts
    cs ← sharing_in left ps.1
    ss ← block_in strict left (stmts_of strict left) 0 cs.1
    Ok (member.Body (record { result = result; name = x; params = ps.0; sharing = cs.0; body = ss.0.0 }), ss.1)

  -- behind "void"
  unfoldable pub void_in : List Lexeme → Answer Member
  void_in ts = do
    x ← name_in ts
    (if begins (Marked OpenParen) x.1 then method_in None x.0 x.1 else here x.1)

  -- behind a type and a name
  unfoldable pub typed_end_in : TypeTerm → Named → List Lexeme → Answer Member
  typed_end_in ty x ts = if begins (Marked Semicolon) ts then Ok (member.Slot (record { ty = ty; name = x }), behind ts)
      else (if begins (Marked OpenParen) ts then method_in (Some ty) x ts else here ts)

  -- a field or a method with a type in front
  unfoldable pub typed_in : List Lexeme → Answer Member
  typed_in ts = do
    ty ← type_in strict left ts
    x ← name_in ty.1
    typed_end_in ty.0 x.0 x.1

-- `deeper k n` reads the members of a declaration of the kind k at the depth n each, from its "{" on, which stands there.
module _ (strict : Bool) (left : ℕ) (deeper : Kind → ℕ → List Lexeme → Answer (List Member)) where
  unfoldable pub body_in : Kind → ℕ → List Lexeme → Answer (List Member)
  body_in k n ts = if begins (Marked OpenBrace) ts then (do
    ms ← deeper k n ts
    shut ← expect (Marked CloseBrace) ms.1
    Ok (ms.0, shut.1)) else here ts

  -- behind "class" or "package", at the depth n
  unfoldable pub inner_in : Kind → ℕ → List Lexeme → Answer Decl
  inner_in k n ts = do
    x ← new_name_in strict (Declares n) ts
    es ← list_in Extends x.1
    ss ← list_in Shares es.1
    ms ← body_in k (suc n) ss.1
    Ok (decl k x.0 es.0 ss.0 [] ms.0, ms.1)

  -- behind "class" or "package", at the top
  unfoldable pub top_decl_in : Kind → List Lexeme → Answer Decl
  top_decl_in k ts = do
    x ← new_name_in strict (Declares 1) ts
    es ← list_in Extends x.1
    adapted ← list_in Adapts es.1
    ms ← body_in k 2 adapted.1
    Ok (decl k x.0 es.0 [] adapted.0 ms.0, ms.1)

  unfoldable pub inner_member_in : Kind → ℕ → List Lexeme → Answer Member
  inner_member_in k n ts = do
    t ← inner_in k n ts
    Ok (member.Inner t.0, t.1)

  -- a member of a declaration of the first kind, at the depth n; in a package only declarations stand
  unfoldable pub member_by : Kind → ℕ → Word → Lexeme → List Lexeme → Answer Member
  member_by k n (Key Class) t ts = inner_member_in kind.Class n ts
  member_by k n (Key Package) t ts = inner_member_in kind.Package n ts
  member_by kind.Class n (Key Void) t ts = void_in strict left ts
  member_by kind.Class n w t ts = typed_in strict left (t ∷ ts)
  member_by kind.Package n w t ts = here (t ∷ ts)

  unfoldable pub member_in : Kind → ℕ → ℕ → List Lexeme → Answer Member
  member_in k n i [] = here []
  member_in k n i (t ∷ ts) = member_by k n t.word t ts

  abbrev pub members_in : Kind → ℕ → List Lexeme → Answer (List Member)
  members_in k n ts = row in_body (member_in k n) 1 ts

-- the members of a declaration, from its "{" on, which stands there
unfoldable pub members_of : Bool → ℕ → Kind → ℕ → List Lexeme → Answer (List Member)
members_of strict zero k n ts = denied ts
members_of strict (suc left) k n ts = members_in strict left (members_of strict left) k n (behind ts)

-- ---- programs

unfoldable pub top_by : Bool → ℕ → Word → Lexeme → List Lexeme → Answer Decl
top_by strict left (Key Class) t ts = top_decl_in strict left (members_of strict left) kind.Class ts
top_by strict left (Key Package) t ts = top_decl_in strict left (members_of strict left) kind.Package ts
top_by strict left w t ts = here (t ∷ ts)

unfoldable pub top_in : Bool → ℕ → ℕ → List Lexeme → Answer Decl
top_in strict left i [] = here []
top_in strict left i (t ∷ ts) = top_by strict left t.word t ts

-- up to the end of the file
abbrev pub in_file : List Lexeme → Bool
in_file [] = false
in_file (t ∷ ts) = not (is_word End t.word)

unfoldable pub tops_in : Bool → ℕ → List Lexeme → Answer (List Decl)
tops_in strict left ts = row in_file (top_in strict left) 1 ts
