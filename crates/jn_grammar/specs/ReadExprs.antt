-- Reading expressions.
use Rattle.std.specs.Prelude.{ℕ, zero, suc, Bool, true, false, ◌&&◌, is_some, List, [], ◌∷◌, length, Option, Some, None, Ok, Err, if◌then◌else◌}
use Rattle.jn_base.specs.declared.tree.Place.{Place}
use Rattle.jn_base.specs.declared.tree.Named.{Named}
use Rattle.jn_base.specs.declared.tree.Term.{Term}
use Rattle.jn_base.specs.declared.tree.ViewTerm.{ViewTerm}
use Rattle.jn_base.specs.declared.tree.Expr.{Expr}
use Rattle.jn_base.specs.declared.tree.Node.TheVariants as node
use Rattle.jn_base.specs.declared.tree.Suffix.{Suffix}
use Rattle.jn_base.specs.declared.tree.Level.{Level}
use Rattle.jn_base.specs.declared.tree.Level.TheVariants as level_
use Rattle.jn_base.specs.declared.tree.Op.{Op}
use Rattle.jn_base.specs.declared.tree.Op.TheVariants as op
use Rattle.jn_base.specs.declared.tree.Link.{Link}
use Rattle.jn_base.specs.declared.refusal.Limit.TheVariants.{Nesting}
use Rattle.jn_base.specs.declared.word.Keyword.TheVariants.{False, New, Null, Super, This, True, View}
use Rattle.jn_base.specs.declared.word.Mark.TheVariants.{AndAnd, Bang, CloseBracket, CloseParen, Comma, Dot, EqualEqual, Greater, GreaterEqual, Less, LessEqual, Minus, NotEqual, OpenBracket, OpenParen, OrOr, Percent, Plus, Slash, Star}
use Rattle.jn_base.specs.declared.word.Word.{Word}
use Rattle.jn_base.specs.declared.word.Word.TheVariants.{Name as Named_, Keyword as Key, Number, Mark as Marked}
use Rattle.jn_base.specs.declared.word.Lexeme.{Lexeme}
use Rattle.jn_base.specs.Parts.{expr, suffix, link, posted, chained}
use Rattle.jn_grammar.specs.declared.fault.Fault.TheVariants.{Passed}
use Rattle.jn_grammar.specs.Begins.{begins, behind, place}
use Rattle.jn_grammar.specs.Answers.{Answer, ◌>>=◌, here, expect, name_in, row}
use Rattle.jn_grammar.specs.ReadTypes.{term_in, view_in}

-- What is read at one depth, and one deeper from the mark or the operator on that opens.
pub record Inner : Type 0 where
  pub term_at : List Lexeme → Answer Term
  pub term_of : List Lexeme → Answer Term
  pub view_of : List Lexeme → Answer ViewTerm
  pub expr_of : List Lexeme → Answer Expr
  pub unary_of : List Lexeme → Answer Expr
  -- the operand of a view, from its first word on
  pub operand_of : List Lexeme → Answer Expr
  pub args_of : List Lexeme → Answer (List Expr)

-- the operator of a level that a word is
abbrev pub operator : Level → Word → Option Op
operator level_.Or (Marked OrOr) = Some op.Or
operator level_.And (Marked AndAnd) = Some op.And
operator level_.Equal (Marked EqualEqual) = Some op.Eq
operator level_.Equal (Marked NotEqual) = Some op.Ne
operator level_.Compare (Marked Less) = Some op.Lt
operator level_.Compare (Marked LessEqual) = Some op.Le
operator level_.Compare (Marked Greater) = Some op.Gt
operator level_.Compare (Marked GreaterEqual) = Some op.Ge
operator level_.Sum (Marked Plus) = Some op.Add
operator level_.Sum (Marked Minus) = Some op.Sub
operator level_.Product (Marked Star) = Some op.Mul
operator level_.Product (Marked Slash) = Some op.Div
operator level_.Product (Marked Percent) = Some op.Rem
operator l w = None

abbrev pub operator_of : Level → List Lexeme → Option Op
operator_of l [] = None
operator_of l (t ∷ ts) = operator l t.word

abbrev pub goes_on : Level → List Lexeme → Bool
goes_on l ts = is_some (operator_of l ts)

-- an operator and its right operand
abbrev pub link_by : Option Op → (List Lexeme → Answer Expr) → List Lexeme → Answer Link
link_by None operand ts = here ts
link_by (Some o) operand ts = do
  e ← operand (behind ts)
  Ok (link o (place ts) e.0, e.1)

unfoldable pub link_in : Level → (List Lexeme → Answer Expr) → ℕ → List Lexeme → Answer Link
link_in l operand k ts = link_by (operator_of l ts) operand ts

-- operands with operators of the level between them
unfoldable pub chain_in : Level → (List Lexeme → Answer Expr) → List Lexeme → Answer Expr
chain_in l operand ts = do
  e ← operand ts
  ls ← row (goes_on l) (link_in l operand) 1 e.1
  Ok (chained (place ts) l e.0 ls.0, ls.1)

-- one operand or two
unfoldable pub pair_in : Level → (List Lexeme → Answer Expr) → List Lexeme → Answer Expr
pair_in l operand ts = do
  e ← operand ts
  (if goes_on l e.1 then (do
    f ← link_in l operand 1 e.1
    Ok (chained (place ts) l e.0 (f.0 ∷ []), f.1)) else Ok (e.0, e.1))

-- "(" "view"
abbrev pub begins_view : List Lexeme → Bool
begins_view ts = begins (Marked OpenParen) ts && begins (Key View) (behind ts)

module _ (b : Inner) where
  -- arguments from their "(" on, which stands there
  unfoldable pub shut_args_in : List Lexeme → Answer (List Expr)
  shut_args_in ts = do
    es ← b.args_of ts
    shut ← expect (Marked CloseParen) es.1
    Ok (es.0, shut.1)

  unfoldable pub call_args_in : List Lexeme → Answer (List Expr)
  call_args_in ts = if begins (Marked OpenParen) ts then shut_args_in ts else here ts

  -- behind "new" at p
  unfoldable pub new_in : Place → List Lexeme → Answer Expr
  new_in p ts = do
    t ← b.term_at ts
    es ← call_args_in t.1
    Ok (expr p (node.New t.0 es.0), es.1)

  -- behind the term of a "super" at p
  unfoldable pub super_call_in : Place → Term → List Lexeme → Answer Expr
  super_call_in p t ts = do
    shut ← expect (Marked CloseBracket) ts
    o ← expect (Marked Dot) shut.1
    x ← name_in o.1
    es ← call_args_in x.1
    Ok (expr p (node.Super t x.0 es.0), es.1)

  -- behind "super" at p
  unfoldable pub super_in : Place → List Lexeme → Answer Expr
  super_in p ts = if begins (Marked OpenBracket) ts then (do
    t ← b.term_of ts
    super_call_in p t.0 t.1) else here ts

  -- an expression and a ")", from the "(" on, which stands there
  unfoldable pub parens_in : List Lexeme → Answer Expr
  parens_in ts = do
    e ← b.expr_of ts
    shut ← expect (Marked CloseParen) e.1
    Ok (e.0, shut.1)

  unfoldable pub prim_by : Word → Lexeme → List Lexeme → Answer Expr
  prim_by (Number v) t ts = Ok (expr t.at (node.Int v), ts)
  prim_by (Named_ x) t ts = Ok (expr t.at (node.Var x), ts)
  prim_by (Key True) t ts = Ok (expr t.at (node.Bool true), ts)
  prim_by (Key False) t ts = Ok (expr t.at (node.Bool false), ts)
  prim_by (Key Null) t ts = Ok (expr t.at node.Null, ts)
  prim_by (Key This) t ts = Ok (expr t.at node.This, ts)
  prim_by (Key New) t ts = new_in t.at ts
  prim_by (Key Super) t ts = super_in t.at ts
  prim_by (Marked OpenParen) t ts = parens_in (t ∷ ts)
  prim_by w t ts = here (t ∷ ts)

  unfoldable pub prim_in : List Lexeme → Answer Expr
  prim_in [] = here []
  prim_in (t ∷ ts) = prim_by t.word t ts

  -- behind the name of a part
  unfoldable pub call_in : Named → List Lexeme → Answer Suffix
  call_in x ts = if begins (Marked OpenParen) ts then (do
    es ← shut_args_in ts
    Ok (suffix x.name x.at (Some es.0), es.1)) else Ok (suffix x.name x.at None, ts)

  -- from the dot on
  unfoldable pub suffix_in : ℕ → List Lexeme → Answer Suffix
  suffix_in k ts = do
    x ← name_in (behind ts)
    call_in x.0 x.1

  unfoldable pub post_in : List Lexeme → Answer Expr
  post_in ts = do
    e ← prim_in ts
    ss ← row (begins (Marked Dot)) suffix_in 1 e.1
    Ok (posted (place ts) e.0 ss.0, ss.1)

  unfoldable pub viewed_in : List Lexeme → Answer Expr
  viewed_in ts = do
    t ← b.view_of ts
    shut ← expect (Marked CloseParen) t.1
    e ← b.operand_of shut.1
    Ok (expr (place ts) (node.View t.0 e.0), e.1)

  unfoldable pub inverse_in : List Lexeme → Answer Expr
  inverse_in ts = do
    e ← b.unary_of ts
    Ok (expr (place ts) (node.Not e.0), e.1)

  unfoldable pub negative_in : List Lexeme → Answer Expr
  negative_in ts = do
    e ← b.unary_of ts
    Ok (expr (place ts) (node.Neg e.0), e.1)

  unfoldable pub unary_in : List Lexeme → Answer Expr
  unary_in ts = if begins (Marked Bang) ts then inverse_in ts
      else (if begins (Marked Minus) ts then negative_in ts
      else (if begins_view ts then viewed_in ts else post_in ts))

  unfoldable pub product_in : List Lexeme → Answer Expr
  product_in ts = chain_in level_.Product unary_in ts

  unfoldable pub sum_in : List Lexeme → Answer Expr
  sum_in ts = chain_in level_.Sum product_in ts

  unfoldable pub comparison_in : List Lexeme → Answer Expr
  comparison_in ts = pair_in level_.Compare sum_in ts

  unfoldable pub equality_in : List Lexeme → Answer Expr
  equality_in ts = pair_in level_.Equal comparison_in ts

  unfoldable pub conjunction_in : List Lexeme → Answer Expr
  conjunction_in ts = chain_in level_.And equality_in ts

  unfoldable pub expr_in : List Lexeme → Answer Expr
  expr_in ts = chain_in level_.Or conjunction_in ts

  -- behind a comma
  unfoldable pub arg_in : ℕ → List Lexeme → Answer Expr
  arg_in k ts = expr_in (behind ts)

  -- arguments up to a ")"
  unfoldable pub args_in : List Lexeme → Answer (List Expr)
  args_in ts = if begins (Marked CloseParen) ts then Ok ([], ts) else (do
    e ← expr_in ts
    es ← row (begins (Marked Comma)) arg_in 1 e.1
    Ok (e.0 ∷ es.0, es.1))

-- where no more may open
abbrev pub denied : {A : Type 0} → List Lexeme → Answer A
denied ts = Err (Passed Nesting (length ts))

abbrev pub closed : Inner
closed = record {
  term_at = λ ts. term_in 0 ts;
  term_of = denied;
  view_of = denied;
  expr_of = denied;
  unary_of = denied;
  operand_of = denied;
  args_of = denied;
}

-- one more may open, and `left` inside
abbrev pub inside : ℕ → Inner → Inner
inside left b = record {
  term_at = λ ts. term_in (suc left) ts;
  term_of = λ ts. term_in left (behind ts);
  view_of = λ ts. view_in left (behind (behind ts));
  expr_of = λ ts. expr_in b (behind ts);
  unary_of = λ ts. unary_in b (behind ts);
  operand_of = λ ts. unary_in b ts;
  args_of = λ ts. args_in b (behind ts);
}

-- the readers where `left` more may open
unfoldable pub level : ℕ → Inner
level zero = closed
level (suc left) = inside left (level left)
