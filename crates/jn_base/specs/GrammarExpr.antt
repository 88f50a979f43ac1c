-- The grammar of expressions. `IsX d p w e`: the words w, the first at p, are an X with the tree e, where d marks and
-- prefix operators are open around them.
use Rattle.std.specs.Prelude.{ℕ, suc, true, false, ℤ, IsSome, List, [], ◌∷◌, ◌++◌, Some, None}
use Rattle.jn_base.specs.declared.tree.Name.{Name}
use Rattle.jn_base.specs.declared.tree.Place.{Place}
use Rattle.jn_base.specs.declared.tree.Term.{Term}
use Rattle.jn_base.specs.declared.tree.ViewTerm.{ViewTerm}
use Rattle.jn_base.specs.declared.tree.Expr.{Expr}
use Rattle.jn_base.specs.declared.tree.Node.TheVariants as node
use Rattle.jn_base.specs.declared.tree.Suffix.{Suffix, out-Suffix}
use Rattle.jn_base.specs.declared.tree.Level.{Level}
use Rattle.jn_base.specs.declared.tree.Level.TheVariants as level
use Rattle.jn_base.specs.declared.tree.Op.{Op}
use Rattle.jn_base.specs.declared.tree.Op.TheVariants as op
use Rattle.jn_base.specs.declared.tree.Link.{Link}
use Rattle.jn_base.specs.declared.word.Keyword.TheVariants.{False, New, Null, Super, This, True, View}
use Rattle.jn_base.specs.declared.word.Mark.{Mark}
use Rattle.jn_base.specs.declared.word.Mark.TheVariants.{AndAnd, Bang, CloseBracket, CloseParen, Comma, Dot, EqualEqual, Greater, GreaterEqual, Less, LessEqual, Minus, NotEqual, OpenBracket, OpenParen, OrOr, Percent, Plus, Slash, Star}
use Rattle.jn_base.specs.Parts.{Part, key, mark, name, number, opening, named, expr, suffix, link, posted, chained}
use Rattle.jn_base.specs.GrammarTypes.{IsTerm, IsView}

-- the operators of two operands, by level
pub data IsOperator : Level → Mark → Op → Type 0 where
  or : IsOperator level.Or OrOr op.Or
  and : IsOperator level.And AndAnd op.And
  equal : IsOperator level.Equal EqualEqual op.Eq
  not_equal : IsOperator level.Equal NotEqual op.Ne
  less : IsOperator level.Compare Less op.Lt
  less_equal : IsOperator level.Compare LessEqual op.Le
  greater : IsOperator level.Compare Greater op.Gt
  greater_equal : IsOperator level.Compare GreaterEqual op.Ge
  plus : IsOperator level.Sum Plus op.Add
  minus : IsOperator level.Sum Minus op.Sub
  times : IsOperator level.Product Star op.Mul
  over : IsOperator level.Product Slash op.Div
  remainder : IsOperator level.Product Percent op.Rem

mutual
  -- "new" Term "(" [Args] ")" | "super" "[" Term "]" "." Name "(" [Args] ")"
  pub data IsForm : ℕ → Place → List Part → Expr → Type 0 where
    new_object : {d : ℕ} {p q : Place} (o c : Place) {v w : List Part} {t : Term} {es : List Expr}
        → IsTerm d q v t → IsArgs (suc d) w es
        → IsForm d p (key New p ∷ (v ++ opening d OpenParen o ∷ (w ++ mark CloseParen c ∷ []))) (expr p (node.New t es))
    super_call : {d : ℕ} {p q : Place} (b s o n u c : Place) {x : Name} {v w : List Part} {t : Term} {es : List Expr}
        → IsTerm (suc d) q v t → IsArgs (suc d) w es
        → IsForm d p (key Super p ∷ opening d OpenBracket b ∷ (v ++ mark CloseBracket s ∷ mark Dot o ∷ name x n ∷ opening d OpenParen u ∷ (w ++ mark CloseParen c ∷ [])))
        (expr p (node.Super t (named x n) es))

  -- Prim = Number | "true" | "false" | "null" | "this" | Name | "(" Expr ")" | a form with "new" or "super".
  -- Parentheses leave no node.
  pub data IsPrim : ℕ → Place → List Part → Expr → Type 0 where
    constant : {d : ℕ} {v : ℤ} {p : Place} → IsPrim d p (number v p ∷ []) (expr p (node.Int v))
    yes : {d : ℕ} {p : Place} → IsPrim d p (key True p ∷ []) (expr p (node.Bool true))
    no : {d : ℕ} {p : Place} → IsPrim d p (key False p ∷ []) (expr p (node.Bool false))
    null : {d : ℕ} {p : Place} → IsPrim d p (key Null p ∷ []) (expr p node.Null)
    this_object : {d : ℕ} {p : Place} → IsPrim d p (key This p ∷ []) (expr p node.This)
    variable : {d : ℕ} {x : Name} {p : Place} → IsPrim d p (name x p ∷ []) (expr p (node.Var x))
    parens : {d : ℕ} {p q : Place} (c : Place) {w : List Part} {e : Expr} → IsExpr (suc d) q w e
        → IsPrim d p (opening d OpenParen p ∷ (w ++ mark CloseParen c ∷ [])) e
    form : {d : ℕ} {p : Place} {w : List Part} {e : Expr} → IsForm d p w e → IsPrim d p w e

  -- "." Name ["(" [Args] ")"]
  pub data IsSuffix : ℕ → List Part → Suffix → Type 0 where
    field : {d : ℕ} {x : Name} {o p : Place} → IsSuffix d (mark Dot o ∷ name x p ∷ []) (suffix x p None)
    call : {d : ℕ} {x : Name} {o p q : Place} (c : Place) {w : List Part} {es : List Expr} → IsArgs (suc d) w es
        → IsSuffix d (mark Dot o ∷ name x p ∷ opening d OpenParen q ∷ (w ++ mark CloseParen c ∷ [])) (suffix x p (Some es))

  pub data IsSuffixes : ℕ → List Part → List Suffix → Type 0 where
    no_suffix : {d : ℕ} → IsSuffixes d [] []
    then_suffix : {d : ℕ} {v w : List Part} {s : Suffix} {ss : List Suffix} → IsSuffix d v s → IsSuffixes d w ss
        → IsSuffixes d (v ++ w) (s ∷ ss)

  -- Post = Prim { "." Name ["(" [Args] ")"] }
  pub data IsPost : ℕ → Place → List Part → Expr → Type 0 where
    post : {d : ℕ} {p : Place} {v w : List Part} {e : Expr} {ss : List Suffix} → IsPrim d p v e → IsSuffixes d w ss
        → IsPost d p (v ++ w) (posted p e ss)

  -- Unary = "!" Unary | "-" Unary | "(" "view" View ")" Unary | Post. A view is open from its parenthesis to the end of
  -- its operand.
  pub data IsUnary : ℕ → Place → List Part → Expr → Type 0 where
    inverse : {d : ℕ} {p q : Place} {w : List Part} {e : Expr} → IsUnary (suc d) q w e
        → IsUnary d p (opening d Bang p ∷ w) (expr p (node.Not e))
    negative : {d : ℕ} {p q : Place} {w : List Part} {e : Expr} → IsUnary (suc d) q w e
        → IsUnary d p (opening d Minus p ∷ w) (expr p (node.Neg e))
    viewed : {d : ℕ} {p q : Place} (o c : Place) {v w : List Part} {t : ViewTerm} {e : Expr} → IsView (suc d) v t → IsUnary (suc d) q w e
        → IsUnary d p (opening d OpenParen p ∷ key View o ∷ (v ++ mark CloseParen c ∷ w)) (expr p (node.View t e))
    unsigned : {d : ℕ} {p : Place} {w : List Part} {e : Expr} → IsPost d p w e → IsUnary d p w e

  -- Prod = Unary { ("*"|"/"|"%") Unary }
  pub data IsProduct : ℕ → Place → List Part → Expr → Type 0 where
    product : {d : ℕ} {p : Place} {v w : List Part} {e : Expr} {ls : List Link} → IsUnary d p v e → IsFactors d w ls
        → IsProduct d p (v ++ w) (chained p level.Product e ls)

  pub data IsFactors : ℕ → List Part → List Link → Type 0 where
    no_factor : {d : ℕ} → IsFactors d [] []
    then_factor : {d : ℕ} {m : Mark} {o : Op} {p q : Place} {v w : List Part} {e : Expr} {ls : List Link}
        → IsOperator level.Product m o → IsUnary d q v e → IsFactors d w ls → IsFactors d (mark m p ∷ (v ++ w)) (link o p e ∷ ls)

  -- Sum = Prod { ("+"|"-") Prod }
  pub data IsSum : ℕ → Place → List Part → Expr → Type 0 where
    sum : {d : ℕ} {p : Place} {v w : List Part} {e : Expr} {ls : List Link} → IsProduct d p v e → IsSummands d w ls
        → IsSum d p (v ++ w) (chained p level.Sum e ls)

  pub data IsSummands : ℕ → List Part → List Link → Type 0 where
    no_summand : {d : ℕ} → IsSummands d [] []
    then_summand : {d : ℕ} {m : Mark} {o : Op} {p q : Place} {v w : List Part} {e : Expr} {ls : List Link}
        → IsOperator level.Sum m o → IsProduct d q v e → IsSummands d w ls → IsSummands d (mark m p ∷ (v ++ w)) (link o p e ∷ ls)

  -- Rel2 = Sum [("<"|"<="|">"|">=") Sum]
  pub data IsComparison : ℕ → Place → List Part → Expr → Type 0 where
    one_sum : {d : ℕ} {p : Place} {w : List Part} {e : Expr} → IsSum d p w e → IsComparison d p w e
    two_sums : {d : ℕ} {m : Mark} {o : Op} {p q : Place} (r : Place) {v w : List Part} {e f : Expr}
        → IsSum d p v e → IsOperator level.Compare m o → IsSum d q w f
        → IsComparison d p (v ++ mark m r ∷ w) (chained p level.Compare e (link o r f ∷ []))

  -- Eq = Rel2 [("=="|"!=") Rel2]
  pub data IsEquality : ℕ → Place → List Part → Expr → Type 0 where
    one_side : {d : ℕ} {p : Place} {w : List Part} {e : Expr} → IsComparison d p w e → IsEquality d p w e
    two_sides : {d : ℕ} {m : Mark} {o : Op} {p q : Place} (r : Place) {v w : List Part} {e f : Expr}
        → IsComparison d p v e → IsOperator level.Equal m o → IsComparison d q w f
        → IsEquality d p (v ++ mark m r ∷ w) (chained p level.Equal e (link o r f ∷ []))

  -- And = Eq { "&&" Eq }
  pub data IsConjunction : ℕ → Place → List Part → Expr → Type 0 where
    conjunction : {d : ℕ} {p : Place} {v w : List Part} {e : Expr} {ls : List Link} → IsEquality d p v e → IsConjuncts d w ls
        → IsConjunction d p (v ++ w) (chained p level.And e ls)

  pub data IsConjuncts : ℕ → List Part → List Link → Type 0 where
    no_conjunct : {d : ℕ} → IsConjuncts d [] []
    then_conjunct : {d : ℕ} {m : Mark} {o : Op} {p q : Place} {v w : List Part} {e : Expr} {ls : List Link}
        → IsOperator level.And m o → IsEquality d q v e → IsConjuncts d w ls → IsConjuncts d (mark m p ∷ (v ++ w)) (link o p e ∷ ls)

  -- Expr = And { "||" And }
  pub data IsExpr : ℕ → Place → List Part → Expr → Type 0 where
    disjunction : {d : ℕ} {p : Place} {v w : List Part} {e : Expr} {ls : List Link} → IsConjunction d p v e → IsDisjuncts d w ls
        → IsExpr d p (v ++ w) (chained p level.Or e ls)

  pub data IsDisjuncts : ℕ → List Part → List Link → Type 0 where
    no_disjunct : {d : ℕ} → IsDisjuncts d [] []
    then_disjunct : {d : ℕ} {m : Mark} {o : Op} {p q : Place} {v w : List Part} {e : Expr} {ls : List Link}
        → IsOperator level.Or m o → IsConjunction d q v e → IsDisjuncts d w ls → IsDisjuncts d (mark m p ∷ (v ++ w)) (link o p e ∷ ls)

  -- [Args], where Args = Expr { "," Expr }
  pub data IsArgs : ℕ → List Part → List Expr → Type 0 where
    no_arg : {d : ℕ} → IsArgs d [] []
    args : {d : ℕ} {p : Place} {v w : List Part} {e : Expr} {es : List Expr} → IsExpr d p v e → IsMoreArgs d w es
        → IsArgs d (v ++ w) (e ∷ es)

  -- { "," Expr }
  pub data IsMoreArgs : ℕ → List Part → List Expr → Type 0 where
    no_more_arg : {d : ℕ} → IsMoreArgs d [] []
    then_arg : {d : ℕ} {p o : Place} {v w : List Part} {e : Expr} {es : List Expr} → IsExpr d p v e → IsMoreArgs d w es
        → IsMoreArgs d (mark Comma o ∷ (v ++ w)) (e ∷ es)

-- the last of the parts is a call
abbrev pub EndsInCall : List Suffix → Type 0
EndsInCall [] = ⊥
EndsInCall (s ∷ []) = IsSome (out-Suffix s).args
EndsInCall (s ∷ r ∷ ss) = EndsInCall (r ∷ ss)

-- Call: a Post whose last part is a call, or a form with "new" or "super" and no parts behind it
pub data IsCall : ℕ → List Part → Expr → Type 0 where
  called : {d : ℕ} {p : Place} {v w : List Part} {e : Expr} {ss : List Suffix} → IsPrim d p v e → IsSuffixes d w ss → EndsInCall ss
      → IsCall d (v ++ w) (posted p e ss)
  formed : {d : ℕ} {p : Place} {w : List Part} {e : Expr} → IsForm d p w e → IsCall d w e
