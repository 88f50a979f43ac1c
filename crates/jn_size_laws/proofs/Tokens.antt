-- A form has at most four instructions for each of its tokens.
use Rattle.std.proofs.Common.{◌≡◌, ℕ, suc, ◌+◌, ◌*◌, ◌≤◌, List, [], ◌∷◌, ◌++◌, length, map, Some, None, true, false, arith}
use Rattle.std.proofs.lemmas.List.{length-append}
use Rattle.jn_base.specs.declared.tree.Name.{Name}
use Rattle.jn_base.specs.declared.tree.Place.{Place}
use Rattle.jn_base.specs.declared.tree.Term.{Term}
use Rattle.jn_base.specs.declared.tree.ViewTerm.{ViewTerm}
use Rattle.jn_base.specs.declared.tree.Level.{Level}
use Rattle.jn_base.specs.declared.tree.Level.TheVariants as level
use Rattle.jn_base.specs.declared.tree.Expr.{Expr}
use Rattle.jn_base.specs.declared.tree.Link.{Link}
use Rattle.jn_base.specs.declared.tree.Suffix.{Suffix}
use Rattle.jn_base.specs.declared.tree.Stmt.{Stmt}
use Rattle.jn_base.specs.declared.word.Mark.TheVariants.{Bang, CloseBrace, CloseBracket, CloseParen, Dot, Equals, OpenBrace, OpenBracket, OpenParen, Semicolon}
use Rattle.jn_base.specs.declared.word.Keyword.TheVariants.{Class}
use Rattle.jn_base.specs.Parts.{Part, Local, key, mark, name, opening, new_name, link, posted, chained}
use Rattle.jn_base.specs.Resolve.{names_of}
use Rattle.jn_base.specs.GrammarTypes.{IsDotted, one_name, more_names, IsDots, no_dot, dot, IsNames, loose, exact, IsTail, no_tail, tail, IsTerm, plain, own, in_prefix, IsView, view}
use Rattle.jn_base.specs.GrammarExpr as g
use Rattle.jn_base.specs.GrammarStmt as s
use Rattle.jn_size_laws.specs.Sizes.{total, expr_size, link_size, suffix_size, stmt_size, stmts_size}
use Rattle.jn_size_laws.proofs.Equations as size

-- ---- names of terms

dotted_long : (p : Place) (w : List Part) (xs : List Name) → IsDotted p w xs → length xs ≤ length w
dotted_long p w xs one_name = omega arith
dotted_long p w xs (more_names {q = q} o {w = v} {xs = ys} h) = let r = dotted_long q v ys h in omega (arith, r)

dots_long : (w : List Part) (xs : List Name) → IsDots w xs → length xs ≤ length w
dots_long w xs no_dot = omega arith
dots_long w xs (dot {w = v} {xs = ys} h) = let r = dots_long v ys h in omega (arith, r)

names_long : (p : Place) (w : List Part) (es ns : List Name) → IsNames p w es ns → length es + length ns ≤ length w
names_long p w es ns (loose h) = let r = dotted_long p w ns h in omega (arith, r)
names_long p w es ns (exact o {v = v} {w = u} h k) =
    let a = dotted_long p v es h in
    let b = dots_long u ns k in
    let l = length-append v (mark Bang o ∷ u) in
    omega (arith, a, b, l)

tail_long : (w : List Part) (es ns : List Name) → IsTail w es ns → length es + length ns ≤ length w
tail_long w es ns no_tail = omega arith
tail_long w es ns (tail {p = p} {w = u} h) = let r = names_long p u es ns h in omega (arith, r)

pub term_long : (d : ℕ) (p : Place) (w : List Part) (t : Term) → IsTerm d p w t → length (names_of t) ≤ length w
term_long d p w t (plain {es = es} {ns = ns} h) =
    let a = names_long p w es ns h in
    let l = length-append es ns in
    omega (arith, a, l)
term_long d p w t (own o c {w = u} {es = es} {ns = ns} r h) =
    let a = tail_long u es ns h in
    let l = length-append es ns in
    omega (arith, a, l)
term_long d p w t (in_prefix b o c z {v = v} {w = u} {es = es} {ns = ns} {t = r} k j h) =
    let a = tail_long u es ns h in
    let l = length-append es ns in
    let m = length-append v (opening d OpenBracket b ∷ r ∷ mark Dot o ∷ key Class c ∷ mark CloseBracket z ∷ u) in
    omega (arith, a, l, m)

pub view_long : (d : ℕ) (w : List Part) (v : ViewTerm) → IsView d w v → length (names_of v.term) ≤ length w
view_long d w v (view {p = p} {v = u} {w = x} {t = t} h k) =
    let a = term_long d p u t h in
    let l = length-append u x in
    omega (arith, a, l)

-- ---- expressions with parts and operands

posted_size : (p : Place) (e : Expr) (ss : List Suffix) →
    expr_size (posted p e ss) ≡ expr_size e + total (map suffix_size ss)
posted_size p e [] = omega arith
posted_size p e (s ∷ ss) = size.at_post p e (s ∷ ss)

chained_size : (p : Place) (lv : Level) (e : Expr) (ls : List Link) →
    expr_size (chained p lv e ls) ≡ expr_size e + total (map link_size ls)
chained_size p lv e [] = omega arith
chained_size p lv e (l ∷ ls) = size.at_chain p lv e (l ∷ ls)

mutual
  form_short : (d : ℕ) (p : Place) (w : List Part) (e : Expr) → g.IsForm d p w e → expr_size e ≤ 4 * length w
  form_short d p w e (g.new_object {q = q} o c {v = v} {w = u} {t = t} {es = es} term given) =
      let z = size.at_new p t es in
      let a = term_long d q v t term in
      let b = args_short (suc d) u es given in
      let l = length-append v (opening d OpenParen o ∷ (u ++ mark CloseParen c ∷ [])) in
      let m = length-append u (mark CloseParen c ∷ []) in
      omega (arith, z, a, b, l, m)
  form_short d p w e (g.super_call {q = q} b z o n y c {x = x} {v = v} {w = u} {t = t} {es = es} term given) =
      let k = size.at_super p t (record { name = x; at = n }) es in
      let a = args_short (suc d) u es given in
      let l = length-append v (mark CloseBracket z ∷ mark Dot o ∷ name x n ∷ opening d OpenParen y ∷
      (u ++ mark CloseParen c ∷ [])) in
      let m = length-append u (mark CloseParen c ∷ []) in
      omega (arith, k, a, l, m)

  prim_short : (d : ℕ) (p : Place) (w : List Part) (e : Expr) → g.IsPrim d p w e → expr_size e ≤ 4 * length w
  prim_short d p w e (g.constant {v = v}) = let z = size.at_number p v in omega (arith, z)
  prim_short d p w e g.yes = let z = size.at_truth p true in omega (arith, z)
  prim_short d p w e g.no = let z = size.at_truth p false in omega (arith, z)
  prim_short d p w e g.null = let z = size.at_null p in omega (arith, z)
  prim_short d p w e g.this_object = let z = size.at_this p in omega (arith, z)
  prim_short d p w e (g.variable {x = x}) = let z = size.at_variable p x in omega (arith, z)
  prim_short d p w e (g.parens {q = q} c {w = u} inner) =
      let a = expr_short (suc d) q u e inner in
      let l = length-append u (mark CloseParen c ∷ []) in
      omega (arith, a, l)
  prim_short d p w e (g.form f) = form_short d p w e f

  suffix_short : (d : ℕ) (w : List Part) (z : Suffix) → g.IsSuffix d w z → suffix_size z ≤ 4 * length w
  suffix_short d w z (g.field {x = x} {p = p}) = let k = size.of_suffix x p None in omega (arith, k)
  suffix_short d w z (g.call {x = x} {p = p} {q = q} c {w = u} {es = es} given) =
      let k = size.of_suffix x p (Some es) in
      let a = args_short (suc d) u es given in
      let l = length-append u (mark CloseParen c ∷ []) in
      omega (arith, k, a, l)

  suffixes_short : (d : ℕ) (w : List Part) (ss : List Suffix) → g.IsSuffixes d w ss →
      total (map suffix_size ss) ≤ 4 * length w
  suffixes_short d w ss g.no_suffix = omega arith
  suffixes_short d w ss (g.then_suffix {v = v} {w = u} {s = z} {ss = more} one rest) =
      let a = suffix_short d v z one in
      let b = suffixes_short d u more rest in
      let l = length-append v u in
      omega (arith, a, b, l)

  post_short : (d : ℕ) (p : Place) (w : List Part) (e : Expr) → g.IsPost d p w e → expr_size e ≤ 4 * length w
  post_short d p w e (g.post {v = v} {w = u} {e = f} {ss = ss} prim parts) =
      let z = posted_size p f ss in
      let a = prim_short d p v f prim in
      let b = suffixes_short d u ss parts in
      let l = length-append v u in
      omega (arith, z, a, b, l)

  unary_short : (d : ℕ) (p : Place) (w : List Part) (e : Expr) → g.IsUnary d p w e → expr_size e ≤ 4 * length w
  unary_short d p w e (g.inverse {q = q} {w = u} {e = f} inner) =
      let z = size.at_inverse p f in
      let a = unary_short (suc d) q u f inner in
      omega (arith, z, a)
  unary_short d p w e (g.negative {q = q} {w = u} {e = f} inner) =
      let z = size.at_negative p f in
      let a = unary_short (suc d) q u f inner in
      omega (arith, z, a)
  unary_short d p w e (g.viewed {q = q} o c {v = v} {w = u} {t = t} {e = f} target inner) =
      let z = size.at_view p t f in
      let k = view_long (suc d) v t target in
      let a = unary_short (suc d) q u f inner in
      let l = length-append v (mark CloseParen c ∷ u) in
      omega (arith, z, k, a, l)
  unary_short d p w e (g.unsigned h) = post_short d p w e h

  product_short : (d : ℕ) (p : Place) (w : List Part) (e : Expr) → g.IsProduct d p w e → expr_size e ≤ 4 * length w
  product_short d p w e (g.product {v = v} {w = u} {e = f} {ls = ls} one rest) =
      let z = chained_size p level.Product f ls in
      let a = unary_short d p v f one in
      let b = factors_short d u ls rest in
      let l = length-append v u in
      omega (arith, z, a, b, l)

  factors_short : (d : ℕ) (w : List Part) (ls : List Link) → g.IsFactors d w ls →
      total (map link_size ls) ≤ 4 * length w
  factors_short d w ls g.no_factor = omega arith
  factors_short d w ls (g.then_factor {o = o} {p = p} {q = q} {v = v} {w = u} {e = f} {ls = more} is one rest) =
      let z = size.at_link (link o p f) in
      let a = unary_short d q v f one in
      let b = factors_short d u more rest in
      let l = length-append v u in
      omega (arith, z, a, b, l)

  sum_short : (d : ℕ) (p : Place) (w : List Part) (e : Expr) → g.IsSum d p w e → expr_size e ≤ 4 * length w
  sum_short d p w e (g.sum {v = v} {w = u} {e = f} {ls = ls} one rest) =
      let z = chained_size p level.Sum f ls in
      let a = product_short d p v f one in
      let b = summands_short d u ls rest in
      let l = length-append v u in
      omega (arith, z, a, b, l)

  summands_short : (d : ℕ) (w : List Part) (ls : List Link) → g.IsSummands d w ls →
      total (map link_size ls) ≤ 4 * length w
  summands_short d w ls g.no_summand = omega arith
  summands_short d w ls (g.then_summand {o = o} {p = p} {q = q} {v = v} {w = u} {e = f} {ls = more} is one rest) =
      let z = size.at_link (link o p f) in
      let a = product_short d q v f one in
      let b = summands_short d u more rest in
      let l = length-append v u in
      omega (arith, z, a, b, l)

  comparison_short : (d : ℕ) (p : Place) (w : List Part) (e : Expr) → g.IsComparison d p w e →
      expr_size e ≤ 4 * length w
  comparison_short d p w e (g.one_sum h) = sum_short d p w e h
  comparison_short d p w e (g.two_sums {m = m} {o = o} {q = q} r {v = v} {w = u} {e = f} {f = h} one is other) =
      let z = chained_size p level.Compare f (link o r h ∷ []) in
      let k = size.at_link (link o r h) in
      let a = sum_short d p v f one in
      let b = sum_short d q u h other in
      let l = length-append v (mark m r ∷ u) in
      omega (arith, z, k, a, b, l)

  equality_short : (d : ℕ) (p : Place) (w : List Part) (e : Expr) → g.IsEquality d p w e → expr_size e ≤ 4 * length w
  equality_short d p w e (g.one_side h) = comparison_short d p w e h
  equality_short d p w e (g.two_sides {m = m} {o = o} {q = q} r {v = v} {w = u} {e = f} {f = h} one is other) =
      let z = chained_size p level.Equal f (link o r h ∷ []) in
      let k = size.at_link (link o r h) in
      let a = comparison_short d p v f one in
      let b = comparison_short d q u h other in
      let l = length-append v (mark m r ∷ u) in
      omega (arith, z, k, a, b, l)

  conjunction_short : (d : ℕ) (p : Place) (w : List Part) (e : Expr) → g.IsConjunction d p w e →
      expr_size e ≤ 4 * length w
  conjunction_short d p w e (g.conjunction {v = v} {w = u} {e = f} {ls = ls} one rest) =
      let z = chained_size p level.And f ls in
      let a = equality_short d p v f one in
      let b = conjuncts_short d u ls rest in
      let l = length-append v u in
      omega (arith, z, a, b, l)

  conjuncts_short : (d : ℕ) (w : List Part) (ls : List Link) → g.IsConjuncts d w ls →
      total (map link_size ls) ≤ 4 * length w
  conjuncts_short d w ls g.no_conjunct = omega arith
  conjuncts_short d w ls (g.then_conjunct {o = o} {p = p} {q = q} {v = v} {w = u} {e = f} {ls = more} is one rest) =
      let z = size.at_link (link o p f) in
      let a = equality_short d q v f one in
      let b = conjuncts_short d u more rest in
      let l = length-append v u in
      omega (arith, z, a, b, l)

  pub expr_short : (d : ℕ) (p : Place) (w : List Part) (e : Expr) → g.IsExpr d p w e → expr_size e ≤ 4 * length w
  expr_short d p w e (g.disjunction {v = v} {w = u} {e = f} {ls = ls} one rest) =
      let z = chained_size p level.Or f ls in
      let a = conjunction_short d p v f one in
      let b = disjuncts_short d u ls rest in
      let l = length-append v u in
      omega (arith, z, a, b, l)

  disjuncts_short : (d : ℕ) (w : List Part) (ls : List Link) → g.IsDisjuncts d w ls →
      total (map link_size ls) ≤ 4 * length w
  disjuncts_short d w ls g.no_disjunct = omega arith
  disjuncts_short d w ls (g.then_disjunct {o = o} {p = p} {q = q} {v = v} {w = u} {e = f} {ls = more} is one rest) =
      let z = size.at_link (link o p f) in
      let a = conjunction_short d q v f one in
      let b = disjuncts_short d u more rest in
      let l = length-append v u in
      omega (arith, z, a, b, l)

  args_short : (d : ℕ) (w : List Part) (es : List Expr) → g.IsArgs d w es → total (map expr_size es) ≤ 4 * length w
  args_short d w es g.no_arg = omega arith
  args_short d w es (g.args {p = p} {v = v} {w = u} {e = f} {es = more} one rest) =
      let a = expr_short d p v f one in
      let b = more_short d u more rest in
      let l = length-append v u in
      omega (arith, a, b, l)

  more_short : (d : ℕ) (w : List Part) (es : List Expr) → g.IsMoreArgs d w es → total (map expr_size es) ≤ 4 * length w
  more_short d w es g.no_more_arg = omega arith
  more_short d w es (g.then_arg {p = p} {v = v} {w = u} {e = f} {es = more} one rest) =
      let a = expr_short d p v f one in
      let b = more_short d u more rest in
      let l = length-append v u in
      omega (arith, a, b, l)

call_short : (d : ℕ) (w : List Part) (e : Expr) → g.IsCall d w e → expr_size e ≤ 4 * length w
call_short d w e (g.called {p = p} {v = v} {w = u} {e = f} {ss = ss} prim parts ends) =
    let z = posted_size p f ss in
    let a = prim_short d p v f prim in
    let b = suffixes_short d u ss parts in
    let l = length-append v u in
    omega (arith, z, a, b, l)
call_short d w e (g.formed {p = p} h) = form_short d p w e h

-- ---- statements

mutual
  stmt_short : (d k m : ℕ) (w : List Part) (z : Stmt) → s.IsStmt d k w z m → stmt_size z ≤ 4 * length w
  stmt_short d k m w z (s.block c {w = u} {ss = ss} body) =
      let q = size.at_block ss in
      let a = stmts_short (suc d) k m u ss body in
      let l = length-append u (mark CloseBrace c ∷ []) in
      omega (arith, q, a, l)
  stmt_short d k m w z (s.local {x = x} {p = p} {q = q} o y {u = f} {v = v} {w = u} {fixed = final} {t = t} {e = e}
      is type value) =
      let n = size.at_local final t (record { name = x; at = p }) e in
      let a = expr_short d q u e value in
      let l = length-append f (v ++ (new_name (Local (suc k)) x p ∷ mark Equals o ∷ (u ++ mark Semicolon y ∷ []))) in
      let r = length-append v (new_name (Local (suc k)) x p ∷ mark Equals o ∷ (u ++ mark Semicolon y ∷ [])) in
      let b = length-append u (mark Semicolon y ∷ []) in
      omega (arith, n, a, l, r, b)
  stmt_short d k m w z (s.assign {x = x} {p = p} {q = q} y {w = u} {e = e} value) =
      let n = size.at_assign (record { name = x; at = p }) e in
      let a = expr_short d q u e value in
      let l = length-append u (mark Semicolon y ∷ []) in
      omega (arith, n, a, l)
  stmt_short d k m w z (s.set_field {x = x} {p = p} {q = q} b n o y {v = v} {w = u} {t = t} {e = e} receiver value) =
      let h = size.at_set t (record { name = x; at = n }) e in
      let c = post_short d p v t receiver in
      let a = expr_short d q u e value in
      let l = length-append v (mark Dot b ∷ name x n ∷ mark Equals o ∷ (u ++ mark Semicolon y ∷ [])) in
      let r = length-append u (mark Semicolon y ∷ []) in
      omega (arith, h, c, a, l, r)
  stmt_short d k m w z (s.act y {w = u} {e = e} value) =
      let n = size.at_do e in
      let a = call_short d u e value in
      let l = length-append u (mark Semicolon y ∷ []) in
      omega (arith, n, a, l)
  stmt_short d k m w z (s.choice {m = m1} {p = p} {q = q} {o = o} c b y {v = v} {w = u} {u = x} {t = t} {ss = ss}
      {rs = rs} test one other) =
      let n = size.at_if t ss rs p in
      let a = expr_short (suc d) q v t test in
      let f = stmts_short (suc d) k m1 u ss one in
      let h = else_short d m1 m x rs other in
      let l = length-append v (mark CloseParen c ∷ opening d OpenBrace b ∷ (u ++ (mark CloseBrace y ∷ x))) in
      let r = length-append u (mark CloseBrace y ∷ x) in
      omega (arith, n, a, f, h, l, r)
  stmt_short d k m w z (s.turns {p = p} {q = q} {o = o} c b y {v = v} {w = u} {t = t} {ss = ss} test body) =
      let n = size.at_while t ss p in
      let a = expr_short (suc d) q v t test in
      let f = stmts_short (suc d) k m u ss body in
      let l = length-append v (mark CloseParen c ∷ opening d OpenBrace b ∷ (u ++ mark CloseBrace y ∷ [])) in
      let r = length-append u (mark CloseBrace y ∷ []) in
      omega (arith, n, a, f, l, r)
  stmt_short d k m w z (s.leave {p = p}) = let n = size.at_return None p in omega (arith, n)
  stmt_short d k m w z (s.give {p = p} {q = q} y {w = u} {e = e} value) =
      let n = size.at_return (Some e) p in
      let a = expr_short d q u e value in
      let l = length-append u (mark Semicolon y ∷ []) in
      omega (arith, n, a, l)
  stmt_short d k m w z (s.print {p = p} {q = q} c y {w = u} {e = e} value) =
      let n = size.at_print e p in
      let a = expr_short (suc d) q u e value in
      let l = length-append u (mark CloseParen c ∷ mark Semicolon y ∷ []) in
      omega (arith, n, a, l)
  stmt_short d k m w z (s.print_text {n = x} {p = p}) = let n = size.at_text x p in omega (arith, n)

  else_short : (d k m : ℕ) (w : List Part) (ss : List Stmt) → s.IsElse d k w ss m → stmts_size ss ≤ 4 * length w
  else_short d k m w ss s.no_else = omega arith
  else_short d k m w ss (s.otherwise {o = o} c {w = u} body) =
      let a = stmts_short (suc d) k m u ss body in
      let l = length-append u (mark CloseBrace c ∷ []) in
      omega (arith, a, l)

  pub stmts_short : (d k m : ℕ) (w : List Part) (ss : List Stmt) → s.IsStmts d k w ss m →
      stmts_size ss ≤ 4 * length w
  stmts_short d k m w ss s.no_stmt = omega arith
  stmts_short d k m w ss (s.then_stmt {m = m1} {v = v} {w = u} {s = z} {ss = more} one rest) =
      let a = stmt_short d k m1 v z one in
      let b = stmts_short d m1 m u more rest in
      let l = length-append v u in
      omega (arith, a, b, l)
