-- How many operands the code of a form holds, by how many marks may still be opened around it.
use Rattle.std.specs.Prelude.{max}
use Rattle.std.proofs.Math.Nat.{max-le, le-max_left, le-max_right}
use Rattle.std.proofs.Common.{◌≡◌, ℕ, zero, suc, ◌+◌, ◌*◌, ◌≤◌, List, [], ◌∷◌, ◌++◌, length, map, Some, None, true, false, refl, sym, ap, subst, arith}
use Rattle.jn_base.specs.declared.tree.Place.{Place}
use Rattle.jn_base.specs.declared.tree.Level.{Level}
use Rattle.jn_base.specs.declared.tree.Level.TheVariants as level
use Rattle.jn_base.specs.declared.tree.Op.{Op}
use Rattle.jn_base.specs.declared.tree.Op.TheVariants as op
use Rattle.jn_base.specs.declared.tree.Expr.{Expr}
use Rattle.jn_base.specs.declared.tree.Link.{Link}
use Rattle.jn_base.specs.declared.tree.Suffix.{Suffix}
use Rattle.jn_base.specs.declared.tree.Stmt.{Stmt}
use Rattle.jn_base.specs.declared.word.Mark.{Mark}
use Rattle.jn_base.specs.declared.word.Mark.TheVariants.{CloseBrace, CloseBracket, CloseParen, Dot, Equals, OpenBrace, OpenParen, Semicolon}
use Rattle.jn_base.specs.Parts.{Part, Local, mark, name, opening, new_name, link, posted, chained}
use Rattle.jn_base.specs.GrammarExpr as g
use Rattle.jn_base.specs.GrammarStmt as s
use Rattle.jn_size_laws.specs.Operands.{Needs, most, highest, stacked, super_holds, link_holds, expr_needs, link_needs, suffix_needs, stmt_needs, stmts_need}
use Rattle.jn_size_laws.specs.LawsOfOperands.{Nests}
use Rattle.jn_size_laws.proofs.NeedEquations as size

-- ---- the greater of two

max_both : (a b k : ℕ) → max a b ≤ k → (a ≤ k) × (b ≤ k)
max_both a b k h =
    let l = le-max_left a b in
    let r = le-max_right a b in
    (omega (arith, l, h), omega (arith, r, h))

-- ---- words that nest within the limit

nests_front : (v w : List Part) → Nests (v ++ w) → Nests v
nests_front [] w h = tt
nests_front (x ∷ v) w h = (h.0, nests_front v w h.1)

nests_back : (v w : List Part) → Nests (v ++ w) → Nests w
nests_back [] w h = h
nests_back (x ∷ v) w h = nests_back v w h.1

-- ---- lists of needs

-- each has at most so many operands
abbrev Below : ℕ → List Needs → Type 0
Below k [] = Unit {0}
Below k (x ∷ xs) = (x.operands ≤ k) × Below k xs

stacked_below : (base k c : ℕ) (xs : List Needs) → Below k xs → base + length xs ≤ c → base + (length xs + k) ≤ suc c →
    stacked base xs ≤ c
stacked_below base k c [] b long all = omega (arith, long)
stacked_below base k c (x ∷ xs) b long all =
    let x_low = b.0 in
    max-le (let q : base + x.operands ≤ c = omega (arith, x_low, all) in q)
    (stacked_below (suc base) k c xs b.1 (omega (arith, long)) (omega (arith, all)))

pub counted : (es : List Expr) → length (map expr_needs es) ≡ length es
counted [] = refl
counted (e ∷ es) = ap suc (counted es)

posted_needs : (p : Place) (e : Expr) (ss : List Suffix) (k : ℕ) → (expr_needs e).operands ≤ k →
    highest (map suffix_needs ss) ≤ k → (expr_needs (posted p e ss)).operands ≤ k
posted_needs p e [] k a b = a
posted_needs p e (z ∷ ss) k a b =
    subst (λ (x : Needs). x.operands ≤ k) (sym (size.at_post p e (z ∷ ss))) (max-le a b)

posted_few : (p : Place) (e : Expr) (ss : List Suffix) → (expr_needs (posted p e ss)).arguments ≤ 15 →
    ((expr_needs e).arguments ≤ 15) × (most (map suffix_needs ss) ≤ 15)
posted_few p e [] a = (a, omega arith)
posted_few p e (z ∷ ss) a =
    max_both _ _ 15 (subst (λ (x : Needs). x.arguments ≤ 15) (size.at_post p e (z ∷ ss)) a)

chained_needs : (p : Place) (lv : Level) (e : Expr) (ls : List Link) (k : ℕ) → (expr_needs e).operands ≤ k →
    highest (map link_needs ls) ≤ k → (expr_needs (chained p lv e ls)).operands ≤ k
chained_needs p lv e [] k a b = a
chained_needs p lv e (l ∷ ls) k a b =
    subst (λ (x : Needs). x.operands ≤ k) (sym (size.at_chain p lv e (l ∷ ls))) (max-le a b)

chained_few : (p : Place) (lv : Level) (e : Expr) (ls : List Link) → (expr_needs (chained p lv e ls)).arguments ≤ 15 →
    ((expr_needs e).arguments ≤ 15) × (most (map link_needs ls) ≤ 15)
chained_few p lv e [] a = (a, omega arith)
chained_few p lv e (l ∷ ls) a =
    max_both _ _ 15 (subst (λ (x : Needs). x.arguments ≤ 15) (size.at_chain p lv e (l ∷ ls)) a)

-- an operator with both operands holds the left one below the right one
above : (o : Op) (x : ℕ) → link_holds o x ≤ suc x
above op.And x = omega arith
above op.Or x = omega arith
above op.Eq x = omega arith
above op.Ne x = omega arith
above op.Lt x = omega arith
above op.Le x = omega arith
above op.Gt x = omega arith
above op.Ge x = omega arith
above op.Add x = omega arith
above op.Sub x = omega arith
above op.Mul x = omega arith
above op.Div x = omega arith
above op.Rem x = omega arith

strict_link : (o : Op) (p : Place) (e : Expr) (k : ℕ) → (expr_needs e).operands ≤ k →
    (link_needs (link o p e)).operands ≤ suc k
strict_link o p e k a =
    let u = above o (expr_needs e).operands in
    let z = ap (λ (x : Needs). x.operands) (size.at_link (link o p e)) in
    omega (arith, u, z, a)

-- `&&` and `||` hold the right one alone
and_alone : (m : Mark) (o : Op) (p : Place) (e : Expr) → g.IsOperator level.And m o →
    (link_needs (link o p e)).operands ≡ (expr_needs e).operands
and_alone m o p e g.and = ap (λ (x : Needs). x.operands) (size.at_link (link op.And p e))

or_alone : (m : Mark) (o : Op) (p : Place) (e : Expr) → g.IsOperator level.Or m o →
    (link_needs (link o p e)).operands ≡ (expr_needs e).operands
or_alone m o p e g.or = ap (λ (x : Needs). x.operands) (size.at_link (link op.Or p e))

link_few : (o : Op) (p : Place) (e : Expr) → (link_needs (link o p e)).arguments ≤ 15 → (expr_needs e).arguments ≤ 15
link_few o p e h = subst (λ (x : Needs). x.arguments ≤ 15) (size.at_link (link o p e)) h

-- one mark fewer may be opened within
record Within (d r : ℕ) : Type 0 where
  pub inner : ℕ
  pub all : suc d + inner ≡ 200
  pub is : r ≡ suc inner

within : (d r : ℕ) → d + r ≡ 200 → suc d ≤ 200 → Within d r
within d zero e h = absurd (omega (arith, e, h))
within d (suc r) e h = record { inner = r; all = omega (arith, e); is = refl }

mutual
  form_holds : (d r : ℕ) → d + r ≡ 200 → (p : Place) (w : List Part) (e : Expr) → g.IsForm d p w e → Nests w →
      (expr_needs e).arguments ≤ 15 → (expr_needs e).operands ≤ 19 * r + 1
  form_holds d r left p w e (g.new_object {q = q} o c {v = v} {w = u} {t = t} {es = es} term given) nests few =
      let n = nests_back v (opening d OpenParen o ∷ (u ++ mark CloseParen c ∷ [])) nests.1 in
      let i = within d r left n.0 in
      let f = max_both _ _ 15 (subst (λ (x : Needs). x.arguments ≤ 15) (size.at_new p t es) few) in
      let a = args_hold (suc d) i.inner i.all u es given (nests_front u (mark CloseParen c ∷ []) n.1) f.0 in
      let is = i.is in
      let count = f.1 in
      subst (λ (x : Needs). x.operands ≤ 19 * r + 1) (sym (size.at_new p t es))
      (max-le
      (stacked_below 0 (19 * i.inner + 5) (19 * r + 1) (map expr_needs es) a (omega (arith, is, count))
      (omega (arith, is, count))) (omega (arith, is, count)))
  form_holds d r left p w e (g.super_call {q = q} b z o n y c {x = x} {v = v} {w = u} {t = t} {es = es} term given)
      nests few =
      let k = nests_back v (mark CloseBracket z ∷ mark Dot o ∷ name x n ∷ opening d OpenParen y ∷
      (u ++ mark CloseParen c ∷ [])) nests.1.1 in
      let i = within d r left k.1.1.1.0 in
      let f = max_both _ _ 15 (subst (λ (x : Needs). x.arguments ≤ 15)
      (size.at_super p t (record { name = x; at = n }) es) few) in
      let a = args_hold (suc d) i.inner i.all u es given (nests_front u (mark CloseParen c ∷ []) k.1.1.1.1) f.0 in
      subst (λ (x : Needs). x.operands ≤ 19 * r + 1) (sym (size.at_super p t (record { name = x; at = n }) es))
      (at (map expr_needs es) i.inner i.is a f.1)
    where
      at : (xs : List Needs) (j : ℕ) → r ≡ suc j → Below (19 * j + 5) xs → length xs ≤ 15 →
          super_holds xs ≤ 19 * r + 1
      at [] j is low count = omega (arith, is)
      at (x ∷ xs) j is low count =
          let first_low = low.0 in
          max-le (omega (arith, first_low, is))
          (max-le (stacked_below 2 (19 * j + 5) (19 * r + 1) xs low.1 (omega (arith, is, count))
          (omega (arith, is, count))) (omega (arith, is, count)))

  prim_holds : (d r : ℕ) → d + r ≡ 200 → (p : Place) (w : List Part) (e : Expr) → g.IsPrim d p w e → Nests w →
      (expr_needs e).arguments ≤ 15 → (expr_needs e).operands ≤ 19 * r + 1
  prim_holds d r left p w e (g.constant {v = v}) nests few =
      let z = ap (λ (x : Needs). x.operands) (size.at_number p v) in omega (arith, z)
  prim_holds d r left p w e g.yes nests few =
      let z = ap (λ (x : Needs). x.operands) (size.at_truth p true) in omega (arith, z)
  prim_holds d r left p w e g.no nests few =
      let z = ap (λ (x : Needs). x.operands) (size.at_truth p false) in omega (arith, z)
  prim_holds d r left p w e g.null nests few =
      let z = ap (λ (x : Needs). x.operands) (size.at_null p) in omega (arith, z)
  prim_holds d r left p w e g.this_object nests few =
      let z = ap (λ (x : Needs). x.operands) (size.at_this p) in omega (arith, z)
  prim_holds d r left p w e (g.variable {x = x}) nests few =
      let z = ap (λ (x : Needs). x.operands) (size.at_variable p x) in omega (arith, z)
  prim_holds d r left p w e (g.parens {q = q} c {w = u} inner) nests few =
      let i = within d r left nests.0 in
      let a = expr_holds (suc d) i.inner i.all q u e inner (nests_front u (mark CloseParen c ∷ []) nests.1) few in
      let is = i.is in
      omega (arith, a, is)
  prim_holds d r left p w e (g.form f) nests few = form_holds d r left p w e f nests few

  suffix_holds : (d r : ℕ) → d + r ≡ 200 → (w : List Part) (z : Suffix) → g.IsSuffix d w z → Nests w →
      (suffix_needs z).arguments ≤ 15 → (suffix_needs z).operands ≤ 19 * r + 1
  suffix_holds d r left w z (g.field {x = x} {p = p}) nests few =
      let k = ap (λ (x : Needs). x.operands) (size.of_suffix x p None) in omega (arith, k)
  suffix_holds d r left w z (g.call {x = x} {p = p} {q = q} c {w = u} {es = es} given) nests few =
      let i = within d r left nests.1.1.0 in
      let f = max_both _ _ 15 (subst (λ (x : Needs). x.arguments ≤ 15) (size.of_suffix x p (Some es)) few) in
      let a = args_hold (suc d) i.inner i.all u es given (nests_front u (mark CloseParen c ∷ []) nests.1.1.1) f.0 in
      let is = i.is in
      let count = f.1 in
      subst (λ (x : Needs). x.operands ≤ 19 * r + 1) (sym (size.of_suffix x p (Some es)))
      (stacked_below 1 (19 * i.inner + 5) (19 * r + 1) (map expr_needs es) a (omega (arith, is, count))
      (omega (arith, is, count)))

  suffixes_hold : (d r : ℕ) → d + r ≡ 200 → (w : List Part) (ss : List Suffix) → g.IsSuffixes d w ss → Nests w →
      most (map suffix_needs ss) ≤ 15 → highest (map suffix_needs ss) ≤ 19 * r + 1
  suffixes_hold d r left w ss g.no_suffix nests few = omega arith
  suffixes_hold d r left w ss (g.then_suffix {v = v} {w = u} {s = z} {ss = more} one rest) nests few =
      let f = max_both _ _ 15 few in
      max-le (suffix_holds d r left v z one (nests_front v u nests) f.0)
      (suffixes_hold d r left u more rest (nests_back v u nests) f.1)

  post_holds : (d r : ℕ) → d + r ≡ 200 → (p : Place) (w : List Part) (e : Expr) → g.IsPost d p w e → Nests w →
      (expr_needs e).arguments ≤ 15 → (expr_needs e).operands ≤ 19 * r + 1
  post_holds d r left p w e (g.post {v = v} {w = u} {e = f} {ss = ss} prim parts) nests few =
      let k = posted_few p f ss few in
      posted_needs p f ss (19 * r + 1) (prim_holds d r left p v f prim (nests_front v u nests) k.0)
      (suffixes_hold d r left u ss parts (nests_back v u nests) k.1)

  unary_holds : (d r : ℕ) → d + r ≡ 200 → (p : Place) (w : List Part) (e : Expr) → g.IsUnary d p w e → Nests w →
      (expr_needs e).arguments ≤ 15 → (expr_needs e).operands ≤ 19 * r + 1
  unary_holds d r left p w e (g.inverse {q = q} {w = u} {e = f} inner) nests few =
      let i = within d r left nests.0 in
      let z = ap (λ (x : Needs). x.operands) (size.at_inverse p f) in
      let a = unary_holds (suc d) i.inner i.all q u f inner nests.1
      (subst (λ (x : Needs). x.arguments ≤ 15) (size.at_inverse p f) few) in
      let is = i.is in
      omega (arith, z, a, is)
  unary_holds d r left p w e (g.negative {q = q} {w = u} {e = f} inner) nests few =
      let i = within d r left nests.0 in
      let z = ap (λ (x : Needs). x.operands) (size.at_negative p f) in
      let a = unary_holds (suc d) i.inner i.all q u f inner nests.1
      (subst (λ (x : Needs). x.arguments ≤ 15) (size.at_negative p f) few) in
      let is = i.is in
      omega (arith, z, a, is)
  unary_holds d r left p w e (g.viewed {q = q} o c {v = v} {w = u} {t = t} {e = f} target inner) nests few =
      let i = within d r left nests.0 in
      let n = nests_back v (mark CloseParen c ∷ u) nests.1.1 in
      let a = unary_holds (suc d) i.inner i.all q u f inner n.1
      (subst (λ (x : Needs). x.arguments ≤ 15) (size.at_view p t f) few) in
      let is = i.is in
      subst (λ (x : Needs). x.operands ≤ 19 * r + 1) (sym (size.at_view p t f))
      (max-le (omega (arith, a, is)) (omega (arith, is)))
  unary_holds d r left p w e (g.unsigned h) nests few = post_holds d r left p w e h nests few

  product_holds : (d r : ℕ) → d + r ≡ 200 → (p : Place) (w : List Part) (e : Expr) → g.IsProduct d p w e → Nests w →
      (expr_needs e).arguments ≤ 15 → (expr_needs e).operands ≤ 19 * r + 2
  product_holds d r left p w e (g.product {v = v} {w = u} {e = f} {ls = ls} one rest) nests few =
      let k = chained_few p level.Product f ls few in
      let a = unary_holds d r left p v f one (nests_front v u nests) k.0 in
      chained_needs p level.Product f ls (19 * r + 2) (omega (arith, a))
      (factors_hold d r left u ls rest (nests_back v u nests) k.1)

  factors_hold : (d r : ℕ) → d + r ≡ 200 → (w : List Part) (ls : List Link) → g.IsFactors d w ls → Nests w →
      most (map link_needs ls) ≤ 15 → highest (map link_needs ls) ≤ 19 * r + 2
  factors_hold d r left w ls g.no_factor nests few = omega arith
  factors_hold d r left w ls (g.then_factor {o = o} {p = p} {q = q} {v = v} {w = u} {e = f} {ls = more} is one rest)
      nests few =
      let k = max_both _ _ 15 few in
      let a = strict_link o p f (19 * r + 1)
      (unary_holds d r left q v f one (nests_front v u nests.1) (link_few o p f k.0)) in
      max-le (omega (arith, a)) (factors_hold d r left u more rest (nests_back v u nests.1) k.1)

  sum_holds : (d r : ℕ) → d + r ≡ 200 → (p : Place) (w : List Part) (e : Expr) → g.IsSum d p w e → Nests w →
      (expr_needs e).arguments ≤ 15 → (expr_needs e).operands ≤ 19 * r + 3
  sum_holds d r left p w e (g.sum {v = v} {w = u} {e = f} {ls = ls} one rest) nests few =
      let k = chained_few p level.Sum f ls few in
      let a = product_holds d r left p v f one (nests_front v u nests) k.0 in
      chained_needs p level.Sum f ls (19 * r + 3) (omega (arith, a))
      (summands_hold d r left u ls rest (nests_back v u nests) k.1)

  summands_hold : (d r : ℕ) → d + r ≡ 200 → (w : List Part) (ls : List Link) → g.IsSummands d w ls → Nests w →
      most (map link_needs ls) ≤ 15 → highest (map link_needs ls) ≤ 19 * r + 3
  summands_hold d r left w ls g.no_summand nests few = omega arith
  summands_hold d r left w ls (g.then_summand {o = o} {p = p} {q = q} {v = v} {w = u} {e = f} {ls = more} is one rest)
      nests few =
      let k = max_both _ _ 15 few in
      let a = strict_link o p f (19 * r + 2)
      (product_holds d r left q v f one (nests_front v u nests.1) (link_few o p f k.0)) in
      max-le (omega (arith, a)) (summands_hold d r left u more rest (nests_back v u nests.1) k.1)

  comparison_holds : (d r : ℕ) → d + r ≡ 200 → (p : Place) (w : List Part) (e : Expr) → g.IsComparison d p w e →
      Nests w → (expr_needs e).arguments ≤ 15 → (expr_needs e).operands ≤ 19 * r + 4
  comparison_holds d r left p w e (g.one_sum h) nests few =
      let a = sum_holds d r left p w e h nests few in omega (arith, a)
  comparison_holds d r left p w e (g.two_sums {m = m} {o = o} {q = q} y {v = v} {w = u} {e = f} {f = h} one is other)
      nests few =
      let k = chained_few p level.Compare f (link o y h ∷ []) few in
      let j = max_both _ _ 15 k.1 in
      let a = sum_holds d r left p v f one (nests_front v (mark m y ∷ u) nests) k.0 in
      let n = nests_back v (mark m y ∷ u) nests in
      let b = strict_link o y h (19 * r + 3) (sum_holds d r left q u h other n.1 (link_few o y h j.0)) in
      chained_needs p level.Compare f (link o y h ∷ []) (19 * r + 4) (omega (arith, a))
      (max-le (omega (arith, b)) (omega arith))

  equality_holds : (d r : ℕ) → d + r ≡ 200 → (p : Place) (w : List Part) (e : Expr) → g.IsEquality d p w e →
      Nests w → (expr_needs e).arguments ≤ 15 → (expr_needs e).operands ≤ 19 * r + 5
  equality_holds d r left p w e (g.one_side h) nests few =
      let a = comparison_holds d r left p w e h nests few in omega (arith, a)
  equality_holds d r left p w e (g.two_sides {m = m} {o = o} {q = q} y {v = v} {w = u} {e = f} {f = h} one is other)
      nests few =
      let k = chained_few p level.Equal f (link o y h ∷ []) few in
      let j = max_both _ _ 15 k.1 in
      let a = comparison_holds d r left p v f one (nests_front v (mark m y ∷ u) nests) k.0 in
      let n = nests_back v (mark m y ∷ u) nests in
      let b = strict_link o y h (19 * r + 4) (comparison_holds d r left q u h other n.1 (link_few o y h j.0)) in
      chained_needs p level.Equal f (link o y h ∷ []) (19 * r + 5) (omega (arith, a))
      (max-le (omega (arith, b)) (omega arith))

  conjunction_holds : (d r : ℕ) → d + r ≡ 200 → (p : Place) (w : List Part) (e : Expr) → g.IsConjunction d p w e →
      Nests w → (expr_needs e).arguments ≤ 15 → (expr_needs e).operands ≤ 19 * r + 5
  conjunction_holds d r left p w e (g.conjunction {v = v} {w = u} {e = f} {ls = ls} one rest) nests few =
      let k = chained_few p level.And f ls few in
      chained_needs p level.And f ls (19 * r + 5) (equality_holds d r left p v f one (nests_front v u nests) k.0)
      (conjuncts_hold d r left u ls rest (nests_back v u nests) k.1)

  conjuncts_hold : (d r : ℕ) → d + r ≡ 200 → (w : List Part) (ls : List Link) → g.IsConjuncts d w ls → Nests w →
      most (map link_needs ls) ≤ 15 → highest (map link_needs ls) ≤ 19 * r + 5
  conjuncts_hold d r left w ls g.no_conjunct nests few = omega arith
  conjuncts_hold d r left w ls (g.then_conjunct {m = m} {o = o} {p = p} {q = q} {v = v} {w = u} {e = f} {ls = more} is
      one rest) nests few =
      let k = max_both _ _ 15 few in
      let z = and_alone m o p f is in
      let a = equality_holds d r left q v f one (nests_front v u nests.1) (link_few o p f k.0) in
      max-le (omega (arith, z, a)) (conjuncts_hold d r left u more rest (nests_back v u nests.1) k.1)

  pub expr_holds : (d r : ℕ) → d + r ≡ 200 → (p : Place) (w : List Part) (e : Expr) → g.IsExpr d p w e → Nests w →
      (expr_needs e).arguments ≤ 15 → (expr_needs e).operands ≤ 19 * r + 5
  expr_holds d r left p w e (g.disjunction {v = v} {w = u} {e = f} {ls = ls} one rest) nests few =
      let k = chained_few p level.Or f ls few in
      chained_needs p level.Or f ls (19 * r + 5) (conjunction_holds d r left p v f one (nests_front v u nests) k.0)
      (disjuncts_hold d r left u ls rest (nests_back v u nests) k.1)

  disjuncts_hold : (d r : ℕ) → d + r ≡ 200 → (w : List Part) (ls : List Link) → g.IsDisjuncts d w ls → Nests w →
      most (map link_needs ls) ≤ 15 → highest (map link_needs ls) ≤ 19 * r + 5
  disjuncts_hold d r left w ls g.no_disjunct nests few = omega arith
  disjuncts_hold d r left w ls (g.then_disjunct {m = m} {o = o} {p = p} {q = q} {v = v} {w = u} {e = f} {ls = more} is
      one rest) nests few =
      let k = max_both _ _ 15 few in
      let z = or_alone m o p f is in
      let a = conjunction_holds d r left q v f one (nests_front v u nests.1) (link_few o p f k.0) in
      max-le (omega (arith, z, a)) (disjuncts_hold d r left u more rest (nests_back v u nests.1) k.1)

  args_hold : (d r : ℕ) → d + r ≡ 200 → (w : List Part) (es : List Expr) → g.IsArgs d w es → Nests w →
      most (map expr_needs es) ≤ 15 → Below (19 * r + 5) (map expr_needs es)
  args_hold d r left w es g.no_arg nests few = tt
  args_hold d r left w es (g.args {p = p} {v = v} {w = u} {e = f} {es = rest_of} one rest) nests few =
      let k = max_both _ _ 15 few in (
        expr_holds d r left p v f one (nests_front v u nests) k.0,
        more_hold d r left u rest_of rest (nests_back v u nests) k.1,
      )

  more_hold : (d r : ℕ) → d + r ≡ 200 → (w : List Part) (es : List Expr) → g.IsMoreArgs d w es → Nests w →
      most (map expr_needs es) ≤ 15 → Below (19 * r + 5) (map expr_needs es)
  more_hold d r left w es g.no_more_arg nests few = tt
  more_hold d r left w es (g.then_arg {p = p} {v = v} {w = u} {e = f} {es = rest_of} one rest) nests few =
      let k = max_both _ _ 15 few in (
        expr_holds d r left p v f one (nests_front v u nests.1) k.0,
        more_hold d r left u rest_of rest (nests_back v u nests.1) k.1,
      )

call_holds : (d r : ℕ) → d + r ≡ 200 → (w : List Part) (e : Expr) → g.IsCall d w e → Nests w →
    (expr_needs e).arguments ≤ 15 → (expr_needs e).operands ≤ 19 * r + 1
call_holds d r left w e (g.called {p = p} {v = v} {w = u} {e = f} {ss = ss} prim parts ends) nests few =
    let k = posted_few p f ss few in
    posted_needs p f ss (19 * r + 1) (prim_holds d r left p v f prim (nests_front v u nests) k.0)
    (suffixes_hold d r left u ss parts (nests_back v u nests) k.1)
call_holds d r left w e (g.formed {p = p} h) nests few = form_holds d r left p w e h nests few

-- ---- statements

-- as deep as an expression within d marks may be
in_limit : (d r x : ℕ) → d + r ≡ 200 → x ≤ 19 * r + 6 → x ≤ 3806
in_limit d r x left h = omega (arith, left, h)

of_stmt : (x y : Needs) → x ≡ y → y.operands ≤ 3806 → x.operands ≤ 3806
of_stmt x y e h = subst (λ (x : Needs). x.operands ≤ 3806) (sym e) h

few_of : (x y : Needs) → x ≡ y → x.arguments ≤ 15 → y.arguments ≤ 15
few_of x y e h = subst (λ (x : Needs). x.arguments ≤ 15) e h

mutual
  stmt_holds : (d r : ℕ) → d + r ≡ 200 → (k m : ℕ) (w : List Part) (z : Stmt) → s.IsStmt d k w z m → Nests w →
      (stmt_needs z).arguments ≤ 15 → (stmt_needs z).operands ≤ 3806
  stmt_holds d r left k m w z (s.block c {w = u} {ss = ss} body) nests few =
      let i = within d r left nests.0 in
      of_stmt _ _ (size.at_block ss) (stmts_hold (suc d) i.inner i.all k m u ss body
      (nests_front u (mark CloseBrace c ∷ []) nests.1) (few_of _ _ (size.at_block ss) few))
  stmt_holds d r left k m w z (s.local {x = x} {p = p} {q = q} o y {u = f} {v = v} {w = u} {fixed = final} {t = t}
      {e = e}
      is type value) nests few =
      let q1 = size.at_local final t (record { name = x; at = p }) e in
      let n1 = nests_back f (v ++ (new_name (Local (suc k)) x p ∷ mark Equals o ∷ (u ++ mark Semicolon y ∷ [])))
      nests in
      let n2 = nests_back v (new_name (Local (suc k)) x p ∷ mark Equals o ∷ (u ++ mark Semicolon y ∷ [])) n1 in
      let a = expr_holds d r left q u e value (nests_front u (mark Semicolon y ∷ []) n2.1.1) (few_of _ _ q1 few) in
      of_stmt _ _ q1 (in_limit d r _ left (omega (arith, a)))
  stmt_holds d r left k m w z (s.assign {x = x} {p = p} {q = q} y {w = u} {e = e} value) nests few =
      let q1 = size.at_assign (record { name = x; at = p }) e in
      let a = expr_holds d r left q u e value (nests_front u (mark Semicolon y ∷ []) nests.1.1) (few_of _ _ q1 few) in
      of_stmt _ _ q1 (in_limit d r _ left (omega (arith, a)))
  stmt_holds d r left k m w z (s.set_field {x = x} {p = p} {q = q} b n o y {v = v} {w = u} {t = t} {e = e} receiver
      value)
      nests few =
      let q1 = size.at_set t (record { name = x; at = n }) e in
      let f = max_both _ _ 15 (few_of _ _ q1 few) in
      let n1 = nests_back v (mark Dot b ∷ name x n ∷ mark Equals o ∷ (u ++ mark Semicolon y ∷ [])) nests in
      let a = post_holds d r left p v t receiver (nests_front v _ nests) f.0 in
      let h = expr_holds d r left q u e value (nests_front u (mark Semicolon y ∷ []) n1.1.1.1) f.1 in
      of_stmt _ _ q1 (max-le (in_limit d r _ left (omega (arith, a))) (in_limit d r _ left (omega (arith, h))))
  stmt_holds d r left k m w z (s.act y {w = u} {e = e} value) nests few =
      let q1 = size.at_do e in
      let a = call_holds d r left u e value (nests_front u (mark Semicolon y ∷ []) nests) (few_of _ _ q1 few) in
      of_stmt _ _ q1 (in_limit d r _ left (omega (arith, a)))
  stmt_holds d r left k m w z (s.choice {m = m1} {p = p} {q = q} {o = o} c b y {v = v} {w = u} {u = x} {t = t} {ss = ss}
      {rs = rs} test one other) nests few =
      let q1 = size.at_if t ss rs p in
      let f = max_both _ _ 15 (few_of _ _ q1 few) in
      let h = max_both _ _ 15 f.1 in
      let i = within d r left nests.1.0 in
      let n1 = nests_back v (mark CloseParen c ∷ opening d OpenBrace b ∷ (u ++ (mark CloseBrace y ∷ x))) nests.1.1 in
      let n2 = nests_back u (mark CloseBrace y ∷ x) n1.1.1 in
      let a = expr_holds (suc d) i.inner i.all q v t test (nests_front v _ nests.1.1) f.0 in
      of_stmt _ _ q1 (max-le (in_limit (suc d) i.inner _ i.all (omega (arith, a)))
      (max-le (stmts_hold (suc d) i.inner i.all k m1 u ss one (nests_front u (mark CloseBrace y ∷ x) n1.1.1) h.0)
      (else_holds d r left m1 m x rs other n2.1 h.1)))
  stmt_holds d r left k m w z (s.turns {p = p} {q = q} {o = o} c b y {v = v} {w = u} {t = t} {ss = ss} test body) nests
      few =
      let q1 = size.at_while t ss p in
      let f = max_both _ _ 15 (few_of _ _ q1 few) in
      let i = within d r left nests.1.0 in
      let n1 = nests_back v (mark CloseParen c ∷ opening d OpenBrace b ∷ (u ++ mark CloseBrace y ∷ [])) nests.1.1 in
      let a = expr_holds (suc d) i.inner i.all q v t test (nests_front v _ nests.1.1) f.0 in
      of_stmt _ _ q1 (max-le (in_limit (suc d) i.inner _ i.all (omega (arith, a)))
      (stmts_hold (suc d) i.inner i.all k m u ss body (nests_front u (mark CloseBrace y ∷ []) n1.1.1) f.1))
  stmt_holds d r left k m w z (s.leave {p = p}) nests few = of_stmt _ _ (size.at_return None p) (omega arith)
  stmt_holds d r left k m w z (s.give {p = p} {q = q} y {w = u} {e = e} value) nests few =
      let q1 = size.at_return (Some e) p in
      let a = expr_holds d r left q u e value (nests_front u (mark Semicolon y ∷ []) nests.1) (few_of _ _ q1 few) in
      of_stmt _ _ q1 (in_limit d r _ left (omega (arith, a)))
  stmt_holds d r left k m w z (s.print {p = p} {q = q} c y {w = u} {e = e} value) nests few =
      let q1 = size.at_print e p in
      let i = within d r left nests.1.0 in
      let a = expr_holds (suc d) i.inner i.all q u e value
      (nests_front u (mark CloseParen c ∷ mark Semicolon y ∷ []) nests.1.1) (few_of _ _ q1 few) in
      of_stmt _ _ q1 (in_limit (suc d) i.inner _ i.all (omega (arith, a)))
  stmt_holds d r left k m w z (s.print_text {n = x} {p = p}) nests few = of_stmt _ _ (size.at_text x p) (omega arith)

  else_holds : (d r : ℕ) → d + r ≡ 200 → (k m : ℕ) (w : List Part) (ss : List Stmt) → s.IsElse d k w ss m → Nests w →
      (stmts_need ss).arguments ≤ 15 → (stmts_need ss).operands ≤ 3806
  else_holds d r left k m w ss s.no_else nests few = omega arith
  else_holds d r left k m w ss (s.otherwise {o = o} c {w = u} body) nests few =
      let i = within d r left nests.1.0 in
      stmts_hold (suc d) i.inner i.all k m u ss body (nests_front u (mark CloseBrace c ∷ []) nests.1.1) few

  pub stmts_hold : (d r : ℕ) → d + r ≡ 200 → (k m : ℕ) (w : List Part) (ss : List Stmt) → s.IsStmts d k w ss m →
      Nests w → (stmts_need ss).arguments ≤ 15 → (stmts_need ss).operands ≤ 3806
  stmts_hold d r left k m w ss s.no_stmt nests few = omega arith
  stmts_hold d r left k m w ss (s.then_stmt {m = m1} {v = v} {w = u} {s = z} {ss = rest_of} one rest) nests few =
      let f = max_both _ _ 15 few in
      max-le (stmt_holds d r left k m1 v z one (nests_front v u nests) f.0)
      (stmts_hold d r left m1 m u rest_of rest (nests_back v u nests) f.1)
