-- Expressions of a source stand as they are written, whatever symbol is asked for.
use Rattle.std.proofs.Common.{◌≡◌, ℕ, suc, ◌+◌, ◌≤◌, true, false, not, List, [], ◌∷◌, ◌++◌, map, length, None, ℤ, pos, codes, refl, sym, ap, subst, ◌∙◌, append_assoc, append-nil, arith}
use Rattle.std.specs.Fmt.{signed_decimal}
use Rattle.std.specs.Char.{is_ascii_digit}
use Rattle.std.proofs.lemmas.Bool.Decides.{nat_tests}
use Rattle.jn_printer.proofs.Decimals.{decimal_is}
use Rattle.jn_base.specs.declared.tree.Place.{Place}
use Rattle.jn_base.specs.declared.tree.Name.{Name}
use Rattle.jn_base.specs.declared.tree.Term.{Term}
use Rattle.jn_base.specs.declared.tree.ViewTerm.{ViewTerm}
use Rattle.jn_base.specs.declared.tree.Expr.{Expr}
use Rattle.jn_base.specs.declared.tree.Node.{Node}
use Rattle.jn_base.specs.declared.tree.Node.TheVariants as node
use Rattle.jn_base.specs.declared.tree.Node.TheVariants.{outs-Int, outs-Bool, outs-Null, outs-This, outs-Var, outs-New, outs-Super, outs-Not, outs-Neg, outs-View}
use Rattle.jn_base.specs.declared.tree.Suffix.{Suffix}
use Rattle.jn_base.specs.declared.tree.Link.{Link}
use Rattle.jn_base.specs.declared.tree.Op.{Op}
use Rattle.jn_base.specs.declared.tree.Level.{Level}
use Rattle.jn_base.specs.declared.tree.Level.TheVariants as level
use Rattle.jn_base.specs.declared.word.Keyword.{Keyword}
use Rattle.jn_base.specs.declared.word.Keyword.TheVariants.{False, New, Null, Super, This, True, View}
use Rattle.jn_base.specs.declared.word.Mark.{Mark}
use Rattle.jn_base.specs.declared.word.Mark.TheVariants.{Bang, CloseBracket, CloseParen, Dot, Minus, OpenBracket, OpenParen}
use Rattle.jn_base.specs.Words.{mark_text, keyword_text}
use Rattle.jn_base.specs.Parts.{Part, Plain, Opens, key, mark, name, number, named, opening, expr, link, chained}
use Rattle.jn_base.specs.Spelling.{limit_of}
use Rattle.jn_base.specs.GrammarTypes.{IsTerm, IsView}
use Rattle.jn_base.specs.GrammarExpr.{IsOperator, IsForm, new_object, super_call, IsPrim, constant, yes, no, null, this_object, variable, parens, form, IsSuffix, field, call, IsSuffixes, no_suffix, then_suffix, IsPost, post, IsUnary, inverse, negative, viewed, unsigned, IsProduct, product, IsFactors, no_factor, then_factor, IsSum, sum, IsSummands, no_summand, then_summand, IsComparison, one_sum, two_sums, IsEquality, one_side, two_sides, IsConjunction, conjunction, IsConjuncts, no_conjunct, then_conjunct, IsExpr, disjunction, IsDisjuncts, no_disjunct, then_disjunct, IsArgs, no_arg, args, IsMoreArgs, no_more_arg, then_arg}
use Rattle.jn_printer.specs.declared.symbol.Symbol.TheVariants as symbol
use Rattle.jn_printer.specs.Pieces.{name_text, term_text, view_text}
use Rattle.jn_printer.specs.ExprText.{args_text, tightness, chain_symbol, operand_symbol, symbol_of, symbol_at, node_bare, expr_text}
use Rattle.jn_base.specs.Unplaced.{unplaced_expr}
use Rattle.jn_printer.proofs.Bare.{bare_number, bare_truth, bare_null, bare_this, bare_variable, bare_new, bare_super, bare_inverse, bare_negative, bare_view}
use Rattle.jn_printer.proofs.Placeless.{expr_same, new_same, super_same, not_same, neg_same, view_same}
use Rattle.jn_printer.proofs.Written.{breaks, calm, goes_on, is_backslash_mark, Setting, GivenName, GivenNumber, a_number, Fine, fine_left, fine_right, Lays, lays_none, lays_map, lays_then, lays_word, lays_key, lays_mark, lays_name, lays_blank, lays_text, lays_without, lays_without_behind}
use Rattle.jn_printer.proofs.Follows.{and_left, name_calm, name_calm_on}
use Rattle.jn_printer.proofs.TermsBack.{room, open_room, term_lays, term_calm, view_lays}
use Rattle.jn_printer.proofs.ExprTools.{Is, Gives, tight, Can, can_by, Fits, fits_words, fits_own, loosen, fits_lays, fits_calm}
use Rattle.jn_printer.proofs.ExprRows.{Args, args_none, args_some, MoreArgs, more_none, more_then, call_lays, OneSuffix, suffix_field, suffix_call, Suffixes, suffixes_none, suffixes_then, posted_fits, Links, links_none, links_then, chained_fits}

-- ---- the forms with `new` and `super`

abbrev pub GivesForm : ℕ → Expr → List Part → Type 0
GivesForm d e v = (q : Place) × (u : Expr) × IsForm d q v u × (unplaced_expr u ≡ unplaced_expr e)

pub record Form (s : Setting) (D : ℕ) (w : List Part) (e : Expr) : Type 0 where
  pub prim : tight e ≡ 8
  pub lays : (d : ℕ) → d ≤ D → (rest : List ℕ) → breaks rest ≡ true → (n : ℕ) → Lays s rest n ((node_bare s.names e.node).text) w (GivesForm d e)
  pub calmly : (u : List ℕ) → calm ((node_bare s.names e.node).text ++ u) ≡ true

pub form_can : (s : Setting) (D : ℕ) (w : List Part) (e : Expr) → Form s D w e → Can s D w e
form_can s D w e f = record {
  own = λ d l rest b n. subst (λ (k : ℕ). Lays s rest n ((node_bare s.names e.node).text) w (Gives k d e)) (sym f.prim) (lays_map (f.lays d l rest b n) (λ v g. (g.0, g.1, form g.2, g.3)));
  calmly = f.calmly;
}

pub form_new : (s : Setting) (D : ℕ) (p q : Place) (o c : Place) (v w : List Part) (t : Term) (es : List Expr) → IsTerm D q v t → Args s (suc D) w es
    → Fine s (v ++ opening D OpenParen o ∷ (w ++ mark CloseParen c ∷ [])) → Form s D (key New p ∷ (v ++ opening D OpenParen o ∷ (w ++ mark CloseParen c ∷ []))) (expr p (node.New t es))
form_new s D p q o c v w t es i a f = record { prim = ap (λ x. tightness (symbol_at x)) (outs-New t es); lays = lays; calmly = calmly } where
  nd : Node
  nd = node.New t es

  in_args : List ℕ
  in_args = args_text (map (expr_text s.names) es)

  lays : (d : ℕ) → d ≤ D → (rest : List ℕ) → breaks rest ≡ true → (n : ℕ)
      → Lays s rest n ((node_bare s.names nd).text) (key New p ∷ (v ++ opening D OpenParen o ∷ (w ++ mark CloseParen c ∷ []))) (GivesForm d (expr p nd))
  lays d l rest b n =
      let g = fine_right s v (opening D OpenParen o ∷ (w ++ mark CloseParen c ∷ [])) f in
      lays_text (sym (bare_new s.names t es))
      (lays_key New (32 ∷ (term_text s.names t ++ in_args)) refl
      (lays_blank refl
      (lays_then (term_text s.names t) in_args (term_lays s i (fine_left s v _ f) d l (in_args ++ rest) refl _) (λ v' k.
      call_lays D o c w es a g.1 d l b (λ o' c' x j. (s.at n, expr (s.at n) (node.New k.1 j.0), new_object o' c' k.2 j.1, expr_same _ p _ _ (new_same k.1 t j.0 es k.3 j.2)))))))

  calmly : (u : List ℕ) → calm ((node_bare s.names nd).text ++ u) ≡ true
  calmly u = subst (λ (x : List ℕ). calm (x ++ u) ≡ true) (sym (bare_new s.names t es)) refl

pub form_super : (s : Setting) (D : ℕ) (p q b e o n u c : Place) (x : Name) (v w : List Part) (t : Term) (es : List Expr) → IsTerm (suc D) q v t → Args s (suc D) w es
    → Fine s (opening D OpenBracket b ∷ (v ++ mark CloseBracket e ∷ mark Dot o ∷ name x n ∷ opening D OpenParen u ∷ (w ++ mark CloseParen c ∷ [])))
    → Form s D (key Super p ∷ opening D OpenBracket b ∷ (v ++ mark CloseBracket e ∷ mark Dot o ∷ name x n ∷ opening D OpenParen u ∷ (w ++ mark CloseParen c ∷ []))) (expr p (node.Super t (named x n) es))
form_super s D p q b' e o n' u' c x v w t es i a f = record { prim = ap (λ y. tightness (symbol_at y)) (outs-Super t (named x n') es); lays = lays; calmly = calmly } where
  nd : Node
  nd = node.Super t (named x n') es

  in_args : List ℕ
  in_args = args_text (map (expr_text s.names) es)

  tail : List Part
  tail = mark CloseBracket e ∷ mark Dot o ∷ name x n' ∷ opening D OpenParen u' ∷ (w ++ mark CloseParen c ∷ [])

  lays : (d : ℕ) → d ≤ D → (rest : List ℕ) → breaks rest ≡ true → (n : ℕ) → Lays s rest n ((node_bare s.names nd).text) (key Super p ∷ opening D OpenBracket b' ∷ (v ++ tail)) (GivesForm d (expr p nd))
  lays d l rest b n =
      let g = fine_right s v tail f.2 in
      let h = fine_left s v tail f.2 in
      let name' = name_text s.names x in
      let behind = codes "]." ++ (name' ++ in_args) in
      let up : suc d ≤ suc D = omega (arith, l) in
      lays_text (sym (bare_super s.names t (named x n') es))
      (lays_key Super (91 ∷ (term_text s.names t ++ behind)) refl
      (lays_mark OpenBracket (Opens (suc d)) (term_text s.names t ++ behind) (subst (λ (y : List ℕ). calm y ≡ true) (sym (append_assoc (term_text s.names t) behind rest)) (term_calm s i h (behind ++ rest))) refl (room d l f.1)
      (lays_then (term_text s.names t) behind (term_lays s i h (suc d) up (behind ++ rest) refl _) (λ v' k.
      lays_mark CloseBracket Plain (46 ∷ (name' ++ in_args)) refl refl refl
      (lays_mark Dot Plain (name' ++ in_args) (name_calm_on s.names x g.2.2.0 in_args rest) refl refl
      (lays_name x Plain in_args g.2.2.0 refl refl
      (call_lays D u' c w es a g.2.2.2.1 d l b (λ o' c' y j.
      (s.at n, expr (s.at n) (node.Super k.1 (named x _) j.0), super_call _ _ _ _ o' c' k.2 j.1, expr_same _ p _ _ (super_same k.1 t x _ n' j.0 es k.3 j.2))))))))))

  calmly : (u : List ℕ) → calm ((node_bare s.names nd).text ++ u) ≡ true
  calmly u = subst (λ (y : List ℕ). calm (y ++ u) ≡ true) (sym (bare_super s.names t (named x n') es)) refl

-- ---- the other primaries

prim_number : (s : Setting) (D : ℕ) (v : ℤ) (p : Place) → GivenNumber v → Fits s 8 D (number v p ∷ []) (expr p (node.Int v))
prim_number s D v p g = fits_own s 8 D (number v p ∷ []) (expr p (node.Int v)) own
    (can_by s D (number v p ∷ []) p (node.Int v) 8 (signed_decimal (pos g.value)) own (bare_number s.names v ∙ ap signed_decimal g.is) lays calmly)
  where
    own : tightness (symbol_of (node.Int v)) ≡ 8
    own = ap (λ x. tightness (symbol_at x)) (outs-Int v)

    lays : (d : ℕ) → d ≤ D → (rest : List ℕ) → breaks rest ≡ true → (n : ℕ) → Lays s rest n (signed_decimal (pos g.value)) (number v p ∷ []) (Gives 8 d (expr p (node.Int v)))
    lays d l rest b n = subst (λ (x : ℤ). Lays s rest n (signed_decimal (pos g.value)) (number x p ∷ []) (Gives 8 d (expr p (node.Int x)))) (sym g.is)
        (lays_text (append-nil (signed_decimal (pos g.value)))
        (lays_word Plain (signed_decimal (pos g.value)) [] (a_number g.value g.fits b) refl refl
        (lays_none (s.at n, expr (s.at n) (node.Int (pos g.value)), constant, expr_same _ p _ _ refl))))

    calmly : (u : List ℕ) → calm (signed_decimal (pos g.value) ++ u) ≡ true
    calmly u = let c = decimal_is g.value g.fits in subst (λ (x : List ℕ). calm (x ++ u) ≡ true) (sym c.text) (digit_calm c.first (and_left _ _ c.digits))
      where
        digit_calm : (c : ℕ) → is_ascii_digit c ≡ true → not (goes_on c) ≡ true
        digit_calm c h = grind (arith, nat_tests)

prim_word : (s : Setting) (D : ℕ) (k : Keyword) (p : Place) (nd : Node) → tightness (symbol_of nd) ≡ 8 → (node_bare s.names nd).text ≡ keyword_text k
    → ((u : List ℕ) → calm (keyword_text k ++ u) ≡ true) → ((d : ℕ) (q : Place) → IsPrim d q (key k q ∷ []) (expr q nd)) → Fits s 8 D (key k p ∷ []) (expr p nd)
prim_word s D k p nd own text c i = fits_own s 8 D (key k p ∷ []) (expr p nd) own
    (can_by s D (key k p ∷ []) p nd 8 (keyword_text k) own text
    (λ d l rest b n. lays_text (append-nil (keyword_text k)) (lays_key k [] b (lays_none (s.at n, expr (s.at n) nd, i d (s.at n), expr_same _ p nd nd refl)))) c)

prim_name : (s : Setting) (D : ℕ) (x : Name) (p : Place) → GivenName s.names x → Fits s 8 D (name x p ∷ []) (expr p (node.Var x))
prim_name s D x p g = fits_own s 8 D (name x p ∷ []) (expr p (node.Var x)) own
    (can_by s D (name x p ∷ []) p (node.Var x) 8 (name_text s.names x) own (bare_variable s.names x)
    (λ d l rest b n. lays_text (append-nil (name_text s.names x)) (lays_name x Plain [] g b refl (lays_none (s.at n, expr (s.at n) (node.Var x), variable, expr_same _ p _ _ refl))))
    (name_calm s.names x g))
  where
    own : tightness (symbol_of (node.Var x)) ≡ 8
    own = ap (λ y. tightness (symbol_at y)) (outs-Var x)

-- parentheses: none are needed where the expression is a Prim, and where they are the source has some
prim_parens : (s : Setting) (D : ℕ) (p c : Place) (w : List Part) (e : Expr) → limit_of (Opens (suc D)) ≡ None → Fits s 0 (suc D) w e
    → Fits s 8 D (opening D OpenParen p ∷ (w ++ mark CloseParen c ∷ [])) e
prim_parens s D p c w e h f = record { can = can D (omega arith); deeper = λ no. (open_room D h, can (suc D) (omega arith)) } where
  can : (m : ℕ) → m ≤ suc D → Can s m (opening D OpenParen p ∷ (w ++ mark CloseParen c ∷ [])) e
  can m l = record {
    own = λ d k rest b n. lays_without refl (lays_without_behind (mark CloseParen c) refl (f.can.own d (omega (arith, l, k)) rest b n));
    calmly = f.can.calmly;
  }

-- ---- prefix operators

unary_sign : (s : Setting) (D : ℕ) (m : Mark) (p : Place) (w : List Part) (e : Expr) (nd : Expr → Node) → tightness (symbol_of (nd e)) ≡ 6
    → (node_bare s.names (nd e)).text ≡ mark_text m ++ expr_text s.names e symbol.Unary
    → ((u : List ℕ) → calm (mark_text m ++ u) ≡ true) → is_backslash_mark m ≡ false
    → ((f : Expr) → unplaced_expr f ≡ unplaced_expr e → (q r : Place) → unplaced_expr (expr q (nd f)) ≡ unplaced_expr (expr r (nd e)))
    → ((d : ℕ) (r q : Place) (v : List Part) (f : Expr) → IsUnary (suc d) q v f → IsUnary d r (opening d m r ∷ v) (expr r (nd f)))
    → limit_of (Opens (suc D)) ≡ None → Fits s 6 (suc D) w e → Fits s 6 D (opening D m p ∷ w) (expr p (nd e))
unary_sign s D m p w e nd own text c plain same i h f = fits_own s 6 D (opening D m p ∷ w) (expr p (nd e)) own
    (can_by s D (opening D m p ∷ w) p (nd e) 6 (mark_text m ++ t) own text
    (λ d l rest b n.
    let up : suc d ≤ suc D = omega (arith, l) in
    lays_mark m (Opens (suc d)) t (fits_calm s symbol.Unary (suc D) w e f rest) plain (room d l h)
    (lays_map (fits_lays s symbol.Unary (suc D) w e (omega arith) f (suc d) up rest b (n + length (mark_text m)))
    (λ v g. (s.at n, expr (s.at n) (nd g.1), i d (s.at n) g.0 v g.1 g.2, same g.1 g.3 (s.at n) p))))
    (λ u. subst (λ (x : List ℕ). calm x ≡ true) (sym (append_assoc (mark_text m) t u)) (c (t ++ u))))
  where
    t : List ℕ
    t = expr_text s.names e symbol.Unary

unary_view : (s : Setting) (D : ℕ) (p o c : Place) (v w : List Part) (t : ViewTerm) (e : Expr) → IsView (suc D) v t → Fine s (opening D OpenParen p ∷ key View o ∷ (v ++ mark CloseParen c ∷ w))
    → Fits s 6 (suc D) w e → Fits s 6 D (opening D OpenParen p ∷ key View o ∷ (v ++ mark CloseParen c ∷ w)) (expr p (node.View t e))
unary_view s D p o c v w t e i f g = fits_own s 6 D _ (expr p (node.View t e)) own
    (can_by s D _ p (node.View t e) 6 text own (bare_view s.names t e)
    (λ d l rest b n.
    let up : suc d ≤ suc D = omega (arith, l) in
    lays_mark OpenParen (Opens (suc d)) (codes "view " ++ (view_text s.names t ++ (codes ") " ++ u))) refl refl (room d l f.1)
    (lays_key View (32 ∷ (view_text s.names t ++ (codes ") " ++ u))) refl
    (lays_blank refl
    (lays_then (view_text s.names t) (codes ") " ++ u) (view_lays s i (fine_left s v _ f.2.2) (suc d) up ((codes ") " ++ u) ++ rest) refl _) (λ v' k.
    lays_mark CloseParen Plain (32 ∷ u) refl refl refl
    (lays_blank refl
    (lays_map (fits_lays s symbol.Unary (suc D) w e (omega arith) g (suc d) up rest b _)
    (λ w' h. (s.at n, expr (s.at n) (node.View k.0 h.1), viewed _ _ k.1 h.2, expr_same _ p _ _ (view_same k.0 t h.1 e k.2 h.3)))))))))) (λ x. refl))
  where
    u : List ℕ
    u = expr_text s.names e symbol.Unary

    text : List ℕ
    text = codes "(view " ++ (view_text s.names t ++ (codes ") " ++ u))

    own : tightness (symbol_of (node.View t e)) ≡ 6
    own = ap (λ y. tightness (symbol_at y)) (outs-View t e)

-- ---- the levels of operators

-- no link, and one
data NoLinks : ℕ → List Part → List Link → Type 0 where
  no_links : {d : ℕ} → NoLinks d [] []

data OneLink (l : Level) (k : ℕ) : ℕ → List Part → List Link → Type 0 where
  one_link : {d : ℕ} {m : Mark} {o : Op} {p : Place} (q : Place) (w : List Part) {e : Expr} → IsOperator l m o → Is k d q w e → OneLink l k d (mark m p ∷ (w ++ [])) (link o p e ∷ [])

two_fits : (s : Setting) (l : Level) (D : ℕ) (p r : Place) (m : Mark) (o : Op) (v w : List Part) (e f : Expr)
    → ((d : ℕ) (q : Place) (u x : List Part) (f : Expr) (ks : List Link) → Is (tightness (operand_symbol l)) d q u f → OneLink l (tightness (operand_symbol l)) d x ks
    → Is (tightness (chain_symbol l)) d q (u ++ x) (chained q l f ks))
    → IsOperator l m o → Fits s (tightness (operand_symbol l)) D v e → Fits s (tightness (operand_symbol l)) D w f
    → Fits s (tightness (chain_symbol l)) D (v ++ mark m r ∷ w) (chained p l e (link o r f ∷ []))
two_fits s l D p r m o v w e f row i a b =
    fits_words s (tightness (chain_symbol l)) D (v ++ mark m r ∷ (w ++ [])) (v ++ mark m r ∷ w) _ (ap (λ (x : List Part). v ++ mark m r ∷ x) (append-nil w))
    (chained_fits s l (OneLink l (tightness (operand_symbol l))) D p v (mark m r ∷ (w ++ [])) e (link o r f ∷ []) row a
    (links_then s l NoLinks (OneLink l (tightness (operand_symbol l))) D m o r w [] f [] i b (links_none s l NoLinks D (λ d. no_links)) cons))
  where
    cons : (d : ℕ) (r q : Place) (u x : List Part) (f : Expr) (ks : List Link) → Is (tightness (operand_symbol l)) d q u f → NoLinks d x ks
        → OneLink l (tightness (operand_symbol l)) d (mark m r ∷ (u ++ x)) (link o r f ∷ ks)
    cons d r q u _ f _ j no_links = one_link q u i j

compared : (d : ℕ) (q : Place) (u x : List Part) (f : Expr) (ks : List Link) → IsSum d q u f → OneLink level.Compare 4 d x ks → IsComparison d q (u ++ x) (chained q level.Compare f ks)
compared d q u _ f _ i (one_link {m = m} {o = op} {p = p} q' w {e = e} o j) = subst (λ (x : List Part). IsComparison d q (u ++ mark m p ∷ x) (chained q level.Compare f (link op p e ∷ []))) (sym (append-nil w)) (two_sums p i o j)

equated : (d : ℕ) (q : Place) (u x : List Part) (f : Expr) (ks : List Link) → IsComparison d q u f → OneLink level.Equal 3 d x ks → IsEquality d q (u ++ x) (chained q level.Equal f ks)
equated d q u _ f _ i (one_link {m = m} {o = op} {p = p} q' w {e = e} o j) = subst (λ (x : List Part). IsEquality d q (u ++ mark m p ∷ x) (chained q level.Equal f (link op p e ∷ []))) (sym (append-nil w)) (two_sides p i o j)

mutual
  pub form_back : (s : Setting) {D : ℕ} {p : Place} {w : List Part} {e : Expr} → IsForm D p w e → Fine s w → Form s D w e
  form_back s {D} (new_object {p = p} {q = q} o c {v = v} {w = w} {t = t} {es = es} i a) f =
      form_new s D p q o c v w t es i (args_back s a (fine_left s w (mark CloseParen c ∷ []) (fine_right s v (opening D OpenParen o ∷ (w ++ mark CloseParen c ∷ [])) f.2).2)) f.2
  form_back s {D} (super_call {p = p} {q = q} b e o n u c {x = x} {v = v} {w = w} {t = t} {es = es} i a) f =
      form_super s D p q b e o n u c x v w t es i
      (args_back s a (fine_left s w (mark CloseParen c ∷ []) (fine_right s v (mark CloseBracket e ∷ mark Dot o ∷ name x n ∷ opening D OpenParen u ∷ (w ++ mark CloseParen c ∷ [])) f.2.2).2.2.2.2)) f.2

  pub prim_back : (s : Setting) {D : ℕ} {p : Place} {w : List Part} {e : Expr} → IsPrim D p w e → Fine s w → Fits s 8 D w e
  prim_back s {D} (constant {v = v} {p = p}) f = prim_number s D v p f.0
  prim_back s {D} (yes {p = p}) f = prim_word s D True p (node.Bool true) (ap (λ x. tightness (symbol_at x)) (outs-Bool true)) (bare_truth s.names true) (λ u. refl) (λ d q. yes)
  prim_back s {D} (no {p = p}) f = prim_word s D False p (node.Bool false) (ap (λ x. tightness (symbol_at x)) (outs-Bool false)) (bare_truth s.names false) (λ u. refl) (λ d q. no)
  prim_back s {D} (null {p = p}) f = prim_word s D Null p node.Null (ap (λ x. tightness (symbol_at x)) outs-Null) (bare_null s.names) (λ u. refl) (λ d q. null)
  prim_back s {D} (this_object {p = p}) f = prim_word s D This p node.This (ap (λ x. tightness (symbol_at x)) outs-This) (bare_this s.names) (λ u. refl) (λ d q. this_object)
  prim_back s {D} (variable {x = x} {p = p}) f = prim_name s D x p f.0
  prim_back s {D} (parens {p = p} c {w = w} {e = e} i) f = prim_parens s D p c w e f.1 (expr_back s i (fine_left s w (mark CloseParen c ∷ []) f.2))
  prim_back s {D} (form {w = w} {e = e} i) f = fits_own s 8 D w e (form_back s i f).prim (form_can s D w e (form_back s i f))

  pub suffix_back : (s : Setting) {D : ℕ} {w : List Part} {x : Suffix} → IsSuffix D w x → Fine s w → OneSuffix s D w x
  suffix_back s {D} (field {x = x} {o = o} {p = p}) f = suffix_field s D x o p f.2.0
  suffix_back s {D} (call {x = x} {o = o} {p = p} {q = q} c {w = w} {es = es} a) f =
      suffix_call s D x o p q c w es f.2.0 f.2.2.1 (args_back s a (fine_left s w (mark CloseParen c ∷ []) f.2.2.2))

  pub suffixes_back : (s : Setting) {D : ℕ} {w : List Part} {ss : List Suffix} → IsSuffixes D w ss → Fine s w → Suffixes s D w ss
  suffixes_back s {D} no_suffix f = suffixes_none s D
  suffixes_back s {D} (then_suffix {v = v} {w = w} {s = x} {ss = ss} i j) f =
      suffixes_then s D v w x ss (suffix_back s i (fine_left s v w f)) (suffixes_back s j (fine_right s v w f))

  pub post_back : (s : Setting) {D : ℕ} {p : Place} {w : List Part} {e : Expr} → IsPost D p w e → Fine s w → Fits s 7 D w e
  post_back s {D} (post {p = p} {v = v} {w = w} {e = e} {ss = ss} i j) f =
      posted_fits s D p v w e ss (prim_back s i (fine_left s v w f)) (suffixes_back s j (fine_right s v w f))

  pub unary_back : (s : Setting) {D : ℕ} {p : Place} {w : List Part} {e : Expr} → IsUnary D p w e → Fine s w → Fits s 6 D w e
  unary_back s {D} (inverse {p = p} {w = w} {e = e} i) f =
      unary_sign s D Bang p w e (λ x. node.Not x) (ap (λ x. tightness (symbol_at x)) (outs-Not e)) (bare_inverse s.names e) (λ u. refl) refl
      (λ x h q r. expr_same q r _ _ (not_same x e h)) (λ d r q v x j. inverse j) f.1 (unary_back s i f.2)
  unary_back s {D} (negative {p = p} {w = w} {e = e} i) f =
      unary_sign s D Minus p w e (λ x. node.Neg x) (ap (λ x. tightness (symbol_at x)) (outs-Neg e)) (bare_negative s.names e) (λ u. refl) refl
      (λ x h q r. expr_same q r _ _ (neg_same x e h)) (λ d r q v x j. negative j) f.1 (unary_back s i f.2)
  unary_back s {D} (viewed {p = p} o c {v = v} {w = w} {t = t} {e = e} i j) f =
      unary_view s D p o c v w t e i f (unary_back s j (fine_right s v (mark CloseParen c ∷ w) f.2.2).2)
  unary_back s {D} (unsigned {w = w} {e = e} i) f = loosen s 6 D w e (post_back s i f)

  pub product_back : (s : Setting) {D : ℕ} {p : Place} {w : List Part} {e : Expr} → IsProduct D p w e → Fine s w → Fits s 5 D w e
  product_back s {D} (product {p = p} {v = v} {w = w} {e = e} {ls = ls} i j) f =
      chained_fits s level.Product IsFactors D p v w e ls (λ d q u x g ks a b. product a b) (unary_back s i (fine_left s v w f)) (factors_back s j (fine_right s v w f))

  pub factors_back : (s : Setting) {D : ℕ} {w : List Part} {ls : List Link} → IsFactors D w ls → Fine s w → Links s level.Product IsFactors D w ls
  factors_back s {D} no_factor f = links_none s level.Product IsFactors D (λ d. no_factor)
  factors_back s {D} (then_factor {m = m} {o = o} {p = p} {v = v} {w = w} {e = e} {ls = ls} i j k) f =
      links_then s level.Product IsFactors IsFactors D m o p v w e ls i (unary_back s j (fine_left s v w f.2)) (factors_back s k (fine_right s v w f.2)) (λ d r q u x g ks a b. then_factor i a b)

  pub sum_back : (s : Setting) {D : ℕ} {p : Place} {w : List Part} {e : Expr} → IsSum D p w e → Fine s w → Fits s 4 D w e
  sum_back s {D} (sum {p = p} {v = v} {w = w} {e = e} {ls = ls} i j) f =
      chained_fits s level.Sum IsSummands D p v w e ls (λ d q u x g ks a b. sum a b) (product_back s i (fine_left s v w f)) (summands_back s j (fine_right s v w f))

  pub summands_back : (s : Setting) {D : ℕ} {w : List Part} {ls : List Link} → IsSummands D w ls → Fine s w → Links s level.Sum IsSummands D w ls
  summands_back s {D} no_summand f = links_none s level.Sum IsSummands D (λ d. no_summand)
  summands_back s {D} (then_summand {m = m} {o = o} {p = p} {v = v} {w = w} {e = e} {ls = ls} i j k) f =
      links_then s level.Sum IsSummands IsSummands D m o p v w e ls i (product_back s j (fine_left s v w f.2)) (summands_back s k (fine_right s v w f.2)) (λ d r q u x g ks a b. then_summand i a b)

  pub comparison_back : (s : Setting) {D : ℕ} {p : Place} {w : List Part} {e : Expr} → IsComparison D p w e → Fine s w → Fits s 3 D w e
  comparison_back s {D} (one_sum {w = w} {e = e} i) f = loosen s 3 D w e (sum_back s i f)
  comparison_back s {D} (two_sums {m = m} {o = o} {p = p} r {v = v} {w = w} {e = e} {f = g} i h j) f =
      two_fits s level.Compare D p r m o v w e g compared h (sum_back s i (fine_left s v (mark m r ∷ w) f)) (sum_back s j (fine_right s v (mark m r ∷ w) f).2)

  pub equality_back : (s : Setting) {D : ℕ} {p : Place} {w : List Part} {e : Expr} → IsEquality D p w e → Fine s w → Fits s 2 D w e
  equality_back s {D} (one_side {w = w} {e = e} i) f = loosen s 2 D w e (comparison_back s i f)
  equality_back s {D} (two_sides {m = m} {o = o} {p = p} r {v = v} {w = w} {e = e} {f = g} i h j) f =
      two_fits s level.Equal D p r m o v w e g equated h (comparison_back s i (fine_left s v (mark m r ∷ w) f)) (comparison_back s j (fine_right s v (mark m r ∷ w) f).2)

  pub conjunction_back : (s : Setting) {D : ℕ} {p : Place} {w : List Part} {e : Expr} → IsConjunction D p w e → Fine s w → Fits s 1 D w e
  conjunction_back s {D} (conjunction {p = p} {v = v} {w = w} {e = e} {ls = ls} i j) f =
      chained_fits s level.And IsConjuncts D p v w e ls (λ d q u x g ks a b. conjunction a b) (equality_back s i (fine_left s v w f)) (conjuncts_back s j (fine_right s v w f))

  pub conjuncts_back : (s : Setting) {D : ℕ} {w : List Part} {ls : List Link} → IsConjuncts D w ls → Fine s w → Links s level.And IsConjuncts D w ls
  conjuncts_back s {D} no_conjunct f = links_none s level.And IsConjuncts D (λ d. no_conjunct)
  conjuncts_back s {D} (then_conjunct {m = m} {o = o} {p = p} {v = v} {w = w} {e = e} {ls = ls} i j k) f =
      links_then s level.And IsConjuncts IsConjuncts D m o p v w e ls i (equality_back s j (fine_left s v w f.2)) (conjuncts_back s k (fine_right s v w f.2)) (λ d r q u x g ks a b. then_conjunct i a b)

  pub expr_back : (s : Setting) {D : ℕ} {p : Place} {w : List Part} {e : Expr} → IsExpr D p w e → Fine s w → Fits s 0 D w e
  expr_back s {D} (disjunction {p = p} {v = v} {w = w} {e = e} {ls = ls} i j) f =
      chained_fits s level.Or IsDisjuncts D p v w e ls (λ d q u x g ks a b. disjunction a b) (conjunction_back s i (fine_left s v w f)) (disjuncts_back s j (fine_right s v w f))

  pub disjuncts_back : (s : Setting) {D : ℕ} {w : List Part} {ls : List Link} → IsDisjuncts D w ls → Fine s w → Links s level.Or IsDisjuncts D w ls
  disjuncts_back s {D} no_disjunct f = links_none s level.Or IsDisjuncts D (λ d. no_disjunct)
  disjuncts_back s {D} (then_disjunct {m = m} {o = o} {p = p} {v = v} {w = w} {e = e} {ls = ls} i j k) f =
      links_then s level.Or IsDisjuncts IsDisjuncts D m o p v w e ls i (conjunction_back s j (fine_left s v w f.2)) (disjuncts_back s k (fine_right s v w f.2)) (λ d r q u x g ks a b. then_disjunct i a b)

  pub args_back : (s : Setting) {D : ℕ} {w : List Part} {es : List Expr} → IsArgs D w es → Fine s w → Args s D w es
  args_back s {D} no_arg f = args_none s D
  args_back s {D} (args {v = v} {w = w} {e = e} {es = es} i j) f = args_some s D v w e es (expr_back s i (fine_left s v w f)) (more_back s j (fine_right s v w f))

  pub more_back : (s : Setting) {D : ℕ} {w : List Part} {es : List Expr} → IsMoreArgs D w es → Fine s w → MoreArgs s D w es
  more_back s {D} no_more_arg f = more_none s D
  more_back s {D} (then_arg {o = o} {v = v} {w = w} {e = e} {es = es} i j) f = more_then s D o v w e es (expr_back s i (fine_left s v w f.2)) (more_back s j (fine_right s v w f.2))
