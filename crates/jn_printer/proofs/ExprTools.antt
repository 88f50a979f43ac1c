-- What is said of an expression of a source: how it is written at the place of a symbol.
use Rattle.std.proofs.Common.{◌≡◌, ℕ, zero, suc, ◌+◌, ◌≤◌, Bool, true, false, not, List, [], ◌∷◌, ◌++◌, map, codes, refl, sym, subst, append_assoc, append-nil, arith, nat_le, ◌⊎◌, inl, inr}
use Rattle.std.proofs.lemmas.Bool.Decides.{nat_tests}
use Rattle.jn_base.specs.declared.tree.Place.{Place}
use Rattle.jn_base.specs.declared.tree.Expr.{Expr}
use Rattle.jn_base.specs.declared.tree.Node.{Node}
use Rattle.jn_base.specs.declared.tree.Suffix.{Suffix}
use Rattle.jn_base.specs.declared.tree.Link.{Link}
use Rattle.jn_base.specs.declared.tree.Level.{Level}
use Rattle.jn_base.specs.declared.word.Mark.TheVariants.{CloseParen, OpenParen}
use Rattle.jn_base.specs.Words.{mark_text}
use Rattle.jn_base.specs.Parts.{Part, Plain, Opens, expr, posted, chained}
use Rattle.jn_base.specs.GrammarExpr.{IsPrim, parens, IsPost, post, no_suffix, IsUnary, unsigned, IsProduct, product, no_factor, IsSum, sum, no_summand, IsComparison, one_sum, IsEquality, one_side, IsConjunction, conjunction, no_conjunct, IsExpr, disjunction, no_disjunct}
use Rattle.jn_printer.specs.declared.symbol.Symbol.{Symbol}
use Rattle.jn_printer.specs.Pieces.{text_if}
use Rattle.jn_printer.specs.ExprText.{tightness, is_instance, symbol_of, node_bare, expr_text}
use Rattle.jn_base.specs.Unplaced.{unplaced_expr, unplaced_suffix, unplaced_link}
use Rattle.jn_printer.proofs.Bare.{placed_text}
use Rattle.jn_printer.proofs.Placeless.{expr_same, post_same, chain_same}
use Rattle.jn_printer.proofs.Written.{breaks, calm, Setting, a_mark, Lays, lays_none, lays_map, lays_then, lays_new, lays_text, lays_words}
use Rattle.jn_printer.proofs.Follows.{breaks_calm}
use Rattle.jn_printer.proofs.TermsBack.{open_low}

-- the symbols of expressions by their tightness
abbrev pub Is : ℕ → ℕ → Place → List Part → Expr → Type 0
Is zero d p v e = IsExpr d p v e
Is (suc zero) d p v e = IsConjunction d p v e
Is (suc (suc zero)) d p v e = IsEquality d p v e
Is (suc (suc (suc zero))) d p v e = IsComparison d p v e
Is (suc (suc (suc (suc zero)))) d p v e = IsSum d p v e
Is (suc (suc (suc (suc (suc zero))))) d p v e = IsProduct d p v e
Is (suc (suc (suc (suc (suc (suc zero)))))) d p v e = IsUnary d p v e
Is (suc (suc (suc (suc (suc (suc (suc zero))))))) d p v e = IsPost d p v e
Is (suc (suc (suc (suc (suc (suc (suc (suc zero)))))))) d p v e = IsPrim d p v e
Is (suc (suc (suc (suc (suc (suc (suc (suc (suc k))))))))) d p v e = ⊥

-- an instance of a symbol is one of the next looser symbol
looser : (k d : ℕ) (p : Place) (v : List Part) (e : Expr) → Is (suc k) d p v e → Is k d p v e
looser zero d p v e i = subst (λ (u : List Part). IsExpr d p u e) (append-nil v) (disjunction i no_disjunct)
looser (suc zero) d p v e i = subst (λ (u : List Part). IsConjunction d p u e) (append-nil v) (conjunction i no_conjunct)
looser (suc (suc zero)) d p v e i = one_side i
looser (suc (suc (suc zero))) d p v e i = one_sum i
looser (suc (suc (suc (suc zero)))) d p v e i = subst (λ (u : List Part). IsSum d p u e) (append-nil v) (sum i no_summand)
looser (suc (suc (suc (suc (suc zero))))) d p v e i = subst (λ (u : List Part). IsProduct d p u e) (append-nil v) (product i no_factor)
looser (suc (suc (suc (suc (suc (suc zero)))))) d p v e i = unsigned i
looser (suc (suc (suc (suc (suc (suc (suc zero))))))) d p v e i = subst (λ (u : List Part). IsPost d p u e) (append-nil v) (post i no_suffix)
looser (suc (suc (suc (suc (suc (suc (suc (suc k)))))))) d p v e i = absurd i

below_or_at : (k m : ℕ) → k ≤ suc m → (k ≡ suc m) ⊎ (k ≤ m)
below_or_at k m h = by (nat_le k m) refl where
  by : (b : Bool) → nat_le k m ≡ b → (k ≡ suc m) ⊎ (k ≤ m)
  by true e = inr (grind (arith, nat_tests))
  by false e = inl (grind (arith, nat_tests))

pub lift : (m k d : ℕ) (p : Place) (v : List Part) (e : Expr) → k ≤ m → Is m d p v e → Is k d p v e
lift zero k d p v e l i = let same : zero ≡ k = omega arith in subst (λ (j : ℕ). Is j d p v e) same i
lift (suc m) k d p v e l i = by (below_or_at k m l) (λ h. lift m k d p v e h (looser m d p v e i)) where
  by : (k ≡ suc m) ⊎ (k ≤ m) → (k ≤ m → Is k d p v e) → Is k d p v e
  by (inl h) f = subst (λ (j : ℕ). Is j d p v e) (sym h) i
  by (inr h) f = f h

abbrev pub Gives : ℕ → ℕ → Expr → List Part → Type 0
Gives k d e v = (q : Place) × (u : Expr) × Is k d q v u × (unplaced_expr u ≡ unplaced_expr e)

-- how tightly an expression binds
abbrev pub tight : Expr → ℕ
tight e = tightness (symbol_of e.node)

-- Without parentheses round it, the expression e is written as an instance of its own symbol, where D or fewer are open.
pub record Can (s : Setting) (D : ℕ) (w : List Part) (e : Expr) : Type 0 where
  pub own : (d : ℕ) → d ≤ D → (rest : List ℕ) → breaks rest ≡ true → (n : ℕ) → Lays s rest n ((node_bare s.names e.node).text) w (Gives (tight e) d e)
  pub calmly : (u : List ℕ) → calm ((node_bare s.names e.node).text ++ u) ≡ true

-- It stands at the place of a symbol; where it is none of this symbol, the source has parentheses there.
pub record Fits (s : Setting) (k D : ℕ) (w : List Part) (e : Expr) : Type 0 where
  pub can : Can s D w e
  pub deeper : nat_le k (tight e) ≡ false → (suc D ≤ 200) × Can s (suc D) w e

pub fits_words : (s : Setting) (k D : ℕ) (v w : List Part) (e : Expr) → v ≡ w → Fits s k D v e → Fits s k D w e
fits_words s k D v w e h f = subst (λ (u : List Part). Fits s k D u e) h f

pub loosen : (s : Setting) (k D : ℕ) (w : List Part) (e : Expr) → Fits s (suc k) D w e → Fits s k D w e
loosen s k D w e f = record { can = f.can; deeper = λ h. f.deeper (less k (tight e) h) } where
  less : (k t : ℕ) → nat_le k t ≡ false → nat_le (suc k) t ≡ false
  less k t h = grind (arith, nat_tests)

pub fits_own : (s : Setting) (k D : ℕ) (w : List Part) (e : Expr) → tight e ≡ k → Can s D w e → Fits s k D w e
fits_own s k D w e h c = record { can = c; deeper = λ n. absurd (no k (tight e) h n) } where
  no : (k t : ℕ) → t ≡ k → nat_le k t ≡ false → ⊥
  no k t h n = absurd (grind (arith, nat_tests))

-- an expression by its node
pub can_by : (s : Setting) (D : ℕ) (w : List Part) (p : Place) (nd : Node) (k : ℕ) (t : List ℕ) → tightness (symbol_of nd) ≡ k → (node_bare s.names nd).text ≡ t
    → ((d : ℕ) → d ≤ D → (rest : List ℕ) → breaks rest ≡ true → (n : ℕ) → Lays s rest n t w (Gives k d (expr p nd)))
    → ((u : List ℕ) → calm (t ++ u) ≡ true) → Can s D w (expr p nd)
can_by s D w p nd k t h e l c = record {
  own = λ d m rest b n. subst (λ (j : ℕ). Lays s rest n ((node_bare s.names nd).text) w (Gives j d (expr p nd))) (sym h) (lays_text (sym e) (l d m rest b n));
  calmly = λ u. subst (λ (x : List ℕ). calm (x ++ u) ≡ true) (sym e) (c u);
}

-- what is written at the place of a symbol
placed_by : (s : Setting) (k D : ℕ) (w : List Part) (e : Expr) (b : Bool) → nat_le k (tight e) ≡ b → k ≤ 8 → Fits s k D w e → (d : ℕ) → d ≤ D → (rest : List ℕ) → breaks rest ≡ true → (n : ℕ)
    → Lays s rest n (text_if (not b) (codes "(") ++ ((node_bare s.names e.node).text ++ text_if (not b) (codes ")"))) w (Gives k d e)
placed_by s k D w e true h small f d l rest b n =
    let t = (node_bare s.names e.node).text in
    lays_text (sym (append-nil t)) (lays_map (f.can.own d l rest b n) (λ v g. (g.0, g.1, lift (tight e) k d g.0 v g.1 (fits k (tight e) h) g.2, g.3)))
  where
    fits : (k t : ℕ) → nat_le k t ≡ true → k ≤ t
    fits k t h = grind (arith, nat_tests)
placed_by s k D w e false h small f d l rest b n =
    let t = (node_bare s.names e.node).text in
    let deep = f.deeper h in
    let up : suc d ≤ suc D = omega (arith, l) in
    let in_all : suc d ≤ 200 = omega (arith, l, deep.0) in
    let around : calm ((t ++ 41 ∷ []) ++ rest) ≡ true = subst (λ (x : List ℕ). calm x ≡ true) (sym (append_assoc t (41 ∷ []) rest)) (deep.1.calmly (41 ∷ rest)) in
    lays_new (Opens (suc d)) (mark_text OpenParen) (t ++ 41 ∷ []) (a_mark OpenParen around) refl (open_low d in_all)
    (lays_words (append-nil w) (lays_then t (41 ∷ []) (deep.1.own (suc d) up (41 ∷ rest) refl (n + 1)) (λ v g.
    lays_new Plain (mark_text CloseParen) [] (a_mark CloseParen (breaks_calm rest b)) refl refl
    (lays_none (s.at n, g.1, lift 8 k d (s.at n) _ g.1 small (parens _ (lift (tight e) 0 (suc d) g.0 v g.1 (omega arith) g.2)), g.3)))))

pub fits_lays : (s : Setting) (asked : Symbol) (D : ℕ) (w : List Part) (e : Expr) → tightness asked ≤ 8 → Fits s (tightness asked) D w e
    → (d : ℕ) → d ≤ D → (rest : List ℕ) → breaks rest ≡ true → (n : ℕ) → Lays s rest n (expr_text s.names e asked) w (Gives (tightness asked) d e)
fits_lays s asked D w e small f d l rest b n =
    lays_text (sym (placed_text s.names e asked)) (placed_by s (tightness asked) D w e (is_instance (symbol_of e.node) asked) refl small f d l rest b n)

pub fits_calm : (s : Setting) (asked : Symbol) (D : ℕ) (w : List Part) (e : Expr) → Fits s (tightness asked) D w e → (u : List ℕ) → calm (expr_text s.names e asked ++ u) ≡ true
fits_calm s asked D w e f u = subst (λ (x : List ℕ). calm (x ++ u) ≡ true) (sym (placed_text s.names e asked)) (by (is_instance (symbol_of e.node) asked)) where
  by : (b : Bool) → calm ((text_if (not b) (codes "(") ++ ((node_bare s.names e.node).text ++ text_if (not b) (codes ")"))) ++ u) ≡ true
  by true =
      let t = (node_bare s.names e.node).text in
      subst (λ (x : List ℕ). calm (x ++ u) ≡ true) (sym (append-nil t)) (f.can.calmly u)
  by false = refl

-- ---- parts and chains, the same but for places

pub posted_same : (p q : Place) (e f : Expr) (ss rs : List Suffix) → unplaced_expr e ≡ unplaced_expr f → map unplaced_suffix ss ≡ map unplaced_suffix rs
    → unplaced_expr (posted p e ss) ≡ unplaced_expr (posted q f rs)
posted_same p q e f [] [] a b = a
posted_same p q e f [] (r ∷ rs) a b = absurd (cc)
posted_same p q e f (s ∷ ss) [] a b = absurd (cc)
posted_same p q e f (s ∷ ss) (r ∷ rs) a b = expr_same p q _ _ (post_same e f (s ∷ ss) (r ∷ rs) a b)

pub chained_same : (l : Level) (p q : Place) (e f : Expr) (ls ks : List Link) → unplaced_expr e ≡ unplaced_expr f → map unplaced_link ls ≡ map unplaced_link ks
    → unplaced_expr (chained p l e ls) ≡ unplaced_expr (chained q l f ks)
chained_same l p q e f [] [] a b = a
chained_same l p q e f [] (k ∷ ks) a b = absurd (cc)
chained_same l p q e f (x ∷ ls) [] a b = absurd (cc)
chained_same l p q e f (x ∷ ls) (k ∷ ks) a b = expr_same p q _ _ (chain_same l e f (x ∷ ls) (k ∷ ks) a b)
