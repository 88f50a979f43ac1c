-- Statements as they are written are such of the grammar.
use Rattle.std.proofs.Common.{◌≡◌, ℕ, suc, ◌+◌, ◌≤◌, Bool, true, List, [], ◌∷◌, ◌++◌, map, length, Some, None, codes, slice_get, refl, sym, ap, ap₂, subst, ◌∙◌, append_assoc, append-nil, arith}
use Rattle.jn_base.specs.declared.tree.Place.{Place}
use Rattle.jn_base.specs.declared.tree.Name.{Name}
use Rattle.jn_base.specs.declared.tree.TypeTerm.{TypeTerm}
use Rattle.jn_base.specs.declared.tree.Expr.{Expr}
use Rattle.jn_base.specs.declared.tree.Stmt.{Stmt}
use Rattle.jn_base.specs.declared.tree.Stmt.TheVariants as stmt
use Rattle.jn_base.specs.declared.word.Keyword.TheVariants.{Else, Final, If, Print, Return, While}
use Rattle.jn_base.specs.declared.word.Mark.TheVariants.{CloseBrace, CloseParen, Dot, Equals, OpenBrace, OpenParen, Semicolon}
use Rattle.jn_base.specs.Tokens.{quote}
use Rattle.jn_base.specs.Parts.{Part, Plain, Opens, Local, key, mark, name, text, opening, new_name, named}
use Rattle.jn_base.specs.Spelling.{limit_of}
use Rattle.jn_base.specs.GrammarTypes.{IsType}
use Rattle.jn_base.specs.GrammarExpr.{IsCall}
use Rattle.jn_base.specs.GrammarStmt.{IsFinal, not_final, final, IsStmt, block, local, assign, set_field, act, choice, turns, leave, give, print, print_text, IsElse, no_else, otherwise, IsStmts, no_stmt, then_stmt}
use Rattle.jn_printer.specs.declared.symbol.Symbol.TheVariants as symbol
use Rattle.jn_printer.specs.Pieces.{text_if, bytes_of, name_text, type_text}
use Rattle.jn_printer.specs.ExprText.{expr_text}
use Rattle.jn_printer.specs.StmtText.{Indented, deeper, lines, braced, else_text, escaped, stmt_text}
use Rattle.jn_base.specs.Unplaced.{nowhere, unplaced_expr, unplaced_stmt}
use Rattle.jn_printer.proofs.StmtTexts
use Rattle.jn_printer.proofs.Placeless.{block_is, local_is, assign_is, set_is, do_is, if_is, while_is, return_is, print_is, print_text_is}
use Rattle.jn_printer.proofs.Written.{breaks, calm, Setting, GivenName, GivenText, a_text, Fine, fine_left, fine_right, Lays, lays_none, lays_map, lays_then, lays_word, lays_key, lays_mark, lays_name, lays_blank, lays_text, lays_without}
use Rattle.jn_printer.proofs.Follows.{breaks_calm, name_calm_on}
use Rattle.jn_printer.proofs.TermsBack.{room, type_lays}
use Rattle.jn_printer.proofs.ExprTools.{Fits, fits_lays, fits_calm}
use Rattle.jn_printer.proofs.ExprsBack.{expr_back, post_back}
use Rattle.jn_printer.proofs.StmtTools.{Blanks, deeper_blanks, lays_blanks, braced_then, semicolon_lays, call_back}

abbrev pub GivesStmt : ℕ → ℕ → ℕ → Stmt → List Part → Type 0
GivesStmt d k m t v = (u : Stmt) × IsStmt d k v u m × (unplaced_stmt u ≡ unplaced_stmt t)

abbrev pub GivesStmts : ℕ → ℕ → ℕ → List Stmt → List Part → Type 0
GivesStmts d k m ss v = (us : List Stmt) × IsStmts d k v us m × (map unplaced_stmt us ≡ map unplaced_stmt ss)

abbrev pub GivesElse : ℕ → ℕ → ℕ → List Stmt → List Part → Type 0
GivesElse d k m ss v = (us : List Stmt) × IsElse d k v us m × (map unplaced_stmt us ≡ map unplaced_stmt ss)

abbrev texts_of : Setting → List Stmt → List Indented
texts_of s ss = map (stmt_text s.names s.texts) ss

pub record One (s : Setting) (D k : ℕ) (w : List Part) (t : Stmt) (m : ℕ) : Type 0 where
  pub lays : (d : ℕ) → d ≤ D → (i : List ℕ) → Blanks i → (rest : List ℕ) → breaks rest ≡ true → (n : ℕ) → Lays s rest n (stmt_text s.names s.texts t i) w (GivesStmt d k m t)

pub record Row (s : Setting) (D k : ℕ) (w : List Part) (ss : List Stmt) (m : ℕ) : Type 0 where
  pub none : ss ≡ [] → (w ≡ []) × (k ≡ m)
  pub lays : (d : ℕ) → d ≤ D → (i : List ℕ) → Blanks i → (rest : List ℕ) → (n : ℕ) → Lays s rest n (lines i (texts_of s ss)) w (GivesStmts d k m ss)

pub record Other (s : Setting) (D k : ℕ) (w : List Part) (ss : List Stmt) (m : ℕ) : Type 0 where
  pub lays : (d : ℕ) → d ≤ D → (i : List ℕ) → Blanks i → (rest : List ℕ) → breaks rest ≡ true → (n : ℕ) → Lays s rest n (else_text i (texts_of s ss)) w (GivesElse d k m ss)
  pub breaking : (i u : List ℕ) → breaks u ≡ true → breaks (else_text i (texts_of s ss) ++ u) ≡ true

pub row_none : (s : Setting) (D k : ℕ) → Row s D k [] [] k
row_none s D k = record { none = λ e. (refl, refl); lays = λ d l i b rest n. lays_none ([], no_stmt, refl) }

pub row_then : (s : Setting) (D k m j : ℕ) (v w : List Part) (t : Stmt) (ss : List Stmt) → One s D k v t m → Row s D m w ss j → Row s D k (v ++ w) (t ∷ ss) j
row_then s D k m j v w t ss a r = record { none = λ e. absurd (cc); lays = lays } where
  lays : (d : ℕ) → d ≤ D → (i : List ℕ) → Blanks i → (rest : List ℕ) → (n : ℕ) → Lays s rest n (lines i (texts_of s (t ∷ ss))) (v ++ w) (GivesStmts d k j (t ∷ ss))
  lays d l i b rest n =
      let one = stmt_text s.names s.texts t i in
      let more = lines i (texts_of s ss) in
      lays_blanks i (one ++ (10 ∷ more)) b
      (lays_then one (10 ∷ more) (a.lays d l i b ((10 ∷ more) ++ rest) refl (n + length i)) (λ v' g.
      lays_blank refl (lays_map (r.lays d l i b rest (suc (n + length i + length one)))
      (λ w' h. (g.0 ∷ h.0, then_stmt g.1 h.1, ap₂ (λ (x : Stmt) (xs : List Stmt). x ∷ xs) g.2 h.2)))))

-- ---- the statements one by one

one_block : (s : Setting) (D k m : ℕ) (o c : Place) (w : List Part) (ss : List Stmt) → limit_of (Opens (suc D)) ≡ None → Row s (suc D) k w ss m
    → One s D k (opening D OpenBrace o ∷ (w ++ mark CloseBrace c ∷ [])) (stmt.Block ss) m
one_block s D k m o c w ss h r = record { lays = lays } where
  lays : (d : ℕ) → d ≤ D → (i : List ℕ) → Blanks i → (rest : List ℕ) → breaks rest ≡ true → (n : ℕ)
      → Lays s rest n (stmt_text s.names s.texts (stmt.Block ss) i) (opening D OpenBrace o ∷ (w ++ mark CloseBrace c ∷ [])) (GivesStmt d k m (stmt.Block ss))
  lays d l i b rest e n =
      let up : suc d ≤ suc D = omega (arith, l) in
      lays_text (append-nil (braced i (texts_of s ss)) ∙ sym (StmtTexts.block_text s.names s.texts ss i))
      (braced_then D o c i (texts_of s ss) [] w [] b h d l (breaks_calm rest e) (λ rest' m'. r.lays (suc d) up (deeper i) (deeper_blanks i b) rest' m') (λ o' c' v g m'.
      lays_none (stmt.Block g.0, block c' g.1, block_is g.0 ∙ ap (λ (x : List Stmt). stmt.Block x) g.2 ∙ sym (block_is ss))))

pub final_lays : (s : Setting) {u : List Part} {fixed : Bool} → IsFinal u fixed → (rest : List ℕ) (n : ℕ) → Lays s rest n (text_if fixed (codes "final ")) u (λ v. IsFinal v fixed)
final_lays s not_final rest n = lays_none not_final
final_lays s final rest n = lays_key Final (32 ∷ []) refl (lays_blank refl (lays_none final))

one_local : (s : Setting) (D k : ℕ) (x : Name) (p o c : Place) (u v w : List Part) (fixed : Bool) (t : TypeTerm) (e : Expr) → IsFinal u fixed → IsType D v t
    → Fine s (u ++ (v ++ (new_name (Local (suc k)) x p ∷ mark Equals o ∷ (w ++ mark Semicolon c ∷ [])))) → Fits s 0 D w e
    → One s D k (u ++ (v ++ (new_name (Local (suc k)) x p ∷ mark Equals o ∷ (w ++ mark Semicolon c ∷ [])))) (stmt.Local fixed t (named x p) e) (suc k)
one_local s D k x p o c u v w fixed t e a y f g = record { lays = lays } where
  tail : List Part
  tail = new_name (Local (suc k)) x p ∷ mark Equals o ∷ (w ++ mark Semicolon c ∷ [])

  lays : (d : ℕ) → d ≤ D → (i : List ℕ) → Blanks i → (rest : List ℕ) → breaks rest ≡ true → (n : ℕ)
      → Lays s rest n (stmt_text s.names s.texts (stmt.Local fixed t (named x p) e) i) (u ++ (v ++ tail)) (GivesStmt d k (suc k) (stmt.Local fixed t (named x p) e))
  lays d l i b rest h n =
      let ft = fine_right s u (v ++ tail) f in
      let fx = fine_right s v tail ft in
      let value = expr_text s.names e symbol.Expression ++ codes ";" in
      let behind = 32 ∷ (name_text s.names x ++ (codes " = " ++ value)) in
      lays_text (sym (StmtTexts.local_text s.names s.texts fixed t (named x p) e i))
      (lays_then (text_if fixed (codes "final ")) (type_text s.names t ++ behind) (final_lays s a ((type_text s.names t ++ behind) ++ rest) n) (λ u' a'.
      lays_then (type_text s.names t) behind (type_lays s y (fine_left s v tail ft) d l (behind ++ rest) refl _) (λ v' y'.
      lays_blank refl (lays_name x (Local (suc k)) (codes " = " ++ value) fx.0 refl fx.1
      (lays_blank refl (lays_mark Equals Plain (32 ∷ value) refl refl refl
      (lays_blank refl (semicolon_lays D c w e g d l h (λ c' w' j. (
        stmt.Local fixed y'.0 (named x _) j.1,
        local _ c' a' y'.1 j.2,
        local_is fixed y'.0 (named x _) j.1 ∙ ap₂ (λ (q : TypeTerm) (z : Expr). stmt.Local fixed q (named x nowhere) z) y'.2 j.3 ∙ sym (local_is fixed t (named x p) e),
      ))))))))))

one_assign : (s : Setting) (D k : ℕ) (x : Name) (p o c : Place) (w : List Part) (e : Expr) → GivenName s.names x → Fits s 0 D w e
    → One s D k (name x p ∷ mark Equals o ∷ (w ++ mark Semicolon c ∷ [])) (stmt.Assign (named x p) e) k
one_assign s D k x p o c w e f g = record { lays = lays } where
  lays : (d : ℕ) → d ≤ D → (i : List ℕ) → Blanks i → (rest : List ℕ) → breaks rest ≡ true → (n : ℕ)
      → Lays s rest n (stmt_text s.names s.texts (stmt.Assign (named x p) e) i) (name x p ∷ mark Equals o ∷ (w ++ mark Semicolon c ∷ [])) (GivesStmt d k k (stmt.Assign (named x p) e))
  lays d l i b rest h n =
      let value = expr_text s.names e symbol.Expression ++ codes ";" in
      lays_text (sym (StmtTexts.assign_text s.names s.texts (named x p) e i))
      (lays_name x Plain (codes " = " ++ value) f refl refl
      (lays_blank refl (lays_mark Equals Plain (32 ∷ value) refl refl refl
      (lays_blank refl (semicolon_lays D c w e g d l h (λ c' w' j.
      (stmt.Assign (named x _) j.1, assign c' j.2, assign_is (named x _) j.1 ∙ ap (λ (z : Expr). stmt.Assign (named x nowhere) z) j.3 ∙ sym (assign_is (named x p) e))))))))

one_set : (s : Setting) (D k : ℕ) (x : Name) (b' n' o c : Place) (v w : List Part) (t e : Expr) → GivenName s.names x → Fits s 7 D v t → Fits s 0 D w e
    → One s D k (v ++ (mark Dot b' ∷ name x n' ∷ mark Equals o ∷ (w ++ mark Semicolon c ∷ []))) (stmt.Set t (named x n') e) k
one_set s D k x b' n' o c v w t e f a g = record { lays = lays } where
  lays : (d : ℕ) → d ≤ D → (i : List ℕ) → Blanks i → (rest : List ℕ) → breaks rest ≡ true → (n : ℕ)
      → Lays s rest n (stmt_text s.names s.texts (stmt.Set t (named x n') e) i) (v ++ (mark Dot b' ∷ name x n' ∷ mark Equals o ∷ (w ++ mark Semicolon c ∷ []))) (GivesStmt d k k (stmt.Set t (named x n') e))
  lays d l i b rest h n =
      let value = expr_text s.names e symbol.Expression ++ codes ";" in
      let of = expr_text s.names t symbol.Post in
      let behind = name_text s.names x ++ (codes " = " ++ value) in
      lays_text (sym (StmtTexts.set_text s.names s.texts t (named x n') e i))
      (lays_then of (46 ∷ behind) (fits_lays s symbol.Post D v t (omega arith) a d l ((46 ∷ behind) ++ rest) refl n) (λ v' q.
      lays_mark Dot Plain behind (name_calm_on s.names x f (codes " = " ++ value) rest) refl refl
      (lays_name x Plain (codes " = " ++ value) f refl refl
      (lays_blank refl (lays_mark Equals Plain (32 ∷ value) refl refl refl
      (lays_blank refl (semicolon_lays D c w e g d l h (λ c' w' j. (
        stmt.Set q.1 (named x _) j.1,
        set_field _ _ _ c' q.2 j.2,
        set_is q.1 (named x _) j.1 ∙ ap₂ (λ (y z : Expr). stmt.Set y (named x nowhere) z) q.3 j.3 ∙ sym (set_is t (named x n') e),
      )))))))))

one_act : (s : Setting) (D k : ℕ) (c : Place) (w : List Part) (e : Expr) → IsCall D w e → Fine s w → One s D k (w ++ mark Semicolon c ∷ []) (stmt.Do e) k
one_act s D k c w e y f = record { lays = lays } where
  lays : (d : ℕ) → d ≤ D → (i : List ℕ) → Blanks i → (rest : List ℕ) → breaks rest ≡ true → (n : ℕ) → Lays s rest n (stmt_text s.names s.texts (stmt.Do e) i) (w ++ mark Semicolon c ∷ []) (GivesStmt d k k (stmt.Do e))
  lays d l i b rest h n =
      let t = expr_text s.names e symbol.Post in
      lays_text (sym (StmtTexts.do_text s.names s.texts e i))
      (lays_then t (codes ";") (call_back s y f d l (59 ∷ rest) refl n) (λ v g.
      lays_mark Semicolon Plain [] (breaks_calm rest h) refl refl
      (lays_none (stmt.Do g.0, act (s.at (n + length t)) g.1, do_is g.0 ∙ ap (λ (x : Expr). stmt.Do x) g.2 ∙ sym (do_is e)))))

paren_calm : (s : Setting) (D : ℕ) (w : List Part) (e : Expr) → Fits s 0 D w e → (t rest : List ℕ) → calm ((expr_text s.names e symbol.Expression ++ t) ++ rest) ≡ true
paren_calm s D w e f t rest = subst (λ (x : List ℕ). calm x ≡ true) (sym (append_assoc (expr_text s.names e symbol.Expression) t rest)) (fits_calm s symbol.Expression D w e f (t ++ rest))

one_choice : (s : Setting) (D k m j : ℕ) (p o c b' e' : Place) (v w u : List Part) (t : Expr) (ss rs : List Stmt) → limit_of (Opens (suc D)) ≡ None
    → Fits s 0 (suc D) v t → Row s (suc D) k w ss m → Other s D m u rs j
    → One s D k (key If p ∷ opening D OpenParen o ∷ (v ++ (mark CloseParen c ∷ opening D OpenBrace b' ∷ (w ++ (mark CloseBrace e' ∷ u))))) (stmt.If t ss rs p) j
one_choice s D k m j p o c b' e' v w u t ss rs h g r a = record { lays = lays } where
  lays : (d : ℕ) → d ≤ D → (i : List ℕ) → Blanks i → (rest : List ℕ) → breaks rest ≡ true → (n : ℕ) → Lays s rest n (stmt_text s.names s.texts (stmt.If t ss rs p) i)
      (key If p ∷ opening D OpenParen o ∷ (v ++ (mark CloseParen c ∷ opening D OpenBrace b' ∷ (w ++ (mark CloseBrace e' ∷ u))))) (GivesStmt d k j (stmt.If t ss rs p))
  lays d l i b rest q n =
      let up : suc d ≤ suc D = omega (arith, l) in
      let test = expr_text s.names t symbol.Expression in
      let other = else_text i (texts_of s rs) in
      let behind = codes ") " ++ (braced i (texts_of s ss) ++ other) in
      lays_text (sym (StmtTexts.if_text s.names s.texts t ss rs p i))
      (lays_key If (codes " (" ++ (test ++ behind)) refl
      (lays_blank refl (lays_mark OpenParen (Opens (suc d)) (test ++ behind) (paren_calm s (suc D) v t g behind rest) refl (room d l h)
      (lays_then test behind (fits_lays s symbol.Expression (suc D) v t (omega arith) g (suc d) up (behind ++ rest) refl _) (λ v' x.
      lays_mark CloseParen Plain (32 ∷ (braced i (texts_of s ss) ++ other)) refl refl refl
      (lays_blank refl (braced_then D b' e' i (texts_of s ss) other w u b h d l (breaks_calm (other ++ rest) (a.breaking i rest q)) (λ rest' m'. r.lays (suc d) up (deeper i) (deeper_blanks i b) rest' m') (λ o' c' w' y m'.
      lays_map (a.lays d l i b rest q m') (λ u' z. (
        stmt.If x.1 y.0 z.0 (s.at n),
        choice _ o' c' x.2 y.1 z.1,
        if_is x.1 y.0 z.0 (s.at n)
            ∙ ap₂ (λ (e : Expr) (f : List Stmt). stmt.If e f (map unplaced_stmt z.0) nowhere) x.3 y.2
            ∙ ap (λ (f : List Stmt). stmt.If (unplaced_expr t) (map unplaced_stmt ss) f nowhere) z.2
            ∙ sym (if_is t ss rs p),
      ))))))))))

one_turns : (s : Setting) (D k m : ℕ) (p o c b' e' : Place) (v w : List Part) (t : Expr) (ss : List Stmt) → limit_of (Opens (suc D)) ≡ None → Fits s 0 (suc D) v t → Row s (suc D) k w ss m
    → One s D k (key While p ∷ opening D OpenParen o ∷ (v ++ (mark CloseParen c ∷ opening D OpenBrace b' ∷ (w ++ mark CloseBrace e' ∷ [])))) (stmt.While t ss p) m
one_turns s D k m p o c b' e' v w t ss h g r = record { lays = lays } where
  lays : (d : ℕ) → d ≤ D → (i : List ℕ) → Blanks i → (rest : List ℕ) → breaks rest ≡ true → (n : ℕ) → Lays s rest n (stmt_text s.names s.texts (stmt.While t ss p) i)
      (key While p ∷ opening D OpenParen o ∷ (v ++ (mark CloseParen c ∷ opening D OpenBrace b' ∷ (w ++ mark CloseBrace e' ∷ [])))) (GivesStmt d k m (stmt.While t ss p))
  lays d l i b rest q n =
      let up : suc d ≤ suc D = omega (arith, l) in
      let test = expr_text s.names t symbol.Expression in
      let body = braced i (texts_of s ss) in
      let behind = codes ") " ++ (body ++ []) in
      lays_text (ap (λ (x : List ℕ). codes "while (" ++ (test ++ (codes ") " ++ x))) (append-nil body) ∙ sym (StmtTexts.while_text s.names s.texts t ss p i))
      (lays_key While (codes " (" ++ (test ++ behind)) refl
      (lays_blank refl (lays_mark OpenParen (Opens (suc d)) (test ++ behind) (paren_calm s (suc D) v t g behind rest) refl (room d l h)
      (lays_then test behind (fits_lays s symbol.Expression (suc D) v t (omega arith) g (suc d) up (behind ++ rest) refl _) (λ v' x.
      lays_mark CloseParen Plain (32 ∷ (body ++ [])) refl refl refl
      (lays_blank refl (braced_then D b' e' i (texts_of s ss) [] w [] b h d l (breaks_calm rest q) (λ rest' m'. r.lays (suc d) up (deeper i) (deeper_blanks i b) rest' m') (λ o' c' w' y m'.
      lays_none (
        stmt.While x.1 y.0 (s.at n),
        turns _ o' c' x.2 y.1,
        while_is x.1 y.0 (s.at n) ∙ ap₂ (λ (e : Expr) (f : List Stmt). stmt.While e f nowhere) x.3 y.2 ∙ sym (while_is t ss p),
      )))))))))

one_leave : (s : Setting) (D k : ℕ) (p c : Place) → One s D k (key Return p ∷ mark Semicolon c ∷ []) (stmt.Return None p) k
one_leave s D k p c = record { lays = lays } where
  lays : (d : ℕ) → d ≤ D → (i : List ℕ) → Blanks i → (rest : List ℕ) → breaks rest ≡ true → (n : ℕ) → Lays s rest n (stmt_text s.names s.texts (stmt.Return None p) i) (key Return p ∷ mark Semicolon c ∷ []) (GivesStmt d k k (stmt.Return None p))
  lays d l i b rest q n =
      lays_text (sym (StmtTexts.return_text s.names s.texts None p i))
      (lays_key Return (codes ";") refl (lays_mark Semicolon Plain [] (breaks_calm rest q) refl refl (lays_none (stmt.Return None (s.at n), leave, return_is None (s.at n) ∙ sym (return_is None p)))))

one_give : (s : Setting) (D k : ℕ) (p c : Place) (w : List Part) (e : Expr) → Fits s 0 D w e → One s D k (key Return p ∷ (w ++ mark Semicolon c ∷ [])) (stmt.Return (Some e) p) k
one_give s D k p c w e g = record { lays = lays } where
  lays : (d : ℕ) → d ≤ D → (i : List ℕ) → Blanks i → (rest : List ℕ) → breaks rest ≡ true → (n : ℕ) → Lays s rest n (stmt_text s.names s.texts (stmt.Return (Some e) p) i) (key Return p ∷ (w ++ mark Semicolon c ∷ [])) (GivesStmt d k k (stmt.Return (Some e) p))
  lays d l i b rest q n =
      lays_text (sym (StmtTexts.return_text s.names s.texts (Some e) p i))
      (lays_key Return (32 ∷ (expr_text s.names e symbol.Expression ++ codes ";")) refl (lays_blank refl (semicolon_lays D c w e g d l q (λ c' v j.
      (stmt.Return (Some j.1) (s.at n), give c' j.2, return_is (Some j.1) (s.at n) ∙ ap (λ (x : Expr). stmt.Return (Some x) nowhere) j.3 ∙ sym (return_is (Some e) p))))))

one_print : (s : Setting) (D k : ℕ) (p o c b' : Place) (w : List Part) (e : Expr) → limit_of (Opens (suc D)) ≡ None → Fits s 0 (suc D) w e
    → One s D k (key Print p ∷ opening D OpenParen o ∷ (w ++ mark CloseParen c ∷ mark Semicolon b' ∷ [])) (stmt.Print e p) k
one_print s D k p o c b' w e h g = record { lays = lays } where
  lays : (d : ℕ) → d ≤ D → (i : List ℕ) → Blanks i → (rest : List ℕ) → breaks rest ≡ true → (n : ℕ) → Lays s rest n (stmt_text s.names s.texts (stmt.Print e p) i)
      (key Print p ∷ opening D OpenParen o ∷ (w ++ mark CloseParen c ∷ mark Semicolon b' ∷ [])) (GivesStmt d k k (stmt.Print e p))
  lays d l i b rest q n =
      let up : suc d ≤ suc D = omega (arith, l) in
      let t = expr_text s.names e symbol.Expression in
      lays_text (sym (StmtTexts.print_text s.names s.texts e p i))
      (lays_key Print (40 ∷ (t ++ codes ");")) refl (lays_mark OpenParen (Opens (suc d)) (t ++ codes ");") (paren_calm s (suc D) w e g (codes ");") rest) refl (room d l h)
      (lays_then t (codes ");") (fits_lays s symbol.Expression (suc D) w e (omega arith) g (suc d) up (codes ");" ++ rest) refl _) (λ v j.
      lays_mark CloseParen Plain (codes ";") refl refl refl (lays_mark Semicolon Plain [] (breaks_calm rest q) refl refl
      (lays_none (stmt.Print j.1 (s.at n), print _ _ j.2, print_is j.1 (s.at n) ∙ ap (λ (x : Expr). stmt.Print x nowhere) j.3 ∙ sym (print_is e p))))))))

one_text : (s : Setting) (D k x : ℕ) (p o q c b' : Place) → limit_of (Opens (suc D)) ≡ None → GivenText s.texts x
    → One s D k (key Print p ∷ opening D OpenParen o ∷ text x q ∷ mark CloseParen c ∷ mark Semicolon b' ∷ []) (stmt.PrintText x p) k
one_text s D k x p o q c b' h g = record { lays = lays } where
  lays : (d : ℕ) → d ≤ D → (i : List ℕ) → Blanks i → (rest : List ℕ) → breaks rest ≡ true → (n : ℕ) → Lays s rest n (stmt_text s.names s.texts (stmt.PrintText x p) i)
      (key Print p ∷ opening D OpenParen o ∷ text x q ∷ mark CloseParen c ∷ mark Semicolon b' ∷ []) (GivesStmt d k k (stmt.PrintText x p))
  lays d l i b rest r n =
      let inside = escaped (bytes_of (slice_get s.texts x)) in
      let quoted = quote ∷ (inside ++ quote ∷ []) in
      let same : codes "print(" ++ (quoted ++ codes ");") ≡ codes "print(\"" ++ (inside ++ codes "\");") =
      ap (λ (y : List ℕ). codes "print(\"" ++ y) (append_assoc inside (quote ∷ []) (codes ");")) in
      lays_text (same ∙ sym (StmtTexts.string_text s.names s.texts x p i))
      (lays_key Print (40 ∷ (quoted ++ codes ");")) refl (lays_mark OpenParen (Opens (suc d)) (quoted ++ codes ");") refl refl (room d l h)
      (lays_word Plain quoted (codes ");") (a_text x g) refl refl
      (lays_mark CloseParen Plain (codes ";") refl refl refl (lays_mark Semicolon Plain [] (breaks_calm rest r) refl refl
      (lays_none (stmt.PrintText x (s.at n), print_text, print_text_is x (s.at n) ∙ sym (print_text_is x p))))))))

-- ---- what stands behind `else`

other_none : (s : Setting) (D k : ℕ) → Other s D k [] [] k
other_none s D k = record { lays = λ d l i b rest q n. lays_none ([], no_else, refl); breaking = λ i u b. b }

other_some : (s : Setting) (D k m : ℕ) (p o c : Place) (w : List Part) (ss : List Stmt) → limit_of (Opens (suc D)) ≡ None → Row s (suc D) k w ss m
    → Other s D k (key Else p ∷ opening D OpenBrace o ∷ (w ++ mark CloseBrace c ∷ [])) ss m
other_some s D k m p o c w [] h r = record { lays = lays; breaking = λ i u b. b } where
  gives : {rest : List ℕ} {n : ℕ} (d : ℕ) → w ≡ [] → k ≡ m → Lays s rest n [] (key Else p ∷ opening D OpenBrace o ∷ (w ++ mark CloseBrace c ∷ [])) (GivesElse d k m [])
  gives {rest} {n} d a b =
      subst (λ (x : List Part). Lays s rest n [] (key Else p ∷ opening D OpenBrace o ∷ (x ++ mark CloseBrace c ∷ [])) (GivesElse d k m [])) (sym a)
      (lays_without refl (lays_without refl (lays_without refl (lays_none ([], subst (λ (y : ℕ). IsElse d k [] [] y) b no_else, refl)))))

  lays : (d : ℕ) → d ≤ D → (i : List ℕ) → Blanks i → (rest : List ℕ) → breaks rest ≡ true → (n : ℕ) → Lays s rest n [] (key Else p ∷ opening D OpenBrace o ∷ (w ++ mark CloseBrace c ∷ [])) (GivesElse d k m [])
  lays d l i b rest q n = gives d (r.none refl).0 (r.none refl).1
other_some s D k m p o c w (x ∷ ss) h r = record { lays = lays; breaking = λ i u b. refl } where
  lays : (d : ℕ) → d ≤ D → (i : List ℕ) → Blanks i → (rest : List ℕ) → breaks rest ≡ true → (n : ℕ)
      → Lays s rest n (else_text i (texts_of s (x ∷ ss))) (key Else p ∷ opening D OpenBrace o ∷ (w ++ mark CloseBrace c ∷ [])) (GivesElse d k m (x ∷ ss))
  lays d l i b rest q n =
      let up : suc d ≤ suc D = omega (arith, l) in
      let body = braced i (texts_of s (x ∷ ss)) in
      lays_text (ap (λ (y : List ℕ). codes " else " ++ y) (append-nil body))
      (lays_blank refl (lays_key Else (32 ∷ (body ++ [])) refl (lays_blank refl
      (braced_then D o c i (texts_of s (x ∷ ss)) [] w [] b h d l (breaks_calm rest q) (λ rest' m'. r.lays (suc d) up (deeper i) (deeper_blanks i b) rest' m') (λ o' c' v g m'.
      lays_none (g.0, otherwise c' g.1, g.2))))))

mutual
  pub stmt_back : (s : Setting) {D k m : ℕ} {w : List Part} {t : Stmt} → IsStmt D k w t m → Fine s w → One s D k w t m
  stmt_back s {D} {k} {m} (block {o = o} c {w = w} {ss = ss} i) f = one_block s D k m o c w ss f.1 (stmts_back s i (fine_left s w (mark CloseBrace c ∷ []) f.2))
  stmt_back s {D} {k} (local {x = x} {p = p} o c {u = u} {v = v} {w = w} {fixed = fixed} {t = t} {e = e} a y j) f =
      one_local s D k x p o c u v w fixed t e a y f
      (expr_back s j (fine_left s w (mark Semicolon c ∷ []) (fine_right s v (new_name (Local (suc k)) x p ∷ mark Equals o ∷ (w ++ mark Semicolon c ∷ [])) (fine_right s u (v ++ (new_name (Local (suc k)) x p ∷ mark Equals o ∷ (w ++ mark Semicolon c ∷ []))) f)).2.2))
  stmt_back s {D} {k} (assign {x = x} {p = p} {o = o} c {w = w} {e = e} j) f = one_assign s D k x p o c w e f.0 (expr_back s j (fine_left s w (mark Semicolon c ∷ []) f.2.2))
  stmt_back s {D} {k} (set_field {x = x} b n o c {v = v} {w = w} {t = t} {e = e} i j) f =
      let g = fine_right s v (mark Dot b ∷ name x n ∷ mark Equals o ∷ (w ++ mark Semicolon c ∷ [])) f in
      one_set s D k x b n o c v w t e g.2.0 (post_back s i (fine_left s v (mark Dot b ∷ name x n ∷ mark Equals o ∷ (w ++ mark Semicolon c ∷ [])) f))
      (expr_back s j (fine_left s w (mark Semicolon c ∷ []) g.2.2.2))
  stmt_back s {D} {k} (act c {w = w} {e = e} y) f = one_act s D k c w e y (fine_left s w (mark Semicolon c ∷ []) f)
  stmt_back s {D} {k} (choice {m = m} {n = j} {p = p} {o = o} c b e {v = v} {w = w} {u = u} {t = t} {ss = ss} {rs = rs} i g h) f =
      let f' = fine_right s v (mark CloseParen c ∷ opening D OpenBrace b ∷ (w ++ (mark CloseBrace e ∷ u))) f.2.2 in
      one_choice s D k m j p o c b e v w u t ss rs f.2.1 (expr_back s i (fine_left s v (mark CloseParen c ∷ opening D OpenBrace b ∷ (w ++ (mark CloseBrace e ∷ u))) f.2.2))
      (stmts_back s g (fine_left s w (mark CloseBrace e ∷ u) f'.2.2)) (else_back s h (fine_right s w (mark CloseBrace e ∷ u) f'.2.2).2)
  stmt_back s {D} {k} (turns {m = m} {p = p} {o = o} c b e {v = v} {w = w} {t = t} {ss = ss} i g) f =
      let f' = fine_right s v (mark CloseParen c ∷ opening D OpenBrace b ∷ (w ++ mark CloseBrace e ∷ [])) f.2.2 in
      one_turns s D k m p o c b e v w t ss f.2.1 (expr_back s i (fine_left s v (mark CloseParen c ∷ opening D OpenBrace b ∷ (w ++ mark CloseBrace e ∷ [])) f.2.2))
      (stmts_back s g (fine_left s w (mark CloseBrace e ∷ []) f'.2.2))
  stmt_back s {D} {k} (leave {p = p} {s = c}) f = one_leave s D k p c
  stmt_back s {D} {k} (give {p = p} c {w = w} {e = e} j) f = one_give s D k p c w e (expr_back s j (fine_left s w (mark Semicolon c ∷ []) f.2))
  stmt_back s {D} {k} (print {p = p} {o = o} c b {w = w} {e = e} j) f = one_print s D k p o c b w e f.2.1 (expr_back s j (fine_left s w (mark CloseParen c ∷ mark Semicolon b ∷ []) f.2.2))
  stmt_back s {D} {k} (print_text {n = x} {p = p} {o = o} {q = q} {c = c} {s = b}) f = one_text s D k x p o q c b f.2.1 f.2.2.0

  pub else_back : (s : Setting) {D k m : ℕ} {w : List Part} {ss : List Stmt} → IsElse D k w ss m → Fine s w → Other s D k w ss m
  else_back s {D} {k} no_else f = other_none s D k
  else_back s {D} {k} {m} (otherwise {p = p} {o = o} c {w = w} {ss = ss} i) f = other_some s D k m p o c w ss f.2.1 (stmts_back s i (fine_left s w (mark CloseBrace c ∷ []) f.2.2))

  pub stmts_back : (s : Setting) {D k m : ℕ} {w : List Part} {ss : List Stmt} → IsStmts D k w ss m → Fine s w → Row s D k w ss m
  stmts_back s {D} {k} no_stmt f = row_none s D k
  stmts_back s {D} {k} (then_stmt {m = m} {n = j} {v = v} {w = w} {s = t} {ss = ss} i r) f =
      row_then s D k m j v w t ss (stmt_back s i (fine_left s v w f)) (stmts_back s r (fine_right s v w f))
