-- What is said of statements of a source: blanks, braces, and calls.
use Rattle.std.proofs.Common.{◌≡◌, ℕ, suc, ◌+◌, ◌≤◌, Bool, true, false, not, List, [], ◌∷◌, ◌++◌, map, length, Option, Some, None, is_some, codes, refl, sym, ap, subst, ◌∙◌, append_assoc, append-nil, arith, nat_le}
use Rattle.std.proofs.lemmas.Bool.Decides.{nat_tests}
use Rattle.jn_base.specs.declared.tree.Place.{Place}
use Rattle.jn_base.specs.declared.tree.Name.{Name}
use Rattle.jn_base.specs.declared.tree.Named.{Named}
use Rattle.jn_base.specs.declared.tree.Text.{Text}
use Rattle.jn_base.specs.declared.tree.Expr.{Expr}
use Rattle.jn_base.specs.declared.tree.Node.{Node}
use Rattle.jn_base.specs.declared.tree.Node.TheVariants as node
use Rattle.jn_base.specs.declared.tree.Node.TheVariants.{outs-Post}
use Rattle.jn_base.specs.declared.tree.Suffix.{Suffix, out-Suffix, out-roll-Suffix}
use Rattle.jn_base.specs.declared.tree.Node.TheFolds.{map-Suffix, fold_out-Suffix}
use Rattle.jn_base.specs.declared.tree.Link.{Link}
use Rattle.jn_base.specs.declared.word.Mark.TheVariants.{CloseBrace, OpenBrace, Semicolon}
use Rattle.jn_base.specs.Tokens.{is_blank}
use Rattle.jn_base.specs.Parts.{Part, Plain, Opens, mark, opening, expr, suffix, named, posted}
use Rattle.jn_base.specs.Spelling.{limit_of}
use Rattle.jn_base.specs.GrammarExpr.{EndsInCall, IsCall, called, formed}
use Rattle.jn_printer.specs.declared.symbol.Symbol.{Symbol}
use Rattle.jn_printer.specs.declared.symbol.Symbol.TheVariants as symbol
use Rattle.jn_printer.specs.Pieces.{text_if}
use Rattle.jn_printer.specs.ExprText.{is_instance, symbol_of, symbol_at, node_bare, expr_text}
use Rattle.jn_printer.specs.StmtText.{Indented, deeper, lines, braced}
use Rattle.jn_base.specs.Unplaced.{nowhere, unplaced_node, unplaced_expr, unplaced_link, unplaced_suffix, node_step, expr_step, link_step, suffix_step}
use Rattle.jn_printer.proofs.Bare.{placed_text, bare_post}
use Rattle.jn_printer.proofs.Written.{breaks, calm, Setting, Fine, fine_left, fine_right, Lays, lays_none, lays_map, lays_then, lays_mark, lays_blank, lays_text}
use Rattle.jn_printer.proofs.Follows.{breaks_calm}
use Rattle.jn_printer.proofs.TermsBack.{room}
use Rattle.jn_printer.proofs.ExprTools.{Gives, Fits, fits_lays, posted_same}
use Rattle.jn_printer.proofs.ExprRows.{Suffixes, parts_in}
use Rattle.jn_printer.proofs.ExprsBack.{Form, form_back, prim_back, suffixes_back}

-- ---- blanks and braces

abbrev pub Blanks : List ℕ → Type 0
Blanks [] = Unit {0}
Blanks (c ∷ t) = (is_blank c ≡ true) × Blanks t

pub deeper_blanks : (i : List ℕ) → Blanks i → Blanks (deeper i)
deeper_blanks [] b = (refl, (refl, tt))
deeper_blanks (c ∷ i) b = (b.0, deeper_blanks i b.1)

pub lays_blanks : {s : Setting} {rest : List ℕ} {n : ℕ} (i t : List ℕ) {w : List Part} {R : List Part → Type 0} → Blanks i → Lays s rest (n + length i) t w R → Lays s rest n (i ++ t) w R
lays_blanks {s} {rest} {n} [] t {w} {R} b l = let same : n + 0 ≡ n = omega arith in subst (λ (m : ℕ). Lays s rest m t w R) same l
lays_blanks {s} {rest} {n} (c ∷ i) t {w} {R} b l =
    let same : n + suc (length i) ≡ suc n + length i = omega arith in
    lays_blank b.0 (lays_blanks i t b.1 (subst (λ (m : ℕ). Lays s rest m t w R) same l))

blanks_calm : (i t : List ℕ) → Blanks i → calm t ≡ true → calm (i ++ t) ≡ true
blanks_calm [] t b c = c
blanks_calm (x ∷ i) t b c = blank_calm x b.0 where
  blank_calm : (x : ℕ) → is_blank x ≡ true → calm (x ∷ []) ≡ true
  blank_calm x h = grind (arith, nat_tests)

-- what stands in braces, and what stands behind them
pub braced_then : {s : Setting} {rest : List ℕ} {n : ℕ} (D : ℕ) (o c : Place) (i : List ℕ) (ws : List Indented) (t : List ℕ) (w u : List Part) {P R : List Part → Type 0} → Blanks i
    → limit_of (Opens (suc D)) ≡ None → (d : ℕ) → d ≤ D → calm (t ++ rest) ≡ true
    → ((rest' : List ℕ) (m : ℕ) → Lays s rest' m (lines (deeper i) ws) w P)
    → ((o' c' : Place) (v : List Part) → P v → (m : ℕ) → Lays s rest m t u (λ v'. R (opening d OpenBrace o' ∷ (v ++ mark CloseBrace c' ∷ v'))))
    → Lays s rest n (braced i ws ++ t) (opening D OpenBrace o ∷ (w ++ mark CloseBrace c ∷ u)) R
braced_then {s} {rest} {n} D o c i ws t w u b h d l k inner behind =
    let text = lines (deeper i) ws in
    let tail = i ++ (125 ∷ t) in
    let same : 123 ∷ 10 ∷ (text ++ tail) ≡ braced i ws ++ t =
    ap (λ (x : List ℕ). 123 ∷ 10 ∷ x) (ap (λ (x : List ℕ). text ++ x) (sym (append_assoc i (125 ∷ []) t)) ∙ sym (append_assoc text (i ++ 125 ∷ []) t)) in
    let m : ℕ = suc (n + 1) + length text in
    lays_text same
    (lays_mark OpenBrace (Opens (suc d)) (10 ∷ (text ++ tail)) refl refl (room d l h)
    (lays_blank refl (lays_then text tail (inner (tail ++ rest) (suc (n + 1))) (λ v g.
    lays_blanks i (125 ∷ t) b
    (lays_mark CloseBrace Plain t k refl refl (behind (s.at n) (s.at (m + length i)) v g (m + length i + 1)))))))

-- ---- an expression and a semicolon

pub semicolon_lays : {s : Setting} {rest : List ℕ} {n : ℕ} (D : ℕ) (c : Place) (w : List Part) (e : Expr) {R : List Part → Type 0} → Fits s 0 D w e → (d : ℕ) → d ≤ D → breaks rest ≡ true
    → ((c' : Place) (v : List Part) → Gives 0 d e v → R (v ++ mark Semicolon c' ∷ []))
    → Lays s rest n (expr_text s.names e symbol.Expression ++ codes ";") (w ++ mark Semicolon c ∷ []) R
semicolon_lays {s} {rest} {n} D c w e f d l b r =
    let t = expr_text s.names e symbol.Expression in
    lays_then t (codes ";") (fits_lays s symbol.Expression D w e (omega arith) f d l (59 ∷ rest) refl n) (λ v g.
    lays_mark Semicolon Plain [] (breaks_calm rest b) refl refl (lays_none (r (s.at (n + length t)) v g)))

-- ---- calls

given : Suffix → Bool
given x = is_some (out-Suffix x).args

pub last_given : List Suffix → Bool
unfolding given
last_given [] = false
last_given (x ∷ []) = given x
last_given (x ∷ r ∷ ss) = last_given (r ∷ ss)

ends_given : (ss : List Suffix) → EndsInCall ss → last_given ss ≡ true
unfolding last_given given
ends_given [] h = absurd h
ends_given (x ∷ []) h = h
ends_given (x ∷ r ∷ ss) h = ends_given (r ∷ ss) h

given_ends : (ss : List Suffix) → last_given ss ≡ true → EndsInCall ss
unfolding last_given given
given_ends [] h = absurd (cc)
given_ends (x ∷ []) h = h
given_ends (x ∷ r ∷ ss) h = given_ends (r ∷ ss) h

given_suffix : (x : Name) (p : Place) (a : Option (List Expr)) → given (suffix x p a) ≡ is_some a
unfolding given
given_suffix x p a = ap (λ r. is_some r.args) (out-roll-Suffix (record { name = named x p; args = a }))

kept_from : (y : Named) (a : Option (List Expr))
    → given (suffix_step (map-Suffix Node Expr Link Suffix Node Expr Link Suffix unplaced_node unplaced_expr unplaced_link unplaced_suffix (record { name = y; args = a }))) ≡ is_some a
kept_from y None = given_suffix y.name nowhere None
kept_from y (Some es) = given_suffix y.name nowhere (Some (map unplaced_expr es))

unplaced_out : (x : Suffix) → unplaced_suffix x ≡ suffix_step (map-Suffix Node Expr Link Suffix Node Expr Link Suffix unplaced_node unplaced_expr unplaced_link unplaced_suffix (out-Suffix x))
unfolding unplaced_node unplaced_expr unplaced_link unplaced_suffix
unplaced_out x = fold_out-Suffix Node Expr Link Suffix node_step expr_step link_step suffix_step x

given_out : (x : Suffix) → is_some (out-Suffix x).args ≡ given x
unfolding given
given_out x = refl

given_kept : (x : Suffix) → given (unplaced_suffix x) ≡ given x
given_kept x = ap given (unplaced_out x) ∙ kept_from (out-Suffix x).name (out-Suffix x).args ∙ given_out x

last_kept : (ss : List Suffix) → last_given (map unplaced_suffix ss) ≡ last_given ss
unfolding last_given
last_kept [] = refl
last_kept (x ∷ []) = given_kept x
last_kept (x ∷ r ∷ ss) = last_kept (r ∷ ss)

ends_same : (ss rs : List Suffix) → map unplaced_suffix rs ≡ map unplaced_suffix ss → EndsInCall ss → EndsInCall rs
ends_same ss rs e h = given_ends rs (sym (last_kept rs) ∙ ap last_given e ∙ last_kept ss ∙ ends_given ss h)

abbrev pub GivesCall : ℕ → Expr → List Part → Type 0
GivesCall d e v = (u : Expr) × IsCall d v u × (unplaced_expr u ≡ unplaced_expr e)

-- an expression that stands without parentheses at the place of a symbol
bare_at : (ns : List Text) (asked : Symbol) (e : Expr) → is_instance (symbol_of e.node) asked ≡ true → expr_text ns e asked ≡ (node_bare ns e.node).text
bare_at ns asked e h =
    placed_text ns e asked
    ∙ ap (λ (b : Bool). text_if (not b) (codes "(") ++ ((node_bare ns e.node).text ++ text_if (not b) (codes ")"))) h
    ∙ append-nil (node_bare ns e.node).text

posted_call : (s : Setting) (D : ℕ) (p : Place) (v w : List Part) (e : Expr) (ss : List Suffix) → Fits s 8 D v e → Suffixes s D w ss → EndsInCall ss
    → (d : ℕ) → d ≤ D → (rest : List ℕ) → breaks rest ≡ true → (n : ℕ) → Lays s rest n (expr_text s.names (posted p e ss) symbol.Post) (v ++ w) (GivesCall d (posted p e ss))
posted_call s D p v w e [] f m h d l rest b n = absurd h
posted_call s D p v w e (x ∷ ss) f m h d l rest b n =
    let nd = node.Post e (x ∷ ss) in
    let own : is_instance (symbol_of nd) symbol.Post ≡ true = ap (λ o. is_instance (symbol_at o) symbol.Post) (outs-Post e (x ∷ ss)) in
    let t = expr_text s.names e symbol.Prim in
    let more = parts_in s.names (x ∷ ss) in
    lays_text (sym (bare_at s.names symbol.Post (expr p nd) own ∙ bare_post s.names e (x ∷ ss)))
    (lays_then t more (fits_lays s symbol.Prim D v e (omega arith) f d l (more ++ rest) (m.breaking rest b) n) (λ v' g.
    lays_map (m.lays d l rest b (n + length t)) (λ w' k.
    (posted g.0 g.1 k.0, called g.2 k.1 (ends_same (x ∷ ss) k.0 k.2 h), posted_same g.0 p g.1 e k.0 (x ∷ ss) g.3 k.2))))

formed_call : (s : Setting) (D : ℕ) (w : List Part) (e : Expr) → Form s D w e
    → (d : ℕ) → d ≤ D → (rest : List ℕ) → breaks rest ≡ true → (n : ℕ) → Lays s rest n (expr_text s.names e symbol.Post) w (GivesCall d e)
formed_call s D w e f d l rest b n =
    let own : is_instance (symbol_of e.node) symbol.Post ≡ true = ap (λ (k : ℕ). nat_le 7 k) f.prim in
    lays_text (sym (bare_at s.names symbol.Post e own)) (lays_map (f.lays d l rest b n) (λ v g. (g.1, formed g.2, g.3)))

pub call_back : (s : Setting) {D : ℕ} {w : List Part} {e : Expr} → IsCall D w e → Fine s w
    → (d : ℕ) → d ≤ D → (rest : List ℕ) → breaks rest ≡ true → (n : ℕ) → Lays s rest n (expr_text s.names e symbol.Post) w (GivesCall d e)
call_back s {D} (called {p = p} {v = v} {w = w} {e = e} {ss = ss} i j h) f =
    posted_call s D p v w e ss (prim_back s i (fine_left s v w f)) (suffixes_back s j (fine_right s v w f)) h
call_back s {D} (formed {w = w} {e = e} i) f = formed_call s D w e (form_back s i f)
