-- Arguments, parts and operands in a row, as they are written.
use Rattle.std.proofs.Common.{◌≡◌, ℕ, suc, ◌+◌, ◌≤◌, Bool, true, false, List, [], ◌∷◌, ◌++◌, map, length, Some, None, codes, refl, sym, ap, ap₂, subst, ◌∙◌, append_assoc, append-nil, arith}
use Rattle.jn_base.specs.declared.tree.Place.{Place}
use Rattle.jn_base.specs.declared.tree.Name.{Name}
use Rattle.jn_base.specs.declared.tree.Text.{Text}
use Rattle.jn_base.specs.declared.tree.Expr.{Expr}
use Rattle.jn_base.specs.declared.tree.Node.TheVariants as node
use Rattle.jn_base.specs.declared.tree.Node.TheVariants.{outs-Post, outs-Chain}
use Rattle.jn_base.specs.declared.tree.Suffix.{Suffix}
use Rattle.jn_base.specs.declared.tree.Link.{Link}
use Rattle.jn_base.specs.declared.tree.Op.{Op}
use Rattle.jn_base.specs.declared.tree.Level.{Level}
use Rattle.jn_base.specs.declared.tree.Level.TheVariants as level
use Rattle.jn_base.specs.declared.word.Mark.{Mark}
use Rattle.jn_base.specs.declared.word.Mark.TheVariants.{CloseParen, Comma, Dot, OpenParen}
use Rattle.jn_base.specs.Words.{mark_text}
use Rattle.jn_base.specs.Parts.{Part, Plain, Opens, mark, name, opening, expr, suffix, link, posted, chained}
use Rattle.jn_base.specs.Spelling.{limit_of}
use Rattle.jn_base.specs.GrammarExpr.{IsOperator, or, and, equal, not_equal, less, less_equal, greater, greater_equal, plus, minus, times, over, remainder, IsSuffix, field, call, IsSuffixes, no_suffix, then_suffix, post, IsArgs, no_arg, args, IsMoreArgs, no_more_arg, then_arg}
use Rattle.jn_printer.specs.declared.symbol.Symbol.TheVariants as symbol
use Rattle.jn_printer.specs.Pieces.{joined, name_text}
use Rattle.jn_printer.specs.ExprText.{whole, args_text, all_at, all_of, op_text, tightness, chain_symbol, operand_symbol, symbol_of, symbol_at, expr_text, link_text, suffix_text}
use Rattle.jn_base.specs.Unplaced.{unplaced_expr, unplaced_suffix, unplaced_link}
use Rattle.jn_printer.proofs.Bare.{link_placed, field_text, call_text, bare_post, bare_chain}
use Rattle.jn_printer.proofs.Placeless.{link_same, field_same, call_same}
use Rattle.jn_printer.proofs.Written.{breaks, calm, is_backslash_mark, Setting, GivenName, Lays, lays_none, lays_map, lays_then, lays_mark, lays_name, lays_blank, lays_text}
use Rattle.jn_printer.proofs.Follows.{breaks_calm, name_calm_on}
use Rattle.jn_printer.proofs.TermsBack.{room}
use Rattle.jn_printer.proofs.ExprTools.{Is, Gives, can_by, Fits, fits_words, fits_own, loosen, fits_lays, fits_calm, posted_same, chained_same}

-- ---- arguments

abbrev args_in : List Text → Bool → List Expr → List ℕ
args_in ns later es = joined whole (codes ", ") later (map (expr_text ns) es)

abbrev pub GivesArgs : ℕ → List Expr → List Part → Type 0
GivesArgs d es v = (fs : List Expr) × IsArgs d v fs × (map unplaced_expr fs ≡ map unplaced_expr es)

abbrev pub GivesMore : ℕ → List Expr → List Part → Type 0
GivesMore d es v = (fs : List Expr) × IsMoreArgs d v fs × (map unplaced_expr fs ≡ map unplaced_expr es)

pub record MoreArgs (s : Setting) (D : ℕ) (w : List Part) (es : List Expr) : Type 0 where
  pub lays : (d : ℕ) → d ≤ D → (rest : List ℕ) → breaks rest ≡ true → (n : ℕ) → Lays s rest n (args_in s.names true es) w (GivesMore d es)
  pub breaking : (u : List ℕ) → breaks u ≡ true → breaks (args_in s.names true es ++ u) ≡ true

pub record Args (s : Setting) (D : ℕ) (w : List Part) (es : List Expr) : Type 0 where
  pub lays : (d : ℕ) → d ≤ D → (rest : List ℕ) → breaks rest ≡ true → (n : ℕ) → Lays s rest n (args_in s.names false es) w (GivesArgs d es)
  pub calmly : (u : List ℕ) → calm u ≡ true → calm (args_in s.names false es ++ u) ≡ true

pub more_none : (s : Setting) (D : ℕ) → MoreArgs s D [] []
more_none s D = record { lays = λ d l rest b n. lays_none ([], no_more_arg, refl); breaking = λ u b. b }

pub more_then : (s : Setting) (D : ℕ) (o : Place) (v w : List Part) (e : Expr) (es : List Expr) → Fits s 0 D v e → MoreArgs s D w es → MoreArgs s D (mark Comma o ∷ (v ++ w)) (e ∷ es)
more_then s D o v w e es f m = record { lays = lays; breaking = λ u b. refl } where
  lays : (d : ℕ) → d ≤ D → (rest : List ℕ) → breaks rest ≡ true → (n : ℕ) → Lays s rest n (args_in s.names true (e ∷ es)) (mark Comma o ∷ (v ++ w)) (GivesMore d (e ∷ es))
  lays d l rest b n =
      let t = expr_text s.names e symbol.Expression in
      let more = args_in s.names true es in
      lays_mark Comma Plain (32 ∷ (t ++ more)) refl refl refl
      (lays_blank refl (lays_then t more (fits_lays s symbol.Expression D v e (omega arith) f d l (more ++ rest) (m.breaking rest b) (suc (n + 1))) (λ v' g.
      lays_map (m.lays d l rest b (suc (n + 1) + length t)) (λ w' h. (g.1 ∷ h.0, then_arg g.2 h.1, ap₂ (λ (x : Expr) (xs : List Expr). x ∷ xs) g.3 h.2)))))

pub args_none : (s : Setting) (D : ℕ) → Args s D [] []
args_none s D = record { lays = λ d l rest b n. lays_none ([], no_arg, refl); calmly = λ u c. c }

pub args_some : (s : Setting) (D : ℕ) (v w : List Part) (e : Expr) (es : List Expr) → Fits s 0 D v e → MoreArgs s D w es → Args s D (v ++ w) (e ∷ es)
args_some s D v w e es f m = record { lays = lays; calmly = calmly } where
  lays : (d : ℕ) → d ≤ D → (rest : List ℕ) → breaks rest ≡ true → (n : ℕ) → Lays s rest n (args_in s.names false (e ∷ es)) (v ++ w) (GivesArgs d (e ∷ es))
  lays d l rest b n =
      let t = expr_text s.names e symbol.Expression in
      let more = args_in s.names true es in
      lays_then t more (fits_lays s symbol.Expression D v e (omega arith) f d l (more ++ rest) (m.breaking rest b) n) (λ v' g.
      lays_map (m.lays d l rest b (n + length t)) (λ w' h. (g.1 ∷ h.0, args g.2 h.1, ap₂ (λ (x : Expr) (xs : List Expr). x ∷ xs) g.3 h.2)))

  calmly : (u : List ℕ) → calm u ≡ true → calm (args_in s.names false (e ∷ es) ++ u) ≡ true
  calmly u c =
      let t = expr_text s.names e symbol.Expression in
      let more = args_in s.names true es in
      subst (λ (x : List ℕ). calm x ≡ true) (sym (append_assoc t more u)) (fits_calm s symbol.Expression D v e f (more ++ u))

-- in parentheses
pub call_lays : {s : Setting} {rest : List ℕ} {n : ℕ} (D : ℕ) (o c : Place) (w : List Part) (es : List Expr) {R : List Part → Type 0} → Args s (suc D) w es
    → limit_of (Opens (suc D)) ≡ None → (d : ℕ) → d ≤ D → breaks rest ≡ true
    → ((o' c' : Place) (v : List Part) → GivesArgs (suc d) es v → R (opening d OpenParen o' ∷ (v ++ mark CloseParen c' ∷ [])))
    → Lays s rest n (args_text (map (expr_text s.names) es)) (opening D OpenParen o ∷ (w ++ mark CloseParen c ∷ [])) R
call_lays {s} {rest} {n} D o c w es a h d l b f =
    let t = args_in s.names false es in
    let up : suc d ≤ suc D = omega (arith, l) in
    let around : calm ((t ++ 41 ∷ []) ++ rest) ≡ true = subst (λ (x : List ℕ). calm x ≡ true) (sym (append_assoc t (41 ∷ []) rest)) (a.calmly (41 ∷ rest) refl) in
    lays_mark OpenParen (Opens (suc d)) (t ++ 41 ∷ []) around refl (room d l h)
    (lays_then t (41 ∷ []) (a.lays (suc d) up (41 ∷ rest) refl (n + 1)) (λ v g.
    lays_mark CloseParen Plain [] (breaks_calm rest b) refl refl
    (lays_none (f (s.at n) (s.at (n + 1 + length t)) v g))))

-- ---- parts

abbrev pub GivesSuffix : ℕ → Suffix → List Part → Type 0
GivesSuffix d x v = (r : Suffix) × IsSuffix d v r × (unplaced_suffix r ≡ unplaced_suffix x)

abbrev pub GivesSuffixes : ℕ → List Suffix → List Part → Type 0
GivesSuffixes d ss v = (rs : List Suffix) × IsSuffixes d v rs × (map unplaced_suffix rs ≡ map unplaced_suffix ss)

abbrev pub parts_in : List Text → List Suffix → List ℕ
parts_in ns ss = all_of (map (suffix_text ns) ss)

pub record OneSuffix (s : Setting) (D : ℕ) (w : List Part) (x : Suffix) : Type 0 where
  pub lays : (d : ℕ) → d ≤ D → (rest : List ℕ) → breaks rest ≡ true → (n : ℕ) → Lays s rest n (suffix_text s.names x) w (GivesSuffix d x)
  pub breaking : (u : List ℕ) → breaks (suffix_text s.names x ++ u) ≡ true

pub record Suffixes (s : Setting) (D : ℕ) (w : List Part) (ss : List Suffix) : Type 0 where
  pub none : ss ≡ [] → w ≡ []
  pub lays : (d : ℕ) → d ≤ D → (rest : List ℕ) → breaks rest ≡ true → (n : ℕ) → Lays s rest n (parts_in s.names ss) w (GivesSuffixes d ss)
  pub breaking : (u : List ℕ) → breaks u ≡ true → breaks (parts_in s.names ss ++ u) ≡ true

pub suffix_field : (s : Setting) (D : ℕ) (x : Name) (o p : Place) → GivenName s.names x → OneSuffix s D (mark Dot o ∷ name x p ∷ []) (suffix x p None)
suffix_field s D x o p g = record { lays = lays; breaking = λ u. subst (λ (t : List ℕ). breaks (t ++ u) ≡ true) (sym (field_text s.names x p)) refl } where
  lays : (d : ℕ) → d ≤ D → (rest : List ℕ) → breaks rest ≡ true → (n : ℕ) → Lays s rest n (suffix_text s.names (suffix x p None)) (mark Dot o ∷ name x p ∷ []) (GivesSuffix d (suffix x p None))
  lays d l rest b n =
      lays_text (sym (field_text s.names x p))
      (lays_mark Dot Plain (name_text s.names x ++ []) (name_calm_on s.names x g [] rest) refl refl
      (lays_name x Plain [] g b refl (lays_none (suffix x (s.at (n + 1)) None, field, field_same x _ p))))

pub suffix_call : (s : Setting) (D : ℕ) (x : Name) (o p q c : Place) (w : List Part) (es : List Expr) → GivenName s.names x → limit_of (Opens (suc D)) ≡ None → Args s (suc D) w es
    → OneSuffix s D (mark Dot o ∷ name x p ∷ opening D OpenParen q ∷ (w ++ mark CloseParen c ∷ [])) (suffix x p (Some es))
suffix_call s D x o p q c w es g h a = record { lays = lays; breaking = λ u. subst (λ (t : List ℕ). breaks (t ++ u) ≡ true) (sym (call_text s.names x p es)) refl } where
  lays : (d : ℕ) → d ≤ D → (rest : List ℕ) → breaks rest ≡ true → (n : ℕ)
      → Lays s rest n (suffix_text s.names (suffix x p (Some es))) (mark Dot o ∷ name x p ∷ opening D OpenParen q ∷ (w ++ mark CloseParen c ∷ [])) (GivesSuffix d (suffix x p (Some es)))
  lays d l rest b n =
      let t = args_text (map (expr_text s.names) es) in
      lays_text (sym (call_text s.names x p es))
      (lays_mark Dot Plain (name_text s.names x ++ t) (name_calm_on s.names x g t rest) refl refl
      (lays_name x Plain t g refl refl
      (call_lays D q c w es a h d l b (λ o' c' v i. (suffix x (s.at (n + 1)) (Some i.0), call c' i.1, call_same x _ p i.0 es i.2)))))

pub suffixes_none : (s : Setting) (D : ℕ) → Suffixes s D [] []
suffixes_none s D = record { none = λ e. refl; lays = λ d l rest b n. lays_none ([], no_suffix, refl); breaking = λ u b. b }

pub suffixes_then : (s : Setting) (D : ℕ) (v w : List Part) (x : Suffix) (ss : List Suffix) → OneSuffix s D v x → Suffixes s D w ss → Suffixes s D (v ++ w) (x ∷ ss)
suffixes_then s D v w x ss a m = record { none = λ e. absurd (cc); lays = lays; breaking = breaking } where
  lays : (d : ℕ) → d ≤ D → (rest : List ℕ) → breaks rest ≡ true → (n : ℕ) → Lays s rest n (parts_in s.names (x ∷ ss)) (v ++ w) (GivesSuffixes d (x ∷ ss))
  lays d l rest b n =
      let t = suffix_text s.names x in
      let more = parts_in s.names ss in
      lays_then t more (a.lays d l (more ++ rest) (m.breaking rest b) n) (λ v' g.
      lays_map (m.lays d l rest b (n + length t)) (λ w' h. (g.0 ∷ h.0, then_suffix g.1 h.1, ap₂ (λ (y : Suffix) (ys : List Suffix). y ∷ ys) g.2 h.2)))

  breaking : (u : List ℕ) → breaks u ≡ true → breaks (parts_in s.names (x ∷ ss) ++ u) ≡ true
  breaking u b = subst (λ (t : List ℕ). breaks t ≡ true) (sym (append_assoc (suffix_text s.names x) (parts_in s.names ss) u)) (a.breaking (parts_in s.names ss ++ u))

-- a Prim with parts behind it
pub posted_lays : (s : Setting) (D : ℕ) (p : Place) (v w : List Part) (e : Expr) (ss : List Suffix) → Fits s 8 D v e → Suffixes s D w ss
    → (d : ℕ) → d ≤ D → (rest : List ℕ) → breaks rest ≡ true → (n : ℕ)
    → Lays s rest n (expr_text s.names e symbol.Prim ++ parts_in s.names ss) (v ++ w) (Gives 7 d (posted p e ss))
posted_lays s D p v w e ss f m d l rest b n =
    let t = expr_text s.names e symbol.Prim in
    let more = parts_in s.names ss in
    lays_then t more (fits_lays s symbol.Prim D v e (omega arith) f d l (more ++ rest) (m.breaking rest b) n) (λ v' g.
    lays_map (m.lays d l rest b (n + length t)) (λ w' h. (g.0, posted g.0 g.1 h.0, post g.2 h.1, posted_same g.0 p g.1 e h.0 ss g.3 h.2)))

pub posted_fits : (s : Setting) (D : ℕ) (p : Place) (v w : List Part) (e : Expr) (ss : List Suffix) → Fits s 8 D v e → Suffixes s D w ss → Fits s 7 D (v ++ w) (posted p e ss)
posted_fits s D p v w e [] f m =
    fits_words s 7 D v (v ++ w) e (sym (append-nil v) ∙ ap (λ (x : List Part). v ++ x) (sym (m.none refl))) (loosen s 7 D v e f)
posted_fits s D p v w e (x ∷ ss) f m =
    let nd = node.Post e (x ∷ ss) in
    let own : tightness (symbol_of nd) ≡ 7 = ap (λ o. tightness (symbol_at o)) (outs-Post e (x ∷ ss)) in
    let t = expr_text s.names e symbol.Prim in
    let more = parts_in s.names (x ∷ ss) in
    fits_own s 7 D (v ++ w) (expr p nd) own
    (can_by s D (v ++ w) p nd 7 (t ++ more) own (bare_post s.names e (x ∷ ss)) (posted_lays s D p v w e (x ∷ ss) f m)
    (λ u. subst (λ (y : List ℕ). calm y ≡ true) (sym (append_assoc t more u)) (fits_calm s symbol.Prim D v e f (more ++ u))))

-- ---- operands

abbrev pub links_in : List Text → Level → List Link → List ℕ
links_in ns l ls = all_at (operand_symbol l) (map (link_text ns) ls)

abbrev pub GivesLinks : (ℕ → List Part → List Link → Type 0) → ℕ → List Link → List Part → Type 0
GivesLinks Row d ls v = (ks : List Link) × Row d v ks × (map unplaced_link ks ≡ map unplaced_link ls)

pub record Links (s : Setting) (l : Level) (Row : ℕ → List Part → List Link → Type 0) (D : ℕ) (w : List Part) (ls : List Link) : Type 0 where
  pub none : ls ≡ [] → w ≡ []
  pub lays : (d : ℕ) → d ≤ D → (rest : List ℕ) → breaks rest ≡ true → (n : ℕ) → Lays s rest n (links_in s.names l ls) w (GivesLinks Row d ls)
  pub breaking : (u : List ℕ) → breaks u ≡ true → breaks (links_in s.names l ls ++ u) ≡ true

pub links_none : (s : Setting) (l : Level) (Row : ℕ → List Part → List Link → Type 0) (D : ℕ) → ((d : ℕ) → Row d [] []) → Links s l Row D [] []
links_none s l Row D r = record { none = λ e. refl; lays = λ d h rest b n. lays_none ([], r d, refl); breaking = λ u b. b }

op_is : {l : Level} {m : Mark} {o : Op} → IsOperator l m o → op_text o ≡ 32 ∷ (mark_text m ++ 32 ∷ [])
op_is or = refl
op_is and = refl
op_is equal = refl
op_is not_equal = refl
op_is less = refl
op_is less_equal = refl
op_is greater = refl
op_is greater_equal = refl
op_is plus = refl
op_is minus = refl
op_is times = refl
op_is over = refl
op_is remainder = refl

op_plain : {l : Level} {m : Mark} {o : Op} → IsOperator l m o → is_backslash_mark m ≡ false
op_plain or = refl
op_plain and = refl
op_plain equal = refl
op_plain not_equal = refl
op_plain less = refl
op_plain less_equal = refl
op_plain greater = refl
op_plain greater_equal = refl
op_plain plus = refl
op_plain minus = refl
op_plain times = refl
op_plain over = refl
op_plain remainder = refl

small : (l : Level) → tightness (operand_symbol l) ≤ 8
small level.Or = omega arith
small level.And = omega arith
small level.Equal = omega arith
small level.Compare = omega arith
small level.Sum = omega arith
small level.Product = omega arith

pub links_then : (s : Setting) (l : Level) (Row Next : ℕ → List Part → List Link → Type 0) (D : ℕ) (m : Mark) (o : Op) (p : Place) (v w : List Part) (e : Expr) (ls : List Link)
    → IsOperator l m o → Fits s (tightness (operand_symbol l)) D v e → Links s l Row D w ls
    → ((d : ℕ) (r q : Place) (u x : List Part) (f : Expr) (ks : List Link) → Is (tightness (operand_symbol l)) d q u f → Row d x ks → Next d (mark m r ∷ (u ++ x)) (link o r f ∷ ks))
    → Links s l Next D (mark m p ∷ (v ++ w)) (link o p e ∷ ls)
links_then s l Row Next D m o p v w e ls i f a cons = record { none = λ h. absurd (cc); lays = lays; breaking = breaking } where
  t : List ℕ
  t = expr_text s.names e (operand_symbol l)

  more : List ℕ
  more = links_in s.names l ls

  same : 32 ∷ (mark_text m ++ (32 ∷ (t ++ more))) ≡ links_in s.names l (link o p e ∷ ls)
  same =
      ap (λ (x : List ℕ). 32 ∷ x) (sym (append_assoc (mark_text m) (32 ∷ []) (t ++ more)))
      ∙ ap (λ (x : List ℕ). x ++ (t ++ more)) (sym (op_is i))
      ∙ sym (append_assoc (op_text o) t more)
      ∙ ap (λ (x : List ℕ). x ++ more) (sym (link_placed s.names (link o p e) (operand_symbol l)))

  breaking : (u : List ℕ) → breaks u ≡ true → breaks (links_in s.names l (link o p e ∷ ls) ++ u) ≡ true
  breaking u b = subst (λ (x : List ℕ). breaks (x ++ u) ≡ true) same refl

  lays : (d : ℕ) → d ≤ D → (rest : List ℕ) → breaks rest ≡ true → (n : ℕ) → Lays s rest n (links_in s.names l (link o p e ∷ ls)) (mark m p ∷ (v ++ w)) (GivesLinks Next d (link o p e ∷ ls))
  lays d h rest b n =
      let k : ℕ = suc (suc n + length (mark_text m)) in
      lays_text same
      (lays_blank refl (lays_mark m Plain (32 ∷ (t ++ more)) refl (op_plain i) refl
      (lays_blank refl (lays_then t more (fits_lays s (operand_symbol l) D v e (small l) f d h (more ++ rest) (a.breaking rest b) k) (λ v' g.
      lays_map (a.lays d h rest b (k + length t)) (λ w' c.
      (link o (s.at (suc n)) g.1 ∷ c.0, cons d (s.at (suc n)) g.0 v' w' g.1 c.0 g.2 c.1, ap₂ (λ (y : Link) (ys : List Link). y ∷ ys) (link_same o (s.at (suc n)) p g.1 e g.3) c.2)))))))

lower : (s : Setting) (l : Level) (D : ℕ) (w : List Part) (e : Expr) → Fits s (tightness (operand_symbol l)) D w e → Fits s (tightness (chain_symbol l)) D w e
lower s level.Or D w e f = loosen s 0 D w e f
lower s level.And D w e f = loosen s 1 D w e f
lower s level.Equal D w e f = loosen s 2 D w e f
lower s level.Compare D w e f = loosen s 3 D w e f
lower s level.Sum D w e f = loosen s 4 D w e f
lower s level.Product D w e f = loosen s 5 D w e f

pub chained_fits : (s : Setting) (l : Level) (Row : ℕ → List Part → List Link → Type 0) (D : ℕ) (p : Place) (v w : List Part) (e : Expr) (ls : List Link)
    → ((d : ℕ) (q : Place) (u x : List Part) (f : Expr) (ks : List Link) → Is (tightness (operand_symbol l)) d q u f → Row d x ks → Is (tightness (chain_symbol l)) d q (u ++ x) (chained q l f ks))
    → Fits s (tightness (operand_symbol l)) D v e → Links s l Row D w ls → Fits s (tightness (chain_symbol l)) D (v ++ w) (chained p l e ls)
chained_fits s l Row D p v w e [] row f a =
    fits_words s (tightness (chain_symbol l)) D v (v ++ w) e (sym (append-nil v) ∙ ap (λ (x : List Part). v ++ x) (sym (a.none refl))) (lower s l D v e f)
chained_fits s l Row D p v w e (y ∷ ls) row f a =
    let nd = node.Chain l e (y ∷ ls) in
    let k = tightness (chain_symbol l) in
    let own : tightness (symbol_of nd) ≡ k = ap (λ o. tightness (symbol_at o)) (outs-Chain l e (y ∷ ls)) in
    let t = expr_text s.names e (operand_symbol l) in
    let more = links_in s.names l (y ∷ ls) in
    fits_own s k D (v ++ w) (expr p nd) own
    (can_by s D (v ++ w) p nd k (t ++ more) own (bare_chain s.names l e (y ∷ ls))
    (λ d h rest b n. lays_then t more (fits_lays s (operand_symbol l) D v e (small l) f d h (more ++ rest) (a.breaking rest b) n) (λ v' g.
    lays_map (a.lays d h rest b (n + length t)) (λ w' c. (g.0, chained g.0 l g.1 c.0, row d g.0 v' w' g.1 c.0 g.2 c.1, chained_same l g.0 p g.1 e c.0 (y ∷ ls) g.3 c.2))))
    (λ u. subst (λ (x : List ℕ). calm x ≡ true) (sym (append_assoc t more u)) (fits_calm s (operand_symbol l) D v e f (more ++ u))))
