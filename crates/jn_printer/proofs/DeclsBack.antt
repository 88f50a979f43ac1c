-- Declarations and programs as they are written are such of the grammar.
use Rattle.std.proofs.Common.{◌≡◌, ℕ, suc, ◌+◌, ◌≤◌, true, false, List, [], ◌∷◌, ◌++◌, map, length, Option, codes, refl, sym, ap, ap₂, subst, ◌∙◌, append_assoc, append-nil, arith}
use Rattle.jn_base.specs.declared.tree.Place.{Place}
use Rattle.jn_base.specs.declared.tree.Name.{Name}
use Rattle.jn_base.specs.declared.tree.Named.{Named}
use Rattle.jn_base.specs.declared.tree.Text.{Text}
use Rattle.jn_base.specs.declared.tree.Kind.{Kind}
use Rattle.jn_base.specs.declared.tree.Kind.TheVariants as kind
use Rattle.jn_base.specs.declared.tree.TypeTerm.{TypeTerm}
use Rattle.jn_base.specs.declared.tree.Param.{Param}
use Rattle.jn_base.specs.declared.tree.Constraint.{Constraint}
use Rattle.jn_base.specs.declared.tree.Stmt.{Stmt}
use Rattle.jn_base.specs.declared.tree.Method.{Method}
use Rattle.jn_base.specs.declared.tree.Decl.{Decl}
use Rattle.jn_base.specs.declared.tree.Member.{Member}
use Rattle.jn_base.specs.declared.tree.Member.TheVariants as member
use Rattle.jn_base.specs.declared.word.Keyword.TheVariants.{Adapts, Extends, Shares}
use Rattle.jn_base.specs.declared.word.Mark.TheVariants.{CloseBrace, CloseParen, OpenBrace, OpenParen, Semicolon}
use Rattle.jn_base.specs.Parts.{Part, Plain, Opens, Declares, mark, name, opening, new_name, named, end_of_file}
use Rattle.jn_base.specs.GrammarTypes.{IsType}
use Rattle.jn_base.specs.GrammarDecl.{IsParams, IsSharing, IsResult, IsList, IsKind, decl, IsInner, inner, IsMember, declared, slot, method, IsMembers, no_member, then_member, IsTop, top, IsProgram, no_top, then_top}
use Rattle.jn_printer.specs.Pieces.{joined, name_text, type_text}
use Rattle.jn_printer.specs.StmtText.{Indented, deeper, lines, braced, stmt_text}
use Rattle.jn_printer.specs.DeclText.{kind_text, list_text, result_text, param_text, params_text, sharing_text, signature_text, heading_text, member_text, decl_text}
use Rattle.jn_base.specs.Unplaced.{nowhere, unplaced_named, unplaced_param, unplaced_constraint, unplaced_result, unplaced_stmt, unplaced_member, unplaced_decl}
use Rattle.jn_printer.proofs.DeclTexts.{decl_parts, inner_text, slot_text, body_member}
use Rattle.jn_printer.proofs.Placeless.{inner_is, slot_is, body_is, decl_is}
use Rattle.jn_printer.proofs.Written.{breaks, calm, Setting, Fine, fine_left, fine_right, Lays, lays_none, lays_map, lays_then, lays_mark, lays_name, lays_blank, lays_text}
use Rattle.jn_printer.proofs.Follows.{breaks_calm}
use Rattle.jn_printer.proofs.TermsBack.{room, type_lays}
use Rattle.jn_printer.proofs.StmtTools.{Blanks, deeper_blanks, lays_blanks, braced_then}
use Rattle.jn_printer.proofs.StmtsBack.{Row, stmts_back}
use Rattle.jn_printer.proofs.HeadsBack.{list_word, list_lays, list_breaks, kind_then, result_lays, params_lays, params_calm, sharing_lays, sharing_breaks}

abbrev pub GivesMember : Kind → ℕ → ℕ → Member → List Part → Type 0
GivesMember k d n t v = (u : Member) × IsMember k d n v u × (unplaced_member u ≡ unplaced_member t)

abbrev pub GivesMembers : Kind → ℕ → ℕ → List Member → List Part → Type 0
GivesMembers k d n ts v = (us : List Member) × IsMembers k d n v us × (map unplaced_member us ≡ map unplaced_member ts)

abbrev pub GivesInner : ℕ → ℕ → Decl → List Part → Type 0
GivesInner d n t v = (u : Decl) × IsInner d n v u × (unplaced_decl u ≡ unplaced_decl t)

abbrev member_texts : Setting → List Member → List Indented
member_texts s ts = map (member_text s.names s.texts) ts

pub record OneMember (s : Setting) (k : Kind) (D j : ℕ) (w : List Part) (t : Member) : Type 0 where
  pub lays : (d : ℕ) → d ≤ D → (i : List ℕ) → Blanks i → (rest : List ℕ) → breaks rest ≡ true → (n : ℕ) → Lays s rest n (member_text s.names s.texts t i) w (GivesMember k d j t)

pub record Members (s : Setting) (k : Kind) (D j : ℕ) (w : List Part) (ts : List Member) : Type 0 where
  pub lays : (d : ℕ) → d ≤ D → (i : List ℕ) → Blanks i → (rest : List ℕ) → (n : ℕ) → Lays s rest n (lines i (member_texts s ts)) w (GivesMembers k d j ts)

pub record Inner (s : Setting) (D j : ℕ) (w : List Part) (t : Decl) : Type 0 where
  pub lays : (d : ℕ) → d ≤ D → (i : List ℕ) → Blanks i → (rest : List ℕ) → breaks rest ≡ true → (n : ℕ) → Lays s rest n (decl_text s.names s.texts t i) w (GivesInner d j t)

members_none : (s : Setting) (k : Kind) (D j : ℕ) → Members s k D j [] []
members_none s k D j = record { lays = λ d l i b rest n. lays_none ([], no_member, refl) }

members_then : (s : Setting) (k : Kind) (D j : ℕ) (v w : List Part) (t : Member) (ts : List Member) → OneMember s k D j v t → Members s k D j w ts → Members s k D j (v ++ w) (t ∷ ts)
members_then s k D j v w t ts a r = record { lays = lays } where
  lays : (d : ℕ) → d ≤ D → (i : List ℕ) → Blanks i → (rest : List ℕ) → (n : ℕ) → Lays s rest n (lines i (member_texts s (t ∷ ts))) (v ++ w) (GivesMembers k d j (t ∷ ts))
  lays d l i b rest n =
      let one = member_text s.names s.texts t i in
      let more = lines i (member_texts s ts) in
      lays_blanks i (one ++ (10 ∷ more)) b
      (lays_then one (10 ∷ more) (a.lays d l i b ((10 ∷ more) ++ rest) refl (n + length i)) (λ v' g.
      lays_blank refl (lays_map (r.lays d l i b rest (suc (n + length i + length one)))
      (λ w' h. (g.0 ∷ h.0, then_member g.1 h.1, ap₂ (λ (x : Member) (xs : List Member). x ∷ xs) g.2 h.2)))))

-- ---- a heading and a body

three : (ns : List Text) (k : Kind) (x : Named) (es ss adapted : List Named) (t : List ℕ)
    → kind_text k ++ (name_text ns x.name ++ (list_text ns (list_word Extends) es ++ (list_text ns (list_word Shares) ss ++ (list_text ns (list_word Adapts) adapted ++ t))))
    ≡ heading_text ns k x es ss adapted ++ t
unfolding heading_text
three ns k x es ss adapted t =
    let a = list_text ns (list_word Extends) es in
    let b = list_text ns (list_word Shares) ss in
    let c = list_text ns (list_word Adapts) adapted in
    let name' = name_text ns x.name in
    ap (λ (y : List ℕ). kind_text k ++ (name' ++ (a ++ y))) (sym (append_assoc b c t))
    ∙ ap (λ (y : List ℕ). kind_text k ++ (name' ++ y)) (sym (append_assoc a (b ++ c) t))
    ∙ ap (λ (y : List ℕ). kind_text k ++ y) (sym (append_assoc name' (a ++ (b ++ c)) t))
    ∙ sym (append_assoc (kind_text k) (name' ++ (a ++ (b ++ c))) t)

inner_made : (s : Setting) (D j : ℕ) (k : Kind) (x : Name) (p o c : Place) (t : Part) (u v w : List Part) (es ss : List Named) (ms : List Member)
    → IsKind t k → IsList Extends u es → IsList Shares v ss → Fine s (t ∷ new_name (Declares j) x p ∷ (u ++ (v ++ (opening D OpenBrace o ∷ (w ++ mark CloseBrace c ∷ [])))))
    → Members s k (suc D) (suc j) w ms
    → Inner s D j (t ∷ new_name (Declares j) x p ∷ (u ++ (v ++ (opening D OpenBrace o ∷ (w ++ mark CloseBrace c ∷ []))))) (decl k (named x p) es ss [] ms)
inner_made s D j k x p o c t u v w es ss ms y a b f r = record { lays = lays } where
  body : List Part
  body = opening D OpenBrace o ∷ (w ++ mark CloseBrace c ∷ [])

  lays : (d : ℕ) → d ≤ D → (i : List ℕ) → Blanks i → (rest : List ℕ) → breaks rest ≡ true → (n : ℕ)
      → Lays s rest n (decl_text s.names s.texts (decl k (named x p) es ss [] ms) i) (t ∷ new_name (Declares j) x p ∷ (u ++ (v ++ body))) (GivesInner d j (decl k (named x p) es ss [] ms))
  lays d l i blanks rest e n =
      let up : suc d ≤ suc D = omega (arith, l) in
      let fu = f.2.2 in
      let fv = fine_right s u (v ++ body) fu in
      let fb = fine_right s v body fv in
      let in_braces = braced i (member_texts s ms) in
      let tail = 32 ∷ (in_braces ++ []) in
      let a_text = list_text s.names (list_word Extends) es in
      let b_text = list_text s.names (list_word Shares) ss in
      lays_text
      (three s.names k (named x p) es ss [] tail ∙ ap (λ (y : List ℕ). heading_text s.names k (named x p) es ss [] ++ (32 ∷ y)) (append-nil in_braces)
      ∙ sym (decl_parts s.names s.texts (decl k (named x p) es ss [] ms) i))
      (kind_then s (name_text s.names x ++ (a_text ++ (b_text ++ tail))) y (λ t' y' m.
      lays_name x (Declares j) (a_text ++ (b_text ++ tail)) f.2.0
      (subst (λ (z : List ℕ). breaks z ≡ true) (sym (append_assoc a_text (b_text ++ tail) rest)) (list_breaks s.names Extends es ((b_text ++ tail) ++ rest)
      (subst (λ (z : List ℕ). breaks z ≡ true) (sym (append_assoc b_text tail rest)) (list_breaks s.names Shares ss (tail ++ rest) refl)))) f.2.1
      (lays_then a_text (b_text ++ tail) (list_lays s a (fine_left s u (v ++ body) fu) ((b_text ++ tail) ++ rest)
      (subst (λ (z : List ℕ). breaks z ≡ true) (sym (append_assoc b_text tail rest)) (list_breaks s.names Shares ss (tail ++ rest) refl)) _) (λ u' a'.
      lays_then b_text tail (list_lays s b (fine_left s v body fv) (tail ++ rest) refl _) (λ v' b'.
      lays_blank refl (braced_then D o c i (member_texts s ms) [] w [] blanks fb.1 d l (breaks_calm rest e) (λ rest' m'. r.lays (suc d) up (deeper i) (deeper_blanks i blanks) rest' m') (λ o' c' w' g m'.
      lays_none (
        decl k (named x _) a'.0 b'.0 [] g.0,
        inner o' c' y' a'.1 b'.1 g.1,
        decl_is k (named x _) a'.0 b'.0 [] g.0
            ∙ ap₂ (λ (y z : List Named). decl k (named x nowhere) y z [] (map unplaced_member g.0)) a'.2 b'.2
            ∙ ap (λ (z : List Member). decl k (named x nowhere) (map unplaced_named es) (map unplaced_named ss) [] z) g.2
            ∙ sym (decl_is k (named x p) es ss [] ms),
      ))))))))

-- ---- members

member_inner : (s : Setting) (k : Kind) (D j : ℕ) (w : List Part) (t : Decl) → Inner s D j w t → OneMember s k D j w (member.Inner t)
member_inner s k D j w t r = record {
  lays = λ d l i b rest e n.
      lays_text (sym (inner_text s.names s.texts t i)) (lays_map (r.lays d l i b rest e n) (λ v g. (member.Inner g.0, declared g.1, inner_is g.0 ∙ ap (λ (x : Decl). member.Inner x) g.2 ∙ sym (inner_is t))));
}

member_slot : (s : Setting) (D j : ℕ) (x : Name) (p c : Place) (w : List Part) (t : TypeTerm) → IsType D w t → Fine s (w ++ name x p ∷ mark Semicolon c ∷ [])
    → OneMember s kind.Class D j (w ++ name x p ∷ mark Semicolon c ∷ []) (member.Slot (record { ty = t; name = named x p }))
member_slot s D j x p c w t y f = record { lays = lays } where
  tree : Member
  tree = member.Slot (record { ty = t; name = named x p })

  lays : (d : ℕ) → d ≤ D → (i : List ℕ) → Blanks i → (rest : List ℕ) → breaks rest ≡ true → (n : ℕ)
      → Lays s rest n (member_text s.names s.texts tree i) (w ++ name x p ∷ mark Semicolon c ∷ []) (GivesMember kind.Class d j tree)
  lays d l i b rest e n =
      let tail = 32 ∷ (name_text s.names x ++ codes ";") in
      let g = fine_right s w (name x p ∷ mark Semicolon c ∷ []) f in
      lays_text (sym (slot_text s.names s.texts (record { ty = t; name = named x p }) i))
      (lays_then (type_text s.names t) tail (type_lays s y (fine_left s w (name x p ∷ mark Semicolon c ∷ []) f) d l (tail ++ rest) refl n) (λ w' h.
      lays_blank refl (lays_name x Plain (codes ";") g.0 refl refl (lays_mark Semicolon Plain [] (breaks_calm rest e) refl refl
      (lays_none (
        member.Slot (record { ty = h.0; name = named x _ }),
        slot _ _ h.1,
        slot_is (record { ty = h.0; name = named x _ }) ∙ ap (λ (z : TypeTerm). member.Slot (record { ty = z; name = named x nowhere })) h.2 ∙ sym (slot_is (record { ty = t; name = named x p })),
      ))))))

-- a method's text with its pieces nested to the right
signed : (ns : List Text) (m : Method) (body : List ℕ)
    → result_text ns m.result ++ (32 ∷ (name_text ns m.name.name ++ (40 ∷ (joined (param_text ns) (codes ", ") false m.params ++ (41 ∷ (sharing_text ns m.sharing ++ (32 ∷ body)))))))
    ≡ signature_text ns m ++ (codes " " ++ body)
unfolding signature_text params_text
signed ns m body =
    let r = result_text ns m.result in
    let x = name_text ns m.name.name in
    let p = joined (param_text ns) (codes ", ") false m.params in
    let c = sharing_text ns m.sharing in
    let tail = 32 ∷ body in
    ap (λ (y : List ℕ). r ++ (32 ∷ (x ++ (40 ∷ y)))) (sym (append_assoc p (41 ∷ []) (c ++ tail)))
    ∙ ap (λ (y : List ℕ). r ++ (32 ∷ (x ++ y))) (sym (append_assoc (40 ∷ (p ++ 41 ∷ [])) c tail))
    ∙ ap (λ (y : List ℕ). r ++ (32 ∷ y)) (sym (append_assoc x ((40 ∷ (p ++ 41 ∷ [])) ++ c) tail))
    ∙ sym (append_assoc r (32 ∷ (x ++ ((40 ∷ (p ++ 41 ∷ [])) ++ c))) tail)

abbrev made : Option TypeTerm → Named → List Param → List Constraint → List Stmt → Method
made res x ts cs ss = record { result = res; name = x; params = ts; sharing = cs; body = ss }

member_method : (s : Setting) (D j m : ℕ) (x : Name) (p o c b' e' : Place) (r v u w : List Part) (res : Option TypeTerm) (ts : List Param) (cs : List Constraint) (ss : List Stmt)
    → IsResult D r res → IsParams (suc D) v ts → IsSharing D u cs
    → Fine s (r ++ (name x p ∷ opening D OpenParen o ∷ (v ++ (mark CloseParen c ∷ (u ++ (opening D OpenBrace b' ∷ (w ++ mark CloseBrace e' ∷ []))))))) → Row s (suc D) 0 w ss m
    → OneMember s kind.Class D j (r ++ (name x p ∷ opening D OpenParen o ∷ (v ++ (mark CloseParen c ∷ (u ++ (opening D OpenBrace b' ∷ (w ++ mark CloseBrace e' ∷ [])))))))
    (member.Body (made res (named x p) ts cs ss))
member_method s D j m x p o c b' e' r v u w res ts cs ss y a h f row = record { lays = lays } where
  tree : Method
  tree = made res (named x p) ts cs ss

  body : List Part
  body = opening D OpenBrace b' ∷ (w ++ mark CloseBrace e' ∷ [])

  head : List Part
  head = name x p ∷ opening D OpenParen o ∷ (v ++ (mark CloseParen c ∷ (u ++ body)))

  lays : (d : ℕ) → d ≤ D → (i : List ℕ) → Blanks i → (rest : List ℕ) → breaks rest ≡ true → (n : ℕ)
      → Lays s rest n (member_text s.names s.texts (member.Body tree) i) (r ++ head) (GivesMember kind.Class d j (member.Body tree))
  lays d l i blanks rest e n =
      let up : suc d ≤ suc D = omega (arith, l) in
      let fh = fine_right s r head f in
      let fp = fine_right s v (mark CloseParen c ∷ (u ++ body)) fh.2.2 in
      let fb = fine_right s u body fp.2 in
      let ws = map (stmt_text s.names s.texts) ss in
      let in_braces = braced i ws ++ [] in
      let shared = sharing_text s.names cs in
      let tail = shared ++ (32 ∷ in_braces) in
      let given = joined (param_text s.names) (codes ", ") false ts in
      let behind = 32 ∷ (name_text s.names x ++ (40 ∷ (given ++ (41 ∷ tail)))) in
      let around : calm ((given ++ (41 ∷ tail)) ++ rest) ≡ true =
      subst (λ (z : List ℕ). calm z ≡ true) (sym (append_assoc given (41 ∷ tail) rest)) (params_calm s a (fine_left s v (mark CloseParen c ∷ (u ++ body)) fh.2.2) ((41 ∷ tail) ++ rest) refl) in
      let after : breaks (tail ++ rest) ≡ true =
      subst (λ (z : List ℕ). breaks z ≡ true) (sym (append_assoc shared (32 ∷ in_braces) rest)) (sharing_breaks s.names cs ((32 ∷ in_braces) ++ rest) refl) in
      lays_text
      (signed s.names tree in_braces ∙ ap (λ (z : List ℕ). signature_text s.names tree ++ (codes " " ++ z)) (append-nil (braced i ws)) ∙ sym (body_member s.names s.texts tree i))
      (lays_then (result_text s.names res) behind (result_lays s y (fine_left s r head f) d l (behind ++ rest) refl n) (λ r' y'.
      lays_blank refl (lays_name x Plain (40 ∷ (given ++ (41 ∷ tail))) fh.0 refl refl
      (lays_mark OpenParen (Opens (suc d)) (given ++ (41 ∷ tail)) around refl (room d l fh.2.1)
      (lays_then given (41 ∷ tail) (params_lays s a (fine_left s v (mark CloseParen c ∷ (u ++ body)) fh.2.2) (suc d) up ((41 ∷ tail) ++ rest) refl _) (λ v' a'.
      lays_mark CloseParen Plain tail (breaks_calm (tail ++ rest) after) refl refl
      (lays_then shared (32 ∷ in_braces) (sharing_lays s h (fine_left s u body fp.2) d l ((32 ∷ in_braces) ++ rest) refl _) (λ u' h'.
      lays_blank refl (braced_then D b' e' i ws [] w [] blanks fb.1 d l (breaks_calm rest e) (λ rest' m'. row.lays (suc d) up (deeper i) (deeper_blanks i blanks) rest' m') (λ o' c' w' g m'.
      lays_none (
        member.Body (made y'.0 (named x _) a'.0 h'.0 g.0),
        method _ _ _ o' c' y'.1 a'.1 h'.1 g.1,
        body_is (made y'.0 (named x _) a'.0 h'.0 g.0)
            ∙ ap₂ (λ (z : Option TypeTerm) (zs : List Param). member.Body (made z (named x nowhere) zs (map unplaced_constraint h'.0) (map unplaced_stmt g.0))) y'.2 a'.2
            ∙ ap₂ (λ (z : List Constraint) (zs : List Stmt). member.Body (made (unplaced_result res) (named x nowhere) (map unplaced_param ts) z zs)) h'.2 g.2
            ∙ sym (body_is tree),
      )))))))))))

mutual
  inner_back : (s : Setting) {D j : ℕ} {w : List Part} {t : Decl} → IsInner D j w t → Fine s w → Inner s D j w t
  inner_back s {D} {j} (inner {k = k} {x = x} {p = p} o c {t = t} {u = u} {v = v} {w = w} {es = es} {ss = ss} {ms = ms} y a b r) f =
      inner_made s D j k x p o c t u v w es ss ms y a b f
      (members_back s r (fine_left s w (mark CloseBrace c ∷ []) (fine_right s v (opening D OpenBrace o ∷ (w ++ mark CloseBrace c ∷ [])) (fine_right s u (v ++ (opening D OpenBrace o ∷ (w ++ mark CloseBrace c ∷ []))) f.2.2)).2))

  member_back : (s : Setting) {k : Kind} {D j : ℕ} {w : List Part} {t : Member} → IsMember k D j w t → Fine s w → OneMember s k D j w t
  member_back s {k} {D} {j} (declared {w = w} {t = t} i) f = member_inner s k D j w t (inner_back s i f)
  member_back s {k} {D} {j} (slot {x = x} p c {w = w} {t = t} y) f = member_slot s D j x p c w t y f
  member_back s {k} {D} {j} (method {m = m} {x = x} p o c b e {r = r} {v = v} {u = u} {w = w} {res = res} {ts = ts} {cs = cs} {ss = ss} y a h g) f =
      let fh = fine_right s r (name x p ∷ opening D OpenParen o ∷ (v ++ (mark CloseParen c ∷ (u ++ (opening D OpenBrace b ∷ (w ++ mark CloseBrace e ∷ [])))))) f in
      let fp = fine_right s v (mark CloseParen c ∷ (u ++ (opening D OpenBrace b ∷ (w ++ mark CloseBrace e ∷ [])))) fh.2.2 in
      let fb = fine_right s u (opening D OpenBrace b ∷ (w ++ mark CloseBrace e ∷ [])) fp.2 in
      member_method s D j m x p o c b e r v u w res ts cs ss y a h f (stmts_back s g (fine_left s w (mark CloseBrace e ∷ []) fb.2))

  members_back : (s : Setting) {k : Kind} {D j : ℕ} {w : List Part} {ts : List Member} → IsMembers k D j w ts → Fine s w → Members s k D j w ts
  members_back s {k} {D} {j} no_member f = members_none s k D j
  members_back s {k} {D} {j} (then_member {v = v} {w = w} {t = t} {ts = ts} i r) f = members_then s k D j v w t ts (member_back s i (fine_left s v w f)) (members_back s r (fine_right s v w f))

-- ---- programs

abbrev GivesTop : Decl → List Part → Type 0
GivesTop t v = (u : Decl) × IsTop v u × (unplaced_decl u ≡ unplaced_decl t)

top_back : (s : Setting) {w : List Part} {t : Decl} → IsTop w t → Fine s w → (rest : List ℕ) → breaks rest ≡ true → (n : ℕ) → Lays s rest n (decl_text s.names s.texts t []) w (GivesTop t)
top_back s (top {k = k} {x = x} {p = p} o c {t = t} {u = u} {v = v} {w = w} {es = es} {adapted = ss} {ms = ms} y a b r) f rest e n =
    let body = opening 0 OpenBrace o ∷ (w ++ mark CloseBrace c ∷ []) in
    let fu = f.2.2 in
    let fv = fine_right s u (v ++ body) fu in
    let fb = fine_right s v body fv in
    let row = members_back s r (fine_left s w (mark CloseBrace c ∷ []) fb.2) in
    let in_braces = braced [] (member_texts s ms) in
    let tail = 32 ∷ (in_braces ++ []) in
    let a_text = list_text s.names (list_word Extends) es in
    let b_text = list_text s.names (list_word Adapts) ss in
    lays_text
    (three s.names k (named x p) es [] ss tail ∙ ap (λ (y : List ℕ). heading_text s.names k (named x p) es [] ss ++ (32 ∷ y)) (append-nil in_braces)
    ∙ sym (decl_parts s.names s.texts (decl k (named x p) es [] ss ms) []))
    (kind_then s (name_text s.names x ++ (a_text ++ (b_text ++ tail))) y (λ t' y' m.
    lays_name x (Declares 1) (a_text ++ (b_text ++ tail)) f.2.0
    (subst (λ (z : List ℕ). breaks z ≡ true) (sym (append_assoc a_text (b_text ++ tail) rest)) (list_breaks s.names Extends es ((b_text ++ tail) ++ rest)
    (subst (λ (z : List ℕ). breaks z ≡ true) (sym (append_assoc b_text tail rest)) (list_breaks s.names Adapts ss (tail ++ rest) refl)))) f.2.1
    (lays_then a_text (b_text ++ tail) (list_lays s a (fine_left s u (v ++ body) fu) ((b_text ++ tail) ++ rest)
    (subst (λ (z : List ℕ). breaks z ≡ true) (sym (append_assoc b_text tail rest)) (list_breaks s.names Adapts ss (tail ++ rest) refl)) _) (λ u' a'.
    lays_then b_text tail (list_lays s b (fine_left s v body fv) (tail ++ rest) refl _) (λ v' b'.
    lays_blank refl (braced_then 0 o c [] (member_texts s ms) [] w [] tt fb.1 0 (omega arith) (breaks_calm rest e) (λ rest' m'. row.lays 1 (omega arith) (deeper []) (deeper_blanks [] tt) rest' m') (λ o' c' w' g m'.
    lays_none (
      decl k (named x _) a'.0 [] b'.0 g.0,
      top o' c' y' a'.1 b'.1 g.1,
      decl_is k (named x _) a'.0 [] b'.0 g.0
          ∙ ap₂ (λ (y z : List Named). decl k (named x nowhere) y [] z (map unplaced_member g.0)) a'.2 b'.2
          ∙ ap (λ (z : List Member). decl k (named x nowhere) (map unplaced_named es) [] (map unplaced_named ss) z) g.2
          ∙ sym (decl_is k (named x p) es [] ss ms),
    ))))))))

-- the top-level declarations without the end of the file
pub data Tops : List Part → List Decl → Type 0 where
  no_tops : Tops [] []
  then_tops : {v w : List Part} {t : Decl} {ts : List Decl} → IsTop v t → Tops w ts → Tops (v ++ w) (t ∷ ts)

pub record Ended (w : List Part) (ts : List Decl) : Type 0 where
  pub words : List Part
  pub place : Place
  pub split : w ≡ words ++ end_of_file place ∷ []
  pub tops : Tops words ts

pub program_ends : {w : List Part} {ts : List Decl} → IsProgram w ts → Ended w ts
program_ends (no_top {p = p}) = record { words = []; place = p; split = refl; tops = no_tops }
program_ends (then_top {v = v} {w = w} i j) =
    let e = program_ends j in
    record { words = v ++ e.words; place = e.place; split = ap (λ (x : List Part). v ++ x) e.split ∙ sym (append_assoc v e.words (end_of_file e.place ∷ [])); tops = then_tops i e.tops }

pub tops_end : {w : List Part} {ts : List Decl} → Tops w ts → (p : Place) → IsProgram (w ++ end_of_file p ∷ []) ts
tops_end no_tops p = no_top
tops_end (then_tops {v = v} {w = w} {t = t} {ts = ts} i j) p = subst (λ (x : List Part). IsProgram x (t ∷ ts)) (sym (append_assoc v w (end_of_file p ∷ []))) (then_top i (tops_end j p))

pub tops_back : (s : Setting) {w : List Part} {ts : List Decl} → Tops w ts → Fine s w → (rest : List ℕ) → (n : ℕ)
    → Lays s rest n (lines [] (map (decl_text s.names s.texts) ts)) w (λ v. (us : List Decl) × Tops v us × (map unplaced_decl us ≡ map unplaced_decl ts))
tops_back s no_tops f rest n = lays_none ([], no_tops, refl)
tops_back s (then_tops {v = v} {w = w} {t = t} {ts = ts} i j) f rest n =
    let one = decl_text s.names s.texts t [] in
    let more = lines [] (map (decl_text s.names s.texts) ts) in
    lays_then one (10 ∷ more) (top_back s i (fine_left s v w f) ((10 ∷ more) ++ rest) refl n) (λ v' g.
    lays_blank refl (lays_map (tops_back s j (fine_right s v w f) rest (suc (n + length one)))
    (λ w' h. (g.0 ∷ h.0, then_tops g.1 h.1, ap₂ (λ (x : Decl) (xs : List Decl). x ∷ xs) g.2 h.2))))
