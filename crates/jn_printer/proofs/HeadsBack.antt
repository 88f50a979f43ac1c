-- Headings, parameters and constraints as they are written are such of the grammar.
use Rattle.std.proofs.Common.{◌≡◌, ℕ, suc, ◌+◌, ◌≤◌, Bool, true, false, List, [], ◌∷◌, ◌++◌, map, length, Option, Some, None, codes, refl, sym, ap, ap₂, subst, ◌∙◌, append_assoc, append-nil}
use Rattle.jn_base.specs.declared.tree.Place.{Place}
use Rattle.jn_base.specs.declared.tree.Named.{Named}
use Rattle.jn_base.specs.declared.tree.Text.{Text}
use Rattle.jn_base.specs.declared.tree.Kind.{Kind}
use Rattle.jn_base.specs.declared.tree.TypeTerm.{TypeTerm}
use Rattle.jn_base.specs.declared.tree.ViewTerm.{ViewTerm}
use Rattle.jn_base.specs.declared.tree.Param.{Param}
use Rattle.jn_base.specs.declared.tree.Constraint.{Constraint}
use Rattle.jn_base.specs.declared.word.Keyword.{Keyword}
use Rattle.jn_base.specs.declared.word.Keyword.TheVariants.{Class, Package, Sharing, Void}
use Rattle.jn_base.specs.declared.word.Mark.TheVariants.{Ampersand, Arrow, Comma}
use Rattle.jn_base.specs.Words.{keyword_text}
use Rattle.jn_base.specs.Parts.{Part, Plain, Parameter, key, mark, new_name, named}
use Rattle.jn_base.specs.GrammarDecl.{IsParam, param, IsMoreParams, no_more_param, then_param, IsParams, no_param, params, IsRel, rel, IsMoreRels, no_more_rel, then_rel, IsSharing, no_sharing, sharing, IsResult, no_result, result, IsListed, last_name, then_name, IsList, no_list, list, IsKind, a_class, a_package}
use Rattle.jn_printer.specs.Pieces.{text_if, joined, name_text, named_text, names_text, type_text, view_text}
use Rattle.jn_printer.specs.DeclText.{kind_text, list_text, result_text, param_text, constraint_text, sharing_text}
use Rattle.jn_base.specs.Unplaced.{nowhere, unplaced_named, unplaced_param, unplaced_constraint, unplaced_result}
use Rattle.jn_printer.proofs.Written.{breaks, calm, Setting, Fine, fine_left, fine_right, Lays, lays_none, lays_map, lays_then, lays_key, lays_mark, lays_name, lays_blank, lays_text}
use Rattle.jn_printer.proofs.TermsBack.{type_lays, type_calm, view_lays}
use Rattle.jn_printer.proofs.StmtsBack.{final_lays}

-- ---- lists of names

names_later : (ns : List Text) {w : List Part} {xs : List Named} → IsListed w xs → 32 ∷ 38 ∷ 32 ∷ names_text ns xs ≡ joined (named_text ns) (codes " & ") true xs
names_later ns last_name = refl
names_later ns (then_name d) = refl

abbrev pub GivesListed : List Named → List Part → Type 0
GivesListed xs v = (ys : List Named) × IsListed v ys × (map unplaced_named ys ≡ map unplaced_named xs)

listed_lays : (s : Setting) {w : List Part} {xs : List Named} → IsListed w xs → Fine s w → (rest : List ℕ) → breaks rest ≡ true → (n : ℕ) → Lays s rest n (names_text s.names xs) w (GivesListed xs)
listed_lays s (last_name {x = x}) f rest b n = lays_name x Plain [] f.0 b refl (lays_none (named x (s.at n) ∷ [], last_name, refl))
listed_lays s (then_name {x = x} {p = p} {o = o} {w = w} {xs = xs} d) f rest b n =
    let m : ℕ = n + length (name_text s.names x) in
    lays_text (ap (λ (t : List ℕ). name_text s.names x ++ t) (names_later s.names d))
    (lays_name x Plain (32 ∷ 38 ∷ 32 ∷ names_text s.names xs) f.0 refl refl
    (lays_blank refl (lays_mark Ampersand Plain (32 ∷ names_text s.names xs) refl refl refl
    (lays_blank refl (lays_map (listed_lays s d f.2.2 rest b (suc (suc m + 1)))
    (λ v g. (named x (s.at n) ∷ g.0, then_name g.1, ap (λ (ys : List Named). named x nowhere ∷ ys) g.2)))))))

-- the word in front of a list
abbrev pub list_word : Keyword → List ℕ
list_word k = 32 ∷ (keyword_text k ++ 32 ∷ [])

listed_text : (ns : List Text) (word : List ℕ) {w : List Part} {xs : List Named} → IsListed w xs → word ++ names_text ns xs ≡ list_text ns word xs
listed_text ns word last_name = refl
listed_text ns word (then_name d) = refl

abbrev pub GivesList : Keyword → List Named → List Part → Type 0
GivesList k xs v = (ys : List Named) × IsList k v ys × (map unplaced_named ys ≡ map unplaced_named xs)

pub list_lays : (s : Setting) {k : Keyword} {w : List Part} {xs : List Named} → IsList k w xs → Fine s w → (rest : List ℕ) → breaks rest ≡ true → (n : ℕ)
    → Lays s rest n (list_text s.names (list_word k) xs) w (GivesList k xs)
list_lays s no_list f rest b n = lays_none ([], no_list, refl)
list_lays s (list {k = k} {xs = xs} d) f rest b n =
    let t = names_text s.names xs in
    lays_text (ap (λ (x : List ℕ). 32 ∷ x) (sym (append_assoc (keyword_text k) (32 ∷ []) t)) ∙ listed_text s.names (list_word k) d)
    (lays_blank refl (lays_key k (32 ∷ t) refl (lays_blank refl
    (lays_map (listed_lays s d f.2 rest b (suc (suc n + length (keyword_text k)))) (λ v g. (g.0, list g.1, g.2))))))

pub list_breaks : (ns : List Text) (k : Keyword) (xs : List Named) (rest : List ℕ) → breaks rest ≡ true → breaks (list_text ns (list_word k) xs ++ rest) ≡ true
list_breaks ns k [] rest b = b
list_breaks ns k (x ∷ xs) rest b = refl

-- the kind and what stands behind it
pub kind_then : (s : Setting) {rest : List ℕ} {n : ℕ} {t : Part} {k : Kind} (u : List ℕ) {w : List Part} {R : List Part → Type 0} → IsKind t k
    → ((x : Part) → IsKind x k → (m : ℕ) → Lays s rest m u w (λ v. R (x ∷ v))) → Lays s rest n (kind_text k ++ u) (t ∷ w) R
kind_then s {n = n} u a_class l = lays_key Class (32 ∷ u) refl (lays_blank refl (l (key Class (s.at n)) a_class (suc (n + 5))))
kind_then s {n = n} u a_package l = lays_key Package (32 ∷ u) refl (lays_blank refl (l (key Package (s.at n)) a_package (suc (n + 7))))

-- ---- results, parameters and constraints

abbrev pub GivesResult : ℕ → Option TypeTerm → List Part → Type 0
GivesResult d t v = (u : Option TypeTerm) × IsResult d v u × (unplaced_result u ≡ unplaced_result t)

pub result_lays : (s : Setting) {D : ℕ} {w : List Part} {t : Option TypeTerm} → IsResult D w t → Fine s w → (d : ℕ) → d ≤ D → (rest : List ℕ) → breaks rest ≡ true → (n : ℕ)
    → Lays s rest n (result_text s.names t) w (GivesResult d t)
result_lays s no_result f d l rest b n = lays_key Void [] b (lays_none (None, no_result, refl))
result_lays s (result y) f d l rest b n = lays_map (type_lays s y f d l rest b n) (λ v g. (Some g.0, result g.1, ap (λ (x : TypeTerm). Some x) g.2))

abbrev GivesParam : ℕ → ℕ → Param → List Part → Type 0
GivesParam d k t v = (u : Param) × IsParam d k v u × (unplaced_param u ≡ unplaced_param t)

param_lays : (s : Setting) {D k : ℕ} {w : List Part} {t : Param} → IsParam D k w t → Fine s w → (d : ℕ) → d ≤ D → (rest : List ℕ) → breaks rest ≡ true → (n : ℕ)
    → Lays s rest n (param_text s.names t) w (GivesParam d k t)
param_lays s (param {k = k} {x = x} p {u = u} {v = v} {fixed = fixed} {t = t} a y) f d l rest b n =
    let g = fine_right s u (v ++ new_name (Parameter k) x p ∷ []) f in
    let h = fine_right s v (new_name (Parameter k) x p ∷ []) g in
    let tail = 32 ∷ name_text s.names x in
    lays_then (text_if fixed (codes "final ")) (type_text s.names t ++ tail) (final_lays s a ((type_text s.names t ++ tail) ++ rest) n) (λ u' a'.
    lays_then (type_text s.names t) tail (type_lays s y (fine_left s v (new_name (Parameter k) x p ∷ []) g) d l (tail ++ rest) refl _) (λ v' y'.
    lays_blank refl (lays_text (append-nil (name_text s.names x)) (lays_name x (Parameter k) [] h.0 b h.1
    (lays_none (record { fixed = fixed; ty = y'.0; name = named x _ }, param _ a' y'.1, ap (λ (z : TypeTerm). record { fixed = fixed; ty = z; name = named x nowhere }) y'.2))))))

params_in : List Text → Bool → List Param → List ℕ
params_in ns later ts = joined (param_text ns) (codes ", ") later ts

pub record MoreParams (s : Setting) (D k : ℕ) (w : List Part) (ts : List Param) : Type 0 where
  pub lays : (d : ℕ) → d ≤ D → (rest : List ℕ) → breaks rest ≡ true → (n : ℕ)
      → Lays s rest n (joined (param_text s.names) (codes ", ") true ts) w (λ v. (us : List Param) × IsMoreParams d k v us × (map unplaced_param us ≡ map unplaced_param ts))
  pub breaking : (u : List ℕ) → breaks u ≡ true → breaks (joined (param_text s.names) (codes ", ") true ts ++ u) ≡ true

more_params_then : (s : Setting) (D k : ℕ) (o : Place) (v w : List Part) (t : Param) (ts : List Param) → IsParam D k v t → Fine s v → MoreParams s D (suc k) w ts → MoreParams s D k (mark Comma o ∷ (v ++ w)) (t ∷ ts)
more_params_then s D k o v w t ts i f m = record { lays = lays; breaking = λ u b. refl } where
  lays : (d : ℕ) → d ≤ D → (rest : List ℕ) → breaks rest ≡ true → (n : ℕ)
      → Lays s rest n (joined (param_text s.names) (codes ", ") true (t ∷ ts)) (mark Comma o ∷ (v ++ w)) (λ v. (us : List Param) × IsMoreParams d k v us × (map unplaced_param us ≡ map unplaced_param (t ∷ ts)))
  lays d l rest b n =
      let more = joined (param_text s.names) (codes ", ") true ts in
      let one = param_text s.names t in
      lays_mark Comma Plain (32 ∷ (one ++ more)) refl refl refl
      (lays_blank refl (lays_then one more (param_lays s i f d l (more ++ rest) (m.breaking rest b) (suc (n + 1))) (λ v' g.
      lays_map (m.lays d l rest b (suc (n + 1) + length one)) (λ w' h. (g.0 ∷ h.0, then_param g.1 h.1, ap₂ (λ (y : Param) (ys : List Param). y ∷ ys) g.2 h.2)))))

more_params : (s : Setting) {D k : ℕ} {w : List Part} {ts : List Param} → IsMoreParams D k w ts → Fine s w → MoreParams s D k w ts
more_params s no_more_param f = record { lays = λ d l rest b n. lays_none ([], no_more_param, refl); breaking = λ u b. b }
more_params s {D} (then_param {k = k} {o = o} {v = v} {w = w} {t = t} {ts = ts} i j) f =
    more_params_then s D k o v w t ts i (fine_left s v w f.2) (more_params s j (fine_right s v w f.2))

param_calm : (s : Setting) {D k : ℕ} {w : List Part} {t : Param} → IsParam D k w t → Fine s w → (u : List ℕ) → calm (param_text s.names t ++ u) ≡ true
param_calm s (param {k = k} {x = x} p {u = u'} {v = v} {fixed = true} {t = t} a y) f u = refl
param_calm s (param {k = k} {x = x} p {u = u'} {v = v} {fixed = false} {t = t} a y) f u =
    let g = fine_right s u' (v ++ new_name (Parameter k) x p ∷ []) f in
    subst (λ (z : List ℕ). calm z ≡ true) (sym (append_assoc (type_text s.names t) (32 ∷ name_text s.names x) u))
    (type_calm s y (fine_left s v (new_name (Parameter k) x p ∷ []) g) ((32 ∷ name_text s.names x) ++ u))

abbrev pub GivesParams : ℕ → List Param → List Part → Type 0
GivesParams d ts v = (us : List Param) × IsParams d v us × (map unplaced_param us ≡ map unplaced_param ts)

pub params_lays : (s : Setting) {D : ℕ} {w : List Part} {ts : List Param} → IsParams D w ts → Fine s w → (d : ℕ) → d ≤ D → (rest : List ℕ) → breaks rest ≡ true → (n : ℕ)
    → Lays s rest n (joined (param_text s.names) (codes ", ") false ts) w (GivesParams d ts)
params_lays s no_param f d l rest b n = lays_none ([], no_param, refl)
params_lays s {D} (params {v = v} {w = w} {t = t} {ts = ts} i j) f d l rest b n =
    let m : MoreParams s D 2 w ts = more_params s j (fine_right s v w f) in
    let more = joined (param_text s.names) (codes ", ") true ts in
    let one = param_text s.names t in
    lays_then one more (param_lays s i (fine_left s v w f) d l (more ++ rest) (m.breaking rest b) n) (λ v' g.
    lays_map (m.lays d l rest b (n + length one)) (λ w' h. (g.0 ∷ h.0, params g.1 h.1, ap₂ (λ (y : Param) (ys : List Param). y ∷ ys) g.2 h.2)))

pub params_calm : (s : Setting) {D : ℕ} {w : List Part} {ts : List Param} → IsParams D w ts → Fine s w → (u : List ℕ) → calm u ≡ true → calm (joined (param_text s.names) (codes ", ") false ts ++ u) ≡ true
params_calm s no_param f u c = c
params_calm s (params {v = v} {w = w} {t = t} {ts = ts} i j) f u c =
    let more = joined (param_text s.names) (codes ", ") true ts in
    subst (λ (z : List ℕ). calm z ≡ true) (sym (append_assoc (param_text s.names t) more u)) (param_calm s i (fine_left s v w f) (more ++ u))

abbrev GivesRel : ℕ → Constraint → List Part → Type 0
GivesRel d t v = (u : Constraint) × IsRel d v u × (unplaced_constraint u ≡ unplaced_constraint t)

rel_lays : (s : Setting) {D : ℕ} {w : List Part} {t : Constraint} → IsRel D w t → Fine s w → (d : ℕ) → d ≤ D → (rest : List ℕ) → breaks rest ≡ true → (n : ℕ)
    → Lays s rest n (constraint_text s.names t) w (GivesRel d t)
rel_lays s (rel o {v = v} {w = w} {s = a} {t = t} i j) f d l rest b n =
    let one = view_text s.names a in
    let two = view_text s.names t in
    lays_then one (codes " -> " ++ two) (view_lays s i (fine_left s v (mark Arrow o ∷ w) f) d l ((codes " -> " ++ two) ++ rest) refl n) (λ v' g.
    lays_blank refl (lays_mark Arrow Plain (32 ∷ two) refl refl refl (lays_blank refl
    (lays_map (view_lays s j (fine_right s v (mark Arrow o ∷ w) f).2 d l rest b _) (λ w' h.
    (record { from = g.0; to = h.0 }, rel _ g.1 h.1, ap₂ (λ (y z : ViewTerm). record { from = y; to = z }) g.2 h.2))))))

pub record MoreRels (s : Setting) (D : ℕ) (w : List Part) (ts : List Constraint) : Type 0 where
  pub lays : (d : ℕ) → d ≤ D → (rest : List ℕ) → breaks rest ≡ true → (n : ℕ)
      → Lays s rest n (joined (constraint_text s.names) (codes ", ") true ts) w (λ v. (us : List Constraint) × IsMoreRels d v us × (map unplaced_constraint us ≡ map unplaced_constraint ts))
  pub breaking : (u : List ℕ) → breaks u ≡ true → breaks (joined (constraint_text s.names) (codes ", ") true ts ++ u) ≡ true

more_rels_then : (s : Setting) (D : ℕ) (o : Place) (v w : List Part) (t : Constraint) (ts : List Constraint) → IsRel D v t → Fine s v → MoreRels s D w ts → MoreRels s D (mark Comma o ∷ (v ++ w)) (t ∷ ts)
more_rels_then s D o v w t ts i f m = record { lays = lays; breaking = λ u b. refl } where
  lays : (d : ℕ) → d ≤ D → (rest : List ℕ) → breaks rest ≡ true → (n : ℕ)
      → Lays s rest n (joined (constraint_text s.names) (codes ", ") true (t ∷ ts)) (mark Comma o ∷ (v ++ w)) (λ v. (us : List Constraint) × IsMoreRels d v us × (map unplaced_constraint us ≡ map unplaced_constraint (t ∷ ts)))
  lays d l rest b n =
      let more = joined (constraint_text s.names) (codes ", ") true ts in
      let one = constraint_text s.names t in
      lays_mark Comma Plain (32 ∷ (one ++ more)) refl refl refl
      (lays_blank refl (lays_then one more (rel_lays s i f d l (more ++ rest) (m.breaking rest b) (suc (n + 1))) (λ v' g.
      lays_map (m.lays d l rest b (suc (n + 1) + length one)) (λ w' h. (g.0 ∷ h.0, then_rel g.1 h.1, ap₂ (λ (y : Constraint) (ys : List Constraint). y ∷ ys) g.2 h.2)))))

more_rels : (s : Setting) {D : ℕ} {w : List Part} {ts : List Constraint} → IsMoreRels D w ts → Fine s w → MoreRels s D w ts
more_rels s no_more_rel f = record { lays = λ d l rest b n. lays_none ([], no_more_rel, refl); breaking = λ u b. b }
more_rels s {D} (then_rel {o = o} {v = v} {w = w} {r = t} {rs = ts} i j) f =
    more_rels_then s D o v w t ts i (fine_left s v w f.2) (more_rels s j (fine_right s v w f.2))

abbrev pub GivesSharing : ℕ → List Constraint → List Part → Type 0
GivesSharing d ts v = (us : List Constraint) × IsSharing d v us × (map unplaced_constraint us ≡ map unplaced_constraint ts)

pub sharing_lays : (s : Setting) {D : ℕ} {w : List Part} {ts : List Constraint} → IsSharing D w ts → Fine s w → (d : ℕ) → d ≤ D → (rest : List ℕ) → breaks rest ≡ true → (n : ℕ)
    → Lays s rest n (sharing_text s.names ts) w (GivesSharing d ts)
sharing_lays s no_sharing f d l rest b n = lays_none ([], no_sharing, refl)
sharing_lays s {D} (sharing {o = o} {v = v} {w = w} {r = t} {rs = ts} i j) f d l rest b n =
    let m : MoreRels s D w ts = more_rels s j (fine_right s v w f.2) in
    let more = joined (constraint_text s.names) (codes ", ") true ts in
    let one = constraint_text s.names t in
    lays_blank refl (lays_key Sharing (32 ∷ (one ++ more)) refl (lays_blank refl
    (lays_then one more (rel_lays s i (fine_left s v w f.2) d l (more ++ rest) (m.breaking rest b) _) (λ v' g.
    lays_map (m.lays d l rest b _) (λ w' h. (g.0 ∷ h.0, sharing g.1 h.1, ap₂ (λ (y : Constraint) (ys : List Constraint). y ∷ ys) g.2 h.2))))))

pub sharing_breaks : (ns : List Text) (ts : List Constraint) (rest : List ℕ) → breaks rest ≡ true → breaks (sharing_text ns ts ++ rest) ≡ true
sharing_breaks ns [] rest b = b
sharing_breaks ns (t ∷ ts) rest b = refl
