-- Names, terms, views and types as they are written are such of the grammar.
use Rattle.std.proofs.Common.{◌≡◌, ℕ, suc, ◌+◌, ◌≤◌, Bool, true, false, List, [], ◌∷◌, ◌++◌, map, length, Some, None, codes, refl, sym, ap, ap₂, subst, ◌∙◌, append_assoc, append-nil, arith, nat_lt, if◌then◌else◌}
use Rattle.jn_base.specs.declared.tree.Name.{Name}
use Rattle.jn_base.specs.declared.tree.Named.{Named}
use Rattle.jn_base.specs.declared.tree.Text.{Text}
use Rattle.jn_base.specs.declared.tree.Place.{Place}
use Rattle.jn_base.specs.declared.tree.Ref.{Ref}
use Rattle.jn_base.specs.declared.tree.Head.TheVariants as head
use Rattle.jn_base.specs.declared.tree.Term.{Term}
use Rattle.jn_base.specs.declared.tree.ViewTerm.{ViewTerm}
use Rattle.jn_base.specs.declared.tree.TypeTerm.{TypeTerm}
use Rattle.jn_base.specs.declared.tree.TypeTerm.TheVariants as type_term
use Rattle.jn_base.specs.declared.word.Keyword.TheVariants.{Boolean, Class, Int, This}
use Rattle.jn_base.specs.declared.word.Mark.TheVariants.{Ampersand, Bang, CloseBracket, Dot, OpenBracket}
use Rattle.jn_base.specs.Parts.{Part, Plain, Opens, Atom, key, mark, name, opening, atom, named, term}
use Rattle.jn_base.specs.Spelling.{limit_of}
use Rattle.jn_base.specs.declared.refusal.Limit.TheVariants as limit
use Rattle.jn_base.specs.GrammarTypes.{IsDotted, one_name, more_names, IsDots, no_dot, dot, IsNames, loose, exact, IsTail, no_tail, tail, IsRef, this, variable, IsTerm, plain, own, in_prefix, IsMasks, no_mask, mask, IsView, view, IsAtoms, last_atom, then_atom, IsType, int, boolean, class}
use Rattle.jn_printer.specs.Pieces.{joined, name_text, dotted, masks_text, ref_text, ends_text, term_text, view_text, type_text}
use Rattle.jn_base.specs.Unplaced.{nowhere, unplaced_named, unplaced_term, unplaced_view, unplaced_type}
use Rattle.std.proofs.lemmas.Bool.Decides.{nat_tests}
use Rattle.jn_printer.proofs.Written.{breaks, calm, Setting, IsGiven, Fine, fine_left, fine_right, Lays, lays_none, lays_map, lays_then, lays_key, lays_mark, lays_name, lays_mask, lays_blank, lays_text, written_atom, alike_atom_left, alike_atom_right, low_atom}
use Rattle.jn_printer.proofs.Follows.{breaks_calm, name_calm, name_calm_on}

-- ---- names with dots

abbrev pub GivesDotted : List Name → List Part → Type 0
GivesDotted xs v = (q : Place) × IsDotted q v xs

dotted_later : (ns : List Text) {p : Place} {w : List Part} {xs : List Name} → IsDotted p w xs → dotted ns true xs ≡ 46 ∷ dotted ns false xs
dotted_later ns one_name = refl
dotted_later ns (more_names o d) = refl

dotted_calm : (s : Setting) {p : Place} {w : List Part} {xs : List Name} → IsDotted p w xs → Fine s w → (t : List ℕ) → calm (dotted s.names false xs ++ t) ≡ true
dotted_calm s (one_name {x = x}) f t = name_calm_on s.names x f.0 [] t
dotted_calm s (more_names {x = x} o {xs = xs} d) f t = name_calm_on s.names x f.0 (dotted s.names true xs) t

pub dotted_lays : (s : Setting) {p : Place} {w : List Part} {xs : List Name} → IsDotted p w xs → Fine s w → (rest : List ℕ) → breaks rest ≡ true → (n : ℕ)
    → Lays s rest n (dotted s.names false xs) w (GivesDotted xs)
dotted_lays s (one_name {x = x}) f rest b n = lays_name x Plain [] f.0 b refl (lays_none (s.at n, one_name))
dotted_lays s (more_names {x = x} o {w = w} {xs = xs} d) f rest b n =
    let m : ℕ = n + length (name_text s.names x) in
    let later : 46 ∷ dotted s.names false xs ≡ dotted s.names true xs = sym (dotted_later s.names d) in
    lays_name x Plain (dotted s.names true xs) f.0 (subst (λ (t : List ℕ). breaks (t ++ rest) ≡ true) later refl) refl
    (lays_text later (lays_mark Dot Plain (dotted s.names false xs) (dotted_calm s d f.2.2 rest) refl refl
    (lays_map (dotted_lays s d f.2.2 rest b (m + 1)) (λ v i. (s.at n, more_names (s.at m) i.1)))))

pub dots_break : (ns : List Text) (xs : List Name) (rest : List ℕ) → breaks rest ≡ true → breaks (dotted ns true xs ++ rest) ≡ true
dots_break ns [] rest b = b
dots_break ns (x ∷ xs) rest b = refl

dots_lays : (s : Setting) {w : List Part} {xs : List Name} → IsDots w xs → Fine s w → (rest : List ℕ) → breaks rest ≡ true → (n : ℕ)
    → Lays s rest n (dotted s.names true xs) w (λ v. IsDots v xs)
dots_lays s no_dot f rest b n = lays_none no_dot
dots_lays s (dot {x = x} {xs = xs} d) f rest b n =
    lays_mark Dot Plain (name_text s.names x ++ dotted s.names true xs) (name_calm_on s.names x f.2.0 (dotted s.names true xs) rest) refl refl
    (lays_name x Plain (dotted s.names true xs) f.2.0 (dots_break s.names xs rest b) refl
    (lays_map (dots_lays s d f.2.2 rest b (n + 1 + length (name_text s.names x))) (λ v i. dot i)))

-- ---- terms

abbrev GivesNames : List Name → List Name → List Part → Type 0
GivesNames es ns v = (q : Place) × IsNames q v es ns

ends_exact : (ns : List Text) (later : Bool) {p : Place} {w : List Part} {xs : List Name} (ys : List Name) → IsDotted p w xs
    → dotted ns later xs ++ (33 ∷ dotted ns true ys) ≡ ends_text ns later xs ys
ends_exact ns later ys one_name = refl
ends_exact ns later ys (more_names o d) = refl

names_later : (ns : List Text) {p : Place} {w : List Part} {es xs : List Name} → IsNames p w es xs → 46 ∷ ends_text ns false es xs ≡ ends_text ns true es xs
names_later ns (loose d) = sym (dotted_later ns d)
names_later ns (exact o {xs = xs} {ys = ys} d e) =
    ap (λ (t : List ℕ). 46 ∷ t) (sym (ends_exact ns false ys d))
    ∙ ap (λ (t : List ℕ). t ++ (33 ∷ dotted ns true ys)) (sym (dotted_later ns d))
    ∙ ends_exact ns true ys d

names_calm : (s : Setting) {p : Place} {w : List Part} {es xs : List Name} → IsNames p w es xs → Fine s w → (t : List ℕ) → calm (ends_text s.names false es xs ++ t) ≡ true
names_calm s (loose d) f t = dotted_calm s d f t
names_calm s (exact o {v = v} {w = w} {xs = xs} {ys = ys} d e) f t =
    subst (λ (u : List ℕ). calm (u ++ t) ≡ true) (ends_exact s.names false ys d)
    (subst (λ (u : List ℕ). calm u ≡ true) (sym (append_assoc (dotted s.names false xs) (33 ∷ dotted s.names true ys) t))
    (dotted_calm s d (fine_left s v (mark Bang o ∷ w) f) ((33 ∷ dotted s.names true ys) ++ t)))

names_lays : (s : Setting) {p : Place} {w : List Part} {es xs : List Name} → IsNames p w es xs → Fine s w → (rest : List ℕ) → breaks rest ≡ true → (n : ℕ)
    → Lays s rest n (ends_text s.names false es xs) w (GivesNames es xs)
names_lays s (loose d) f rest b n = lays_map (dotted_lays s d f rest b n) (λ v i. (i.0, loose i.1))
names_lays s (exact o {v = v} {w = w} {xs = xs} {ys = ys} d e) f rest b n =
    let m : ℕ = n + length (dotted s.names false xs) in
    lays_text (ends_exact s.names false ys d)
    (lays_then (dotted s.names false xs) (33 ∷ dotted s.names true ys) (dotted_lays s d (fine_left s v (mark Bang o ∷ w) f) ((33 ∷ dotted s.names true ys) ++ rest) refl n)
    (λ u i. lays_mark Bang Plain (dotted s.names true ys) (breaks_calm (dotted s.names true ys ++ rest) (dots_break s.names ys rest b)) refl refl
    (lays_map (dots_lays s e (fine_right s v (mark Bang o ∷ w) f).2 rest b (m + 1)) (λ u' j. (i.0, exact (s.at m) i.1 j)))))

ends_break : (ns : List Text) (es xs : List Name) (rest : List ℕ) → breaks rest ≡ true → breaks (ends_text ns true es xs ++ rest) ≡ true
ends_break ns [] xs rest b = dots_break ns xs rest b
ends_break ns (e ∷ es) xs rest b = refl

tail_lays : (s : Setting) {w : List Part} {es xs : List Name} → IsTail w es xs → Fine s w → (rest : List ℕ) → breaks rest ≡ true → (n : ℕ)
    → Lays s rest n (ends_text s.names true es xs) w (λ v. IsTail v es xs)
tail_lays s no_tail f rest b n = lays_none no_tail
tail_lays s (tail {es = es} {ns = xs} d) f rest b n =
    lays_text (names_later s.names d)
    (lays_mark Dot Plain (ends_text s.names false es xs) (names_calm s d f.2 rest) refl refl
    (lays_map (names_lays s d f.2 rest b (n + 1)) (λ v i. tail i.1)))

-- a reference and what stands behind it
ref_then : (s : Setting) {rest : List ℕ} {n : ℕ} {p : Place} {t : Part} {r : Ref} (u : List ℕ) {w : List Part} {R : List Part → Type 0} → IsRef p t r → IsGiven s t.word
    → breaks (u ++ rest) ≡ true → ((x : Part) → IsRef (s.at n) x r → Lays s rest (n + length (ref_text s.names r)) u w (λ v. R (x ∷ v)))
    → Lays s rest n (ref_text s.names r ++ u) (t ∷ w) R
ref_then s {n = n} u this g b l = lays_key This u b (l (key This (s.at n)) this)
ref_then s {n = n} u (variable {x = x}) g b l = lays_name x Plain u g b refl (l (name x (s.at n)) variable)

ref_calm : (s : Setting) {p : Place} {t : Part} {r : Ref} → IsRef p t r → IsGiven s t.word → (u : List ℕ) → calm (ref_text s.names r ++ u) ≡ true
ref_calm s this g u = refl
ref_calm s (variable {x = x}) g u = name_calm s.names x g u

-- where one may open with more open around, one may with fewer
pub open_room : (d : ℕ) → limit_of (Opens (suc d)) ≡ None → suc d ≤ 200
open_room d h = by (nat_lt 200 (suc d)) refl h where
  by : (b : Bool) → nat_lt 200 (suc d) ≡ b → (if b then Some limit.Nesting else None) ≡ None → suc d ≤ 200
  by true e h = absurd (cc)
  by false e h = grind (arith, nat_tests)

pub open_low : (d : ℕ) → suc d ≤ 200 → limit_of (Opens (suc d)) ≡ None
open_low d h = ap (λ (b : Bool). if b then Some limit.Nesting else None) (lemma d h) where
  lemma : (d : ℕ) → suc d ≤ 200 → nat_lt 200 (suc d) ≡ false
  lemma d h = grind (arith, nat_tests)

pub room : {D : ℕ} (d : ℕ) → d ≤ D → limit_of (Opens (suc D)) ≡ None → limit_of (Opens (suc d)) ≡ None
room {D} d l h = open_low d (let r = open_room D h in omega (arith, r))

abbrev pub GivesTerm : ℕ → Term → List Part → Type 0
GivesTerm d t v = (q : Place) × (u : Term) × IsTerm d q v u × (unplaced_term u ≡ unplaced_term t)

pub term_lays : (s : Setting) {D : ℕ} {p : Place} {w : List Part} {t : Term} → IsTerm D p w t → Fine s w → (d : ℕ) → d ≤ D → (rest : List ℕ) → breaks rest ≡ true → (n : ℕ)
    → Lays s rest n (term_text s.names t) w (GivesTerm d t)
unfolding term_text
term_lays s (plain {es = es} {ns = xs} i) f d l rest b n = lays_map (names_lays s i f rest b n) (λ v j. (j.0, term head.Plain es xs j.0, plain j.1, refl))
term_lays s (own o c {r = r} {es = es} {ns = xs} i e) f d l rest b n =
    let ends : List ℕ = ends_text s.names true es xs in
    lays_text (sym (append_assoc (ref_text s.names r) (codes ".class") ends))
    (ref_then s (codes ".class" ++ ends) i f.0 refl (λ x j.
    lays_mark Dot Plain (codes "class" ++ ends) refl refl refl
    (lays_key Class ends (ends_break s.names es xs rest b)
    (lays_map (tail_lays s e f.2.2.2 rest b _) (λ v k. (s.at n, term (head.Own r) es xs (s.at n), own _ _ j k, refl))))))
term_lays s {D} (in_prefix b' o c e' {v = v} {w = w} {xs = ps} {es = es} {ns = xs} {t = t} {r = r} i j e) f d l rest b n =
    let ends : List ℕ = ends_text s.names true es xs in
    let behind : List ℕ = 91 ∷ (ref_text s.names r ++ (codes ".class]" ++ ends)) in
    let g = fine_right s v (opening D OpenBracket b' ∷ t ∷ mark Dot o ∷ key Class c ∷ mark CloseBracket e' ∷ w) f in
    let same : dotted s.names false ps ++ behind ≡ (dotted s.names false ps ++ (codes "[" ++ (ref_text s.names r ++ codes ".class]"))) ++ ends =
    ap (λ (x : List ℕ). dotted s.names false ps ++ (91 ∷ x)) (sym (append_assoc (ref_text s.names r) (codes ".class]") ends))
    ∙ sym (append_assoc (dotted s.names false ps) (91 ∷ (ref_text s.names r ++ codes ".class]")) ends) in
    let m : ℕ = n + length (dotted s.names false ps) in
    lays_text same
    (lays_then (dotted s.names false ps) behind (dotted_lays s i (fine_left s v _ f) (behind ++ rest) refl n) (λ u k.
    lays_mark OpenBracket (Opens (suc d)) (ref_text s.names r ++ (codes ".class]" ++ ends)) (subst (λ (x : List ℕ). calm x ≡ true) (sym (append_assoc (ref_text s.names r) (codes ".class]" ++ ends) rest)) (ref_calm s j g.2.0 _)) refl (room d l g.1)
    (ref_then s (codes ".class]" ++ ends) j g.2.0 refl (λ x h.
    lays_mark Dot Plain (codes "class]" ++ ends) refl refl refl
    (lays_key Class (codes "]" ++ ends) refl
    (lays_mark CloseBracket Plain ends (breaks_calm (ends ++ rest) (ends_break s.names es xs rest b)) refl refl
    (lays_map (tail_lays s e g.2.2.2.2.2 rest b _) (λ v' q. (k.0, term (head.Prefix ps r) es xs k.0, in_prefix _ _ _ _ k.1 h q, refl)))))))))

pub term_calm : (s : Setting) {D : ℕ} {p : Place} {w : List Part} {t : Term} → IsTerm D p w t → Fine s w → (u : List ℕ) → calm (term_text s.names t ++ u) ≡ true
unfolding term_text
term_calm s (plain i) f u = names_calm s i f u
term_calm s (own o c {r = r} {es = es} {ns = xs} i e) f u =
    let ends : List ℕ = ends_text s.names true es xs in
    subst (λ (x : List ℕ). calm (x ++ u) ≡ true) (sym (append_assoc (ref_text s.names r) (codes ".class") ends))
    (subst (λ (x : List ℕ). calm x ≡ true) (sym (append_assoc (ref_text s.names r) (codes ".class" ++ ends) u)) (ref_calm s i f.0 _))
term_calm s (in_prefix b' o c e' {v = v} {w = w} {xs = ps} {es = es} {ns = xs} {t = t} {r = r} i j e) f u =
    let ends : List ℕ = ends_text s.names true es xs in
    let behind : List ℕ = 91 ∷ (ref_text s.names r ++ codes ".class]") in
    subst (λ (x : List ℕ). calm (x ++ u) ≡ true) (sym (append_assoc (dotted s.names false ps) behind ends))
    (subst (λ (x : List ℕ). calm x ≡ true) (sym (append_assoc (dotted s.names false ps) (behind ++ ends) u)) (dotted_calm s i (fine_left s v _ f) _))

-- ---- masks, views and types

masks_break : (ns : List Text) (ms : List Named) (rest : List ℕ) → breaks rest ≡ true → breaks (masks_text ns ms ++ rest) ≡ true
masks_break ns [] rest b = b
masks_break ns (m ∷ ms) rest b = refl

abbrev pub GivesMasks : List Named → List Part → Type 0
GivesMasks ms v = (ks : List Named) × IsMasks v ks × (map unplaced_named ks ≡ map unplaced_named ms)

masks_lays : (s : Setting) {w : List Part} {ms : List Named} → IsMasks w ms → Fine s w → (rest : List ℕ) → breaks rest ≡ true → (n : ℕ)
    → Lays s rest n (masks_text s.names ms) w (GivesMasks ms)
masks_lays s no_mask f rest b n = lays_none ([], no_mask, refl)
masks_lays s (mask {x = x} {ms = ms} d) f rest b n =
    lays_mask x (masks_text s.names ms) f.2.0 (name_calm_on s.names x f.2.0 (masks_text s.names ms) rest) (masks_break s.names ms rest b)
    (lays_map (masks_lays s d f.2.2 rest b (n + 1 + length (name_text s.names x)))
    (λ v i. (named x (s.at (n + 1)) ∷ i.0, mask i.1, ap (λ (ks : List Named). named x nowhere ∷ ks) i.2)))

abbrev pub GivesView : ℕ → ViewTerm → List Part → Type 0
GivesView d t v = (u : ViewTerm) × IsView d v u × (unplaced_view u ≡ unplaced_view t)

pub view_lays : (s : Setting) {D : ℕ} {w : List Part} {t : ViewTerm} → IsView D w t → Fine s w → (d : ℕ) → d ≤ D → (rest : List ℕ) → breaks rest ≡ true → (n : ℕ)
    → Lays s rest n (view_text s.names t) w (GivesView d t)
unfolding view_text
view_lays s (view {v = v} {w = w} {t = t} {ms = ms} i j) f d l rest b n =
    lays_then (term_text s.names t) (masks_text s.names ms) (term_lays s i (fine_left s v w f) d l (masks_text s.names ms ++ rest) (masks_break s.names ms rest b) n) (λ v' k.
    lays_map (masks_lays s j (fine_right s v w f) rest b (n + length (term_text s.names t)))
    (λ w' h. (record { term = k.1; masks = h.0 }, view k.2 h.1, ap₂ (λ (x : Term) (xs : List Named). record { term = x; masks = xs }) k.3 h.2)))

pub view_calm : (s : Setting) {D : ℕ} {w : List Part} {t : ViewTerm} → IsView D w t → Fine s w → (u : List ℕ) → calm (view_text s.names t ++ u) ≡ true
unfolding view_text
view_calm s (view {v = v} {w = w} {t = t} {ms = ms} i j) f u =
    subst (λ (x : List ℕ). calm x ≡ true) (sym (append_assoc (term_text s.names t) (masks_text s.names ms) u)) (term_calm s i (fine_left s v w f) (masks_text s.names ms ++ u))

-- the first word of a term counts nothing by itself
dotted_atom : (s : Setting) (k : ℕ) (u : List Part) {p : Place} {v : List Part} {xs : List Name} → IsDotted p v xs → Fine s (atom k (v ++ u)) → Fine s (v ++ u) × (limit_of (Atom k) ≡ None)
dotted_atom s k u one_name f = ((f.0, refl, f.2), f.1)
dotted_atom s k u (more_names o d) f = ((f.0, refl, f.2), f.1)

names_atom : (s : Setting) (k : ℕ) {p : Place} {v : List Part} {es xs : List Name} → IsNames p v es xs → Fine s (atom k v) → Fine s v × (limit_of (Atom k) ≡ None)
names_atom s k (loose {w = w} d) f =
    subst (λ (v : List Part). Fine s v × (limit_of (Atom k) ≡ None)) (append-nil w)
    (dotted_atom s k [] d (subst (λ (v : List Part). Fine s (atom k v)) (sym (append-nil w)) f))
names_atom s k (exact o {w = w} d e) f = dotted_atom s k (mark Bang o ∷ w) d f

ref_atom : (s : Setting) (k : ℕ) (u : List Part) {p : Place} {t : Part} {r : Ref} → IsRef p t r → Fine s (atom k (t ∷ u)) → Fine s (t ∷ u) × (limit_of (Atom k) ≡ None)
ref_atom s k u this f = ((f.0, refl, f.2), f.1)
ref_atom s k u variable f = ((f.0, refl, f.2), f.1)

term_atom : (s : Setting) (k : ℕ) {D : ℕ} {p : Place} {v : List Part} {t : Term} → IsTerm D p v t → Fine s (atom k v) → Fine s v × (limit_of (Atom k) ≡ None)
term_atom s k (plain i) f = names_atom s k i f
term_atom s k (own o c {w = w} i e) f = ref_atom s k (mark Dot o ∷ key Class c ∷ w) i f
term_atom s k {D} (in_prefix b o c e' {w = w} {t = t} i j e) f = dotted_atom s k (opening D OpenBracket b ∷ t ∷ mark Dot o ∷ key Class c ∷ mark CloseBracket e' ∷ w) i f

atom_lays : {s : Setting} {rest : List ℕ} {n : ℕ} {t : List ℕ} {w : List Part} {P : List Part → Type 0} (k : ℕ) → limit_of (Atom k) ≡ None → Lays s rest n t w P
    → Lays s rest n t (atom k w) (λ v. (u : List Part) × (v ≡ atom k u) × P u)
atom_lays k h l = record {
  parts = atom k l.parts;
  written = written_atom k l.written;
  alike = alike_atom_left k (alike_atom_right k l.alike);
  low = low_atom k l.parts h l.low;
  is = (l.parts, refl, l.is);
}

abbrev GivesAtoms : ℕ → ℕ → List Term → List Part → Type 0
GivesAtoms d k ts v = (us : List Term) × IsAtoms d k v us × (map unplaced_term us ≡ map unplaced_term ts)

abbrev terms_text : List Text → Bool → List Term → List ℕ
terms_text ns later ts = joined (term_text ns) (codes " & ") later ts

terms_later : (ns : List Text) {D k : ℕ} {w : List Part} {ts : List Term} → IsAtoms D k w ts → 32 ∷ 38 ∷ 32 ∷ terms_text ns false ts ≡ terms_text ns true ts
terms_later ns (last_atom i) = refl
terms_later ns (then_atom o i j) = refl

atoms_lays : (s : Setting) {D k : ℕ} {w : List Part} {ts : List Term} → IsAtoms D k w ts → Fine s w → (d : ℕ) → d ≤ D → (rest : List ℕ) → breaks rest ≡ true → (n : ℕ)
    → Lays s rest n (terms_text s.names false ts) w (GivesAtoms d k ts)
atoms_lays s (last_atom {k = k} {w = w} {t = t} i) f d l rest b n =
    let g = term_atom s k i f in
    lays_text (sym (append-nil (term_text s.names t)))
    (lays_map (atom_lays k g.1 (term_lays s i g.0 d l rest b n))
    (λ v j. (j.2.1 ∷ [], subst (λ (x : List Part). IsAtoms d k x (j.2.1 ∷ [])) (sym j.1) (last_atom j.2.2), ap (λ (u : Term). u ∷ []) j.2.3)))
atoms_lays s (then_atom {k = k} o {v = v} {w = w} {t = t} {ts = ts} i j) f d l rest b n =
    let g = term_atom s k i (fine_left s (atom k v) (mark Ampersand o ∷ w) f) in
    let h = fine_right s (atom k v) (mark Ampersand o ∷ w) f in
    let m : ℕ = n + length (term_text s.names t) in
    lays_text (ap (λ (x : List ℕ). term_text s.names t ++ x) (terms_later s.names j))
    (lays_then (term_text s.names t) (32 ∷ 38 ∷ 32 ∷ terms_text s.names false ts)
    (atom_lays k g.1 (term_lays s i g.0 d l ((32 ∷ 38 ∷ 32 ∷ terms_text s.names false ts) ++ rest) refl n)) (λ v' q.
    lays_blank refl (lays_mark Ampersand Plain (32 ∷ terms_text s.names false ts) refl refl refl
    (lays_blank refl (lays_map (atoms_lays s j h.2 d l rest b (suc (suc m + 1)))
    (λ w' r. (q.2.1 ∷ r.0, subst (λ (x : List Part). IsAtoms d k (x ++ mark Ampersand (s.at (suc m)) ∷ w') (q.2.1 ∷ r.0)) (sym q.1) (then_atom (s.at (suc m)) q.2.2 r.1), ap₂ (λ (x : Term) (xs : List Term). x ∷ xs) q.2.3 r.2)))))))

abbrev pub GivesType : ℕ → TypeTerm → List Part → Type 0
GivesType d t v = (u : TypeTerm) × IsType d v u × (unplaced_type u ≡ unplaced_type t)

pub type_lays : (s : Setting) {D : ℕ} {w : List Part} {t : TypeTerm} → IsType D w t → Fine s w → (d : ℕ) → d ≤ D → (rest : List ℕ) → breaks rest ≡ true → (n : ℕ)
    → Lays s rest n (type_text s.names t) w (GivesType d t)
unfolding type_text
type_lays s int f d l rest b n = lays_key Int [] b (lays_none (type_term.Int, int, refl))
type_lays s boolean f d l rest b n = lays_key Boolean [] b (lays_none (type_term.Bool, boolean, refl))
type_lays s (class {v = v} {w = w} {ts = ts} {ms = ms} i j) f d l rest b n =
    lays_then (terms_text s.names false ts) (masks_text s.names ms) (atoms_lays s i (fine_left s v w f) d l (masks_text s.names ms ++ rest) (masks_break s.names ms rest b) n) (λ v' k.
    lays_map (masks_lays s j (fine_right s v w f) rest b (n + length (terms_text s.names false ts)))
    (λ w' h. (type_term.Class k.0 h.0, class k.1 h.1, ap₂ (λ (xs : List Term) (ks : List Named). type_term.Class xs ks) k.2 h.2)))

atoms_calm : (s : Setting) {D k : ℕ} {w : List Part} {ts : List Term} → IsAtoms D k w ts → Fine s w → (u : List ℕ) → calm (terms_text s.names false ts ++ u) ≡ true
atoms_calm s (last_atom {k = k} {t = t} i) f u = subst (λ (x : List ℕ). calm x ≡ true) (sym (append_assoc (term_text s.names t) [] u)) (term_calm s i (term_atom s k i f).0 u)
atoms_calm s (then_atom {k = k} o {v = v} {w = w} {t = t} {ts = ts} i j) f u =
    subst (λ (x : List ℕ). calm x ≡ true) (sym (append_assoc (term_text s.names t) (terms_text s.names true ts) u))
    (term_calm s i (term_atom s k i (fine_left s (atom k v) (mark Ampersand o ∷ w) f)).0 (terms_text s.names true ts ++ u))

pub type_calm : (s : Setting) {D : ℕ} {w : List Part} {t : TypeTerm} → IsType D w t → Fine s w → (u : List ℕ) → calm (type_text s.names t ++ u) ≡ true
unfolding type_text
type_calm s int f u = refl
type_calm s boolean f u = refl
type_calm s (class {v = v} {w = w} {ts = ts} {ms = ms} i j) f u =
    subst (λ (x : List ℕ). calm x ≡ true) (sym (append_assoc (terms_text s.names false ts) (masks_text s.names ms) u)) (atoms_calm s i (fine_left s v w f) (masks_text s.names ms ++ u))
