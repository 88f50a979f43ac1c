-- The paths of a filled table are the universe's, so that its paths tell what is a member.
use Rattle.std.proofs.Common.{◌≡◌, ◌∙◌, ℕ, ◌<◌, ◌≤◌, ◌+◌, ◌-◌, List, [], ◌∷◌, ◌++◌, length, length-append, drop, take, refl, sym, ap, subst, All, Contains, Option, Some, None, arith, reverse, get_or, slice_get, ◌↔◌, Bool, true, false, nat_lt, IsTrue, IfOk, Result, Ok, Err}
use Rattle.std.proofs.Math.Seq.{take-length}
use Rattle.std.proofs.lemmas.List.{reverse-append, reverse-reverse, take-append-le, take-append-drop, take_all}
use Rattle.std.proofs.lemmas.Option.{slice_get_within, slice_get_read, get_or_from_slice_get}
use Rattle.std.proofs.lemmas.Bool.{ltb-true, ltb-false}
use Rattle.std.proofs.lemmas.List.Elements.{All-same, All-weaker, All-contains, Contains-append_right}
use Rattle.jn_base.specs.declared.tree.Name.{Name}
use Rattle.jn_base.specs.declared.tree.Named.{Named}
use Rattle.jn_base.specs.declared.tree.Program.{Program}
use Rattle.jn_base.specs.declared.tree.Decl.{Decl}
use Rattle.jn_base.specs.declared.path.Path.{Path as ShownPath}
use Rattle.jn_base.specs.declared.refusal.Refusal.{Refusal}
use Rattle.jn_base.specs.Paths.{Path, shown, StandsAt, Declared}
use Rattle.jn_base.specs.Supers.{Member}
use Rattle.jn_base.specs.Universe.{IsNamespace, InUniverse}
use Rattle.jn_base.specs.ClassOrder.{class_cmp, Before}
use Rattle.jn_base.specs.Duplicates.{duplicates}
use Rattle.jn_base.specs.TableRules.{ExtendsUnknown, HasUnknown, NoneIs, unknown_at}
use Rattle.jn_base.proofs.NameTests.{first}
use Rattle.jn_base.proofs.Reaching.{declared_in_universe}
use Rattle.jn_base.proofs.Unique.{one_decl}
use Rattle.jn_table.specs.Rows.{IsNumber}
use Rattle.jn_table.specs.Tables.{IsFilled, IsPathOf}
use Rattle.jn_table.specs.declared.class.ClassId.{ClassId}
use Rattle.jn_table.specs.declared.table.Table.{Table}
use Rattle.jn_table.proofs.Shown.{place_of_number, numbers_before}
use Rattle.jn_table.proofs.Sorted.{in_order}
use Rattle.jn_header.specs.Unknown.{IsKnown, IsFirstWithout, FirstWithout, UnknownIs, IsFirstUnknown}
use Rattle.jn_heads.proofs.Lists.{at_get}

-- ---- paths with the outermost name first

shown_names : (names : List Name) → shown (reverse names) ≡ record { names = names }
shown_names names = ap (λ (ns : List Name). record { names = ns }) (reverse-reverse names)

shown_member : (space : List Name) (P : Path) (C : Name) → reverse space ≡ P → shown (C ∷ P) ≡ record { names = space ++ C ∷ [] }
shown_member space P C e =
    ap (λ (ns : List Name). record { names = ns }) (reverse-append (C ∷ []) P ∙ ap (λ (ns : List Name). ns ++ C ∷ []) (sym (ap reverse e) ∙ reverse-reverse space))

last_off : (ns : List Name) (C : Name) → take (length (ns ++ C ∷ []) - 1) (ns ++ C ∷ []) ≡ ns
last_off ns C =
    let l : length (ns ++ C ∷ []) - 1 ≡ length ns = omega (arith, length-append ns (C ∷ [])) in
    ap (λ (k : ℕ). take k (ns ++ C ∷ [])) l ∙ (take-append-le (length ns) ns (C ∷ []) (omega arith) ∙ take-length ns)

-- the namespace is the path without its last name
pub space_of : (names : List Name) (R : Path) → reverse names ≡ R → 1 ≤ length names → reverse (take (length names - 1) names) ≡ drop 1 R
space_of [] R e h = absurd (omega (arith, h))
space_of (x ∷ xs) [] e h = absurd (clash (sym (reverse-append (x ∷ []) xs) ∙ e)) where
  clash : reverse xs ++ x ∷ [] ≡ [] → ⊥
  clash k = let n : length (reverse xs ++ x ∷ []) ≡ 0 = ap length k in omega (arith, n, length-append (reverse xs) (x ∷ []))
space_of (x ∷ xs) (C ∷ P) e h =
    let whole : x ∷ xs ≡ reverse P ++ C ∷ [] = sym (reverse-reverse (x ∷ xs)) ∙ (ap reverse e ∙ reverse-append (C ∷ []) P) in
    ap (λ (ns : List Name). reverse (take (length ns - 1) ns)) whole ∙ (ap reverse (last_off (reverse P) C) ∙ reverse-reverse P)

pub has_names : (p : Program) (names : List Name) (d : Decl) → StandsAt p (reverse names) d → 1 ≤ length names
has_names p [] d stands = absurd stands
has_names p (x ∷ xs) d stands = omega arith

-- ---- the paths of a filled table

contained : {A : Type 0} (xs : List A) (k : ℕ) (x : A) → slice_get xs k ≡ Some x → Contains xs x
contained xs k x e = (k, slice_get_within xs k x e, get_or_from_slice_get xs k x x e)

module _ (p : Program) (t : Table) (filled : IsFilled p t) where
  number_in : (id : ClassId) (R : Path) → IsNumber t.known.items id R → InUniverse p R
  number_in id R n =
      let rows = filled.table.rows in
      rows.universe R (contained rows.paths id.0 R (place_of_number p rows.paths t.known.items rows.shown_are (in_order (class_cmp p) rows.paths rows.in_order) id R n))

  pub known_member : (space : List Name) (P : Path) → reverse space ≡ P → IsNamespace p P → (C : Name) → IsKnown t space C ↔ Member p P C
  known_member space P e is C = (to, from) where
    same : shown (C ∷ P) ≡ record { names = space ++ C ∷ [] }
    same = shown_member space P C e

    to : IsKnown t space C → Member p P C
    to k = (number_in k.0 (C ∷ P) (subst (λ (q : ShownPath). IsPathOf t k.0 q) (sym same) k.1)).1

    from : Member p P C → IsKnown t space C
    from m = let n = filled.whole.whole (C ∷ P) (is, m) in (n.0, subst (λ (q : ShownPath). IsPathOf t n.0 q) same n.1)

-- ---- the first name of a list without a number

pub without_as : (K L : Named → Type 0) → ((n : Named) → K n ↔ L n) → (list : List Named) (o : Option Named) → FirstWithout K list o → FirstWithout L list o
without_as K L same list (Some x) w =
    record { before = w.before; after = w.after; is = w.is; passed = All-weaker K L (λ n k. (same n).0 k) w.before w.passed; without = λ l. w.without ((same x).1 l) }
without_as K L same list None w = All-weaker K L (λ n k. (same n).0 k) list w

pub unknown_as : (p : Program) → duplicates p ≡ [] → (R : Path) (d : Decl) → StandsAt p R d → (o : Option Named)
    → FirstWithout (λ n. Member p (drop 1 R) n.name) d.extends o → UnknownIs p R o
unknown_as p once R d stands (Some x) w = record { decl = d; stands = stands; before = w.before; after = w.after; is = w.is; known = w.passed; unknown = w.without }
unknown_as p once R d stands None all = λ h. not h.0 h.1 where
  not : (named : Named) → ExtendsUnknown p R named → ⊥
  not named u =
      let same = one_decl p once R u.decl d u.stands stands in
      let among : Contains d.extends named = subst (λ (e : Decl). Contains e.extends named) same
      (subst (λ (ns : List Named). Contains ns named) (sym u.is) (Contains-append_right u.before (named ∷ u.after) named (first named u.after))) in
      u.unknown (All-contains (λ n. Member p (drop 1 R) n.name) d.extends named all among)

pub unknown_in : (p : Program) (t : Table) → IsFilled p t → duplicates p ≡ [] → (names space : List Name) (d : Decl) → StandsAt p (reverse names) d
    → space ≡ take (length names - 1) names → (list : List Named) → list ≡ d.extends → (o : Option Named)
    → FirstWithout (λ n. IsKnown t space n.name) list o → UnknownIs p (reverse names) o
unknown_in p t filled once names space d stands is list same o w =
    let P : Path = drop 1 (reverse names) in
    let at : reverse space ≡ drop 1 (reverse names) = ap reverse is ∙ space_of names (reverse names) refl (has_names p names d stands) in
    let inside = namespace_of (reverse names) (declared_in_universe p (reverse names) d stands) in
    unknown_as p once (reverse names) d stands o
    (without_as (λ n. IsKnown t space n.name) (λ n. Member p (drop 1 (reverse names)) n.name) (λ n. known_member p t filled space (drop 1 (reverse names)) at inside n.name)
    d.extends o (subst (λ (ns : List Named). FirstWithout (λ n. IsKnown t space n.name) ns o) same w)) where
      namespace_of : (R : Path) → InUniverse p R → IsNamespace p (drop 1 R)
      namespace_of [] u = absurd u
      namespace_of (C ∷ P) u = u.0

pub unknown_found : {E : Type 0} (p : Program) (t : Table) → IsFilled p t → duplicates p ≡ [] → (names space : List Name) (d : Decl) → StandsAt p (reverse names) d
    → space ≡ take (length names - 1) names → (list : List Named) → list ≡ d.extends → (r : Result (Option Named) E)
    → IfOk r (λ o. FirstWithout (λ n. IsKnown t space n.name) list o) → IfOk r (λ o. UnknownIs p (reverse names) o)
unknown_found p t filled once names space d stands is list same (Ok o) w = unknown_in p t filled once names space d stands is list same o w
unknown_found p t filled once names space d stands is list same (Err e) w = tt

pub unknown_none : (p : Program) (R : Path) → (Declared p R → ⊥) → HasUnknown p R → ⊥
unknown_none p R not (named, u) = not (record { decl = u.decl; stands = u.stands })

-- ---- one name after the other

pub told : (b : Bool) (P : Type 0) → IsTrue b ↔ P → b ≡ true → P
told true P h e = h.0 refl
told false P h e = absurd (cc e)

pub not_told : (b : Bool) (P : Type 0) → IsTrue b ↔ P → b ≡ false → P → ⊥
not_told true P h e k = cc e
not_told false P h e k = clash (h.1 k) where
  clash : IsTrue false → ⊥
  clash x = cc x

pub stranger_here : (K : Named → Type 0) (list : List Named) (i : ℕ) (d : Named) → i < length list → All K (take i list) → (K (get_or list i d) → ⊥)
    → IsFirstWithout K list (get_or list i d)
stranger_here K list i d h all not = record {
  before = take i list;
  after = drop (i + 1) list;
  is = sym (take-append-drop i list) ∙ ap (λ (ns : List Named). take i list ++ ns) (at_get list i d h);
  passed = all;
  without = not;
}

pub no_stranger : (K : Named → Type 0) (list : List Named) (i : ℕ) → length list ≤ i → All K (take i list) → All K list
no_stranger K list i h all = All-same K list (take i list) (sym (take_all i list h)) all

-- ---- one path after the other

-- no path of the first i extends an unknown name
abbrev pub NoneTill : Program → List ShownPath → ℕ → Type 0
NoneTill p known i = (k : ℕ) (Q : Path) → k < i → slice_get known k ≡ Some (shown Q) → HasUnknown p Q → ⊥

pub none_first : (p : Program) (known : List ShownPath) → NoneTill p known 0
none_first p known k Q h = absurd (omega (arith, h))

same_some : (o : Option ShownPath) (x y : ShownPath) → o ≡ Some x → o ≡ Some y → x ≡ y
same_some o x y a b = let e : Some x ≡ Some y = sym a ∙ b in cc e

at_item : (known : List ShownPath) (i : ℕ) (path : ShownPath) → i < length known → path ≡ get_or known i path → slice_get known i ≡ Some path
at_item known i path h e = slice_get_read known (length known) i path refl h e

names_same : (path : ShownPath) (Q : Path) → path ≡ shown Q → reverse path.names ≡ Q
names_same path Q e = ap (λ (q : ShownPath). reverse q.names) e ∙ reverse-reverse Q

pub none_next : (p : Program) (known : List ShownPath) (i : ℕ) (path : ShownPath) → i < length known → path ≡ get_or known i path
    → NoneTill p known i → (HasUnknown p (reverse path.names) → ⊥) → NoneTill p known (i + 1)
none_next p known i path h e till not k Q below at = by_place (nat_lt k i) refl where
  here : k ≡ i → HasUnknown p Q → ⊥
  here same u =
      let at_i : slice_get known i ≡ Some (shown Q) = subst (λ (n : ℕ). slice_get known n ≡ Some (shown Q)) same at in
      not (subst (λ (R : Path). HasUnknown p R) (sym (names_same path Q (same_some (slice_get known i) path (shown Q) (at_item known i path h e) at_i))) u)

  by_place : (b : Bool) → nat_lt k i ≡ b → HasUnknown p Q → ⊥
  by_place true l = till k Q (ltb-true k i l) at
  by_place false l = let g = ltb-false k i l in here (omega (arith, g, below))

module _ (p : Program) (t : Table) (filled : IsFilled p t) where
  number_of : (Q : Path) → HasUnknown p Q → (id : ClassId) × IsNumber t.known.items id Q
  number_of Q u = filled.whole.whole Q (declared_in_universe p Q u.1.decl u.1.stands)

  pub first_hit : (i : ℕ) (path : ShownPath) → i < length t.known.items → path ≡ get_or t.known.items i path → NoneTill p t.known.items i
      → (named : Named) → ExtendsUnknown p (reverse path.names) named → (r : Refusal) → r ≡ unknown_at (reverse path.names) named → IsFirstUnknown p r
  first_hit i path h e till named u r is = record { R = reverse path.names; named = named; first = record { holds = (named, u); first = earlier }; extends = u; is = is } where
    own : IsNumber t.known.items (record { 0 = i }) (reverse path.names)
    own = at_item t.known.items i path h e ∙ ap Some (sym (shown_names path.names))

    earlier : (Q : Path) → HasUnknown p Q → Before p Q (reverse path.names) → ⊥
    earlier Q v before =
        let rows = filled.table.rows in
        let n = number_of Q v in
        let o = in_order (class_cmp p) rows.paths rows.in_order in
        till n.0.0 Q ((numbers_before p rows.paths t.known.items rows.shown_are o n.0 (record { 0 = i }) Q (reverse path.names) n.1 own).1 before) n.1 v

  pub none_hit : (i : ℕ) → length t.known.items ≤ i → NoneTill p t.known.items i → NoneIs (HasUnknown p)
  none_hit i h till R u =
      let n = number_of R u in
      let l = slice_get_within t.known.items n.0.0 (shown R) n.1 in
      till n.0.0 R (omega (arith, l, h)) n.1 u

  module _ (ks : List ShownPath) (same : ks ≡ t.known.items) (i : ℕ) where
    pub hit_here : (path : ShownPath) → i < length ks → path ≡ get_or ks i path → NoneTill p t.known.items i
        → (o : Option Named) (named : Named) → o ≡ Some named → UnknownIs p (reverse path.names) o
        → (r : Refusal) → r ≡ unknown_at (reverse path.names) named → IsFirstUnknown p r
    hit_here path h e till o named found is r refused =
        first_hit i path (subst (λ (l : List ShownPath). i < length l) same h) (subst (λ (l : List ShownPath). path ≡ get_or l i path) same e) till
        named (subst (λ (x : Option Named). UnknownIs p (reverse path.names) x) found is) r refused

    pub passed_here : (path : ShownPath) → i < length ks → path ≡ get_or ks i path → NoneTill p t.known.items i
        → (o : Option Named) → o ≡ None → UnknownIs p (reverse path.names) o → NoneTill p t.known.items (i + 1)
    passed_here path h e till o none is =
        none_next p t.known.items i path (subst (λ (l : List ShownPath). i < length l) same h) (subst (λ (l : List ShownPath). path ≡ get_or l i path) same e) till
        (subst (λ (x : Option Named). UnknownIs p (reverse path.names) x) none is)

    pub all_passed_here : length ks ≤ i → NoneTill p t.known.items i → NoneIs (HasUnknown p)
    all_passed_here h till = none_hit i (subst (λ (l : List ShownPath). length l ≤ i) same h) till
