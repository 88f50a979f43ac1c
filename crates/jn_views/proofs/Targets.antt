-- The family of an atom, and counterparts in it.
use Rattle.std.proofs.Common.{◌≡◌, ℕ, zero, suc, List, [], ◌∷◌, ◌++◌, reverse, drop, Option, Some, None, slice_get, refl, sym, ap, ◌∙◌, subst}
use Rattle.std.proofs.lemmas.List.{reverse-append}
use Rattle.jn_base.specs.declared.tree.Name.{Name}
use Rattle.jn_base.specs.declared.tree.Program.{Program}
use Rattle.jn_base.specs.declared.types.Anchor.{Anchor}
use Rattle.jn_base.specs.declared.types.Anchor.TheVariants.{Root, Up}
use Rattle.jn_base.specs.declared.types.Atom.{Atom as ShownAtom}
use Rattle.jn_base.specs.Atoms.{Atom, anchor_at, atom_of}
use Rattle.jn_base.specs.Paths.{Path}
use Rattle.jn_base.specs.Universe.{InUniverse}
use Rattle.jn_table.specs.declared.class.ClassId.{ClassId}
use Rattle.jn_table.specs.declared.table.Table.{Table}
use Rattle.jn_table.specs.Rows.{IsNumber}
use Rattle.jn_table.specs.Tables.{IsFilled}
use Rattle.jn_sem.specs.Sets.{no_views, view_at, InAtom}
use Rattle.jn_sem.specs.Sharing.{family_of, in_family, Counterpart}
use Rattle.jn_sem.proofs.SharedLaws.{sharing_laws}
use Rattle.jn_share.specs.declared.groups.Groups.{Groups}
use Rattle.jn_share.specs.Groups.{AreGroups, CounterpartIs, SaysCounterpart}
use Rattle.jn_views.specs.Turning.{FamilyTold, TurnsTo, TurnsTold}
use Rattle.jn_sem.specs.Holds.{target_family}

no_front : (k : ℕ) → drop {A = Name} k [] ≡ []
no_front zero = refl
no_front (suc k) = refl

anchor_none : (a : Anchor) → anchor_at (view_at no_views) a ≡ []
anchor_none Root = refl
anchor_none (Up q k) = no_front k

last_family : (Q : Path) (X : Name) → family_of (Q ++ X ∷ []) ≡ Some X
last_family [] X = refl
last_family (C ∷ []) X = refl
last_family (C ∷ (D ∷ Q)) X = last_family (D ∷ Q) X

behind : (P Q : Path) (X : Name) → P ++ (Q ++ X ∷ []) ≡ (P ++ Q) ++ X ∷ []
behind [] Q X = refl
behind (C ∷ P) Q X = ap (λ (R : Path). C ∷ R) (behind P Q X)

no_more : (P : Path) → P ++ [] ≡ P
no_more [] = refl
no_more (C ∷ P) = ap (λ (R : Path). C ∷ R) (no_more P)

-- the family by the names of the code
abbrev by_names : List Name → List Name → Option Name
by_names [] [] = None
by_names [] (X ∷ ns) = Some X
by_names (X ∷ es) ns = Some X

outer : (X : Name) (ns : List Name) → family_of (reverse (X ∷ ns)) ≡ Some X
outer X ns = ap family_of (reverse-append (X ∷ []) ns) ∙ last_family (reverse ns) X

family_by : (es ns : List Name) → family_of (reverse ns ++ (reverse es ++ [])) ≡ by_names es ns
family_by [] [] = refl
family_by [] (X ∷ ns) = ap family_of (no_more (reverse (X ∷ ns))) ∙ outer X ns
family_by (X ∷ es) ns =
    ap (λ (R : Path). family_of (reverse ns ++ R)) (no_more (reverse (X ∷ es)) ∙ reverse-append (X ∷ []) es)
    ∙ (ap family_of (behind (reverse ns) (reverse es) X) ∙ last_family (reverse ns ++ reverse es) X)

target_by : (x : ShownAtom) → target_family (atom_of x) ≡ by_names x.exact x.names
target_by x = ap (λ (R : Path). family_of (reverse x.names ++ (reverse x.exact ++ R))) (anchor_none x.anchor) ∙ family_by x.exact x.names

exact_first : (es ns : List Name) (X : Name) → slice_get es 0 ≡ Some X → Some X ≡ by_names es ns
exact_first [] ns X e = absurd (cc e)
exact_first (Y ∷ es) ns X e = sym e

names_first : (es ns : List Name) (X : Name) → slice_get es 0 ≡ None → slice_get ns 0 ≡ Some X → Some X ≡ by_names es ns
names_first (Y ∷ es) ns X n e = absurd (cc n)
names_first [] [] X n e = absurd (cc e)
names_first [] (Y ∷ ns) X n e = sym e

none_first : (es ns : List Name) → slice_get es 0 ≡ None → slice_get ns 0 ≡ None → None ≡ by_names es ns
none_first (Y ∷ es) ns n e = absurd (cc n)
none_first [] (Y ∷ ns) n e = absurd (cc e)
none_first [] [] n e = refl

pub target_exact : (x : ShownAtom) (X : Name) → slice_get x.exact 0 ≡ Some X → Some X ≡ target_family (atom_of x)
target_exact x X e = exact_first x.exact x.names X e ∙ sym (target_by x)

pub target_name : (x : ShownAtom) (X : Name) → slice_get x.exact 0 ≡ None → slice_get x.names 0 ≡ Some X → Some X ≡ target_family (atom_of x)
target_name x X n e = names_first x.exact x.names X n e ∙ sym (target_by x)

pub target_none : (x : ShownAtom) → slice_get x.exact 0 ≡ None → slice_get x.names 0 ≡ None → None ≡ target_family (atom_of x)
target_none x n e = none_first x.exact x.names n e ∙ sym (target_by x)

-- the family of a path of the universe is in the universe
pub family_known : (p : Program) (R : Path) (X : Name) → InUniverse p R → family_of R ≡ Some X → InUniverse p (X ∷ [])
family_known p [] X u e = absurd (cc e)
family_known p (C ∷ []) X u e = let h : C ≡ X = cc e in subst (λ (D : Name). InUniverse p (D ∷ [])) h u
family_known p (C ∷ (D ∷ P)) X u e = family_known p (D ∷ P) X u.0 e

-- ---- counterparts

module _ (p : Program) (t : Table) (f : IsFilled p t) (g : Groups) (groups : AreGroups p t.known.items g) (to : Atom) (u : ClassId) (U : Path) (at : IsNumber t.known.items u U) where
  -- a family that a class turns to has a number
  pub no_turns : (o : Option ClassId) → o ≡ None → FamilyTold t to o → TurnsTold p t.known.items to U None
  no_turns o e told W h =
      let q = h.counterpart in
      let family = (sharing_laws p).family h.family U W q in
      let k = f.whole.whole (h.family ∷ []) (family_known p W h.family q.related.other.universe family) in
      (subst (FamilyTold t to) e told) h.family k.0 h.of_target k.1

  module _ (o : Option ClassId) (family : ClassId) (e : o ≡ Some family) (told : FamilyTold t to o) (w : Option ClassId) (says : SaysCounterpart g u family w) where
    is_family : (X : Name) × (target_family to ≡ Some X) × IsNumber t.known.items family (X ∷ [])
    is_family = subst (FamilyTold t to) e told

    is_counterpart : CounterpartIs p t.known.items U (is_family.0 ∷ []) w
    is_counterpart = says p t.known.items U (is_family.0 ∷ []) groups at is_family.2

    one_family : (W : Path) → (h : TurnsTo p to U W) → h.family ≡ is_family.0
    one_family W h = let k : Some h.family ≡ Some is_family.0 = sym h.of_target ∙ is_family.1 in cc k

    pub turns_not : w ≡ None → TurnsTold p t.known.items to U None
    turns_not n W h =
        let c : CounterpartIs p t.known.items U (is_family.0 ∷ []) None = subst (CounterpartIs p t.known.items U (is_family.0 ∷ [])) n is_counterpart in
        c is_family.0 W refl (subst (λ (Y : Name). Counterpart p Y U W) (one_family W h) h.counterpart)

    pub turns_to : (v : ClassId) → w ≡ Some v → ((W : Path) → IsNumber t.known.items v W → InAtom p no_views to W) → TurnsTold p t.known.items to U (Some v)
    turns_to v n inside =
        let c : CounterpartIs p t.known.items U (is_family.0 ∷ []) (Some v) = subst (CounterpartIs p t.known.items U (is_family.0 ∷ [])) n is_counterpart in
        let same : is_family.0 ≡ c.0 = (let k : is_family.0 ∷ [] ≡ c.0 ∷ [] = c.2 in cc k) in
        (c.1, c.3, record { family = c.0; of_target = is_family.1 ∙ ap (λ (Y : Name). Some Y) same; counterpart = c.4; is_in = inside c.1 c.3 })

    pub turns_outside : (v : ClassId) → w ≡ Some v → ((W : Path) → IsNumber t.known.items v W → InAtom p no_views to W → ⊥) → TurnsTold p t.known.items to U None
    turns_outside v n outside W h =
        let c : CounterpartIs p t.known.items U (is_family.0 ∷ []) (Some v) = subst (CounterpartIs p t.known.items U (is_family.0 ∷ [])) n is_counterpart in
        let same : is_family.0 ≡ c.0 = (let k : is_family.0 ∷ [] ≡ c.0 ∷ [] = c.2 in cc k) in
        let path : W ≡ c.1 = h.counterpart.is ∙ (ap (λ (Y : Name). in_family Y U) (one_family W h ∙ same) ∙ sym c.4.is) in
        outside c.1 c.3 (subst (InAtom p no_views to) path h.is_in)
