-- What constraints grant.
use Rattle.std.proofs.Common.{◌≡◌, ◌↔◌, ◌<◌, ◌+◌, ℕ, List, [], ◌∷◌, length, drop, get_or, map, reverse, Bool, true, false, cond, IsTrue, Result, Ok, Err, refl, sym, ap, ◌∙◌, subst}
use Rattle.std.proofs.lemmas.Bool.{false≢true}
use Rattle.std.proofs.lemmas.List.{reverse-reverse}
use Rattle.jn_base.specs.declared.tree.Name.{Name}
use Rattle.jn_base.specs.declared.tree.Constraint.{Constraint}
use Rattle.jn_base.specs.declared.tree.Program.{Program}
use Rattle.jn_base.specs.declared.refusal.Refusal.{Refusal}
use Rattle.jn_base.specs.Paths.{Path}
use Rattle.jn_base.specs.declared.types.Masks.{Masks}
use Rattle.jn_base.specs.declared.types.Ty.{Ty}
use Rattle.jn_base.specs.declared.types.Ty.TheVariants as ty
use Rattle.jn_base.specs.Atoms.{Atom, atom, atom_of, shown_atom, atoms_in, no_masks, HasMask}
use Rattle.jn_base.specs.Scopes.{Scope as TypeScope}
use Rattle.jn_intern.specs.declared.pool.TyId.{TyId}
use Rattle.jn_intern.specs.declared.scope.Scope.{Scope}
use Rattle.jn_intern.specs.Pools.{Keeps, shown, scope_in}
use Rattle.jn_intern.proofs.Pools.{scope_kept}
use Rattle.jn_sem.specs.Normal.{same_path}
use Rattle.jn_sem.specs.NormalFunction.{subst_atoms, normal_type}
use Rattle.jn_sem.specs.Below.{Below}
use Rattle.jn_homes.proofs.Places.{at_index}
use Rattle.jn_masks.specs.Sets.{IsWithin}
use Rattle.jn_table.specs.declared.table.Table.{Table}
use Rattle.jn_table.specs.Tables.{IsFilled}
use Rattle.jn_heads.specs.declared.fault.CheckFault.{CheckFault}
use Rattle.jn_heads.specs.declared.fault.CheckFault.TheVariants.{Refused, Memory}
use Rattle.jn_heads.specs.declared.sides.Pledge.{Pledge as CodePledge}
use Rattle.jn_heads.specs.Sides.{IsPledge, PledgeTold}
use Rattle.jn_heads.specs.Told.{itself}
use Rattle.jn_rules.specs.Plans.{Target, target_type, Pledge, OfConstraint, Grants, Plan, done, ask, taken}
use Rattle.jn_rules.specs.Questions.{Answers, IsGrant, Means, Gives, Notes}
use Rattle.jn_rules.specs.Exprs.{Here, one_grants}
use Rattle.jn_expr.specs.Told.{QuietTold}
use Rattle.jn_expr.specs.Granting.{GrantTold, constraint_grants}
use Rattle.jn_rules.specs.Stmts.{remasked}
use Rattle.jn_expr.specs.Envs.{IsScope}
use Rattle.jn_expr.specs.Passing.{Shows}

-- ---- normal forms in a pool that grew

pub formed : (old mid new : List Ty) (scope : Scope) (id u : TyId) (t : Ty) → IsScope old scope → Keeps old mid → shown mid id ≡ t
    → Shows new u (normal_type (scope_in mid scope) (shown mid id)) → Shows new u (normal_type (scope_in old scope) t)
formed old mid new scope id u t s k e h = record {
  number = h.number;
  shows = h.shows ∙ (ap (λ (c : TypeScope). normal_type c (shown mid id)) (scope_kept scope s.known k) ∙ ap (normal_type (scope_in old scope)) e);
}

pub below_back : (p : Program) (c d : TypeScope) (a b e f : Ty) (r : Bool) → c ≡ d → a ≡ e → b ≡ f → Answers (Below p c a b) r → Answers (Below p d e f) r
below_back p c d a b e f r g h i k =
    subst (λ (t : Ty). Answers (Below p d e t) r) i (subst (λ (t : Ty). Answers (Below p d t b) r) h (subst (λ (s : TypeScope). Answers (Below p s a b) r) g k))

-- ---- two targets

atom_back : (z : Atom) → atom_of (shown_atom z) ≡ z
atom_back z =
    ap (λ (es : List Name). atom z.anchor es (reverse (reverse z.names))) (reverse-reverse z.exact)
    ∙ ap (λ (ns : List Name). atom z.anchor z.exact ns) (reverse-reverse z.names)

pub atoms_back : (zs : List Atom) → map atom_of (map shown_atom zs) ≡ zs
atoms_back [] = refl
atoms_back (z ∷ zs) = ap (λ (y : Atom). y ∷ map atom_of (map shown_atom zs)) (atom_back z) ∙ ap (λ (ys : List Atom). z ∷ ys) (atoms_back zs)

pub same_atoms : (s : TypeScope) (x y : Target)
    → (normal_type s (remasked no_masks (target_type x)) ≡ normal_type s (remasked no_masks (target_type y)))
    ↔ (atoms_in (normal_type s (target_type x)) ≡ atoms_in (normal_type s (target_type y)))
same_atoms s x y = (λ e. ap atoms_in e, λ e. back e) where
  back : map atom_of (map shown_atom (subst_atoms s same_path (atom_of x.atom ∷ []))) ≡ map atom_of (map shown_atom (subst_atoms s same_path (atom_of y.atom ∷ [])))
      → normal_type s (remasked no_masks (target_type x)) ≡ normal_type s (remasked no_masks (target_type y))
  back e =
      ap (λ (zs : List Atom). ty.Class (map shown_atom zs) no_masks)
      (sym (atoms_back (subst_atoms s same_path (atom_of x.atom ∷ []))) ∙ (e ∙ atoms_back (subst_atoms s same_path (atom_of y.atom ∷ []))))

-- the two numbers show the two forms
pub forms_same : (pool : List Ty) (one other : TyId) (s : TypeScope) (a b : Ty) (r : Bool) → IsTrue r ↔ (shown pool one ≡ shown pool other)
    → shown pool one ≡ normal_type s (remasked no_masks a) → shown pool other ≡ normal_type s (remasked no_masks b)
    → (x y : Target) → a ≡ target_type x → b ≡ target_type y
    → IsTrue r ↔ (atoms_in (normal_type s (target_type x)) ≡ atoms_in (normal_type s (target_type y)))
forms_same pool one other s a b r is h k x y e f = (
  λ t. (same_atoms s x y).0 (sym left ∙ (is.0 t ∙ right)),
  λ g. is.1 (left ∙ ((same_atoms s x y).1 g ∙ sym right)),
) where
  left : shown pool one ≡ normal_type s (remasked no_masks (target_type x))
  left = h ∙ ap (λ (t : Ty). normal_type s (remasked no_masks t)) e

  right : shown pool other ≡ normal_type s (remasked no_masks (target_type y))
  right = k ∙ ap (λ (t : Ty). normal_type s (remasked no_masks t)) f

-- ---- one constraint

module _ (p : Program) (s s1 : TypeScope) (k : Pledge) (u : Target) (t : Ty) (e : s1 ≡ s) where
  pub not_granted : (atoms_in (normal_type s1 (target_type k.to)) ≡ atoms_in (normal_type s1 (target_type u)) → ⊥) → IsGrant p s k t u → ⊥
  not_granted n g = n (subst (λ (x : TypeScope). atoms_in (normal_type x (target_type k.to)) ≡ atoms_in (normal_type x (target_type u))) (sym e) g.atoms)

  pub granted : (r : Bool) (left : Ty) (m n : Masks) → Below p s t (normal_type s left) → left ≡ target_type k.from
      → atoms_in (normal_type s1 (target_type k.to)) ≡ atoms_in (normal_type s1 (target_type u)) → IsTrue r ↔ IsWithin m n → m ≡ k.to.masks → n ≡ u.masks
      → Answers (IsGrant p s k t u) r
  granted true left m n b h a w f g = record {
    below = subst (λ (x : Ty). Below p s t (normal_type s x)) h b;
    atoms = subst (λ (x : TypeScope). atoms_in (normal_type x (target_type k.to)) ≡ atoms_in (normal_type x (target_type u))) e a;
    masks = λ i c. subst (λ (x : Masks). HasMask x i) g (w.0 refl i (subst (λ (x : Masks). HasMask x i) (sym f) c));
  }
  granted false left m n b h a w f g =
      λ x. false≢true (w.1 (λ i c. subst (λ (y : Masks). HasMask y i) (sym g) (x.masks i (subst (λ (y : Masks). HasMask y i) f c))))

module _ (p : Program) (Q : Path) (m : Name) (c : Constraint) (s : TypeScope) (t : Ty) (u : Target) where
  pub pledge_refused : (f : CheckFault) → PledgeTold p Q m c (Err f) → QuietTold {B = Bool} p (constraint_grants Q m c s t u) itself (Err f)
  pledge_refused (Refused r) h = (Err r, h, refl)
  pledge_refused Memory h = tt

  pub pledge_told : (k : CodePledge) (table : Table) (r : Bool) → IsPledge p Q m c k → IsFilled p table → GrantTold table s k t (target_type u) r
      → Notes p (constraint_grants Q m c s t u) [] r
  pledge_told k table r h f g = (Ok h.pledge, h.resolved, (r, g p h.pledge u f h.from h.to refl, (refl, refl)))

-- ---- one constraint after the other

module _ (p : Program) (h : Here) (c : Constraint) (cs : List Constraint) (s : TypeScope) (t : Ty) (u : Target) where
  one_true : (x : Result Pledge Refusal) → Means p (OfConstraint h.class h.method.name.name c) x
      → Notes p (taken (λ (k : Pledge). ask (Grants s k t u) (λ ok. done ok)) x) [] true → Notes p (one_grants h (c ∷ cs) s t u) [] true
  one_true (Err r) m n = absurd n
  one_true (Ok k) m n =
      (Ok k, m, (n.0, n.1, subst (λ (b : Bool). Notes p (cond b (done true) (one_grants h cs s t u)) [] true) n.2.1 (refl, refl)))

  pub grants_here : Notes p (constraint_grants h.class h.method.name.name c s t u) [] true → Notes p (one_grants h (c ∷ cs) s t u) [] true
  grants_here n = one_true n.0 n.1 n.2

  one_false : (x : Result Pledge Refusal) → Means p (OfConstraint h.class h.method.name.name c) x
      → Notes p (taken (λ (k : Pledge). ask (Grants s k t u) (λ ok. done ok)) x) [] false → (b : Bool) → Notes p (one_grants h cs s t u) [] b
      → Notes p (one_grants h (c ∷ cs) s t u) [] b
  one_false (Err r) m n b k = absurd n
  one_false (Ok y) m n b k =
      (Ok y, m, (n.0, n.1, subst (λ (d : Bool). Notes p (cond d (done true) (one_grants h cs s t u)) [] b) n.2.1 k))

  pub grants_later : Notes p (constraint_grants h.class h.method.name.name c s t u) [] false → (b : Bool) → Notes p (one_grants h cs s t u) [] b
      → Notes p (one_grants h (c ∷ cs) s t u) [] b
  grants_later n b k = one_false n.0 n.1 n.2 b k

  later_refused : (x : Result Pledge Refusal) → Means p (OfConstraint h.class h.method.name.name c) x
      → Notes p (taken (λ (k : Pledge). ask (Grants s k t u) (λ ok. done ok)) x) [] false → (r : Refusal) → Gives p (one_grants h cs s t u) (Err r)
      → Gives p (one_grants h (c ∷ cs) s t u) (Err r)
  later_refused (Err q) m n r k = absurd n
  later_refused (Ok y) m n r k =
      (Ok y, m, (n.0, n.1, subst (λ (d : Bool). Gives p (cond d (done true) (one_grants h cs s t u)) (Err r)) n.2.1 k))

  pub refused_later : Notes p (constraint_grants h.class h.method.name.name c s t u) [] false → (r : Refusal) → Gives p (one_grants h cs s t u) (Err r)
      → Gives p (one_grants h (c ∷ cs) s t u) (Err r)
  refused_later n r k = later_refused n.0 n.1 n.2 r k

  here_refused : (r : Refusal) (x : Result Pledge Refusal) → Means p (OfConstraint h.class h.method.name.name c) x
      → Gives p (taken (λ (k : Pledge). ask (Grants s k t u) (λ ok. done ok)) x) (Err r) → Gives p (one_grants h (c ∷ cs) s t u) (Err r)
  here_refused r (Err q) m g = (Err q, m, g)
  here_refused r (Ok k) m g = absurd (not_ok g.2) where
    not_ok : {b : Bool} → (let o : Result Bool Refusal = Err r in o ≡ Ok b) → ⊥
    not_ok e = cc

  pub refused_here : (f : CheckFault) → QuietTold {B = Bool} p (constraint_grants h.class h.method.name.name c s t u) itself (Err f)
      → QuietTold {B = Bool} p (one_grants h (c ∷ cs) s t u) itself (Err f)
  refused_here (Refused r) g = here_refused r g.0 g.1 g.2
  refused_here Memory g = tt

-- what is left of the constraints gives what all give
pub record GrantsRest (p : Program) (h : Here) (all rest : List Constraint) (s : TypeScope) (t : Ty) (u : Target) : Type 0 where
  pub notes : (b : Bool) → Notes p (one_grants h rest s t u) [] b → Notes p (one_grants h all s t u) [] b
  pub gives : (r : Refusal) → Gives p (one_grants h rest s t u) (Err r) → Gives p (one_grants h all s t u) (Err r)

pub rest_of_all : (p : Program) (h : Here) (all : List Constraint) (s : TypeScope) (t : Ty) (u : Target) → GrantsRest p h all all s t u
rest_of_all p h all s t u = record { notes = λ b n. n; gives = λ r g. g }

module _ (p : Program) (h : Here) (all : List Constraint) (i : ℕ) (c : Constraint) (s : TypeScope) (t : Ty) (u : Target) (l : i < length all) (e : c ≡ get_or all i c)
    (so : GrantsRest p h all (drop i all) s t u) where
  opened : drop i all ≡ c ∷ drop (i + 1) all
  opened = at_index all i c l e

  pub rest_true : Notes p (constraint_grants h.class h.method.name.name c s t u) [] true → Notes p (one_grants h all s t u) [] true
  rest_true n = so.notes true (subst (λ (cs : List Constraint). Notes p (one_grants h cs s t u) [] true) (sym opened) (grants_here p h c (drop (i + 1) all) s t u n))

  pub rest_false : Notes p (constraint_grants h.class h.method.name.name c s t u) [] false → GrantsRest p h all (drop (i + 1) all) s t u
  rest_false n = record {
    notes = λ b k. so.notes b (subst (λ (cs : List Constraint). Notes p (one_grants h cs s t u) [] b) (sym opened) (grants_later p h c (drop (i + 1) all) s t u n b k));
    gives = λ r k. so.gives r (subst (λ (cs : List Constraint). Gives p (one_grants h cs s t u) (Err r)) (sym opened) (refused_later p h c (drop (i + 1) all) s t u n r k));
  }

  pub rest_fault : (f : CheckFault) → QuietTold {B = Bool} p (constraint_grants h.class h.method.name.name c s t u) itself (Err f)
      → QuietTold {B = Bool} p (one_grants h all s t u) itself (Err f)
  rest_fault (Refused r) g =
      so.gives r (subst (λ (cs : List Constraint). Gives p (one_grants h cs s t u) (Err r)) (sym opened) (refused_here p h c (drop (i + 1) all) s t u (Refused r) g))
  rest_fault Memory g = tt

pub rest_none : (p : Program) (h : Here) (all rest : List Constraint) (s : TypeScope) (t : Ty) (u : Target) → rest ≡ [] → GrantsRest p h all rest s t u
    → Notes p (one_grants h all s t u) [] false
rest_none p h all rest s t u e so = so.notes false (subst (λ (cs : List Constraint). Notes p (one_grants h cs s t u) [] false) (sym e) (refl, refl))

-- the same of another scope and another type that are equal
pub quiet_at : (p : Program) (Q : Path) (m : Name) (c : Constraint) (u : Target) (s s1 : TypeScope) (t t1 : Ty) (o : Result Bool CheckFault) → s1 ≡ s → t1 ≡ t
    → QuietTold {B = Bool} p (constraint_grants Q m c s1 t1 u) itself o → QuietTold {B = Bool} p (constraint_grants Q m c s t u) itself o
quiet_at p Q m c u s s1 t t1 o e f h =
    subst (λ (y : Ty). QuietTold {B = Bool} p (constraint_grants Q m c s y u) itself o) f
    (subst (λ (y : TypeScope). QuietTold {B = Bool} p (constraint_grants Q m c y t1 u) itself o) e h)

pub at_bool : (p : Program) (x : Plan Bool) (b d : Bool) → b ≡ d → Notes p x [] b → Notes p x [] d
at_bool p x b d e n = subst (Notes p x []) e n
