-- A store that takes a mask off the receiver's path, from one typing to another.
use Rattle.std.proofs.Common.{◌≡◌, ℕ, List, [], ◌∷◌, length, Option, Some, Bool, true, false, refl, sym, ap, ◌∙◌, subst, ◌⊎◌, inl, inr, eqb-true, eq-eqb}
use Rattle.std.specs.Prelude.{cond, nat_eq}
use Rattle.jn_steps.specs.Steps.{Goes, Enters, Leaves, Falls, Faults}
use Rattle.jn_base.specs.declared.tree.Name.{Name}
use Rattle.jn_base.specs.declared.tree.Program.{Program}
use Rattle.jn_base.specs.declared.types.Masks.{Masks}
use Rattle.jn_base.specs.declared.types.Ty.{Ty}
use Rattle.jn_base.specs.declared.types.Ty.TheVariants as ty
use Rattle.jn_base.specs.declared.names.Var.{Var}
use Rattle.jn_base.specs.Paths.{Path}
use Rattle.jn_base.specs.Atoms.{Among, first, later, HasMask, MasksOf}
use Rattle.jn_base.specs.Scopes.{Bind, Scope}
use Rattle.jn_base.specs.Fits.{BindsFit}
use Rattle.jn_base.specs.ResolveTypes.{mask_names}
use Rattle.jn_sem.specs.Sets.{Views, Seen, view_at, InType}
use Rattle.jn_sem.specs.Values.{Reference, Masked, FieldsFilled, object}
use Rattle.jn_sem.specs.Normal.{swapped}
use Rattle.jn_sem.specs.NormalFunction.{subst_type}
use Rattle.jn_sem.specs.Acts.{Put, Todo}
use Rattle.jn_sem.specs.State.{Heap, Variable, Frame, HasValue, IsIn}
use Rattle.jn_sem.specs.Does.{Did, Does}
use Rattle.jn_laws.specs.LawsOfScopes.{ScopesAlike, AlikeOf, none as none_alike, one as one_alike, BindsAlike}
use Rattle.jn_laws.specs.Surely.{Surely}
use Rattle.jn_laws.proofs.AlikeScopes.{like, masks_alone}
use Rattle.jn_rules.specs.Plans.{FoundField}
use Rattle.jn_rules.specs.Questions.{IsFoundField, KeptMask, masks_of}
use Rattle.jn_rules.specs.Exprs.{masks_at}
use Rattle.jn_rules.specs.Headers.{Header}
use Rattle.jn_rules.specs.Stmts.{with_masks, remasked}
use Rattle.jn_sound.specs.Takes.{Opd, opd, typing}
use Rattle.jn_sound.specs.Sound.{HeapFits, InScope, none as no_opds, all_views, Stands}
use Rattle.jn_sound.specs.Steps.{GoesAt, DidAt}
use Rattle.jn_rule_laws.proofs.MaskNumbers.{mask_small}
use Rattle.jn_sound.proofs.Laws.{Laws}
use Rattle.jn_sound.proofs.Ways.{surely}
use Rattle.jn_sound.proofs.Safe.{Sure, sure_to}
use Rattle.jn_sound.proofs.Stands.{now}
use Rattle.jn_sound.proofs.Returns.{masks_bound}
use Rattle.jn_sound.proofs.Puts.{PutAt, PutDid, put_did}

-- ---- masks

same_name : (f g : Name) → f.0 ≡ g.0 → f ≡ g
same_name f g e = ap (λ (i : ℕ). record { 0 = i }) e

-- a field that is masked with the old masks, and is not the one that was stored, is masked with the new ones
still_masked : (names : List Name) (m k : Masks) (f g : Name) → MasksOf (HasMask m) m
    → MasksOf (KeptMask names m f) k → (g ≡ f → ⊥) → Masked names m g → Masked names k g
still_masked names m k f g formed kept other i = record {
  number = i.number;
  has = (kept.each i.number (mask_small m formed i.number i.has)).1
      (i.has, λ e. other (same (sym i.name ∙ e)));
  name = i.name;
} where
  same : Some g ≡ Some f → g ≡ f
  same e = cc

-- ---- a scope in which a path has other masks

pub remasked_alike : (b : Bind) (m : Masks) → BindsAlike b (record b { ty = remasked m b.ty })
remasked_alike b m = at b.ty where
  at : (t : Ty) → BindsAlike (record b { ty = t }) (record b { ty = remasked m t })
  at (ty.Class xs n) = record { path = refl; atoms = refl; class = refl }
  at ty.Int = record { path = refl; atoms = refl; class = refl }
  at ty.Bool = record { path = refl; atoms = refl; class = refl }
  at ty.Null = record { path = refl; atoms = refl; class = refl }
  at ty.Void = record { path = refl; atoms = refl; class = refl }

pub alike_itself : (s : Scope) → ScopesAlike s s
alike_itself [] = none_alike
alike_itself (b ∷ s) = one_alike (record { path = refl; atoms = refl; class = refl }) (alike_itself s)

pub masks_alike : (s : Scope) (q : ℕ) (m : Masks) → ScopesAlike s (with_masks s q m)
masks_alike [] q m = none_alike
masks_alike (b ∷ s) q m = at (nat_eq q b.path) (masks_alike s q m) where
  at : (c : Bool) → ScopesAlike s (with_masks s q m)
      → ScopesAlike (b ∷ s) (cond c (record b { ty = remasked m b.ty } ∷ s) (b ∷ with_masks s q m))
  at true r = one_alike (remasked_alike b m) (alike_itself s)
  at false r = one_alike (record { path = refl; atoms = refl; class = refl }) r

-- a bind of that path, with the new masks
pub record Remasked (s : Scope) (q : ℕ) (m : Masks) (c : Bind) : Type 0 where
  pub bind : Bind
  pub among : Among s bind
  pub path : bind.path ≡ q
  pub is : c ≡ record bind { ty = remasked m bind.ty }

-- each bind is of another path, and as before; or of that path
masks_cases : (s : Scope) (q : ℕ) (m : Masks) (c : Bind) → BindsFit s → Among (with_masks s q m) c
    → (Among s c × (c.path ≡ q → ⊥)) ⊎ Remasked s q m c
masks_cases [] q m c f a = elim a [ ]
masks_cases (b ∷ s) q m c f a = at (nat_eq q b.path) refl a (masks_cases s q m c f.0) where
  of_first : b.path ≡ q → (d : Bind) → Among (record b { ty = remasked m b.ty } ∷ s) d → d ≡ c
      → (Among (b ∷ s) c × (c.path ≡ q → ⊥)) ⊎ Remasked (b ∷ s) q m c
  of_first e _ first i = inr (record { bind = b; among = first; path = e; is = sym i })
  of_first e d (later n) i =
      let n' : Among s c = subst (Among s) i n in
      inl (later n', λ j. f.1 (record { bind = c; among = n'; is = j ∙ sym e }))

  of_other : (q ≡ b.path → ⊥) → (d : Bind) → Among (b ∷ with_masks s q m) d → d ≡ c
      → (Among (with_masks s q m) c → (Among s c × (c.path ≡ q → ⊥)) ⊎ Remasked s q m c)
      → (Among (b ∷ s) c × (c.path ≡ q → ⊥)) ⊎ Remasked (b ∷ s) q m c
  of_other o _ first i again =
      inl (subst (Among (b ∷ s)) i first, λ j. o (sym (ap (λ (z : Bind). z.path) i ∙ j)))
  of_other o d (later n) i again = more (again (subst (Among (with_masks s q m)) i n)) where
    more : (Among s c × (c.path ≡ q → ⊥)) ⊎ Remasked s q m c
        → (Among (b ∷ s) c × (c.path ≡ q → ⊥)) ⊎ Remasked (b ∷ s) q m c
    more (inl k) = inl (later k.0, k.1)
    more (inr k) = inr (record { bind = k.bind; among = later k.among; path = k.path; is = k.is })

  at : (z : Bool) → nat_eq q b.path ≡ z
      → Among (cond z (record b { ty = remasked m b.ty } ∷ s) (b ∷ with_masks s q m)) c
      → (Among (with_masks s q m) c → (Among s c × (c.path ≡ q → ⊥)) ⊎ Remasked s q m c)
      → (Among (b ∷ s) c × (c.path ≡ q → ⊥)) ⊎ Remasked (b ∷ s) q m c
  at true e n again = of_first (sym (eqb-true q b.path e)) c n refl
  at false e n again = of_other (λ i. wrong (sym (eq-eqb q b.path i) ∙ e)) c n refl again where
    wrong : true ≡ false → ⊥
    wrong i = cc

-- a class is in a type whatever its masks
remasked_in : (p : Program) (v : Views) (m : Masks) (t : Ty) (V : Path) → InType p v t V → InType p v (remasked m t) V
remasked_in p v m (ty.Class xs n) V i = i
remasked_in p v m ty.Int V i = i
remasked_in p v m ty.Bool V i = i
remasked_in p v m ty.Null V i = i
remasked_in p v m ty.Void V i = i

-- a reference whose slot of the field has a value is in the type without that mask
unmasked_in : {p : Program} {v : Views} {h : Heap} (f : Name) (m : Masks) (t : Ty) (o : ℕ) (V : Path)
    → MasksOf (HasMask (masks_of t)) (masks_of t) → MasksOf (KeptMask (mask_names p) (masks_of t) f) m
    → HasValue p h o V f → IsIn p v h t (Reference o V) → IsIn p v h (remasked m t) (Reference o V)
unmasked_in {p} {v} {h} f m _ o V formed kept has (object {xs = xs} {m = k} i g) = object i filled where
  filled : FieldsFilled p (mask_names p) (HasValue p h o V) m V
  filled z own free = at (nat_eq z.0 f.0) refl where
    at : (b : Bool) → nat_eq z.0 f.0 ≡ b → HasValue p h o V z
    at true e = subst (HasValue p h o V) (sym (same_name z f (eqb-true z.0 f.0 e))) has
    at false e =
        g z own (λ n. free (still_masked (mask_names p) k m f z formed kept
        (λ i. wrong (sym (eq-eqb z.0 f.0 (ap (λ (y : Name). y.0) i)) ∙ e)) n)) where
          wrong : true ≡ false → ⊥
          wrong i = cc

-- ---- the frame's variables in that scope

module _ {p : Program} {h : Heap} {g : Frame} {vs : List Var} {s : Scope} {w : Views} (k : InScope p h g w vs s)
    (f : Name) (q : ℕ) (m : Masks) (formed : MasksOf (HasMask (masks_at s q)) (masks_at s q))
    (kept : MasksOf (KeptMask (mask_names p) (masks_at s q) f) m) (o : ℕ) (V : Path) (has : HasValue p h o V f)
    (held : (x : Variable) → Among g.vars x → x.var.path ≡ q → x.value ≡ Reference o V) where
  law : AlikeOf p s (with_masks s q m)
  law = masks_alone p s (with_masks s q m) (masks_alike s q m)

  cases : (c : Bind) → Among (with_masks s q m) c → (Among s c × (c.path ≡ q → ⊥)) ⊎ Remasked s q m c
  cases c a = masks_cases s q m c k.binds a

  masks_are : (b : Bind) → Among s b → b.path ≡ q → masks_at s q ≡ masks_of b.ty
  masks_are b a e = subst (λ (r : ℕ). masks_at s r ≡ masks_of b.ty) e (masks_bound s b k.binds a)

  holds : (c : Bind) → Among (with_masks s q m) c → Seen (all_views g w) c.path
      → InType p (all_views g w) c.ty (view_at (all_views g w) c.path)
  holds c a n = at (cases c a) where
    at : (Among s c × (c.path ≡ q → ⊥)) ⊎ Remasked s q m c
        → InType p (all_views g w) c.ty (view_at (all_views g w) c.path)
    at (inl i) = k.respects.holds c i.0 n
    at (inr i) =
        subst (λ (d : Bind). InType p (all_views g w) d.ty (view_at (all_views g w) d.path)) (sym i.is)
        (remasked_in p (all_views g w) m i.bind.ty (view_at (all_views g w) i.bind.path)
        (k.respects.holds i.bind i.among
        (subst (λ (d : Bind). Seen (all_views g w) d.path) i.is n)))

  values : (x : Variable) (c : Bind) → Among g.vars x → Among (with_masks s q m) c → c.path ≡ x.var.path
      → IsIn p (all_views g w) h c.ty x.value
  values x c a n e = at (cases c n) where
    at : (Among s c × (c.path ≡ q → ⊥)) ⊎ Remasked s q m c → IsIn p (all_views g w) h c.ty x.value
    at (inl i) = k.values x c a i.0 e
    at (inr i) =
        let path : i.bind.path ≡ x.var.path = sym (ap (λ (d : Bind). d.path) i.is) ∙ e in
        let is : x.value ≡ Reference o V = held x a (sym path ∙ i.path) in
        let old : IsIn p (all_views g w) h i.bind.ty (Reference o V) =
        subst (IsIn p (all_views g w) h i.bind.ty) is (k.values x i.bind a i.among path) in
        let masks : masks_at s q ≡ masks_of i.bind.ty = masks_are i.bind i.among i.path in
        subst (λ (d : Bind). IsIn p (all_views g w) h d.ty x.value) (sym i.is)
        (subst (IsIn p (all_views g w) h (remasked m i.bind.ty)) (sym is)
        (unmasked_in f m i.bind.ty o V
        (subst (λ (z : Masks). MasksOf (HasMask z) z) masks formed)
        (subst (λ (z : Masks). MasksOf (KeptMask (mask_names p) z f) m) masks kept) has old))

  pub unmasked_scope : InScope p h g w vs (with_masks s q m)
  unmasked_scope = record {
    declared = k.declared;
    binds = law.binds_fit k.binds;
    respects = record {
      bound = λ r n. law.binds r (k.respects.bound r n);
      universe = k.respects.universe;
      holds = holds;
    };
    values = values;
    bound = λ x a.
        let b = k.bound x a in
        let c = like (masks_alike s q m) b.0 b.1 in
        (c.bind, c.among, c.alike.path ∙ b.2, c.alike.atoms ∙ b.3, c.alike.class ∙ b.4);
    real = k.real;
    seen = k.seen;
    small = k.small;
    no_null = k.no_null;
    own = k.own;
    this = k.this;
  }

-- ---- the act

pub unmask_at : {p : Program} {h : Heap} {f : Frame} {x : Header} {vs : List Var} {s : Scope} {ops : List Opd}
    {w : Views} → Laws p → HeapFits p h → (capacity : ℕ) (k : List Todo)
    (name : Name) (t : Ty) (q : ℕ) (r : Option ℕ) (c : FoundField) (m : Masks) → IsFoundField p s t name c
    → MasksOf (HasMask (masks_at s q)) (masks_at s q) → MasksOf (KeptMask (mask_names p) (masks_at s q) name) m
    → Stands p h f x vs s (opd (subst_type s (swapped (0 ∷ []) (q ∷ [])) c.ty) r ∷ (opd t (Some q) ∷ ops)) w
    → Sure (DidAt p h f x vs k (typing (with_masks s q m) [])) (Does p capacity (Put name) (now (length vs) k f) h)
unmask_at {p} {h} {f} {x} {vs} {s} {ops} n hf capacity k name t q r c m i formed kept a =
    sure_to at (put_did n hf capacity k name t q r c i a) where
      goes : (g : Frame) (j : Heap) → PutAt p h f x vs k s ops q name g j
          → GoesAt p h f x vs k (typing (with_masks s q m) []) g j
      goes g j e = record {
        later = e.goes.later;
        heap = e.goes.heap;
        stays = e.goes.stays;
        todo = e.goes.todo;
        stands = record {
          fresh = e.goes.stands.fresh;
          stands = record {
            is_header = e.goes.stands.stands.is_header;
            params = e.goes.stands.stands.params;
            all_params = e.goes.stands.stands.all_params;
            in_scope = unmasked_scope e.goes.stands.stands.in_scope name q m formed kept e.object e.view
                (record { slot = e.slot; is_slot = e.is_slot; has = e.has })
                (λ z b d. e.held z b d);
            operands = no_opds;
          };
        };
      }

      at : (d : Did) → PutDid p h f x vs k s ops q name d
          → Surely (DidAt p h f x vs k (typing (with_masks s q m) []) d)
      at (Goes g j bytes) e = surely (goes g j e)
      at (Enters en args g j) e = absurd e
      at (Leaves v j) e = absurd e
      at Falls e = absurd e
      at (Faults o) e = surely e
