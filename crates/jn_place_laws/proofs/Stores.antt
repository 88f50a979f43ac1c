-- An assignment to a variable, and a store to a field, by which a `final` variable may lose the field's mask.
use Rattle.std.proofs.Common.{◌≡◌, ◌<◌, ℕ, ◌+◌, List, [], ◌∷◌, ◌++◌, length, Option, Some, None, Bool, true, false, refl, sym, ap, subst, arith, eqb-true}
use Rattle.std.specs.Prelude.{slice_get, ◌&&◌, not, cond, nat_eq, nat_lt, Result, Ok, Err}
use Rattle.std.proofs.lemmas.Bool.{ltb-true}
use Rattle.std.proofs.lemmas.Option.{slice_get_within}
use Rattle.jn_base.specs.declared.tree.Named.{Named}
use Rattle.jn_base.specs.declared.tree.Name.{Name}
use Rattle.jn_base.specs.declared.tree.Program.{Program}
use Rattle.jn_base.specs.declared.tree.Expr.{Expr}
use Rattle.jn_base.specs.declared.tree.Stmt.TheVariants as stmt
use Rattle.jn_base.specs.declared.types.Masks.{Masks}
use Rattle.jn_base.specs.declared.types.Ty.{Ty}
use Rattle.jn_base.specs.declared.names.Var.{Var}
use Rattle.jn_base.specs.declared.refusal.Refusal.{Refusal}
use Rattle.jn_base.specs.Atoms.{Among, first, later, HasMask, MasksOf}
use Rattle.jn_base.specs.Scopes.{Bind, Scope}
use Rattle.jn_base.specs.Fits.{TypeFits}
use Rattle.jn_base.specs.Resolve.{is_class, var_named}
use Rattle.jn_base.specs.ResolveTypes.{mask_names}
use Rattle.jn_code.specs.declared.instr.Instr.TheVariants as ins
use Rattle.jn_code.specs.declared.image.Image.{Image}
use Rattle.jn_code.specs.declared.image.Code.{Code}
use Rattle.jn_sem.specs.Acts.{Todo, todo, Put, Assign, stmts_acts}
use Rattle.jn_sem.specs.Below.{Below}
use Rattle.jn_sem.specs.Normal.{swapped}
use Rattle.jn_sem.specs.NormalFunction.{subst_type}
use Rattle.jn_sem.specs.State.{Frame}
use Rattle.jn_sem.specs.Terms.{Site}
use Rattle.jn_sem.proofs.ActLaws.{acts_are}
use Rattle.jn_laws.specs.LawsOfWritten.{Shallow}
use Rattle.jn_laws.specs.LawsOfSources.{WellFormed}
use Rattle.jn_rule_laws.proofs.KnownTypes.{path_types_fit}
use Rattle.jn_rules.specs.Headers.{Header}
use Rattle.jn_rules.specs.Plans.{FoundField, OfField, Plan, done, wants}
use Rattle.jn_rules.specs.Questions.{Answers, Gives, Means, IsFoundField, KeptMask, masks_of}
use Rattle.jn_rules.specs.Exprs.{Typed, masks_at, path_of, path_or_fresh, field_type, site_here}
use Rattle.jn_rules.specs.Stmts.{In, Before, typed, set_with, dropped, without_mask, is_variable, remasked, with_masks, assign_typed, is_void, stmt_types}
use Rattle.jn_rules.proofs.FormLaws.{forms_are}
use Rattle.jn_rules.proofs.PlanLaws.{then_came, wanted, found_was}
use Rattle.jn_sound.specs.KnownScopes.{ScopeKnown, MasksFormed, StmtKnown}
use Rattle.jn_sound.specs.Takes.{opd, Typing, typing, Takes, OwnPaths, same, wider, assign, put, unmask}
use Rattle.jn_sound.proofs.MaskSets.{none_formed}
use Rattle.jn_sound.specs.Tree.{Fresher, none as fresh_none, more as fresh_more, ExprKnown}
use Rattle.jn_sound.proofs.Scopes.{grown_of, fresher_joined, fits_grown, found_grown, no_ops, ops_with, some_bound, declared_known}
use Rattle.jn_sound.proofs.Settled.{field_settled}
use Rattle.jn_sound.proofs.RuledForms.{Reached, path_reached, not_void_below}
use Rattle.jn_sound.proofs.CallsFit.{not_void}
use Rattle.jn_sound.proofs.Stores.{masks_fresh}
use Rattle.jn_rule_laws.proofs.Behind.{same_before}
use Rattle.jn_sound.proofs.Stmts.{narrowed_fresh, take_all}
use Rattle.jn_sound.proofs.Variables.{own_paths, not_this, unmentioned}
use Rattle.jn_sound.proofs.Blocks.{with_scope}
use Rattle.jn_agree.specs.Naming.{Naming}
use Rattle.jn_agree.specs.Places.{At, Run, FieldOf, HasKind}
use Rattle.jn_agree.specs.Places as places
use Rattle.jn_agree.specs.Rows.{FieldKind, kind_of_type}
use Rattle.jn_node_laws.specs.Facts.{OwnLocal}
use Rattle.jn_node_laws.specs.LawsOfNodes.{NodesOf}
use Rattle.jn_node_laws.specs.LawsOfLaidNodes.{LaidNodesOf}
use Rattle.jn_place_laws.specs.Contexts.{Context, context, Stood, known, in_body, site_at}
use Rattle.jn_place_laws.specs.LawsOfContexts.{ActsLead, FactsHold}
use Rattle.jn_place_laws.proofs.Going.{Go, ExprGoes, StmtGoes, at_vars}
use Rattle.jn_place_laws.proofs.Steps.{as_todo, as_typed, moved, narrows, settles, step}
use Rattle.jn_place_laws.proofs.Operands.{named_same, named_among, class_kept}
use Rattle.jn_place_laws.proofs.Statements.{valued, ended}

-- ---- variables

-- a variable has a path that no other variable in scope has
own_split : (before behind : List Var) (x : Var) → OwnPaths (before ++ x ∷ behind) → (y : Var)
    → Among (before ++ behind) y → y.path ≡ x.path → ⊥
own_split [] behind x own y a e = own.1 y a e
own_split (z ∷ before) behind x own _ first e = own.1 x (in_middle before) (sym e) where
  in_middle : (vs : List Var) → Among (vs ++ x ∷ behind) x
  in_middle [] = first
  in_middle (v ∷ vs) = later (in_middle vs)
own_split (z ∷ before) behind x own y (later a) e = own_split before behind x own.0 y a e

-- ---- masks of a path

with_fresh : {s t : Scope} (q : ℕ) (m : Masks) → Fresher s t → q < 256 → Fresher (with_masks s q m) (with_masks t q m)
with_fresh q m fresh_none l = fresh_none
with_fresh {s} q m (fresh_more {t = t} {b = c} old g) l = at (nat_eq q c.path) refl (with_fresh q m g l) where
  at : (d : Bool) → nat_eq q c.path ≡ d → Fresher (with_masks s q m) (with_masks t q m)
      → Fresher (with_masks s q m) (cond d (record c { ty = remasked m c.ty } ∷ t) (c ∷ with_masks t q m))
  at true e again = absurd (let k = eqb-true q c.path e in omega (arith, old, l, k))
  at false e again = fresh_more old again

masks_at_formed : (s : Scope) (q : ℕ) → ((c : Bind) → Among s c → MasksFormed c.ty)
    → MasksOf (HasMask (masks_at s q)) (masks_at s q)
masks_at_formed [] q each = none_formed
masks_at_formed (c ∷ s) q each = at (nat_eq q c.path) (masks_at_formed s q (λ d m. each d (later m))) where
  at : (d : Bool) → MasksOf (HasMask (masks_at s q)) (masks_at s q)
      → MasksOf (HasMask (cond d (masks_of c.ty) (masks_at s q))) (cond d (masks_of c.ty) (masks_at s q))
  at true again = each c first
  at false again = again

both_hold : (x y : Bool) → (x && y) ≡ true → (x ≡ true) × (y ≡ true)
both_hold true y e = (refl, e)
both_hold false y e = cc

small_path : (q : ℕ) → is_variable q ≡ true → q < 256
small_path q e = ltb-true q 256 (both_hold (not (nat_eq q 0)) (nat_lt q 256) e).1

answered : (p : Program) (T : Type 0) (ok : Bool) (q : Refusal) (go : Plan Before) (y : Before) → Answers T ok
    → Gives p (wants ok q go) (Ok y) → T × Gives p go (Ok y)
answered p T true q go y a g = (a, g)
answered p T false q go y a g = absurd (no g) where
  no : (let a : Result Before Refusal = Ok y in let c : Result Before Refusal = Err q in a ≡ c) → ⊥
  no e = cc

not_true : (c : Bool) → not c ≡ true → c ≡ false
not_true true e = cc
not_true false e = refl

module _ (p : Program) (deep : Shallow p) (formed : WellFormed p) (i : Image) (n : Naming) (m : ℕ) (code : ℕ)
    (it : Code) (there : slice_get i.codes code ≡ Some it) (r : Frame) (hd : Header)
    (nodes : NodesOf p i n m (known p) Context (Stood p r hd) code it r)
    (laid : LaidNodesOf p i n m (known p) Context (Stood p r hd) code it r) (leads : ActsLead p i n m code it r hd)
    (facts : (vs : List Var) (s : Scope) → FactsHold p i n m code it r hd vs s) where
  abbrev B : In
  B = in_body r hd

  abbrev G : ℕ → List Var → Typing → List Todo → ℕ → ℕ → Type 0
  G = Go p i n m code it r hd

  -- ---- an assignment

  assign_as : (x : Before) (name : Named) (e : Expr) (v : Var) (y : Typed) (s l o : ℕ) → StmtKnown p B x
      → ExprKnown p (at_vars p i n m code it r hd x.vars) y → Fresher x.scope y.scope → v.fixed ≡ false
      → Below p y.scope y.ty v.ty → places.newest x.vars name.name ≡ Some v
      → var_named (record { list = x.vars }) name.name ≡ Some v → HasKind it v.path (kind_of_type v.ty)
      → Run it.instrs (ins.Store v.path ∷ []) l o → ExprGoes p i n m code it r hd x.vars x.scope true e y s l
      → StmtGoes p i n m code it r hd x x (stmt.Assign name e) s o
  assign_as x name e v y s l o known_x known_y grown free below new named has runs one ss b k w g =
      as_todo p i n m code it there r hd [] b x.vars (typing x.scope []) _ _ s w
      ((acts_are.stmts (length x.vars) x.next ss k).assign name e)
      (valued p i n m code it there r hd nodes laid leads facts x.vars x.scope e y s l
      (not_void y.ty (not_void_below p y.scope y.ty v.ty below)) one b _ w
      (moved p i n m code it there r hd leads [] b x.vars (typing y.scope (opd y.ty y.path ∷ []))
      (typing y.scope (opd v.ty y.path ∷ [])) (todo (length x.vars) (Assign name.name) ∷ rest) l (5 + w)
      (wider y.ty v.ty y.path below (fits_grown (grown_of grown) known_y.scope.scope.binds fits) same)
      (settles p i n m code it there r hd b x.vars y.scope x.scope v.ty y.path [] _ l (5 + w) known_x.params
      (narrowed_fresh grown) known_x.scope.scope.binds known_x.covers fits
      (step p i n m code it there r hd [] [] b x.vars x.vars (Assign name.name) (typing x.scope (opd v.ty None ∷ []))
      (typing x.scope []) rest l o (l + 1) w (5 + w)
      (nodes.assign b (site_at r hd x.vars) (context x.vars (typing x.scope (opd v.ty None ∷ [])))
      (context x.vars (typing x.scope [])) name.name v rest l (5 + w) new own runs.0)
      (leads.acts x.vars x.vars (Assign name.name) rest (typing x.scope (opd v.ty None ∷ [])) (typing x.scope [])
      (assign name.name v None named (record {
        not_final = free;
        paths = known_x.scope.site.paths v a;
        among = known_x.scope.plain v a (ap (λ (c : Bool). c && is_class v.ty) free);
        unmentioned = unmentioned site x.scope known_x.alike known_x.scope.site.binds known_x.scope.site.paths v a free;
      }))) runs.1 (omega arith) g)))) where
        rest : List Todo
        rest = stmts_acts (length x.vars) x.next ss k

        site : Site
        site = site_here (at_vars p i n m code it r hd x.vars)

        a : Among x.vars v
        a = named_among x.vars name.name v named

        fits : TypeFits x.scope v.ty
        fits = (declared_known p (at_vars p i n m code it r hd x.vars) x.scope v known_x.scope a).fits

        paths : OwnPaths x.vars
        paths = own_paths site known_x.scope.site.binds

        own : OwnLocal it (site_at r hd x.vars) v
        own = record {
          room = slice_get_within (it.params ++ it.locals) v.path (kind_of_type v.ty) has;
          not_this = not_this x.vars paths v a;
          own = λ before behind is u u_in. own_split before behind v (subst OwnPaths is paths) u u_in;
        }

  pub assign_goes : (x z : Before) (name : Named) (e : Expr) (v : Var) (s l o : ℕ) → StmtKnown p B x
      → Gives p (stmt_types B (stmt.Assign name e) x) (Ok z)
      → ((y : Typed) → Gives p (typed B x e x.scope) (Ok y)
      → ExprKnown p (at_vars p i n m code it r hd x.vars) y × Fresher x.scope y.scope
      × ExprGoes p i n m code it r hd x.vars x.scope true e y s l)
      → places.newest x.vars name.name ≡ Some v → HasKind it v.path (kind_of_type v.ty)
      → Run it.instrs (ins.Store v.path ∷ []) l o
      → StmtGoes p i n m code it r hd x z (stmt.Assign name e) s o
  assign_goes x z name e v s l o known_x g value new has runs =
      let named = named_same x.vars name.name v new in
      let a = subst (λ (q : Option Var). Gives p (assign_typed B x name e q) (Ok z)) named
      (subst (λ (q : Plan Before). Gives p q (Ok z)) ((forms_are.stmts B x).assign name e) g) in
      let h = wanted (not v.fixed) _ _ z a in
      let c = then_came (typed B x e x.scope) _ z h.then in
      let q = answered p (Below p c.first.scope c.first.ty v.ty) c.then.0 _ (done x) z c.then.1 c.then.2 in
      let one = value c.first c.gave in
      subst (λ (u : Before). StmtGoes p i n m code it r hd x u (stmt.Assign name e) s o) (sym (same_before x z q.1))
      (assign_as x name e v c.first s l o known_x one.0 one.1 (not_true v.fixed h.test) q.0 new named has runs one.2)

  -- ---- a store

  -- up to its act: the receiver has a path, and the value is in the type of the field
  record StoreAt (x : Before) (f : Name) (o v : Typed) : Type 0 where
    c : FoundField
    here : IsFoundField p o.scope o.ty f c
    fresh : Fresher x.scope v.scope
    found : IsFoundField p v.scope o.ty f c
    go : (b : ℕ) (k : List Todo) (w : ℕ) → (a : ℕ)
        → G b x.vars (typing v.scope (opd (subst_type v.scope (swapped (0 ∷ []) ((path_of o.ty o).path ∷ [])) c.ty) v.path
        ∷ (opd o.ty (Some (path_of o.ty o).path) ∷ []))) k a w
        → G b x.vars (typing v.scope (opd v.ty v.path ∷ (opd o.ty (Some (path_of o.ty o).path) ∷ []))) k a w

  store_at : (x : Before) (f : Named) (o v : Typed) (c : FoundField) → is_class o.ty ≡ true
      → ExprKnown p (at_vars p i n m code it r hd x.vars) o → Fresher x.scope o.scope
      → IsFoundField p o.scope o.ty f.name c
      → Reached p (at_vars p i n m code it r hd x.vars) o (path_of o.ty o).path (path_of o.ty o).scope
      → ExprKnown p (at_vars p i n m code it r hd x.vars) v → Fresher (path_of o.ty o).scope v.scope
      → Below p v.scope v.ty (field_type c (path_of o.ty o)) → StoreAt x f.name o v
  store_at x f o v c class known_o grown_o here reached known_v grown_v below = record {
    c = c;
    here = here;
    fresh = fresher_joined grown_o (fresher_joined reached.grown grown_v);
    found = record {
      bound = here.bound;
      at = found_grown o.ty (grown_of (fresher_joined reached.grown grown_v)) known_v.scope.scope.binds
          known_o.type.fits here.at;
      type = here.type;
      class = here.class;
    };
    go = λ b k w a g. moved p i n m code it there r hd leads [] b x.vars
        (typing v.scope (opd v.ty v.path ∷ (opd o.ty (Some q) ∷ [])))
        (typing v.scope (opd (field_type c (path_of o.ty o)) v.path ∷ (opd o.ty (Some q) ∷ []))) k a w
        (wider v.ty (field_type c (path_of o.ty o)) v.path below fits same)
        (as_typed p i n m code it there r hd [] b x.vars
        (typing v.scope (opd (field_type c (path_of o.ty o)) v.path ∷ (opd o.ty (Some q) ∷ [])))
        (typing v.scope (opd (subst_type v.scope (swapped (0 ∷ []) ((path_of o.ty o).path ∷ [])) c.ty) v.path
        ∷ (opd o.ty (Some q) ∷ []))) k a w
        (ap (λ (u : Ty). typing v.scope (opd u v.path ∷ (opd o.ty (Some q) ∷ []))) settled) g);
  } where
    q : ℕ
    q = (path_of o.ty o).path

    there_found : IsFoundField p (path_of o.ty o).scope o.ty f.name c
    there_found = record {
      bound = here.bound;
      at = found_grown o.ty (grown_of reached.grown) reached.known.scope.binds known_o.type.fits here.at;
      type = here.type;
      class = here.class;
    }

    fits : TypeFits v.scope (field_type c (path_of o.ty o))
    fits = fits_grown (grown_of grown_v) known_v.scope.scope.binds
        ((path_types_fit p).field (path_of o.ty o).scope o.ty f.name c (path_of o.ty o).path deep formed
        reached.known.scope.binds there_found reached.path).fits

    settled : subst_type v.scope (swapped (0 ∷ []) ((path_of o.ty o).path ∷ [])) c.ty ≡ field_type c (path_of o.ty o)
    settled = field_settled p (path_of o.ty o).scope v.scope o.ty f.name c (path_of o.ty o).path deep formed there_found
        reached.path (grown_of grown_v) known_v.scope.scope.binds

  -- the whole statement, from what the act leads to
  set_as : (x z : Before) (u : Expr) (f : Named) (e : Expr) (o v : Typed) (j kind : ℕ) (s l a t : ℕ)
      → StoreAt x f.name o v → is_class o.ty ≡ true
      → Reached p (at_vars p i n m code it r hd x.vars) o (path_of o.ty o).path (path_of o.ty o).scope
      → is_void v.ty ≡ false → FieldOf n f.name j kind
      → ((c : FoundField) → IsFoundField p o.scope o.ty f.name c → FieldKind c.ty kind)
      → Run it.instrs (ins.Put j ∷ []) a t
      → ExprGoes p i n m code it r hd x.vars x.scope true u o s l
      → ExprGoes p i n m code it r hd x.vars (path_of o.ty o).scope true e v l a → (sc : Scope)
      → ((d : StoreAt x f.name o v) → Takes p B x.vars (Put f.name)
      (typing v.scope (opd (subst_type v.scope (swapped (0 ∷ []) ((path_of o.ty o).path ∷ [])) d.c.ty) v.path
      ∷ (opd o.ty (Some (path_of o.ty o).path) ∷ []))) x.vars (typing sc []))
      → ((b : ℕ) (k : List Todo) (w : ℕ) → G b x.vars (typing z.scope []) k t w → G b x.vars (typing sc []) k t w)
      → z.vars ≡ x.vars → z.next ≡ x.next → StmtGoes p i n m code it r hd x z (stmt.Set u f e) s t
  set_as x z u f e o v j kind s l a t d class reached kept_v sel kinds runs one two sc takes behind vars next ss b k w g =
      as_todo p i n m code it there r hd [] b x.vars (typing x.scope []) _ _ s w
      ((acts_are.stmts (length x.vars) x.next ss k).set u f e)
      (valued p i n m code it there r hd nodes laid leads facts x.vars x.scope u o s l (class_kept o.ty class) one b _ w
      (moved p i n m code it there r hd leads [] b x.vars (typing o.scope (opd o.ty o.path ∷ []))
      (typing (path_of o.ty o).scope (opd o.ty (Some q) ∷ [])) _ l (5 + w) (reached.moves [])
      (two (λ y. kept_v) [] b (todo (length x.vars) (Put f.name) ∷ rest) (5 + w) (opd o.ty (Some q) ∷ [])
      (ops_with (opd o.ty (Some q)) (some_bound (path_of o.ty o).scope q reached.path.bound_in)
      (no_ops (path_of o.ty o).scope))
      (laid.narrow b (site_at r hd x.vars)
      (context x.vars (typing v.scope (opd v.ty v.path ∷ (opd o.ty (Some q) ∷ []))))
      (todo (length x.vars) (Put f.name) ∷ rest) a (5 + (5 + w))
      (d.go b (todo (length x.vars) (Put f.name) ∷ rest) (5 + (5 + w)) a
      (step p i n m code it there r hd [] [] b x.vars x.vars (Put f.name) from (typing sc []) rest a t (a + 1) w
      (5 + (5 + w))
      (nodes.put b (site_at r hd x.vars) (context x.vars from) (context x.vars (typing sc [])) f.name j kind rest a
      (5 + (5 + w)) runs.0 sel ((facts x.vars v.scope).writes [] _ f.name o.ty (Some q) d.c kind d.found (kinds d.c d.here)))
      (leads.acts x.vars x.vars (Put f.name) rest from (typing sc []) (takes d)) runs.1 (omega arith)
      (behind b rest w
      (subst (λ (y : ℕ). G b x.vars (typing z.scope []) (stmts_acts (length x.vars) y ss k) t w) next
      (subst (λ (us : List Var). G b us (typing z.scope []) (stmts_acts (length us) z.next ss k) t w) vars g))))))))) where
        q : ℕ
        q = (path_of o.ty o).path

        rest : List Todo
        rest = stmts_acts (length x.vars) x.next ss k

        from : Typing
        from = typing v.scope (opd (subst_type v.scope (swapped (0 ∷ []) ((path_of o.ty o).path ∷ [])) d.c.ty) v.path
            ∷ (opd o.ty (Some (path_of o.ty o).path) ∷ []))

  -- what stands behind the receiver, and the value
  module _ (x z : Before) (u : Expr) (f : Named) (e : Expr) (j kind : ℕ) (s l a t : ℕ) (known_x : StmtKnown p B x)
      (known_z : StmtKnown p B z) (sel : FieldOf n f.name j kind) (runs : Run it.instrs (ins.Put j ∷ []) a t) where
    -- all that is had of both
    record Had (o v : Typed) : Type 0 where
      class : is_class o.ty ≡ true
      store : StoreAt x f.name o v
      reached : Reached p (at_vars p i n m code it r hd x.vars) o (path_of o.ty o).path (path_of o.ty o).scope
      kept : is_void v.ty ≡ false
      kinds : (c : FoundField) → IsFoundField p o.scope o.ty f.name c → FieldKind c.ty kind
      one : ExprGoes p i n m code it r hd x.vars x.scope true u o s l
      two : ExprGoes p i n m code it r hd x.vars (path_of o.ty o).scope true e v l a

    -- where the masks stay
    plainly : (o v : Typed) → Had o v → z ≡ x → StmtGoes p i n m code it r hd x z (stmt.Set u f e) s t
    plainly o v h is =
        subst (λ (y : Before). StmtGoes p i n m code it r hd x y (stmt.Set u f e) s t) (sym is)
        (set_as x x u f e o v j kind s l a t h.store h.class h.reached h.kept sel h.kinds runs h.one h.two v.scope
        (λ d. put f.name o.ty (path_of o.ty o).path v.path d.c d.found)
        (λ b k w g. ended p i n m code it there r hd nodes laid leads facts x known_x v.scope [] b k t w
        (narrowed_fresh h.store.fresh) g) refl refl)

    -- where the path q of a variable loses one
    less_masks : (o v : Typed) → Had o v → (q : ℕ) → (path_of o.ty o).path ≡ q → q < 256
        → Gives p (without_mask x f.name q) (Ok z) → StmtGoes p i n m code it r hd x z (stmt.Set u f e) s t
    less_masks o v h q at small g =
        subst (λ (y : Before). StmtGoes p i n m code it r hd x y (stmt.Set u f e) s t) (sym is)
        (set_as x (with_scope x (with_masks x.scope q g.0) x.next) u f e o v j kind s l a t h.store h.class h.reached h.kept
        sel h.kinds runs h.one h.two (with_masks v.scope q g.0)
        (λ d. subst (λ (y : ℕ). Takes p B x.vars (Put f.name)
        (typing v.scope (opd (subst_type v.scope (swapped (0 ∷ []) (y ∷ [])) d.c.ty) v.path
        ∷ (opd o.ty (Some y) ∷ []))) x.vars (typing (with_masks v.scope q g.0) [])) (sym at)
        (unmask f.name o.ty q v.path d.c g.0 d.found
        (subst (λ (y : Masks). MasksOf (HasMask y) y) (sym masks) (masks_at_formed x.scope q known_x.masks))
        (subst (λ (y : Masks). MasksOf (KeptMask (mask_names p) y f.name) g.0) (sym masks) g.1)))
        (λ b k w go. narrows p i n m code it there r hd b x.vars x.vars (with_masks v.scope q g.0)
        (with_masks x.scope q g.0) [] k t w (take_all x.vars) known_x.params
        (narrowed_fresh (with_fresh q g.0 h.store.fresh small)) (subst (StmtKnown p B) is known_z).scope.scope.binds
        (subst (StmtKnown p B) is known_z).covers go) refl refl) where
          is : z ≡ with_scope x (with_masks x.scope q g.0) x.next
          is = same_before (with_scope x (with_masks x.scope q g.0) x.next) z g.2

          masks : masks_at v.scope q ≡ masks_at x.scope q
          masks = masks_fresh q h.store.fresh small

    at_path : (o v : Typed) → Had o v → (q : ℕ) → (path_of o.ty o).path ≡ q → (c : Bool) → is_variable q ≡ c
        → Gives p (cond c (without_mask x f.name q) (done x)) (Ok z)
        → StmtGoes p i n m code it r hd x z (stmt.Set u f e) s t
    at_path o v h q at true is g = less_masks o v h q at (small_path q is) g
    at_path o v h q at false is g = plainly o v h (same_before x z g)

    by_path : (o v : Typed) → Had o v → (q : Option ℕ) → o.path ≡ q → Gives p (dropped x f.name q) (Ok z)
        → StmtGoes p i n m code it r hd x z (stmt.Set u f e) s t
    by_path o v h None at g = plainly o v h (same_before x z g)
    by_path o v h (Some q) at g =
        at_path o v h q (ap (λ (y : Option ℕ). (path_or_fresh o.ty y o.scope).path) at) (is_variable q) refl g

    pub set_goes : Gives p (stmt_types B (stmt.Set u f e) x) (Ok z)
        → ((o : Typed) → Gives p (typed B x u x.scope) (Ok o)
        → ExprKnown p (at_vars p i n m code it r hd x.vars) o × Fresher x.scope o.scope
        × ExprGoes p i n m code it r hd x.vars x.scope true u o s l)
        → ((o v : Typed) → Gives p (typed B x u x.scope) (Ok o)
        → Gives p (typed B x e (path_of o.ty o).scope) (Ok v)
        → ScopeKnown p (at_vars p i n m code it r hd x.vars) (path_of o.ty o).scope
        → ExprKnown p (at_vars p i n m code it r hd x.vars) v × Fresher (path_of o.ty o).scope v.scope
        × ExprGoes p i n m code it r hd x.vars (path_of o.ty o).scope true e v l a)
        → ((o : Typed) (c : FoundField) → Gives p (typed B x u x.scope) (Ok o)
        → IsFoundField p o.scope o.ty f.name c → FieldKind c.ty kind)
        → StmtGoes p i n m code it r hd x z (stmt.Set u f e) s t
    set_goes g receiver stored kinds =
        let c = then_came (typed B x u x.scope) _ z
        (subst (λ (q : Plan Before). Gives p q (Ok z)) ((forms_are.stmts B x).set u f e) g) in
        let o = c.first in
        let h = wanted (is_class o.ty) _ _ z c.then in
        let d = found_was h.then.0 _ (set_with B x f e o) z h.then.2 in
        let y = then_came (typed B x e (path_of o.ty o).scope) _ z d.then in
        let v = y.first in
        let q = answered p (Below p v.scope v.ty (field_type d.given (path_of o.ty o))) y.then.0 _
        (dropped x f.name o.path) z y.then.1 y.then.2 in
        let one = receiver o c.gave in
        let reached = path_reached p (at_vars p i n m code it r hd x.vars) o one.0 h.test in
        let two = stored o v c.gave y.gave reached.known in
        by_path o v (record {
          class = h.test;
          store = store_at x f o v d.given h.test one.0 one.1
              (subst (λ (w : Option FoundField). Means p (OfField o.scope o.ty f.name) w) d.is h.then.1) reached two.0 two.1
              q.0;
          reached = reached;
          kept = not_void v.ty (not_void_below p v.scope v.ty (field_type d.given (path_of o.ty o)) q.0);
          kinds = λ k is. kinds o k c.gave is;
          one = one.2;
          two = two.2;
        }) o.path refl q.1
