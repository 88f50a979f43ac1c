-- A call of the body of a class above, from one typing to another.
use Rattle.std.proofs.Common.{◌≡◌, ℕ, List, [], ◌∷◌, length, Some, Bool, true, false, refl, sym, ap, ◌∙◌, subst, arith, eq-eqb}
use Rattle.std.specs.Prelude.{nat_eq, take}
use Rattle.jn_base.specs.declared.tree.Name.{Name}
use Rattle.jn_base.specs.declared.tree.Program.{Program}
use Rattle.jn_base.specs.declared.names.Var.{Var}
use Rattle.jn_base.specs.Paths.{Path}
use Rattle.jn_base.specs.Scopes.{Scope}
use Rattle.jn_base.specs.Fits.{TypeFits}
use Rattle.jn_sem.specs.Sets.{Views, no_views}
use Rattle.jn_sem.specs.Values.{Value, Reference}
use Rattle.jn_sem.specs.Normal.{swapped}
use Rattle.jn_sem.specs.NormalFunction.{subst_type}
use Rattle.jn_sem.specs.Acts.{Todo}
use Rattle.jn_sem.specs.State.{Heap, Variable, Frame, view_in, has_null_path}
use Rattle.jn_sem.specs.Run.{frame_of, AreIn}
use Rattle.jn_sem.specs.Does.{Body, IsBody, args_of, calls, waiting, missing}
use Rattle.jn_sem.specs.Asks.{OnOnly}
use Rattle.jn_sem.proofs.FindingLaws.{finds_one}
use Rattle.jn_rules.specs.Exprs.{replaced_paths}
use Rattle.jn_rules.specs.Stmts.{at_start, is_void}
use Rattle.jn_sound.specs.Takes.{Opd, opds_of, ArgsFit, with_result}
use Rattle.jn_sound.specs.Sound.{HeapFits, InScope, none as no_opds, cut, all_views}
use Rattle.jn_sound.proofs.Laws.{Laws}
use Rattle.jn_sem.specs.Does.{Did, Does}
use Rattle.jn_sound.specs.Takes.{Typing, typing}
use Rattle.jn_sound.specs.Sound.{Stands}
use Rattle.jn_sound.specs.Steps.{Begun, CallsAt, DidAt}
use Rattle.jn_sound.proofs.Ways.{surely}
use Rattle.jn_sound.proofs.Safe.{Sure, sure_it, sure_by, sure_only, sure_some, sure_if}
use Rattle.jn_sound.proofs.Stands.{now}
use Rattle.jn_sound.proofs.Calls.{no_pairs, Taken, args_taken, take_whole, take_values, count_args, args_real}
use Rattle.jn_rules.specs.Headers.{Header}
use Rattle.jn_sound.specs.Callees.{Callee}
use Rattle.jn_rule_laws.specs.LawsOfHeaders.{IsHeader}
use Rattle.jn_rule_laws.specs.LawsOfMembers.{Alike}
use Rattle.std.specs.Prelude.{Option, Ok, Contains, IsSome}
use Rattle.jn_base.specs.declared.tree.Term.{Term}
use Rattle.jn_base.specs.declared.tree.Constraint.{Constraint}
use Rattle.jn_base.specs.declared.types.Atom.{Atom as ShownAtom}
use Rattle.jn_base.specs.Atoms.{Atom, atom_of, atoms_in, Among, first}
use Rattle.jn_base.specs.Universe.{InUniverse}
use Rattle.jn_base.specs.Members.{MethodAt}
use Rattle.jn_base.proofs.Reaching.{sup_in_universe}
use Rattle.jn_sem.specs.Sets.{AnchorSeen, InType}
use Rattle.jn_sem.specs.Holds.{HoldsAt}
use Rattle.jn_sem.specs.Normal.{same_path, after}
use Rattle.jn_sem.specs.NormalFunction.{normal_type}
use Rattle.jn_sem.proofs.TypeSets.{types_below, classes_subst}
use Rattle.jn_sem.proofs.NormalTypes.{type_subst_is}
use Rattle.jn_laws.specs.LawsOfWritten.{HeaderPath}
use Rattle.jn_laws.specs.Surely.{Surely}
use Rattle.jn_laws.proofs.Bounded.{classes_under_bounds}
use Rattle.jn_laws.proofs.Terms.{same_ok}
use Rattle.jn_rule_laws.proofs.RepliesOne.{replies_one}
use Rattle.jn_rules.specs.Exprs.{path_type, of_atom}
use Rattle.jn_rules.specs.Plans.{Pledge, OfConstraint}
use Rattle.jn_rules.specs.Questions.{ConstraintGives, header_site}
use Rattle.jn_rules.specs.Stmts.{body_in}
use Rattle.jn_sound.specs.KnownScopes.{here_in}
use Rattle.jn_sound.specs.Takes.{SuperTerm, SuperGranted}
use Rattle.jn_sound.specs.Sound.{body_of, sides_of}
use Rattle.jn_sound.proofs.Ways.{and_so}
use Rattle.jn_sound.proofs.Acts.{own_type}
use Rattle.jn_sound.proofs.Locals.{frame_path}
use Rattle.jn_sound.proofs.NullViews.{path_there, anchor_there}
use Rattle.jn_sound.proofs.Granted.{granted_holds, from_this, to_this}
use Rattle.jn_sound.proofs.Targets.{side_long}
use Rattle.jn_base.specs.Supers.{Sup, itself}
use Rattle.jn_base.proofs.SuperLaws.{sup_joined}
use Rattle.jn_sem.specs.Acts.{Super}
use Rattle.jn_sem.specs.Terms.{SuperBound}
use Rattle.jn_sem.specs.State.{view_in, site_of}
use Rattle.jn_sound.specs.Callees.{IsCallee}
use Rattle.jn_sound.specs.Sound.{ThisFits}
use Rattle.jn_sound.proofs.CallStep.{call_with}

-- the constraints of the called body hold at the view of `this`, where the caller's header grants them
constraints_hold : {p : Program} {h : Heap} {f : Frame} {x : Header} {vs : List Var} {s : Scope} {ops : List Opd}
    {w : Views} → Laws p → Stands p h f x vs s ops w → (b : Body) (name : Name) → MethodAt p b.class name b.method
    → (R : Path) → InUniverse p R → Sup p R b.class
    → (all_views (cut (length vs) f) w) 0 ≡ Some R
    → ((c : Constraint) (k : Pledge) → Contains f.method.sharing c
    → ConstraintGives p (header_site f.class f.method.name.name) c (Ok k) → Surely (HoldsAt p R (sides_of p k)))
    → ((c : Constraint) → Contains b.method.sharing c → SuperGranted p (here_in (body_in (body_of f) x) vs) s b c)
    → (c : Constraint) (k : Pledge) → Contains b.method.sharing c
    → ConstraintGives p (header_site b.class b.method.name.name) c (Ok k) → Surely (HoldsAt p R (sides_of p k))
constraints_hold {p} {f = f} n a b name method R there higher this own granted c k among gives =
    let g = granted c among in
    let is : g.pledge ≡ k = one_pledge g.pledge gives g.is in
    and_so (own g.granted.constraint g.granted.pledge g.granted.among g.granted.is) (λ holds.
    surely (subst (λ (z : Pledge). HoldsAt p R (sides_of p z)) is
    (granted_holds a.in_scope.binds a.in_scope.respects this g.granted.pledge g.pledge
    (from_this p (header_site f.class f.method.name.name) g.granted.constraint g.granted.pledge g.granted.is)
    (to_this p (header_site f.class f.method.name.name) g.granted.constraint g.granted.pledge g.granted.is)
    (from_this p (header_site b.class b.method.name.name) c g.pledge g.is)
    (to_this p (header_site b.class b.method.name.name) c g.pledge g.is) g.granted.grants
    (side_long n b.class name b.method c g.pledge R method among (sup_in_universe higher there) higher g.is
    (to_this p (header_site b.class b.method.name.name) c g.pledge g.is)) holds))) where
      one_pledge : (z : Pledge) → ConstraintGives p (header_site b.class b.method.name.name) c (Ok k)
          → ConstraintGives p (header_site b.class b.method.name.name) c (Ok z) → z ≡ k
      one_pledge z i j =
          same_ok z k (replies_one p
          (record { once = n.passes.bodies.once; table = n.passes.bodies.headers.limits.members.types.table })
          n.within.named (OfConstraint b.class b.method.name.name c) (Ok z) (Ok k) j i)

-- where the body of a class above `this` is entered, `this` is the receiver
pub super_at : {p : Program} {h : Heap} {f : Frame} {x : Header} {vs : List Var} {s : Scope} {before ops : List Opd}
    {w : Views} → Laws p → HeapFits p h
    → (m : ℕ) (k : List Todo) (term : Term) (name : Name) (count : ℕ) (keeps : Bool) (qs : List ℕ)
    (args : List Opd) (c : Callee) (y : ShownAtom) → SuperTerm p (body_in (body_of f) x) vs s term y c.bound
    → IsCallee p name c
    → ((z : Constraint) → Contains c.body.method.sharing z
    → SuperGranted p (here_in (body_in (body_of f) x) vs) s c.body z)
    → opds_of count [] before ≡ Some (args, ops)
    → ArgsFit s (replaced_paths c.vars) (0 ∷ qs) c.vars args qs → (is_void c.result ≡ true → keeps ≡ false) →
    TypeFits s (subst_type s (swapped (replaced_paths c.vars) (0 ∷ qs)) c.result)
    → Stands p h f x vs s before w
    → Sure (DidAt p h f x vs k (typing s
    (with_result keeps (subst_type s (swapped (replaced_paths c.vars) (0 ∷ qs)) c.result) ops)))
    (Does p m (Super term name count keeps) (now (length vs) k f) h)
super_at {p} {h} {f} {x} {vs} {s} {before} {ops} {w} n hf m k term name count keeps qs args c y is callee granted
    e af kf tf a =
    sure_some (args_of count [] f.vals) missing
    (λ (z : List Value × List Value). OnOnly (SuperBound p (site_of (now (length vs) k f)) term) missing
    (λ B. calls p B name f.this z.0 (waiting keeps (now (length vs) k f) z.1) h))
    (got.values, got.others) got.are
    (sure_only (surely (c.bound, given))
    (λ A B j l. (finds_one p).super_bound (site_of (now (length vs) k f)) term B A l j)
    (λ B ib. subst (λ (z : Path). Sure Q (calls p z name f.this got.values
    (waiting keeps (now (length vs) k f) got.others) h))
    (sym ((finds_one p).super_bound (site_of (now (length vs) k f)) term B c.bound ib given))
    (subst (λ (r : Value). Sure Q (calls p c.bound name r got.values
    (waiting keeps (now (length vs) k f) got.others) h)) (sym this.is) entering))) where
      tau : Typing
      tau = typing s (with_result keeps (subst_type s (swapped (replaced_paths c.vars) (0 ∷ qs)) c.result) ops)

      Q : Did → Type 0
      Q = DidAt p h f x vs k tau

      this : ThisFits p h (cut (length vs) f)
      this = a.in_scope.this

      V : Path
      V = this.view

      got : Taken p (take (length vs) f.vars) h s (all_views (cut (length vs) f) w) count [] f.vals args ops
      got = args_taken p (take (length vs) f.vars) h s (all_views (cut
          (length vs) f) w) count [] [] before f.vals args ops e no_pairs a.operands

      given : SuperBound p (site_of (now (length vs) k f)) term c.bound
      given =
          subst (λ (l : List Var). SuperBound p (record { class = f.class; method = f.method.name.name; vars = l })
          term c.bound) (sym a.in_scope.declared) is.is

      -- the view of `this` has the bound in its Sup
      seen : (u : Atom) → Among (atoms_in (of_atom y)) u
          → AnchorSeen (after same_path (all_views (cut (length vs) f) w)) u.anchor
      seen u b = anchor_there (all_views (cut (length vs) f) w) u.anchor
          (λ r j i. all_seen r (is.paths u r j b i)) where
            all_seen : (r : ℕ) → HeaderPath vs r → IsSome (all_views (cut (length vs) f) w r)
            all_seen r i =
                subst (λ (o : Option Path). IsSome o)
                (sym (frame_path a.in_scope r i)) (path_there a.in_scope r i)

      in_term : InType p (all_views (cut (length vs) f) w) (of_atom y) this.view
      in_term =
          (classes_subst a.in_scope.respects same_path (of_atom y) (normal_type s (of_atom y)) this.view seen
          ((type_subst_is s same_path (of_atom y) (normal_type s (of_atom y))).1 refl)).1
          (types_below a.in_scope.binds a.in_scope.respects (path_type s 0) (normal_type s
          (of_atom y)) this.view is.below
          (own_type p (all_views (cut (length vs) f) w) s 0 this.view (ap view_in this.is)))

      higher : Sup p this.view c.bound
      higher =
          subst (λ (B : Path). Sup p this.view B) (sym is.at)
          (classes_under_bounds p s (all_views (cut (length vs) f) w) a.in_scope.binds a.in_scope.respects (of_atom y)
          (atom_of y) this.view in_term first (subst (InUniverse p) is.at is.class.universe))

      wrong : true ≡ false → ⊥
      wrong e = cc

      begins : (b : Body) (y : Header) → IsBody p c.bound name b
          → ((z : Constraint) → Contains b.method.sharing z
          → SuperGranted p (here_in (body_in (body_of f) x) vs) s b z) → IsHeader p b y
          → Alike c.vars y.vars
          → has_null_path (frame_of (record { class = b.class; method = b.method; vars = y.vars })
          (Reference this.object this.view) got.values).vars ≡ false
          → AreIn p (frame_of (record { class = b.class; method = b.method; vars = y.vars })
          (Reference this.object this.view) got.values) h
          → Begun p h (frame_of (record { class = b.class; method = b.method; vars = y.vars })
          (Reference this.object this.view) got.values)
      begins b y ib free ih al nn ai = record {
        heap = hf;
        view = c.bound;
        name = name;
        class = is.class;
        is_body = ib;
        header = y;
        todo = refl;
        stands = record {
          fresh = no_views;
          stands = record {
            is_header = ih;
            params = take_whole y.vars (length b.method.params) (n.param_count b y ih);
            all_params = omega (arith, n.param_count b y ih);
            in_scope =
                subst (λ (X : List Variable). InScope p h
                (record (frame_of (record { class = b.class; method = b.method; vars = y.vars })
                (Reference this.object this.view) got.values) { vars = X }) no_views y.vars (at_start b y).scope)
                (sym (take_values y.vars got.values))
                (n.entry_above h this.view c.bound name b y this.object got.values ib higher
                (constraints_hold n a b name ib.at this.view this.real.related.other.universe
                (sup_joined higher ib.least.among.super) (ap view_in this.is) this.constraints free)
                ih this.real this.filled
                (count_args c.vars y.vars args qs got.values af got.pairs al) nn
                (λ z m. args_real args got.values got.pairs z m) ai);
            operands = no_opds;
          };
        };
      }

      entering : Sure (DidAt p h f x vs k (typing s
          (with_result keeps (subst_type s (swapped (replaced_paths c.vars) (0 ∷ qs)) c.result) ops)))
          (calls p c.bound name (Reference this.object this.view) got.values
          (waiting keeps (now (length vs) k f) got.others) h)
      entering =
          sure_by (n.signatures c.bound c.bound name c is.class itself refl callee) (λ sig.
          sure_only (surely (c.body, callee.body)) (λ A B j l. n.body_one c.bound name B A is.class l j) (λ b ib.
          let same : b ≡ sig.body = n.body_one c.bound name b sig.body is.class ib sig.is_body in
          let free : ((z : Constraint) → Contains b.method.sharing z
          → SuperGranted p (here_in (body_in (body_of f) x) vs) s b z) =
          subst (λ (u : Body). (z : Constraint) → Contains u.method.sharing z
          → SuperGranted p (here_in (body_in (body_of f) x) vs) s u z)
          (n.body_one c.bound name c.body b is.class callee.body ib) granted in
          let ih : IsHeader p b sig.header = subst (λ (z : Body). IsHeader p z sig.header) (sym same) sig.is_header in
          let enough : length got.values ≡ length b.method.params =
          count_args c.vars sig.header.vars args qs got.values af got.pairs sig.same ∙
          n.param_count b sig.header ih in
          sure_if (nat_eq (length got.values) (length b.method.params))
          (λ no. absurd (wrong (sym (eq-eqb _ _ enough) ∙ no))) (λ yes.
          sure_only (surely (sig.header.vars, ih.params)) (λ A B j l. (finds_one p).params b B A l j) (λ vars iv.
          let vars_is : vars ≡ sig.header.vars = (finds_one p).params b vars sig.header.vars iv ih.params in
          sure_it _ (surely (subst (λ (z : List Var). CallsAt p h f x vs k tau
          (record { class = b.class; method = b.method; vars = z })
          (Reference this.object this.view ∷ got.values)
          (waiting keeps (now (length vs) k f) got.others) h) (sym vars_is)
          (call_with n hf k keeps 0 qs args c af kf tf a got.values got.others got.pairs got.fit this.object this.view
          (ap view_in this.is) b sig.header ih sig.same sig.result
          (begins b sig.header ib free ih sig.same))))))))
