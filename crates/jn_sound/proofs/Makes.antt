-- A new object, from one typing to another.
use Rattle.std.proofs.Common.{◌≡◌, ℕ, List, [], ◌∷◌, ◌+◌, length, Option, Some, None, Bool, true, false, refl, sym, ap, ◌∙◌, subst, eq-eqb}
use Rattle.std.specs.Prelude.{cond, nat_eq, nat_le, take}
use Rattle.jn_steps.specs.Steps.{Enters, Faults}
use Rattle.jn_base.specs.declared.tree.Name.{Name}
use Rattle.jn_base.specs.declared.tree.Term.{Term}
use Rattle.jn_base.specs.declared.tree.Param.{Param}
use Rattle.jn_base.specs.declared.tree.Program.{Program}
use Rattle.jn_base.specs.declared.names.Role.TheVariants as role
use Rattle.jn_base.specs.declared.names.Var.{Var}
use Rattle.jn_base.specs.declared.types.Ty.{Ty}
use Rattle.jn_base.specs.Paths.{Path}
use Rattle.jn_base.specs.Atoms.{Atom, anchor_at, atom_at, Among}
use Rattle.jn_base.specs.Scopes.{Scope, bound_of, bound}
use Rattle.jn_base.specs.Fits.{TypeFits}
use Rattle.jn_sem.specs.Sets.{Views, view_at}
use Rattle.jn_sem.specs.Sharing.{IsClass}
use Rattle.jn_sem.specs.Values.{Value, Reference, HasField}
use Rattle.jn_sem.specs.NormalFunction.{normal_type}
use Rattle.jn_sem.specs.Terms.{TermIs}
use Rattle.jn_sem.specs.Acts.{Make, Todo}
use Rattle.jn_sem.specs.State.{Stored, Heap, Frame, Variable, HasValue, IsIn, frame_views, has_null_path, with_values, with_object}
use Rattle.jn_sem.specs.Does.{Body, IsBody, IsConstructorBody, Did, Does, AreFresh, Arena, IsNewClass, constructs, makes, kept, waiting, ends, on_cells, on_entry}
use Rattle.jn_sem.specs.Run.{given}
use Rattle.jn_sem.specs.Asks.{It}
use Rattle.jn_sem.specs.LawsOfHeaps.{Later}
use Rattle.jn_sem.proofs.FindingLaws.{finds_one}
use Rattle.jn_laws.proofs.Universes.{sizes_there}
use Rattle.jn_rules.specs.Exprs.{made_exact}
use Rattle.jn_rules.specs.Headers.{Header}
use Rattle.jn_rule_laws.specs.LawsOfHeaders.{IsHeader}
use Rattle.jn_sound.specs.Takes.{Opd, opd, typing, NewClass}
use Rattle.jn_laws.specs.LawsOfWritten.{HeaderPaths}
use Rattle.jn_sound.proofs.MadeClass.{made_seen, made_class, made_super, made_in, made_named, same_last, constructor_bare}
use Rattle.jn_sound.specs.Sound.{HeapFits, InScope, OperandFits, OperandsFit, one, cut, all_views, Stands, StandsAt}
use Rattle.jn_sound.specs.Steps.{CallsAt, GoesAt, DidAt}
use Rattle.jn_sound.proofs.Laws.{Laws}
use Rattle.jn_sound.proofs.Ways.{surely}
use Rattle.jn_sound.proofs.Safe.{Sure, sure_it, sure_only, sure_test, sure_if, sure_found}
use Rattle.jn_sound.proofs.Acts.{no_path}
use Rattle.jn_sound.proofs.Stands.{now, stays_on}
use Rattle.jn_sound.proofs.GetStep.{stands_on}
use Rattle.jn_sound.proofs.CallStep.{stands_later}
use Rattle.jn_sound.proofs.NewObjects.{MadeAt, made_at}
use Rattle.jn_sound.proofs.Start.{header_there, body_begins, not_stuck_arena}

-- the constructor is a method of some name
pub constructor_named : (p : Program) (V : Path) (b : Body) → IsConstructorBody p V b → (m : Name) × IsBody p V m b
constructor_named p [] b i = absurd i
constructor_named p (C ∷ P) b i = (C, i)

no_variable : (vs : List Var) (x : Variable) → Among (with_values vs []) x → ⊥
no_variable [] x a = elim a [ ]
no_variable (v ∷ vs) x a = elim a [ ]

no_values : (vs : List Var) → with_values vs [] ≡ []
no_values [] = refl
no_values (v ∷ vs) = refl

-- it goes on with the object, by which nothing else changes
module _ {p : Program} {h : Heap} {f : Frame} {x : Header} {vs : List Var} {s : Scope} {ops : List Opd} {w : Views}
    (n : Laws p) (hf : HeapFits p h) (m : ℕ) (k : List Todo) (term : Term) (keeps : Bool) (t : Ty) (V : Path)
    (class_is : IsNewClass p (now (length vs) k f) term V) (class : IsClass p V)
    (no_params : (b : Body) → IsConstructorBody p V b → b.method.params ≡ [])
    (in_it : (i : Heap) (o : ℕ) → ((z : Name) → HasField p V z → HasValue p i o V z)
    → IsIn p (all_views (cut (length vs) f) w) i t (Reference o V))
    (tf : TypeFits s t) (a : Stands p h f x vs s ops w) where
  abbrev behind : List Opd
  behind = cond keeps (opd t None ∷ ops) ops

  abbrev Q : Did → Type 0
  Q = DidAt p h f x vs k (typing s (cond keeps (opd t None ∷ ops) ops))

  abbrev r : Value
  r = Reference (length h.objects) V

  module _ (size : ℕ) (xs : List Stored) (fresh : AreFresh p V xs) where
    abbrev i : Heap
    i = with_object h size (record { made = V; stored = xs })

    made : MadeAt p h size V xs
    made = made_at p n h size V xs hf class fresh

    operand : OperandFits p (take (length vs) f.vars) (with_object h size (record { made = V; stored = xs })) s
        (all_views (cut (length vs) f) w) (opd t None)
        (Reference (length h.objects) V)
    operand = record {
      fits = tf;
      bound = λ b e. absurd (no_path b e);
      is_in = in_it i (length h.objects) made.filled;
      real = made.refers;
      path = λ b e. absurd (no_path b e);
      held = λ b c e. absurd (no_path b.var.path e);
    }

    before : Stands p (with_object h size (record { made = V; stored = xs })) f x vs s ops w
    before = stands_later p h i f x vs s ops w made.later a

    with_it : (b : Bool) → OperandsFit p (take (length vs) f.vars) (with_object h size
        (record { made = V; stored = xs })) s
        (all_views (cut (length vs) f) w) (cond b (opd t None ∷ ops) ops)
        (kept b (Reference (length h.objects) V) f.vals)
    with_it true = one operand before.operands
    with_it false = before.operands

    stands : (b : Bool) → Stands p (with_object h size (record { made = V; stored = xs }))
        (record (now (length vs) k f) {
          vals = kept keeps (Reference (length h.objects) V) f.vals;
          keeps = b;
        }) x vs s (cond keeps (opd t None ∷ ops) ops) w
    stands b = stands_on before k b behind (kept keeps r f.vals) (with_it keeps)

    goes_well : GoesAt p h f x vs k (typing s (cond keeps (opd t None ∷ ops) ops))
        (record (now (length vs) k f) { vals = kept keeps (Reference (length h.objects) V) f.vals })
        (with_object h size (record { made = V; stored = xs }))
    goes_well = record {
      later = made.later;
      heap = made.heap;
      stays = stays_on a k f.keeps (kept keeps r f.vals);
      todo = refl;
      stands = record { fresh = w; stands = stands f.keeps };
    }

    calls_well : (b : Body) (c : Name) (z : Header) → IsBody p V c b → IsHeader p b z
        → b.method.params ≡ []
        → CallsAt p h f x vs k (typing s (cond keeps (opd t None ∷ ops) ops))
        (record { class = b.class; method = b.method; vars = z.vars })
        (Reference (length h.objects) V ∷ [])
        (waiting false (now (length vs) k f) (kept keeps (Reference (length h.objects) V) f.vals))
        (with_object h size (record { made = V; stored = xs }))
    calls_well b c z ib ih np = record {
      later = made.later;
      heap = made.heap;
      stays = stays_on a k false (kept keeps r f.vals);
      todo = refl;
      receiver = tt;
      are_in = λ nn. surely (λ u m. absurd (no_variable z.vars u m));
      ready = λ nn ai. surely (body_begins n made.heap V c b z (length h.objects) [] ib ih made.refers made.filled
          (sym none) (ap has_null_path (no_values z.vars)) (λ u m. elim m [ ]) ai);
      kept = λ u j v. refl;
      resumes = λ j v l g. resumed j v l;
    } where
      none : length z.vars ≡ 0
      none = n.param_count b z ih ∙ ap (λ (l : List Param). length l) np

      resumed : (j : Heap) (v : Option Value) → Later (with_object h size (record { made = V; stored = xs })) j
          → StandsAt p j (given v (waiting false (now (length vs) k f)
          (kept keeps (Reference (length h.objects) V) f.vals))) x vs
          (typing s (cond keeps (opd t None ∷ ops) ops))
      resumed j None l = record { fresh = w; stands = stands_later p i j _ x vs s behind w l (stands false) }
      resumed j (Some v) l = record { fresh = w; stands = stands_later p i j _ x vs s behind w l (stands false) }

    wrong : true ≡ false → ⊥
    wrong e = cc

    enters : (b : Body) → IsConstructorBody p V b
        → Sure Q (on_entry p b [] (λ e. on_cells m h size (It
        (Enters e (r ∷ []) (waiting false (now (length vs) k f) (kept keeps r f.vals)) i))))
    enters b ib =
        let c = constructor_named p V b ib in
        let z = header_there p n V c.0 b c.1 in
        let np = no_params b ib in
        sure_if (nat_eq 0 (length b.method.params))
        (λ no. absurd (wrong (sym (eq-eqb 0 (length b.method.params)
        (sym (ap (λ (l : List Param). length l) np))) ∙ no)))
        (λ yes. sure_only (surely (z.0.vars, z.1.params)) (λ A B j l. (finds_one p).params b B A l j) (λ vars iv.
        sure_if (nat_le (h.used + size) m) {Else = ends Arena}
        (λ no. sure_it (Faults Arena) (surely not_stuck_arena))
        (λ yes. sure_it _ (surely (subst (λ (l : List Var). CallsAt p h f x vs k (typing s behind)
        (record { class = b.class; method = b.method; vars = l }) (r ∷ [])
        (waiting false (now (length vs) k f) (kept keeps r f.vals)) i)
        (sym ((finds_one p).params b vars z.0.vars iv z.1.params))
        (calls_well b c.0 z.0 c.1 z.1 np))))))

    constructs_well : Sure Q (constructs p m V [] keeps (now (length vs) k f) f.vals h size xs)
    constructs_well =
        sure_found (sure_if (nat_le (h.used + size) m) {Else = ends Arena}
        (λ no. sure_it (Faults Arena) (surely not_stuck_arena)) (λ yes. sure_it _ (surely goes_well)))
        (λ b ib. enters b ib)

  make_class : Sure (DidAt p h f x vs k (typing s (cond keeps (opd t None ∷ ops) ops)))
      (Does p m (Make term 0 keeps) (now (length vs) k f) h)
  make_class =
      sure_only (surely (V, class_is)) (λ A B j l. (finds_one p).new_class (now (length vs) k f) term B A l j)
      (λ W iw. subst (λ (z : Path). Sure Q (makes p m z [] keeps (now (length vs) k f) f.vals h))
      (sym ((finds_one p).new_class (now (length vs) k f) term W V iw class_is))
      (sure_test (surely class) (λ c.
      sure_only (sizes_there p V class) (λ A B j l. (finds_one p).size V B A l j)
      (λ size si.
      sure_only (n.fields.fresh n.within.formed n.within.named V class)
      (λ A B j l. n.once.fresh V B A l j) (λ xs fresh. constructs_well size xs fresh)))))

-- the class that the term stands for, by the views of the frame
pub new_class_is : {p : Program} {h : Heap} {vs : List Var} {s : Scope} {w : Views} (f : Frame) (k : List Todo)
    (term : Term) (y : Atom) → InScope p h (cut (length vs) f) w vs s → HeaderPaths vs (made_exact y)
    → TermIs p role.New (record { class = f.class; method = f.method.name.name; vars = vs }) term y
    → IsNewClass p (now (length vs) k f) term (atom_at (view_at (frame_views (cut (length vs) f))) y)
new_class_is {p} {vs = vs} f k term y in_scope paths is = record {
  atom = y;
  resolved =
      subst (λ (l : List Var). TermIs p role.New (record { class = f.class; method = f.method.name.name; vars = l })
      term y) (sym in_scope.declared) is;
  seen = made_seen in_scope y paths;
  is = refl;
}

pub make_at : {p : Program} {h : Heap} {f : Frame} {x : Header} {vs : List Var} {s : Scope} {ops : List Opd}
    {w : Views} → Laws p → HeapFits p h → (m : ℕ) (k : List Todo) (term : Term) (keeps : Bool) (y : Atom)
    → TermIs p role.New (record { class = f.class; method = f.method.name.name; vars = vs }) term y
    → NewClass p vs s y → TypeFits s (normal_type s (made_exact y)) → Stands p h f x vs s ops w
    → Sure (DidAt p h f x vs k
    (typing s (cond keeps (opd (normal_type s (made_exact y)) None ∷ ops) ops)))
    (Does p m (Make term 0 keeps) (now (length vs) k f) h)
make_at {p} {f = f} {vs = vs} {s = s} n hf m k term keeps y is new tf a =
    let V : Path = atom_at (view_at (frame_views (cut (length vs) f))) y in
    let class : IsClass p V = made_class a.in_scope y new.paths new.class in
    make_class n hf m k term keeps (normal_type s (made_exact y)) V
    (new_class_is f k term y a.in_scope new.paths is) class
    (constructor_bare n V (bound s y)
    (same_last y.names y.exact (anchor_at (view_at (frame_views (cut (length vs) f))) y.anchor)
    (anchor_at (bound_of s) y.anchor) (made_named p
    (record { class = f.class; method = f.method.name.name; vars = vs }) term y is)) class
    (made_super a.in_scope y new.paths new.class.universe) new.no_params)
    (λ i o filled. made_in a.in_scope y new.paths i o filled) tf a
