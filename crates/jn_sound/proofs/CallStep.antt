-- A call, from one typing to another: what the body that it enters may rely on, and where the caller stands with what
-- comes back.
use Rattle.std.proofs.Common.{◌≡◌, ◌≤◌, ℕ, List, [], ◌∷◌, length, Option, Some, None, Bool, true, false, refl, sym, ap, ◌∙◌, subst, arith, eq-eqb}
use Rattle.std.specs.Prelude.{take, cond, nat_eq}
use Rattle.jn_base.specs.declared.tree.Name.{Name}
use Rattle.jn_base.specs.declared.tree.Program.{Program}
use Rattle.jn_base.specs.declared.types.Ty.{Ty}
use Rattle.jn_base.specs.declared.names.Var.{Var}
use Rattle.jn_base.specs.Paths.{Path}
use Rattle.jn_base.specs.Atoms.{atoms_in, Among}
use Rattle.jn_base.specs.Scopes.{Scope}
use Rattle.jn_base.specs.Fits.{TypeFits}
use Rattle.jn_base.specs.ResolveTypes.{mask_names}
use Rattle.jn_sem.specs.Sets.{Views, no_views}
use Rattle.jn_sem.specs.Values.{Value, Reference, HasField, Masked}
use Rattle.jn_sem.specs.Sharing.{IsClass}
use Rattle.jn_sem.specs.Normal.{swapped}
use Rattle.jn_sem.specs.NormalFunction.{subst_type}
use Rattle.jn_sem.specs.Acts.{Call, Todo}
use Rattle.jn_sem.specs.State.{Heap, Variable, Frame, frame_views, view_in, IsIn, HasValue, with_values, has_null_path}
use Rattle.jn_sem.specs.Run.{frame_of, AreIn}
use Rattle.jn_sem.specs.Does.{Body, IsBody, args_of, on_object, calls, waiting, missing}
use Rattle.jn_sem.specs.Asks.{OnFirst}
use Rattle.jn_sem.proofs.HeapLaws.{heap_laws}
use Rattle.jn_sem.proofs.FindingLaws.{finds_one}
use Rattle.jn_rules.specs.Questions.{masks_of}
use Rattle.jn_rules.specs.Exprs.{replaced_paths}
use Rattle.jn_rules.specs.Stmts.{at_start, is_void}
use Rattle.jn_sound.specs.Takes.{Opd, opd, opds_of, ArgsFit, with_result}
use Rattle.jn_sound.specs.Sound.{HeapFits, InScope, OperandFits, OperandsFit, none as no_opds, one, cut, all_views}
use Rattle.jn_sound.proofs.Laws.{Laws}
use Rattle.jn_sem.specs.Does.{Did, Does}
use Rattle.jn_sem.specs.Run.{given}
use Rattle.jn_sem.specs.LawsOfHeaps.{Later}
use Rattle.jn_sem.specs.Does.{kept}
use Rattle.std.specs.Prelude.{not}
use Rattle.jn_sound.specs.Sound.{LeavesFit, result_views}
use Rattle.jn_rule_laws.specs.LawsOfMembers.{BodyAlike}
use Rattle.jn_sound.specs.Callees.{header_of}
use Rattle.jn_sound.specs.Takes.{Typing, typing}
use Rattle.jn_sound.specs.Sound.{Stands}
use Rattle.jn_sound.specs.Steps.{Begun, CallsAt, DidAt}
use Rattle.jn_sound.proofs.Ways.{surely}
use Rattle.jn_sound.proofs.Safe.{Sure, sure_it, sure_by, sure_only, sure_some, sure_if}
use Rattle.jn_sound.proofs.Stands.{now, stays_on}
use Rattle.jn_sound.proofs.Acts.{ObjectIs, null_is, object_is, object_value, has_atoms, not_stuck_at_null, no_path}
use Rattle.jn_sound.proofs.Frames.{scope_later, operands_later, not_kept}
use Rattle.jn_sound.proofs.GetStep.{stands_on}
use Rattle.jn_sound.proofs.Calls.{PairsFit, no_pairs, Taken, args_taken, take_whole, take_values, count_args, arg_of, args_real, void_subst, inwards, outwards}
use Rattle.jn_sound.proofs.Stands.{same_scope, views_on}
use Rattle.jn_rules.specs.Headers.{Header}
use Rattle.jn_sound.specs.Callees.{Callee, IsCalled}
use Rattle.jn_rule_laws.specs.LawsOfHeaders.{IsHeader}
use Rattle.jn_laws.specs.Reading.{RefersTo, IsReal}
use Rattle.jn_rule_laws.specs.LawsOfMembers.{Alike}
use Rattle.jn_laws.specs.Surely.{Surely}

-- ---- with a result

pub stands_later : (p : Program) (h i : Heap) (f : Frame) (x : Header) (vs : List Var) (s : Scope) (ops : List Opd)
    (w : Views) → Later h i → Stands p h f x vs s ops w → Stands p i f x vs s ops w
stands_later p h i f x vs s ops w l a = record {
  is_header = a.is_header;
  params = a.params;
  all_params = a.all_params;
  in_scope = scope_later p h i (cut (length vs) f) w vs s l a.in_scope;
  operands = operands_later p (take (length vs) f.vars) h i s (all_views (cut (length vs) f) w) ops f.vals l a.operands;
}

pub stands_given : (p : Program) (h : Heap) (f : Frame) (x : Header) (vs : List Var) (s : Scope) (ops : List Opd)
    (w : Views) (t : Ty) (v : Value) → Stands p h f x vs s ops w
    → is_void t ≡ false → OperandFits p (take (length vs) f.vars) h s (all_views (cut (length vs) f) w) (opd t None) v
    → Stands p h
    (given (Some v) f) x vs s (with_result f.keeps t ops) w
stands_given p h f x vs s ops w t v a nv fits = record {
  is_header = a.is_header;
  params = a.params;
  all_params = a.all_params;
  in_scope = same_scope (cut (length vs) f) (kept f.keeps v f.vals) f.todo f.keeps a.in_scope;
  operands = at f.keeps;
} where
  at : (keeps : Bool)
      → OperandsFit p (take (length vs) f.vars) h s (all_views (cut (length vs) f) w) (with_result keeps t ops)
      (kept keeps v f.vals)
  at true =
      subst (λ (b : Bool). OperandsFit p (take (length vs) f.vars) h s (all_views (cut (length vs) f) w) (cond (not b)
      (opd t None ∷ ops) ops)
      (v ∷ f.vals)) (sym nv) (one fits a.operands)
  at false = a.operands

-- where nothing comes back
pub stands_without : (p : Program) (h : Heap) (f : Frame) (x : Header) (vs : List Var) (s : Scope) (ops : List Opd)
    (w : Views) (t : Ty) → Stands p h f x vs s ops w
    → is_void t ≡ true → Stands p h f x vs s (with_result f.keeps t ops) w
stands_without p h f x vs s ops w t a v =
    subst (λ (z : List Opd). Stands p h f x vs s z w) (sym (not_kept f.keeps t ops v)) a

-- ---- the call

pub call_with : {p : Program} {h : Heap} {f : Frame} {x : Header} {vs : List Var} {s : Scope} {before ops : List Opd}
    {w : Views} → Laws p → HeapFits p h
    → (k : List Todo) (keeps : Bool) (q : ℕ) (qs : List ℕ) (args : List Opd) (c : Callee)
    → ArgsFit s (replaced_paths c.vars) (q ∷ qs) c.vars args qs → (is_void c.result ≡ true → keeps ≡ false) →
    TypeFits s (subst_type s (swapped (replaced_paths c.vars) (q ∷ qs)) c.result)
    → Stands p h f x vs s before w → (values others : List Value) → PairsFit p (take (length vs) f.vars) h s
    (all_views (cut (length vs) f) w) args values
    → OperandsFit p (take (length vs) f.vars) h s (all_views (cut (length vs) f) w) ops others → (o : ℕ) (V : Path)
    → all_views
    (cut (length vs) f) w q ≡ Some V → (b : Body) (y : Header) → IsHeader p b y
    → Alike c.vars y.vars → y.result ≡ c.result
    → (has_null_path (frame_of (record { class = b.class; method = b.method; vars = y.vars })
    (Reference o V) values).vars ≡ false
    → AreIn p (frame_of (record { class = b.class; method = b.method; vars = y.vars }) (Reference o V) values) h
    → Begun p h (frame_of (record { class = b.class; method = b.method; vars = y.vars }) (Reference o V) values))
    → CallsAt p h f x vs k (typing s
    (with_result keeps (subst_type s (swapped (replaced_paths c.vars) (q ∷ qs)) c.result) ops))
    (record { class = b.class; method = b.method; vars = y.vars }) (Reference o V ∷ values)
    (waiting keeps (now (length vs) k f) others) h
call_with {p} {h} {f} {x} {vs} {s} {before} {ops} {w} n hf k keeps q qs args c af kf tf a values others pf of o
    V own b y ih al same begins =
    record {
      later = (heap_laws.heaps p).itself h;
      heap = hf;
      stays = stays_on a k keeps others;
      todo = refl;
      receiver = tt;
      are_in = λ nn. surely (λ z m. let g = arg_of c.vars y.vars args qs values af pf al z m in
          inwards y.vars c.vars args qs values q
          (Reference o V) af pf al own positive once nn refl a.in_scope.respects h z.var.ty z.value
          (n.param_paths b y ih z.var g.1) g.0);
      ready = λ nn ai. surely (begins nn ai);
      kept = λ z i v. kf (ap is_void (sym same ∙ ap (λ (u : Header). u.result) (sym (n.header_one b z y i ih))) ∙ v);
      resumes =
          λ j v l g. record {
            fresh = w;
            stands = at j l g.no_null
                (n.header_one b g.header y g.is_header ih) v g.leaves;
          };
    } where
      v : Views
      v = all_views (cut (length vs) f) w

      ty : Ty
      ty = subst_type s (swapped (replaced_paths c.vars) (q ∷ qs)) c.result

      positive : (z : Var) → Among y.vars z → z.path ≡ 0 → ⊥
      positive z m e = n.param_path b y ih z m e

      once : (z u : Var) → Among y.vars z → Among y.vars u → z.path ≡ u.path → z ≡ u
      once = n.param_once b y ih

      new : Frame
      new = frame_of (record { class = b.class; method = b.method; vars = y.vars }) (Reference o V) values

      waits : Frame
      waits = waiting keeps (now (length vs) k f) others

      whole : take (length b.method.params) (with_values y.vars values) ≡ with_values y.vars values
      whole = ap (λ (i : ℕ). take i (with_values y.vars values)) (sym (n.param_count b y ih))
          ∙ take_values y.vars values

      -- the caller in a later heap
      later : (j : Heap) → Later h j → Stands p j waits x vs s ops w
      later j l = stands_later p h j waits x vs s ops w l (stands_on a k keeps ops others of)

      -- what comes back is in the type that the call has
      in_type : has_null_path new.vars ≡ false → (j : Heap) (z : Value) → IsIn p (result_views new) j y.result z
          → IsIn p (all_views (cut (length vs) waits) w) j ty z
      in_type nn j z g = views_on (λ u. IsIn p u j ty z) f (length vs) w k keeps others
          (subst (λ (u : Ty). IsIn p v j (subst_type s (swapped (replaced_paths c.vars) (q ∷ qs)) u) z) same
          (outwards y.vars c.vars args qs values q
          (Reference o V) af pf al own positive once nn refl a.in_scope.respects j y.result z (n.result_paths b y ih)
          (subst (λ (X : List Variable). IsIn p (frame_views (record new { vars = X })) j y.result z) whole g)))

      void : is_void y.result ≡ is_void ty
      void = ap is_void same ∙ void_subst s (swapped (replaced_paths c.vars) (q ∷ qs)) c.result

      at : (j : Heap) → Later h j → has_null_path new.vars ≡ false → {z : Header} → z ≡ y → (u : Option Value)
          → LeavesFit p j new z u → Stands p j (given u waits) x vs s (with_result keeps ty ops) w
      at j l nn e None g =
          stands_without p j waits x vs s ops w ty (later j l)
          (sym void ∙ subst (λ (z : Header). is_void z.result ≡ true) e g)
      at j l nn e (Some u) g =
          stands_given p j waits x vs s ops w ty u (later j l)
          (sym void ∙ subst (λ (z : Header). is_void z.result ≡ false) e g.0)
          (record {
            fits = tf;
            bound = λ i j. absurd (no_path i j);
            is_in = in_type nn j u
                (subst (λ (z : Header). IsIn p (result_views new) j z.result u) e g.1);
            real = g.2;
            path = λ i j. absurd (no_path i j);
            held = λ i c j. absurd (no_path i.var.path j);
          })

call_enters : {p : Program} {h : Heap} {f : Frame} {x : Header} {vs : List Var} {s : Scope} {before ops : List Opd}
    {w : Views} → Laws p → HeapFits p h
    → (k : List Todo) (name : Name) (keeps : Bool) (q : ℕ) (qs : List ℕ) (args : List Opd) (c : Callee)
    → ArgsFit s (replaced_paths c.vars) (q ∷ qs) c.vars args qs → (is_void c.result ≡ true → keeps ≡ false) →
    TypeFits s (subst_type s (swapped (replaced_paths c.vars) (q ∷ qs)) c.result)
    → Stands p h f x vs s before w → (values others : List Value) → PairsFit p (take (length vs) f.vars) h s
    (all_views (cut (length vs) f) w) args values
    → OperandsFit p (take (length vs) f.vars) h s (all_views (cut (length vs) f) w) ops others → (o : ℕ) (V : Path)
    → all_views
    (cut (length vs) f) w q ≡ Some V → RefersTo p h o V
    → ((g : Name) → HasField p V g → HasValue p h o V g) → (b : Body) (y : Header) → IsBody p V name b →
    IsHeader p b y → Alike c.vars y.vars → y.result ≡ c.result
    → CallsAt p h f x vs k (typing s
    (with_result keeps (subst_type s (swapped (replaced_paths c.vars) (q ∷ qs)) c.result) ops))
    (record { class = b.class; method = b.method; vars = y.vars }) (Reference o V ∷ values)
    (waiting keeps (now (length vs) k f) others) h
call_enters {p} {h} {f} {x} {vs} {s} {before} {ops} {w} n hf k name keeps q qs args c af kf tf a values others pf of o
    V own r filled b y ib ih al same =
    call_with n hf k keeps q qs args c af kf tf a values others pf of o V own b y ih al same begins where
      new : Frame
      new = frame_of (record { class = b.class; method = b.method; vars = y.vars }) (Reference o V) values

      count : length b.method.params ≤ length y.vars
      count = omega (arith, n.param_count b y ih)

      begins : has_null_path new.vars ≡ false → AreIn p new h → Begun p h new
      begins nn ai = record {
        heap = hf;
        view = V;
        name = name;
        class = r.related.other;
        is_body = ib;
        header = y;
        todo = refl;
        stands = record {
          fresh = no_views;
          stands = record {
            is_header = ih;
            params = take_whole y.vars (length b.method.params) (n.param_count b y ih);
            all_params = count;
            in_scope =
                subst (λ (X : List Variable). InScope p h (record new { vars = X }) no_views y.vars
                (at_start b y).scope)
                (sym (take_values y.vars values))
                (n.entry h V name b y o values ib ih r filled (count_args c.vars y.vars args qs values af pf al) nn
                (λ z m. args_real args values pf z m) ai);
            operands = no_opds;
          };
        };
      }

-- which body is entered: one with the signature of the typing's
pub method_known : {p : Program} {h : Heap} {f : Frame} {x : Header} {vs : List Var} {s : Scope}
    {before ops : List Opd} {w : Views} → Laws p → (name : Name) (count : ℕ) (t : Ty) (q : Option ℕ) (args : List Opd)
    (c : Callee)
    → IsCalled p s t name c → opds_of count [] before ≡ Some (args, opd t q ∷ ops) → Stands p h f x vs s before w
    → (values us : List Value) (o : ℕ) (V : Path) → args_of count [] f.vals ≡ Some (values, Reference o V ∷ us) →
    Surely (BodyAlike p V name (header_of c))
method_known {p} {h} {f} {x} {vs} {s} {before} {ops} {w} n name count t q args c i e a values us o V av =
    at got.others (others (got.values, got.others) (values, Reference o V ∷ us) (sym got.are ∙ av)) got.fit where
      v : Views
      v = all_views (cut (length vs) f) w

      got : Taken p (take (length vs) f.vars) h s v count [] f.vals args (opd t q ∷ ops)
      got = args_taken p (take (length vs) f.vars) h s v count [] [] before f.vals args
          (opd t q ∷ ops) e no_pairs a.operands

      others : (y z : List Value × List Value) → Some y ≡ Some z → y.1 ≡ z.1
      others y z e = let g : y ≡ z = cc in ap (λ (u : List Value × List Value). u.1) g

      of_value : RefersTo p h o V → ObjectIs p h v t (Reference o V) → Surely (BodyAlike p V name (header_of c))
      of_value r (object_is it g) =
          n.signatures V c.bound name c r.related.other
          (n.method_class s v t name c V a.in_scope.binds a.in_scope.respects i it) refl i.callee

      at_first : OperandsFit p (take (length vs) f.vars) h s v (opd t q ∷ ops) (Reference o V ∷ us)
          → Surely (BodyAlike p V name (header_of c))
      at_first (one j r) =
          of_value j.real (object_value p h v t (Reference o V) (has_atoms t (atoms_in t) i.at refl) j.is_in)

      at : (zs : List Value) → zs ≡ Reference o V ∷ us → OperandsFit p (take (length vs) f.vars) h s v
          (opd t q ∷ ops) zs
          → Surely (BodyAlike p V name (header_of c))
      at zs e g = at_first (subst (OperandsFit p (take (length vs) f.vars) h s v (opd t q ∷ ops)) e g)

-- where the receiver is null the run ends; else the body at its view is entered
pub call_at : {p : Program} {h : Heap} {f : Frame} {x : Header} {vs : List Var} {s : Scope} {before ops : List Opd}
    {w : Views} → Laws p → HeapFits p h
    → (m : ℕ) (k : List Todo) (name : Name) (count : ℕ) (keeps : Bool) (t : Ty) (q : ℕ) (qs : List ℕ)
    (args : List Opd) (c : Callee)
    → IsCalled p s t name c → ((g : Name) → Masked (mask_names p) (masks_of t) g → ⊥) → opds_of count [] before ≡ Some
    (args, opd t (Some q) ∷ ops)
    → ArgsFit s (replaced_paths c.vars) (q ∷ qs) c.vars args qs → (is_void c.result ≡ true → keeps ≡ false) →
    TypeFits s (subst_type s (swapped (replaced_paths c.vars) (q ∷ qs)) c.result)
    → Stands p h f x vs s before w
    → Sure (DidAt p h f x vs k (typing s
    (with_result keeps (subst_type s (swapped (replaced_paths c.vars) (q ∷ qs)) c.result) ops)))
    (Does p m (Call name count keeps) (now (length vs) k f) h)
call_at {p} {h} {f} {x} {vs} {s} {before} {ops} {w} n hf m k name count keeps t q qs args c i free e af kf tf a =
    sure_some (args_of count [] f.vals) missing
    (λ (z : List Value × List Value). OnFirst z.1 missing
    (λ r us. on_object r (λ o V. calls p V name r z.0 (waiting keeps (now (length vs) k f) us) h)))
    (got.values, got.others) got.are (at got.others got.fit) where
      v : Views
      v = all_views (cut (length vs) f) w

      tau : Typing
      tau = typing s (with_result keeps (subst_type s (swapped (replaced_paths c.vars) (q ∷ qs)) c.result) ops)

      Q : Did → Type 0
      Q = DidAt p h f x vs k tau

      got : Taken p (take (length vs) f.vars) h s v count [] f.vals args (opd t (Some q) ∷ ops)
      got = args_taken p (take (length vs) f.vars) h s v count [] [] before f.vals args (opd t
          (Some q) ∷ ops) e no_pairs a.operands

      at_value : (r : Value) (us : List Value) → v q ≡ view_in r → IsReal p h r → ObjectIs p h v t r
          → OperandsFit p (take (length vs) f.vars) h s v ops us
          → Sure Q (on_object r (λ o V. calls p V name r got.values (waiting keeps (now (length vs) k f) us) h))
      at_value _ us own rl null_is others = sure_it _ (surely not_stuck_at_null)
      at_value _ us own rl (object_is {o = o} {V = V} it g) others =
          sure_by (n.signatures V c.bound name c class
          (n.method_class s v t name c V a.in_scope.binds a.in_scope.respects i it) refl i.callee) (λ sig.
          sure_only (surely (sig.body, sig.is_body)) (λ A B j l. n.body_one V name B A class l j) (λ b ib.
          let same : b ≡ sig.body = n.body_one V name b sig.body class ib sig.is_body in
          let ih : IsHeader p b sig.header = subst (λ (z : Body). IsHeader p z sig.header) (sym same) sig.is_header in
          let enough : length got.values ≡ length b.method.params =
          count_args c.vars sig.header.vars args qs got.values af got.pairs sig.same ∙
          n.param_count b sig.header ih in
          sure_if (nat_eq (length got.values) (length b.method.params))
          (λ no. absurd (wrong (sym (eq-eqb _ _ enough) ∙ no))) (λ yes.
          sure_only (surely (sig.header.vars, ih.params)) (λ A B j l. (finds_one p).params b B A l j) (λ vars iv.
          let is : vars ≡ sig.header.vars = (finds_one p).params b vars sig.header.vars iv ih.params in
          sure_it _ (surely (subst (λ (z : List Var). CallsAt p h f x vs k tau
          (record { class = b.class; method = b.method; vars = z }) (Reference o V ∷ got.values)
          (waiting keeps (now (length vs) k f) us) h) (sym is)
          (call_enters n hf k name keeps q qs args c af kf tf a got.values us got.pairs others o V own rl
          (λ z has. g z has (free z)) b sig.header ib ih sig.same sig.result))))))) where
            class : IsClass p V
            class = rl.related.other

            wrong : true ≡ false → ⊥
            wrong e = cc

      at : (us : List Value) → OperandsFit p (take (length vs) f.vars) h s v (opd t (Some q) ∷ ops) us
          → Sure Q (OnFirst us missing (λ r ws. on_object r
          (λ o V. calls p V name r got.values (waiting keeps (now (length vs) k f) ws) h)))
      at _ (one {x = r} {vs = us} j others) =
          at_value r us (j.path q refl) j.real
          (object_value p h v t r (has_atoms t (atoms_in t) i.at refl) j.is_in) others
