-- A new object by a constructor with arguments, from one typing to another.
use Rattle.std.proofs.Common.{◌≡◌, ℕ, List, [], ◌∷◌, ◌+◌, ◌<◌, length, Some, Bool, true, false, refl, sym, ◌∙◌, subst, arith, eq-eqb}
use Rattle.std.specs.Prelude.{cond, nat_eq, nat_le, take}
use Rattle.jn_steps.specs.Steps.{Enters, Faults}
use Rattle.jn_base.specs.declared.tree.Name.{Name}
use Rattle.jn_base.specs.declared.tree.Term.{Term}
use Rattle.jn_base.specs.declared.tree.Program.{Program}
use Rattle.jn_base.specs.declared.names.Role.TheVariants as role
use Rattle.jn_base.specs.declared.names.Var.{Var}
use Rattle.jn_base.specs.declared.types.Ty.{Ty}
use Rattle.jn_base.specs.declared.types.Ty.TheVariants as ty
use Rattle.jn_base.specs.Paths.{Path}
use Rattle.jn_base.specs.Atoms.{Atom, anchor_at, atom_at, Among}
use Rattle.jn_base.specs.Scopes.{Scope, bound_of, bound}
use Rattle.jn_base.specs.Fits.{TypeFits}
use Rattle.jn_sem.specs.Sets.{Views, view_at, InType}
use Rattle.jn_sem.specs.Values.{Value, Reference, HasField}
use Rattle.jn_sem.specs.Sharing.{IsClass}
use Rattle.jn_sem.specs.Normal.{swapped}
use Rattle.jn_sem.specs.NormalFunction.{normal_type, subst_type}
use Rattle.jn_sem.specs.Terms.{TermIs}
use Rattle.jn_sem.specs.Acts.{Make, Todo}
use Rattle.jn_sem.specs.State.{Stored, Heap, Frame, HasValue, IsIn, frame_views, with_object}
use Rattle.jn_sem.specs.Does.{Body, IsConstructorBody, Did, Does, AreFresh, Arena, IsNewClass, constructs, makes, kept, waiting, missing, ends, on_cells, on_entry, args_of}
use Rattle.jn_sem.specs.Asks.{It, OnOnly}
use Rattle.jn_sem.proofs.FindingLaws.{finds_one}
use Rattle.jn_laws.proofs.Universes.{sizes_there}
use Rattle.jn_rules.specs.Exprs.{bind, made_exact, replaced_paths}
use Rattle.jn_rules.specs.Headers.{Header}
use Rattle.jn_sound.specs.Callees.{Callee, header_of}
use Rattle.jn_sound.specs.Takes.{Opd, opd, opds_of, ArgsFit, typing, NewBy, Unused}
use Rattle.jn_sound.specs.Sound.{HeapFits, InScope, OperandFits, OperandsFit, one, cut, all_views, Stands}
use Rattle.jn_sound.specs.Steps.{CallsAt, DidAt}
use Rattle.jn_sound.proofs.Laws.{Laws}
use Rattle.jn_sound.proofs.Ways.{surely}
use Rattle.jn_sound.proofs.Safe.{Sure, sure_it, sure_by, sure_only, sure_some, sure_test, sure_if}
use Rattle.jn_sound.proofs.Stands.{now}
use Rattle.jn_sound.proofs.CallStep.{stands_later, call_with}
use Rattle.jn_sound.proofs.Calls.{PairsFit, no_pairs, Taken, args_taken, same_pair, count_args, args_real}
use Rattle.jn_sound.proofs.Known.{also, view_typed}
use Rattle.jn_sound.proofs.NewObjects.{MadeAt, made_at}
use Rattle.jn_sound.proofs.Start.{body_begins, not_stuck_arena}
use Rattle.jn_sound.proofs.Makes.{constructor_named, new_class_is}
use Rattle.jn_sound.proofs.MadeClass.{ConstructorAlike, made_class, made_super, made_in, made_only, made_named, same_last, constructor_alike}
use Rattle.jn_sound.proofs.FreshPaths.{stands_seen, path_set}

void_fits : (s : Scope) → TypeFits s ty.Void
void_fits s = record { atoms = λ c. absurd c }

void_after : (s : Scope) (f : ℕ → ℕ) (t : Ty) → t ≡ ty.Void → TypeFits s (subst_type s f t)
void_after s f t e = subst (λ (u : Ty). TypeFits s (subst_type s f u)) (sym e) (void_fits s)

constructor_one : {p : Program} → Laws p → (V : Path) → IsClass p V → (b c : Body) → IsConstructorBody p V b
    → IsConstructorBody p V c → b ≡ c
constructor_one n [] class b c i j = absurd i
constructor_one n (C ∷ P) class b c i j = n.body_one (C ∷ P) C b c class i j

module _ {p : Program} {h : Heap} {f : Frame} {x : Header} {vs : List Var} {s : Scope} {before ops : List Opd}
    {w : Views} (n : Laws p) (hf : HeapFits p h) (m : ℕ) (k : List Todo) (term : Term) (count : ℕ) (keeps : Bool)
    (t : Ty) (q : ℕ) (qs : List ℕ) (args : List Opd) (c : Callee) (V : Path)
    (class_is : IsNewClass p (now (length vs) k f) term V) (class : IsClass p V) (own : ConstructorAlike p V
    (header_of c))
    (no_result : c.result ≡ ty.Void)
    (in_it : (j : Heap) (u : Views) → InScope p j (cut (length vs) f) u vs s → (i : Heap) (o : ℕ)
    → ((z : Name) → HasField p V z → HasValue p i o V z)
    → IsIn p (all_views (cut (length vs) f) u) i t (Reference o V))
    (only : (U : Path) → InType p (all_views (cut (length vs) f) w) t U → U ≡ V)
    (mine : Among s (bind q t)) (un : Unused q before) (e : opds_of count [] before ≡ Some (args, ops))
    (af : ArgsFit s (replaced_paths c.vars) (q ∷ qs) c.vars args qs) (tf : TypeFits s t)
    (a : Stands p h f x vs s before w) where
  abbrev behind : List Opd
  behind = cond keeps (opd t (Some q) ∷ ops) ops

  abbrev Q : Did → Type 0
  Q = DidAt p h f x vs k (typing s (cond keeps (opd t (Some q) ∷ ops) ops))

  abbrev r : Value
  r = Reference (length h.objects) V

  got : Taken p (take (length vs) f.vars) h s (all_views (cut (length vs) f) w) count [] f.vals args ops
  got = args_taken p (take (length vs) f.vars) h s (all_views (cut
      (length vs) f) w) count [] [] before f.vals args ops e no_pairs a.operands

  module _ (size : ℕ) (xs : List Stored) (fresh : AreFresh p V xs) where
    abbrev i : Heap
    i = with_object h size (record { made = V; stored = xs })

    made : MadeAt p h size V xs
    made = made_at p n h size V xs hf class fresh

    old : Stands p (with_object h size (record { made = V; stored = xs })) f x vs s before w
    old = stands_later p h i f x vs s before w made.later a

    is_old : IsIn p (all_views (cut (length vs) f) w) (with_object h size (record { made = V; stored = xs }))
        t (Reference (length h.objects) V)
    is_old = in_it h w a.in_scope i (length h.objects) made.filled

    stands : Stands p (with_object h size (record { made = V; stored = xs })) f x vs s before
        (also q (Some V) w)
    stands =
        stands_seen q t V old mine un
        (view_typed p i (all_views (cut (length vs) f) w) t r is_old V refl) class.universe only

    view : all_views (cut (length vs) f) (also q (Some V) w) q ≡ Some V
    view =
        path_set q t V old mine un
        (view_typed p i (all_views (cut (length vs) f) w) t r is_old V refl) class.universe only

    got_on : Taken p (take (length vs) f.vars) (with_object h size (record { made = V; stored = xs })) s
        (all_views (cut (length vs) f) (also q (Some V) w)) count [] f.vals args ops
    got_on = args_taken p (take (length vs) f.vars) i s (all_views (cut (length vs) f) (also q
        (Some V) w)) count [] [] before f.vals
        args ops e no_pairs stands.operands

    same : (got_on.values ≡ got.values) × (got_on.others ≡ got.others)
    same = same_pair (got_on.values, got_on.others) (got.values, got.others) (sym got_on.are ∙ got.are)

    pairs : PairsFit p (take (length vs) f.vars) (with_object h size (record { made = V; stored = xs })) s
        (all_views (cut (length vs) f) (also q (Some V) w)) args got.values
    pairs = subst (λ (l : List Value).
        PairsFit p (take (length vs) f.vars) i s (all_views (cut (length vs) f) (also q (Some V) w)) args l)
        same.0 got_on.pairs

    others : OperandsFit p (take (length vs) f.vars) (with_object h size (record { made = V; stored = xs })) s
        (all_views (cut (length vs) f) (also q (Some V) w)) ops got.others
    others = subst (λ (l : List Value). OperandsFit p (take (length vs) f.vars) i s (all_views (cut (length vs) f)
        (also q (Some V) w))
        ops l) same.1 got_on.fit

    operand : OperandFits p (take (length vs) f.vars) (with_object h size (record { made = V; stored = xs })) s
        (all_views (cut (length vs) f) (also q (Some V) w)) (opd t (Some q))
        (Reference (length h.objects) V)
    operand = record {
      fits = tf;
      bound = λ b j. record { bind = bind q t; among = mine; is = path_is b j };
      is_in = in_it i (also q (Some V) w) stands.in_scope i (length h.objects) made.filled;
      real = made.refers;
      path =
          λ b j. subst (λ (z : ℕ). all_views (cut (length vs) f) (also q (Some V) w) z ≡ Some V)
          (path_is b j) view;
      held = λ z b j. absurd (apart z.var.path (a.in_scope.small z b) (path_is z.var.path j));
    } where
      apart : (n : ℕ) → n < 256 → q ≡ n → ⊥
      apart n l e = omega (arith, un.fresh, l, e)

      path_is : (b : ℕ) → Some q ≡ Some b → q ≡ b
      path_is b j = cc

    with_it : (b : Bool) → OperandsFit p (take (length vs) f.vars) (with_object h size
        (record { made = V; stored = xs })) s
        (all_views (cut (length vs) f) (also q (Some V) w))
        (cond b (opd t (Some q) ∷ ops) ops)
        (kept b (Reference (length h.objects) V) got.others)
    with_it true = one operand others
    with_it false = others

    calls_well : CallsAt p h f x vs k
        (typing s (cond keeps (opd t (Some q) ∷ ops) ops))
        (record { class = own.body.class; method = own.body.method; vars = own.header.vars })
        (Reference (length h.objects) V ∷ got.values)
        (waiting false (now (length vs) k f) (kept keeps (Reference (length h.objects) V) got.others))
        (with_object h size (record { made = V; stored = xs }))
    calls_well =
        let name = constructor_named p V own.body own.is_body in
        let call = call_with {ops = behind} n made.heap k false q qs args c af (λ v. refl)
        (void_after s (swapped (replaced_paths c.vars) (q ∷ qs)) c.result no_result)
        stands got.values (kept keeps r got.others) pairs (with_it keeps) (length h.objects) V view
        own.body own.header own.is_header own.alike own.result
        (λ nn ai. body_begins n made.heap V name.0 own.body own.header (length h.objects) got.values
        name.1 own.is_header made.refers made.filled
        (count_args c.vars own.header.vars args qs got.values af pairs own.alike) nn
        (λ z j. args_real args got.values pairs z j) ai) in
        record {
          later = made.later;
          heap = made.heap;
          stays = call.stays;
          todo = refl;
          receiver = tt;
          are_in = call.are_in;
          ready = call.ready;
          kept = call.kept;
          resumes = call.resumes;
        }

    wrong : true ≡ false → ⊥
    wrong e = cc

    enough : length got.values ≡ length own.body.method.params
    enough = count_args c.vars own.header.vars args qs got.values af pairs own.alike ∙
        n.param_count own.body own.header own.is_header

    enters : Sure Q (on_entry p own.body got.values (λ e. on_cells m h size (It
        (Enters e (r ∷ got.values) (waiting false (now (length vs) k f) (kept keeps r got.others)) i))))
    enters =
        sure_if (nat_eq (length got.values) (length own.body.method.params))
        (λ no. absurd (wrong (sym (eq-eqb _ _ enough) ∙ no)))
        (λ yes. sure_only (surely (own.header.vars, own.is_header.params)) (λ A B j l.
        (finds_one p).params own.body B A l j)
        (λ vars iv.
        sure_if (nat_le (h.used + size) m) {Else = ends Arena}
        (λ no. sure_it (Faults Arena) (surely not_stuck_arena))
        (λ yes. sure_it _ (surely (subst (λ (l : List Var). CallsAt p h f x vs k (typing s behind)
        (record { class = own.body.class; method = own.body.method; vars = l }) (r ∷ got.values)
        (waiting false (now (length vs) k f) (kept keeps r got.others)) i)
        (sym ((finds_one p).params own.body vars own.header.vars iv own.is_header.params)) calls_well)))))

    constructs_well : Sure Q
        (constructs p m V got.values keeps (now (length vs) k f) got.others h size xs)
    constructs_well =
        sure_only (surely (own.body, own.is_body)) (λ A B j l. constructor_one n V class B A l j)
        (λ b ib. subst (λ (z : Body). Sure Q (on_entry p z got.values (λ e. on_cells m h size (It
        (Enters e (r ∷ got.values) (waiting false (now (length vs) k f) (kept keeps r got.others)) i)))))
        (constructor_one n V class own.body b own.is_body ib) enters)

  make_class_with : Sure (DidAt p h f x vs k
      (typing s (cond keeps (opd t (Some q) ∷ ops) ops)))
      (Does p m (Make term count keeps) (now (length vs) k f) h)
  make_class_with =
      sure_some (args_of count [] f.vals) missing
      (λ (z : List Value × List Value). OnOnly (IsNewClass p (now (length vs) k f) term) missing
      (λ V. makes p m V z.0 keeps (now (length vs) k f) z.1 h))
      (got.values, got.others) got.are
      (sure_only (surely (V, class_is))
      (λ A B j l. (finds_one p).new_class (now (length vs) k f) term B A l j)
      (λ W iw. subst (λ (z : Path). Sure Q (makes p m z got.values keeps (now (length vs) k f) got.others h))
      (sym ((finds_one p).new_class (now (length vs) k f) term W V iw class_is))
      (sure_test (surely class) (λ d.
      sure_only (sizes_there p V class) (λ A B j l. (finds_one p).size V B A l j)
      (λ size si.
      sure_only (n.fields.fresh n.within.formed n.within.named V class)
      (λ A B j l. n.once.fresh V B A l j) (λ xs fresh. constructs_well size xs fresh))))))

pub make_with_at : {p : Program} {h : Heap} {f : Frame} {x : Header} {vs : List Var} {s : Scope}
    {before ops : List Opd} {w : Views} → Laws p → HeapFits p h → (m : ℕ) (k : List Todo) (term : Term) (count : ℕ)
    (keeps : Bool) (y : Atom) (q : ℕ) (qs : List ℕ) (args : List Opd) (c : Callee)
    → TermIs p role.New (record { class = f.class; method = f.method.name.name; vars = vs }) term y
    → NewBy p vs s y c → Among s (bind q (normal_type s (made_exact y))) → Unused q before
    → opds_of count [] before ≡ Some (args, ops)
    → ArgsFit s (replaced_paths c.vars) (q ∷ qs) c.vars args qs → TypeFits s (normal_type s (made_exact y))
    → Stands p h f x vs s before w
    → Sure (DidAt p h f x vs k
    (typing s (cond keeps (opd (normal_type s (made_exact y)) (Some q) ∷ ops) ops)))
    (Does p m (Make term count keeps) (now (length vs) k f) h)
make_with_at {p} {f = f} {vs = vs} {s = s} n hf m k term count keeps y q qs args c is new mine un e af tf a =
    let V : Path = atom_at (view_at (frame_views (cut (length vs) f))) y in
    let class : IsClass p V = made_class a.in_scope y new.paths new.class in
    sure_by (constructor_alike n V (bound s y)
    (same_last y.names y.exact (anchor_at (view_at (frame_views (cut (length vs) f))) y.anchor)
    (anchor_at (bound_of s) y.anchor) (made_named p
    (record { class = f.class; method = f.method.name.name; vars = vs }) term y is)) class
    (made_super a.in_scope y new.paths new.class.universe) c.body (header_of c) new.body new.header) (λ own.
    make_class_with n hf m k term count keeps (normal_type s (made_exact y)) q qs args c V
    (new_class_is f k term y a.in_scope new.paths is) class own new.no_result
    (λ j u st i o filled. made_in st y new.paths i o filled)
    (λ U i. made_only a.in_scope y new.paths U i) mine un e af tf a)
