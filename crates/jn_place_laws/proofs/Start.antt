-- What typing says of the start.
use Rattle.std.proofs.Common.{◌≡◌, ℕ, List, [], ◌∷◌, length, Option, Some, None, refl, sym, ap, ◌∙◌, subst}
use Rattle.std.specs.Prelude.{codes}
use Rattle.jn_steps.specs.Steps.{Goes, Enters, Leaves, Falls, Faults}
use Rattle.jn_base.specs.declared.tree.Name.{Name}
use Rattle.jn_base.specs.declared.tree.Param.{Param}
use Rattle.jn_base.specs.declared.tree.TypeTerm.{TypeTerm}
use Rattle.jn_base.specs.declared.tree.Program.{Program}
use Rattle.jn_base.specs.declared.types.Ty.TheVariants as ty
use Rattle.jn_base.specs.declared.names.Var.{Var}
use Rattle.jn_base.specs.Paths.{Path}
use Rattle.jn_code.specs.declared.image.Image.{Image}
use Rattle.jn_code.specs.declared.image.Code.{Code}
use Rattle.jn_code.specs.declared.image.Shape.{Shape}
use Rattle.jn_sem.specs.Values.{Value, Reference}
use Rattle.jn_sem.specs.Acts.{Begin, Open, todo}
use Rattle.jn_sem.specs.State.{Heap, Frame}
use Rattle.jn_sem.specs.Does.{Body, IsBody, Did, args_of}
use Rattle.jn_sem.specs.Run.{acting, start_frame}
use Rattle.jn_laws.specs.Surely.{Surely}
use Rattle.jn_rule_laws.specs.LawsOfHeaders.{ResultIs}
use Rattle.jn_rule_laws.proofs.SameSignatures.{signatures}
use Rattle.jn_sound.proofs.Laws.{Laws}
use Rattle.jn_sound.proofs.Start.{header_there}
use Rattle.jn_sound.proofs.Frames.{start_sound}
use Rattle.jn_sound.proofs.Ways.{surely, and_so}
use Rattle.jn_agree.specs.Naming.{Naming}
use Rattle.jn_agree.specs.Rows.{result_kind}
use Rattle.jn_agree.specs.Places.{StartAt}
use Rattle.jn_node_laws.specs.Cont.{Led}
use Rattle.jn_node_laws.specs.Facts.{CallsBody}
use Rattle.jn_node_laws.specs.LawsOfEntries.{StartTyped}
use Rattle.jn_place_laws.specs.Contexts.{known}
use Rattle.jn_place_laws.proofs.Stable.{sure_nat, sure_nats}
use Rattle.jn_place_laws.proofs.Calls.{kinds_of, has_shape}
use Rattle.jn_place_laws.proofs.Begins.{MadeMain, Stage, before, made, over, StandsAt, Leads, leads_stable, begin_sure, open_sure}

no_vars : (xs : List Var) → length xs ≡ 0 → xs ≡ []
no_vars [] e = refl
no_vars (x ∷ xs) e = cc

module _ (p : Program) (n : Laws p) (i : Image) (names : Naming) (m : ℕ) (code : ℕ) (it : Code) where
  led : (t : Stage) (d : Did) → Leads p t d
      → Led p i names m (known p) Stage (StandsAt p) code it start_frame t d
  led t (Goes g h bytes) l = l
  led t (Enters e args g h) l = l
  led t (Leaves v h) l = absurd l
  led t Falls l = tt
  led t (Faults o) l = tt

  -- where the parameters are none, and there is no result
  bare_shape : (V : Path) (name : Name) (b : Body) (s : Shape) → IsBody p V name b → Surely (b.method.params ≡ [])
      → Surely (b.method.result ≡ None) → s.params ≡ [] → s.result ≡ 0 → CallsBody p b s
  bare_shape V name b s ib params result none void =
      let y = header_there p n V name b ib in
      has_shape p n b y.0 s y.1
      (sure_nats s.params (kinds_of y.0.vars) (and_so params (λ e. surely
      (none ∙ ap (λ (xs : List Var). kinds_of xs)
      (sym (no_vars y.0.vars (n.param_count b y.0 y.1 ∙ ap (λ (l : List Param). length l) e)))))))
      (sure_nat s.result (result_kind y.0.result) (and_so result (λ e. surely
      (void ∙ ap result_kind (sym (subst (λ (o : Option TypeTerm). ResultIs p b y.0.vars o y.0.result) e
      y.1.result))))))

  -- a constructor has no result, whatever is written
  constructor_shape : (C : Name) (b : Body) (s : Shape) → IsBody p (C ∷ []) C b → C ≡ n.passes.main.main_class
      → s.params ≡ [] → s.result ≡ 0 → CallsBody p b s
  constructor_shape C b s ib is none void =
      let own : IsBody p (n.passes.main.main_class ∷ []) n.passes.main.main_class b =
      subst (λ (D : Name). IsBody p (D ∷ []) D b) is ib in
      let y = header_there p n (n.passes.main.main_class ∷ []) n.passes.main.main_class b own in
      has_shape p n b y.0 s y.1
      (none ∙ ap (λ (xs : List Var). kinds_of xs)
      (sym (no_vars y.0.vars (n.param_count b y.0 y.1
      ∙ ap (λ (l : List Param). length l) (n.passes.main.constructor b own)))))
      (void ∙ ap result_kind (sym ((signatures p n.passes.bodies.once n.passes.bodies.headers.limits.members).void
      (n.passes.main.main_class ∷ []) b y.0 n.passes.main.class own y.1)))

  same_pair : (x y : List Value × List Value) → Some x ≡ Some y → x ≡ y
  same_pair x y e = cc

  pub start_typed : (start : StartAt p names it) → start.shape.result ≡ 0
      → StartTyped p i names m (known p) Stage (StandsAt p) code it start
  start_typed start void = record {
    at_start = before;
    at_main = made;
    at_end = over;
    stands = surely (record { heap = (start_sound p).heap; vals = refl });
    begins = λ f h d st does. led made d (leads_stable p made d (and_so st (λ z.
        (begin_sure n h m (acting (todo 0 Begin) (todo 0 Open ∷ []) f) z.heap z.vals).each d does)));
    opens = λ f h d st does. led over d (leads_stable p over d (and_so st (λ z.
        (open_sure n h m (acting (todo 0 Open) [] f) (record {
          heap = z.heap;
          object = z.object;
          class = z.class;
          vals = z.vals;
          spelled = z.spelled;
          refers = z.refers;
          filled = z.filled;
        })).each d does)));
    gives = λ f h st none. and_so st (λ fits. surely (record {
      heap = fits;
      no_null = refl;
      header = record { vars = []; result = ty.Void };
      is_header = record { params = refl; result = refl };
      leaves = refl;
    }));
    constructor = λ b ib. (constructor_shape start.class b (record { params = []; result = 0 }) ib
        (n.once.spelled (codes "Main") start.class n.passes.main.main_class start.is_class n.passes.main.class_spelled)
        refl refl).shape;
    main = λ f h st args us o V e b ib.
        let same = and_so st (λ a. surely (body_is f h a args us o V e b ib)) in
        bare_shape V start.method b start.shape ib
        (and_so same (λ k. surely (ap (λ (c : Body). c.method.params) k ∙ n.passes.main.no_params)))
        (and_so same (λ k. surely (ap (λ (c : Body). c.method.result) k ∙ n.passes.main.void)))
        start.no_params void;
  } where
    two : (xs ys : List Value) (us zs : List Value)
        → ◌≡◌ {A = Option (List Value × List Value)} (Some (xs, us)) (Some (ys, zs)) → us ≡ zs
    two xs ys us zs e = ap (λ (z : List Value × List Value). z.1) (same_pair (xs, us) (ys, zs) e)

    views : (o q : ℕ) (V W : Path) (us zs : List Value) → Reference o V ∷ us ≡ Reference q W ∷ zs → V ≡ W
    views o q V W us zs e = cc

    body_is : (f : Frame) (h : Heap) → MadeMain p f h → (args us : List Value) (o : ℕ) (V : Path)
        → args_of 0 [] f.vals ≡ Some (args, Reference o V ∷ us) → (b : Body) → IsBody p V start.method b
        → b ≡ n.passes.main.body
    body_is f h a args us o V e b ib =
        let class : a.class ≡ n.passes.main.main_class =
        n.once.spelled (codes "Main") a.class n.passes.main.main_class a.spelled n.passes.main.class_spelled in
        let method : start.method ≡ n.passes.main.main =
        n.once.spelled (codes "main") start.method n.passes.main.main start.is_method n.passes.main.main_spelled in
        let view : V ≡ n.passes.main.main_class ∷ [] =
        views o a.object V (a.class ∷ []) us []
        (sym (two [] args f.vals (Reference o V ∷ us) e) ∙ a.vals)
        ∙ ap (λ (C : Name). C ∷ []) class in
        n.body_one (n.passes.main.main_class ∷ []) n.passes.main.main b n.passes.main.body n.passes.main.class
        (subst (λ (C : Name). IsBody p (n.passes.main.main_class ∷ []) C b) method
        (subst (λ (W : Path). IsBody p W start.method b) view ib)) n.passes.main.is
