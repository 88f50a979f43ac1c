-- Each act with a rule leads from its context to the one behind it.
use Rattle.std.proofs.Common.{◌≡◌, ℕ, List, [], ◌∷◌, length, Option, Some, None, Bool, true, false, refl, sym, subst}
use Rattle.jn_steps.specs.Steps.{Goes, Enters, Leaves, Falls, Faults}
use Rattle.jn_base.specs.declared.tree.Expr.{Expr}
use Rattle.jn_base.specs.declared.tree.Stmt.{Stmt}
use Rattle.jn_base.specs.declared.tree.Method.{Method}
use Rattle.jn_base.specs.declared.tree.Program.{Program}
use Rattle.jn_base.specs.declared.tree.TypeTerm.{TypeTerm}
use Rattle.jn_base.specs.declared.types.Ty.TheVariants as ty
use Rattle.jn_base.specs.declared.names.Var.{Var}
use Rattle.jn_base.specs.Paths.{Path}
use Rattle.jn_base.specs.Scopes.{Scope}
use Rattle.jn_code.specs.declared.image.Image.{Image}
use Rattle.jn_code.specs.declared.image.Code.{Code}
use Rattle.jn_sem.specs.Values.{Value}
use Rattle.jn_sem.specs.Acts.{Act, Decide, Choose, Repeat, Return, Todo, todo}
use Rattle.jn_sem.specs.State.{Heap, Frame}
use Rattle.jn_sem.specs.Does.{Did, same_truth, chosen, repeated, returns_none}
use Rattle.jn_sem.specs.Run.{acting, given}
use Rattle.jn_laws.specs.Surely.{Surely}
use Rattle.jn_rules.specs.Headers.{Header}
use Rattle.jn_rules.specs.Stmts.{body_in, is_void}
use Rattle.jn_sound.specs.Takes.{Opd, opd, Typing, typing, Moves, Takes}
use Rattle.jn_sound.specs.Sound.{Stays, GivesBack, body_of, DidFit}
use Rattle.jn_sound.specs.Steps.{Standing, DidAt}
use Rattle.jn_sound.proofs.Laws.{Laws}
use Rattle.jn_sound.proofs.Ways.{surely, and_so}
use Rattle.jn_sound.proofs.Frames.{stays_joined}
use Rattle.jn_sound.proofs.Stands.{now}
use Rattle.jn_sound.proofs.Steps.{takes_did, standing_moves, standing_leaves, standing_ends}
use Rattle.jn_sound.proofs.Decides.{todo_decided, typing_decided, decide_did, choose_did, repeat_did}
use Rattle.jn_sound.proofs.Returns.{return_fits}
use Rattle.jn_agree.specs.Naming.{Naming}
use Rattle.jn_node_laws.specs.Cont.{Led, LeadsTo, LeadsByTruth, either}
use Rattle.jn_place_laws.specs.Contexts.{Context, context, Stood, known, in_body, site_at}
use Rattle.jn_place_laws.proofs.Stable.{sure_nat}
use Rattle.jn_place_laws.proofs.Entries.{AsMany, as_many, Over, return_over}

-- with what came back
stays_given : (p : Program) (f : Frame) (v : Option Value) → Stays p f (given v f)
stays_given p f None = record { class = refl; method = refl; result = λ x i v h k. k }
stays_given p f (Some v) = record { class = refl; method = refl; result = λ x i v h k. k }

module _ (p : Program) (laws : Laws p) (i : Image) (n : Naming) (m : ℕ) (code : ℕ) (it : Code) (r : Frame)
    (hd : Header) where
  abbrev LedTo : Context → Did → Type 0
  LedTo = Led p i n m (known p) Context (Stood p r hd) code it r

  abbrev Leads : List Var → Act → List Todo → Context → Context → Type 0
  Leads vs act k u t = LeadsTo p i n m (known p) Context (Stood p r hd) code it r (site_at r hd vs) act k u t

  abbrev LeadsBy : List Var → Act → List Todo → Context → (Bool → Context) → Type 0
  LeadsBy vs act k u t = LeadsByTruth p i n m (known p) Context (Stood p r hd) code it r (site_at r hd vs) act k u t

  -- what an act does as soundness says leads to the context behind it
  led : (f : Frame) (h : Heap) (vs us : List Var) (t z : Typing) (k : List Todo) (d : Did)
      → Surely (Standing p r hd vs t f h × DidAt p h f hd us k z d) → Surely (AsMany d) → LedTo (context us z) d
  led f h vs us t z k (Goes g y bytes) s long = and_so s (λ a. surely (record {
    heap = a.1.heap;
    stays = stays_joined p r f g a.0.stays a.1.stays;
    no_null = a.0.no_null;
    at = a.1.stands;
  }))
  led f h vs us t z k (Enters e [] g y) s long = absurd (s (λ a. a.1.receiver))
  led f h vs us t z k (Enters e (o ∷ args) g y) s long = (
    record { long = sure_nat _ _ long; ready = λ nn ai. and_so s (λ a. a.1.ready nn ai) },
    λ j v later back. and_so s (λ a. and_so back (λ b. surely (record {
      heap = b.heap;
      stays = stays_joined p r g (given v g) (stays_joined p r f g a.0.stays a.1.stays) (stays_given p g v);
      no_null = a.0.no_null;
      at = a.1.resumes j v later b;
    }))),
  )
  led f h vs us t z k (Leaves v y) s long = and_so s (λ a. surely (standing_leaves a.0 a.1))
  led f h vs us t z k Falls s long = tt
  led f h vs us t z k (Faults o) s long = tt

  -- a rule of the body is one of the frame's, which has the same body
  takes_here : (f : Frame) (vs us : List Var) (act : Act) (t z : Typing) → Stays p r f
      → Takes p (in_body r hd) vs act t us z → Takes p (body_in (body_of f) hd) vs act t us z
  takes_here f vs us act t z s c =
      subst (λ (Q : Path). Takes p (body_in (record { class = Q; method = f.method }) hd) vs act t us z) (sym s.class)
      (subst (λ (y : Method). Takes p (body_in (record { class = r.class; method = y }) hd) vs act t us z)
      (sym s.method) c)

  -- EACH ACT THAT HAS A RULE
  pub acts_lead : (vs us : List Var) (act : Act) (k : List Todo) (t z : Typing) → Takes p (in_body r hd) vs act t us z
      → Leads vs act k (context vs t) (context us z)
  acts_lead vs us act k t z c f h d st does =
      led f h vs us t z k d
      (and_so st (λ a. and_so ((takes_did laws m k (takes_here f vs us act t z a.stays c) a.heap a.at).each d does)
      (λ x. surely (a, x))))
      ((as_many p m act (acting (todo (length vs) act) k f) h).each d does)

  -- where nothing acts
  pub moves_lead : (vs : List Var) (t z : Typing) → Moves p t z → (f : Frame) (h : Heap)
      → Stood p r hd (context vs t) f h → Stood p r hd (context vs z) f h
  moves_lead vs t z c f h st = and_so st (λ a. surely (standing_moves c a))

  -- ---- two ways

  decided_so : (vs : List Var) (s : Scope) (ops : List Opd) (b : Bool) → context vs (typing_decided s ops b) ≡ either
      (context vs (typing s ops)) (context vs (typing s (opd ty.Bool None ∷ ops))) b
  decided_so vs s ops true = refl
  decided_so vs s ops false = refl

  pub decides : (vs : List Var) (s : Scope) (ops : List Opd) (q : Option ℕ) (and : Bool) (e : Expr) (k : List Todo)
      → LeadsBy vs (Decide and e) k (context vs (typing s (opd ty.Bool q ∷ ops)))
      (λ v. either (context vs (typing s ops)) (context vs (typing s (opd ty.Bool None ∷ ops))) (same_truth and v))
  decides vs s ops q and e k f h d v us st is does =
      subst (λ (c : Context). LedTo c d) (decided_so vs s ops (same_truth and v))
      (led f h vs vs (typing s (opd ty.Bool q ∷ ops)) (typing_decided s ops (same_truth and v))
      (todo_decided (length vs) e k (same_truth and v)) d
      (and_so st (λ a. surely (a, decide_did m and e k q a.heap a.at v us is d does)))
      ((as_many p m (Decide and e) (acting (todo (length vs) (Decide and e)) k f) h).each d does))

  same_either : (c : Context) (b : Bool) → c ≡ either c c b
  same_either c true = refl
  same_either c false = refl

  pub chooses : (vs : List Var) (s : Scope) (ops : List Opd) (q : Option ℕ) (path : ℕ) (one other : List Stmt)
      (k : List Todo) → LeadsBy vs (Choose path one other) k (context vs (typing s (opd ty.Bool q ∷ ops)))
      (either (context vs (typing s ops)) (context vs (typing s ops)))
  chooses vs s ops q path one other k f h d v us st is does =
      subst (λ (c : Context). LedTo c d) (same_either (context vs (typing s ops)) v)
      (led f h vs vs (typing s (opd ty.Bool q ∷ ops)) (typing s ops)
      (chosen (now (length vs) k f) path one other v) d
      (and_so st (λ a. surely (a, choose_did m path one other k q a.heap a.at v us is d does)))
      ((as_many p m (Choose path one other) (acting (todo (length vs) (Choose path one other)) k f) h).each d does))

  pub repeats : (vs : List Var) (s : Scope) (ops : List Opd) (q : Option ℕ) (path : ℕ) (e : Expr) (body : List Stmt)
      (k : List Todo) → LeadsBy vs (Repeat path e body) k (context vs (typing s (opd ty.Bool q ∷ ops)))
      (either (context vs (typing s ops)) (context vs (typing s ops)))
  repeats vs s ops q path e body k f h d v us st is does =
      subst (λ (c : Context). LedTo c d) (same_either (context vs (typing s ops)) v)
      (led f h vs vs (typing s (opd ty.Bool q ∷ ops)) (typing s ops)
      (repeated (now (length vs) k f) path e body v) d
      (and_so st (λ a. surely (a, repeat_did m path e body k q a.heap a.at v us is d does)))
      ((as_many p m (Repeat path e body) (acting (todo (length vs) (Repeat path e body)) k f) h).each d does))

  -- ---- the body ends

  returned : (f : Frame) (h : Heap) (vs : List Var) (t : Typing) (z : Context) (d : Did)
      → Surely (Standing p r hd vs t f h × DidFit p h f d) → Surely (Over d) → LedTo z d
  returned f h vs t z (Goes g y bytes) s over = absurd (over (λ o. o))
  returned f h vs t z (Enters e args g y) s over = absurd (over (λ o. o))
  returned f h vs t z (Leaves v y) s over = and_so s (λ a. surely (standing_leaves a.0 a.1))
  returned f h vs t z Falls s over = tt
  returned f h vs t z (Faults o) s over = tt

  pub returns_lead : (vs : List Var) (s : Scope) (ops : List Opd) (q : Option ℕ) (k : List Todo) (z : Context)
      → is_void hd.result ≡ false
      → Leads vs (Return true) k (context vs (typing s (opd hd.result q ∷ ops))) z
  returns_lead vs s ops q k z nv f h d st does =
      returned f h vs (typing s (opd hd.result q ∷ ops)) z d
      (and_so st (λ a. and_so ((return_fits laws a.heap m k q nv a.at.stands).each d does) (λ x. surely (a, x))))
      ((return_over p m (acting (todo (length vs) (Return true)) k f) h).each d does)

  pub leaves_lead : (vs : List Var) (t : Typing) (k : List Todo) (z : Context)
      → Leads vs (Return false) k (context vs t) z
  leaves_lead vs t k z f h d st does = at f.method.result refl does where
    at : (o : Option TypeTerm) → f.method.result ≡ o → returns_none o h d → LedTo z d
    at None e is = subst (LedTo z) (sym is) (and_so st (λ a. surely (standing_ends a e)))
    at (Some t) e is = subst (LedTo z) (sym is) tt

  -- the free end
  pub ends_lead : (c : Context) (f : Frame) (h : Heap) → Stood p r hd c f h → f.method.result ≡ None
      → Surely (GivesBack p r h None)
  ends_lead c f h st none = and_so st (λ a. surely (standing_ends a none))
