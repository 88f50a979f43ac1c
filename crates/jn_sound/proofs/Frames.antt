-- The frame of the proof: where each act fits, each charge of a sound state leads to a sound state and is never stuck.
use Rattle.std.proofs.Common.{◌≡◌, ◌≢◌, ℕ, zero, suc, List, [], ◌∷◌, ◌++◌, length, Option, Some, None, Bool, true, false, refl, sym, ◌∙◌, subst}
use Rattle.std.specs.Prelude.{cond, not, nat_lt}
use Rattle.jn_steps.specs.Runs.{On, End, Report}
use Rattle.jn_steps.specs.Steps.{Goes, Enters, Leaves, Falls, Faults}
use Rattle.jn_base.specs.declared.tree.TypeTerm.{TypeTerm}
use Rattle.jn_base.specs.declared.tree.Method.{Method}
use Rattle.jn_base.specs.declared.tree.Program.{Program}
use Rattle.jn_base.specs.declared.types.Ty.{Ty}
use Rattle.jn_base.specs.declared.names.Var.{Var}
use Rattle.jn_base.specs.Scopes.{Scope}
use Rattle.jn_sem.specs.declared.outcome.Outcome.{Outcome}
use Rattle.jn_sem.specs.declared.outcome.Outcome.TheVariants as outcome
use Rattle.jn_sem.specs.declared.outcome.Why.{Why}
use Rattle.jn_sem.specs.declared.outcome.Why.TheVariants as why
use Rattle.jn_base.specs.Paths.{Path}
use Rattle.jn_base.specs.declared.tree.Name.{Name}
use Rattle.jn_sem.specs.Sharing.{Related}
use Rattle.jn_sem.specs.Slots.{Slot}
use Rattle.jn_sem.specs.Sets.{Views}
use Rattle.jn_sem.specs.Values.{Value, Number, Truth, Null, Reference}
use Rattle.jn_sem.specs.Asks.{OnTest, holds, fails, OnIf, It}
use Rattle.jn_sem.specs.Acts.{Todo}
use Rattle.std.specs.Prelude.{slice_get, IsSome}
use Rattle.std.specs.Option.{option_map, option_and_then}
use Rattle.jn_sem.specs.State.{Variable, Object, stored_value, slot_value, Heap, Frame, has_null_path, HasValue}
use Rattle.jn_sem.specs.Does.{Ending, Ends, AtNull, Zero, Arena, Depth, Stuck, Entry, Did, Does, kept}
use Rattle.jn_sem.specs.Run.{Charged, Running, Then, over, ended, settled_at, settled, given, given_first, frame_of, AreIn, begins, enters, proceeds, acting, charged, frames_charged, Charge, start, shown, outcome_of, Run, resumed as resumes_next}
use Rattle.jn_steps.specs.Reports.{Reports}
use Rattle.jn_sem.specs.LawsOfHeaps.{Later, GrownAt}
use Rattle.jn_sem.proofs.HeapLaws.{heap_laws}
use Rattle.jn_rules.specs.Stmts.{In, body_in, is_void}
use Rattle.jn_sound.specs.Takes.{Opd, opd, with_result}
use Rattle.jn_sound.specs.Fit.{Fits, ends, acts, moves, narrows, settles as settles_fits, decide, choose, repeat, return, leave}
use Rattle.jn_sound.specs.Takes.{Typing}
use Rattle.jn_sound.specs.Sound.{StandsAt, GivesBack, HeapFits, ThisFits, InScope, OperandsFit, none, one, all_views, body_of, Works, Waits, Starts, before, made, over as start_over, Waiting, starts, waits, FramesFit, start as start_fits, work, Sound, NotStuck, Stays, EntersFit, LeavesFit, EntersWith, DidFit, SoundThen}
use Rattle.jn_sound.proofs.Laws.{Laws}
use Rattle.jn_sound.proofs.Ways.{surely, and_so}
use Rattle.jn_rules.specs.Headers.{Header}
use Rattle.jn_rule_laws.specs.LawsOfHeaders.{IsHeader, ResultIs}
use Rattle.jn_laws.specs.Surely.{Surely}
use Rattle.jn_laws.specs.Reading.{RefersTo, IsReal}

-- ---- in a later heap

pub real_later : (p : Program) (h i : Heap) (v : Value) → Later h i → IsReal p h v → IsReal p i v
real_later p h i (Number z) l r = tt
real_later p h i (Truth b) l r = tt
real_later p h i Null l r = tt
real_later p h i (Reference o V) l r =
    let g = l.objects o r.object r.at in
    record { object = g.object; at = g.at; related = subst (λ (M : Path). Related p M V) (sym g.grows.made) r.related }

found_later : (i : Heap) (o : ℕ) (s : Slot) (x : Object) → GrownAt i o x → IsSome (stored_value x.stored s)
    → IsSome (slot_value i o s)
found_later i o s x g v =
    subst (λ (y : Option Object). IsSome (option_and_then (λ (z : Object). stored_value z.stored s) y)) (sym g.at)
    (g.grows.values s v)

slot_later : (h i : Heap) (o : ℕ) (s : Slot) → Later h i → IsSome (slot_value h o s) → IsSome (slot_value i o s)
slot_later h i o s l v = at (slice_get h.objects o) refl v where
  at : (y : Option Object) → slice_get h.objects o ≡ y
      → IsSome (option_and_then (λ (z : Object). stored_value z.stored s) y) → IsSome (slot_value i o s)
  at None e w = absurd (not_none w) where
    not_none : IsSome (option_map (λ (z : Object). z) None) → ⊥
    not_none k = cc
  at (Some x) e w = found_later i o s x (l.objects o x e) w

filled_later : (p : Program) (h i : Heap) (o : ℕ) (V : Path) (f : Name) → Later h i → HasValue p h o V f
    → HasValue p i o V f
filled_later p h i o V f l k = record { slot = k.slot; is_slot = k.is_slot; has = slot_later h i o k.slot l k.has }

refers_later : (p : Program) (h i : Heap) (o : ℕ) (V : Path) → Later h i → RefersTo p h o V → RefersTo p i o V
refers_later p h i o V l r = real_later p h i (Reference o V) l r

this_later : (p : Program) (h i : Heap) (f : Frame) → Later h i → ThisFits p h f → ThisFits p i f
this_later p h i f l t = record {
  object = t.object;
  view = t.view;
  is = t.is;
  real = refers_later p h i t.object t.view l t.real;
  super = t.super;
  filled = λ g has. filled_later p h i t.object t.view g l (t.filled g has);
  constraints = t.constraints;
}

pub scope_later : (p : Program) (h i : Heap) (f : Frame) (w : Views) (vs : List Var) (s : Scope) → Later h i
    → InScope p h f w vs s → InScope p i f w vs s
scope_later p h i f w vs s l n = record {
  declared = n.declared;
  binds = n.binds;
  respects = n.respects;
  values = λ x b a c e. (heap_laws.heaps p).types (all_views f w) h i b.ty x.value l (n.values x b a c e);
  bound = n.bound;
  real = λ x a. real_later p h i x.value l (n.real x a);
  seen = n.seen;
  small = n.small;
  no_null = n.no_null;
  own = n.own;
  this = this_later p h i f l n.this;
}

pub operands_later : (p : Program) (xs : List Variable) (h i : Heap) (s : Scope) (v : Views) (ops : List Opd)
    (vs : List Value) → Later h i → OperandsFit p xs h s v ops vs → OperandsFit p xs i s v ops vs
operands_later p xs h i s v _ _ l none = none
operands_later p xs h i s v _ _ l (one {o = o} {x = x} a b) =
    one (record {
      fits = a.fits;
      bound = a.bound;
      is_in = (heap_laws.heaps p).types v h i o.ty x l a.is_in;
      real =
          real_later p h i x l a.real;
      path = a.path;
      held = a.held;
    }) (operands_later p xs h i s v _ _ l b)

waits_later : (p : Program) (h i : Heap) (g f : Frame) → Later h i → Waits p h g f → Waits p i g f
waits_later p h i g f l w = record {
  entry = w.entry;
  stays = w.stays;
  no_null = w.no_null;
  header = w.header;
  vars = w.vars;
  typing = w.typing;
  kept = w.kept;
  resumes = λ j v k b. w.resumes j v ((heap_laws.heaps p).joined h i j l k) b;
  fits = w.fits;
}

starts_later : (p : Program) (h i : Heap) (f : Frame) → Later h i → Starts p h f → Starts p i f
starts_later p h i f l (before e v n) = before e v n
starts_later p h i f l (made o M e v n s r g) =
    made o M e v n s (refers_later p h i o (M ∷ []) l r) (λ x has. filled_later p h i o (M ∷ []) x l (g x has))
starts_later p h i f l (start_over e n) = start_over e n

waiting_later : (p : Program) (h i : Heap) (g : Frame) (fs : List Frame) → Later h i → Waiting p h g fs
    → Waiting p i g fs
waiting_later p h i _ _ l (starts {g = g} {f = f} s k) = starts (starts_later p h i f l s) k
waiting_later p h i _ _ l (waits {g = g} {f = f} {fs = fs} w r) =
    waits (waits_later p h i g f l w) (waiting_later p h i f fs l r)

pub same_body : (p : Program) (e f : Frame) → Stays p e f → (x : Header) → IsHeader p (body_of e) x
    → IsHeader p (body_of f) x
same_body p e f a x k = subst (λ (m : Method). IsHeader p (record { class = f.class; method = m }) x) (sym a.method)
    (subst (λ (Q : Path). IsHeader p (record { class = Q; method = e.method }) x) (sym a.class) k)

pub body_back : (p : Program) (e f : Frame) → Stays p e f → (x : Header) → IsHeader p (body_of f) x
    → IsHeader p (body_of e) x
body_back p e f a x k = subst (λ (m : Method). IsHeader p (record { class = e.class; method = m }) x) a.method
    (subst (λ (Q : Path). IsHeader p (record { class = Q; method = f.method }) x) a.class k)

pub stays_joined : (p : Program) (e f g : Frame) → Stays p e f → Stays p f g → Stays p e g
stays_joined p e f g a b =
    record {
      class = b.class ∙ a.class;
      method = b.method ∙ a.method;
      result = λ x i v h k. a.result x i v h
          (b.result x i v (same_body p e f a x h) k);
    }

-- what a frame gives back the body does that was entered
pub gives_back : (p : Program) (h : Heap) (e g : Frame) (v : Option Value) (x : Header) → HeapFits p h
    → Stays p e g → has_null_path e.vars ≡ false → IsHeader p (body_of g) x → LeavesFit p h g x v → GivesBack p e h v
gives_back p h e g v x hf s nn i l =
    record { heap = hf; no_null = nn; header = x; is_header = body_back p e g s x i; leaves = at v l } where
      at : (v : Option Value) → LeavesFit p h g x v → LeavesFit p h e x v
      at None l = l
      at (Some u) l = (l.0, s.result x h u (body_back p e g s x i) l.1, l.2)

-- what waited for a frame waits for the frame that goes on from it
waits_stays : (p : Program) (h : Heap) (f g e : Frame) → Stays p f g → Waits p h f e → Waits p h g e
waits_stays p h f g e s w = record {
  entry = w.entry;
  stays = stays_joined p w.entry f g w.stays s;
  no_null = w.no_null;
  header = w.header;
  vars = w.vars;
  typing = w.typing;
  kept = w.kept;
  resumes = w.resumes;
  fits = w.fits;
}

waiting_stays : (p : Program) (h : Heap) (f g : Frame) (fs : List Frame) → Stays p f g → Waiting p h f fs
    → Waiting p h g fs
waiting_stays p h f g _ s (starts a k) = starts a k
waiting_stays p h f g _ s (waits {f = e} w r) = waits (waits_stays p h f g e s w) r

-- ---- the end of a body

pub no_void : (p : Program) → Laws p → (b : _) (x : Header) → IsHeader p b x → is_void x.result ≡ true
    → b.method.result ≡ None
no_void p n b x h v = at b.method.result refl h.result where
  at : (r : Option TypeTerm) → b.method.result ≡ r → ResultIs p b x.vars r x.result → b.method.result ≡ None
  at None e k = e
  at (Some t) e k = absurd (wrong (is_void x.result) v (n.not_void _ t x.result k)) where
    wrong : (c : Bool) → c ≡ true → c ≡ false → ⊥
    wrong c d f = cc

not_nil : {t : Todo} {k : List Todo} → t ∷ k ≡ [] → ⊥
not_nil e = cc

-- what has nothing to do is at the end of a body without a result
at_end : (p : Program) (b : In) (k : List Todo) (vs : List Var) (s : Scope) (ops : List Opd) → k ≡ []
    → Fits p b k vs s ops → is_void b.result ≡ true
at_end p b _ _ _ _ e (ends v) = v
at_end p b _ _ _ _ e (acts n t f) = absurd (not_nil e)
at_end p b _ _ _ _ e (moves m f) = at_end p b _ _ _ _ e f
at_end p b _ _ _ _ e (narrows n m l o c f) = at_end p b _ _ _ _ e f
at_end p b _ _ _ _ e (settles_fits u q l n o c i f) = at_end p b _ _ _ _ e f
at_end p b _ _ _ _ e (decide and c q n f g) = absurd (not_nil e)
at_end p b _ _ _ _ e (choose path one_side other q n f g) = absurd (not_nil e)
at_end p b _ _ _ _ e (repeat path c body q n t i j f) = absurd (not_nil e)
at_end p b _ _ _ _ e (return q n i) = absurd (not_nil e)
at_end p b _ _ _ _ e (leave n i) = absurd (not_nil e)

pub not_kept : (keeps : Bool) (t : Ty) (ops : List Opd) → is_void t ≡ true → with_result keeps t ops ≡ ops
not_kept true t ops e = subst (λ (b : Bool). cond (not b) (opd t None ∷ ops) ops ≡ ops) (sym e) refl
not_kept false t ops e = refl

-- a frame that waited goes on
pub works_stand : {p : Program} {h : Heap} {f : Frame} {x : Header} {vs : List Var} {t : Typing} (k : List Todo)
    → StandsAt p h f x vs t → Fits p (body_in (body_of f) x) k vs t.scope t.ops → Works p h f k
works_stand {x = x} {vs = vs} {t = t} k a fits = record {
  header = x;
  is_header = a.stands.is_header;
  vars = vs;
  params = a.stands.params;
  all_params = a.stands.all_params;
  scope = t.scope;
  ops = t.ops;
  fresh = a.fresh;
  in_scope = a.stands.in_scope;
  operands = a.stands.operands;
  fits = fits;
}

resumed : (p : Program) (h : Heap) (g f : Frame) → HeapFits p h
    → (w : Waits p h g f) (v : Option Value) (x : Header) → IsHeader p (body_of g) x → LeavesFit p h g x v → Works p h
    (given v f) (given v f).todo
resumed p h g f hf w v x i l =
    at v (w.resumes h v ((heap_laws.heaps p).itself h) (gives_back p h w.entry g v x hf w.stays w.no_null i l)) where
      at : (v : Option Value) → StandsAt p h (given v f) w.header w.vars w.typing
          → Works p h (given v f) (given v f).todo
      at None a = works_stand f.todo a w.fits
      at (Some u) a = works_stand f.todo a w.fits

not_stuck_ends : NotStuck Ends
not_stuck_ends w e = cc

-- the frame that starts the program goes on, or the run ends
pub start_settled : (p : Program) (h : Heap) → HeapFits p h → (f : Frame) (out : List ℕ) → Starts p h f
    → SoundThen p (settled (f ∷ []) h out)
start_settled p h k f out s = here f.todo where
  no_result : Starts p h f → f.method.result ≡ None
  no_result (before e v n) = n
  no_result (made o M e v n s r g) = n
  no_result (start_over e n) = n

  here : (t : List Todo) → SoundThen p (settled_at t f [] h out (over Ends out))
  here (t ∷ ts) = record { heap = k; frames = start_fits s }
  here [] =
      subst (λ (m : Option TypeTerm). SoundThen p (ended m out (over Ends out))) (sym (no_result s)) not_stuck_ends

-- the frames below are settled where the frame at work has ended; `again` does it for those further below
-- the first frame below doesn't wait for a result
not_kept_on : (p : Program) (h : Heap) (out : List ℕ) (fs : List Frame) (g : Frame) → g.keeps ≡ false
    → SoundThen p (settled fs h out)
    → SoundThen p (cond g.keeps (over (Stuck why.Kind) out) (settled fs h out))
not_kept_on p h out fs g e s =
    subst (λ (b : Bool). SoundThen p (cond b (over (Stuck why.Kind) out) (settled fs h out))) (sym e) s

abbrev Settles : Program → Heap → List ℕ → List Frame → Type 0
Settles p h out fs = (f : Frame) → Works p h f f.todo → Waiting p h f fs → SoundThen p (settled (f ∷ fs) h out)

below_settled : (p : Program) → Laws p → (h : Heap) → HeapFits p h
    → (out : List ℕ) (f g : Frame) (gs : List Frame) → Settles p h out gs → (x : Header)
    → IsHeader p (body_of f) x → is_void x.result ≡ true → Waiting p h f (g ∷ gs) → SoundThen p
    (resumes_next None (g ∷ gs) out (settled (g ∷ gs) h out))
below_settled p n h k out f g _ again x i v (starts s m) =
    not_kept_on p h out (g ∷ []) g m (start_settled p h k g out s)
below_settled p n h k out f g gs again x i v (waits w q) =
    not_kept_on p h out (g ∷ gs) g (w.kept x (body_back p w.entry f w.stays x i) v)
    (again g (resumed p h f g k w None x i v) q)

settled_at_all : (p : Program) → Laws p → (h : Heap) → HeapFits p h
    → (out : List ℕ) (g : Frame) (gs : List Frame) → Settles p h out gs → Settles p h out (g ∷ gs)
settled_at_all p n h k out g gs again f w r = here f.todo refl where
  here : (t : List Todo) → f.todo ≡ t
      → SoundThen p (settled_at t f (g ∷ gs) h out (resumes_next None (g ∷ gs) out (settled (g ∷ gs) h out)))
  here (t ∷ ts) e = record { heap = k; frames = work w r }
  here [] e =
      let void : is_void w.header.result ≡ true = at_end p
      (body_in (body_of f) w.header) f.todo w.vars w.scope w.ops e w.fits in
      subst (λ (m : Option TypeTerm). SoundThen p
      (ended m out (resumes_next None (g ∷ gs) out (settled (g ∷ gs) h out))))
      (sym (no_void p n (body_of f) w.header w.is_header void))
      (below_settled p n h k out f g gs again w.header w.is_header void r)

none_waits : {p : Program} {h : Heap} {f : Frame} (fs : List Frame) → fs ≡ [] → Waiting p h f fs → ⊥
none_waits _ e (starts s m) = cc
none_waits _ e (waits w q) = cc

settles : (p : Program) → Laws p → (h : Heap) → HeapFits p h → (out : List ℕ) (fs : List Frame) → Settles p h out fs
settles p n h k out [] f w r = absurd (none_waits [] refl r)
settles p n h k out (g ∷ gs) f w r = settled_at_all p n h k out g gs (settles p n h k out gs) f w r

-- ---- one charge

left_settled : (p : Program) → Laws p
    → (h : Heap) (out : List ℕ) (f : Frame) (fs : List Frame) (v : Option Value) (x : Header) → HeapFits p h
    → IsHeader p (body_of f) x → LeavesFit p h f x v → Waiting p h f fs → SoundThen p
    (resumes_next v fs out (settled (given_first v fs) h out))
left_settled p n h out f _ None x k i g (starts {f = e} s m) =
    not_kept_on p h out (e ∷ []) e m (start_settled p h k e out s)
left_settled p n h out f _ None x k i g (waits {f = e} {fs = fs} w r) =
    not_kept_on p h out (e ∷ fs) e (w.kept x (body_back p w.entry f w.stays x i) g)
    (settles p n h k out fs e (resumed p h f e k w None x i g) r)
left_settled p n h out f _ (Some v) x k i g (starts {f = e} s m) =
    start_settled p h k (given (Some v) e) out (start_given s) where
      start_given : Starts p h e → Starts p h (given (Some v) e)
      start_given (before a b c) = before a (subst (λ (y : Bool). kept y v e.vals ≡ []) (sym m) b) c
      start_given (made o M a b c s r g) =
          made o M a (subst (λ (y : Bool). kept y v e.vals ≡ Reference o (M ∷ []) ∷ []) (sym m) b) c s r g
      start_given (start_over a b) = start_over a b
left_settled p n h out f _ (Some v) x k i g (waits {f = e} {fs = fs} w r) =
    settles p n h k out fs (given (Some v) e) (resumed p h f e k w (Some v) x i g) (given_waits r) where
      given_waits : Waiting p h e fs → Waiting p h (given (Some v) e) fs
      given_waits q =
          waiting_stays p h e (given (Some v) e) fs (record { class = refl; method = refl; result = λ y j u b c. c }) q

not_stuck_depth : NotStuck Depth
not_stuck_depth w e = cc

not_stuck_null : NotStuck AtNull
not_stuck_null w e = cc

pub then_it : (p : Program) (x y : Then) → SoundThen p x → y ≡ x → Surely (SoundThen p y)
then_it p x y s e = surely (subst (SoundThen p) (sym e) s)

begun : (p : Program) → Laws p
    → (h i : Heap) (f : Frame) (e : Entry) (r : Value) (args : List Value) (g : Frame) (fs : List Frame)
    (out : List ℕ) (x : Then)
    → EntersFit p h f e r args g i → Waiting p h f fs → begins p (frame_of e r args) (g ∷ fs) i out x → Surely
    (SoundThen p x)
begun p n h i f e r args g fs out x k q b = at (has_null_path (frame_of e r args).vars) refl b where
  new : Frame
  new = frame_of e r args

  tested : has_null_path (frame_of e r args).vars ≡ false → (y : Then)
      → OnTest (AreIn p new i) (It (over (Stuck why.Foreign) out)) (It (settled (new ∷ (g ∷ fs)) i out)) y
      → Surely (SoundThen p y)
  tested z y (holds a c) = and_so (k.works z a) (λ u. then_it p (settled (new ∷ (g ∷ fs)) i out) y
      (settles p n i k.heap out (g ∷ fs) new u.0
      (waits u.1 (waiting_stays p i f g fs k.stays (waiting_later p h i f fs k.later q)))) c)
  tested z y (fails a c) = absurd (k.are_in z a)

  at : (z : Bool) → has_null_path (frame_of e r args).vars ≡ z
      → OnIf (not z) (It (over AtNull out))
      (OnTest (AreIn p new i) (It (over (Stuck why.Foreign) out)) (It (settled (new ∷ (g ∷ fs)) i out))) x →
      Surely (SoundThen p x)
  at true z c = then_it p (over AtNull out) x not_stuck_null c
  at false z c = tested z x c

-- a body begins over these frames
pub begun_over : (p : Program) → Laws p → (i : Heap) (new : Frame) (fs : List Frame) (out : List ℕ) (x : Then)
    → HeapFits p i
    → (has_null_path new.vars ≡ false → Surely (AreIn p new i)) →
    (has_null_path new.vars ≡ false → AreIn p new i → Surely (Works p i new new.todo)) → Waiting p i new fs
    → begins p new fs i out x → Surely (SoundThen p x)
begun_over p n i new fs out x hf are works q b = at (has_null_path new.vars) refl b where
  tested : has_null_path new.vars ≡ false → (y : Then)
      → OnTest (AreIn p new i) (It (over (Stuck why.Foreign) out)) (It (settled (new ∷ fs) i out)) y → Surely
      (SoundThen p y)
  tested z y (holds a c) =
      and_so (works z a) (λ u. then_it p (settled (new ∷ fs) i out) y (settles p n i hf out fs new u q) c)
  tested z y (fails a c) = absurd (are z a)

  at : (z : Bool) → has_null_path new.vars ≡ z
      → OnIf (not z) (It (over AtNull out))
      (OnTest (AreIn p new i) (It (over (Stuck why.Foreign) out)) (It (settled (new ∷ fs) i out))) x → Surely
      (SoundThen p x)
  at true z c = then_it p (over AtNull out) x not_stuck_null c
  at false z c = tested z x c

entered : (p : Program) → Laws p
    → (h i : Heap) (f : Frame) (e : Entry) (args : List Value) (g : Frame) (fs : List Frame) (out : List ℕ) (x : Then)
    → EntersWith p h f e args g i → Waiting p h f fs → enters p e args (g ∷ fs) i out x → Surely (SoundThen p x)
entered p n h i f e [] g fs out x k q b = absurd k
entered p n h i f e (r ∷ args) g fs out x k q b = begun p n h i f e r args g fs out x k q b

proceeded : (p : Program) → Laws p
    → (h : Heap) (depth : ℕ) (f : Frame) (d : Did) (fs : List Frame) (out : List ℕ) (x : Then) → DidFit p h f d →
    Waiting p h f fs
    → proceeds p depth d fs out x → Surely (SoundThen p x)
proceeded p n h depth f (Goes g i bytes) fs out x k q b =
    then_it p _ x (settles p n i k.heap (out ++ bytes) fs g k.works
    (waiting_stays p i f g fs k.stays (waiting_later p h i f fs k.later q))) b
proceeded p n h depth f (Enters e args g i) fs out x k q b = at (nat_lt (length fs) depth) b where
  at : (z : Bool) → OnIf z (It (over Depth out)) (enters p e args (g ∷ fs) i out) x → Surely (SoundThen p x)
  at true c = entered p n h i f e args g fs out x k q c
  at false c = then_it p (over Depth out) x not_stuck_depth c
proceeded p n h depth f (Leaves v i) fs out x k q b =
    then_it p _ x (left_settled p n i out f fs v k.header k.heap k.is_header k.gives
    (waiting_later p h i f fs k.later q)) b
proceeded p n h depth f Falls fs out x k q b = absurd k
proceeded p n h depth f (Faults o) fs out x k q b = then_it p (over o out) x k b

-- what has to be shown of the two acts of the start
abbrev pub StartFits : Program → Type 0
StartFits p =
    (capacity depth : ℕ) (h : Heap) (f : Frame) (t : Todo) (k : List Todo) (out : List ℕ) (x : Then) → HeapFits p h →
    Starts p h f → f.todo ≡ t ∷ k
    → Charged p capacity depth t k f [] h out x → Surely (SoundThen p x)

-- what is shown of each act
abbrev pub ActsFit : Program → Type 0
ActsFit p =
    (capacity : ℕ) (h : Heap) (f : Frame) (t : Todo) (k : List Todo) (d : Did) → HeapFits p h → Works p h f (t ∷ k)
    → Does p capacity t.act (acting t k f) h d → Surely (DidFit p h f d)

pub charge_sound : (p : Program) → Laws p → ActsFit p → StartFits p → (a d : ℕ) (s : Running) (x : Then)
    → Sound p s → Charge p a d s x → Surely (SoundThen p x)
charge_sound p n each begin a d s x k c = at s.frames k.frames c where
  busy : (f : Frame) (fs : List Frame) → Works p s.heap f f.todo → Waiting p s.heap f fs → (t : List Todo)
      → f.todo ≡ t → charged p a d t f fs s.heap s.output x
      → Surely (SoundThen p x)
  busy f fs w q [] e c = then_it p (settled (f ∷ fs) s.heap s.output) x (settles p n s.heap k.heap s.output fs f w q) c
  busy f fs w q (t ∷ ts) e c =
      and_so (each a s.heap f t ts c.did k.heap (subst (Works p s.heap f) e w) c.does)
      (λ y. proceeded p n s.heap d f c.did fs s.output x y q c.proceeds)

  starting : (f : Frame) → Starts p s.heap f → (t : List Todo) → f.todo ≡ t
      → charged p a d t f [] s.heap s.output x → Surely (SoundThen p x)
  starting f w [] e c = then_it p (settled (f ∷ []) s.heap s.output) x (start_settled p s.heap k.heap f s.output w) c
  starting f w (t ∷ ts) e c = begin a d s.heap f t ts s.output x k.heap w e c

  at : (fs : List Frame) → FramesFit p s.heap fs → frames_charged p a d fs s.heap s.output x → Surely (SoundThen p x)
  at _ (start_fits {f = f} w) c = starting f w f.todo refl c
  at _ (work {f = f} {fs = fs} w q) c = busy f fs w q f.todo refl c

-- ---- every charge

abbrev Safely : Option Ending → Type 0
Safely None = Unit {0}
Safely (Some o) = NotStuck o

reports_sound : (p : Program) → Laws p → ActsFit p → StartFits p → (a d n : ℕ) (x : Then) (r : Report Ending)
    → SoundThen p x → Reports (Charge p a d) shown n x r
    → Surely (Safely r.outcome)
reports_sound p n each begin a d zero (On s) r k e =
    surely (subst (λ (q : Report Ending). Safely q.outcome) (sym e) tt)
reports_sound p n each begin a d zero (End o bytes) r k e =
    surely (subst (λ (q : Report Ending). Safely q.outcome) (sym e) k)
reports_sound p n each begin a d (suc b) (On s) r k e =
    and_so (charge_sound p n each begin a d s e.0 k e.1) (λ y. reports_sound p n each begin a d b e.0 r y e.2)
reports_sound p n each begin a d (suc b) (End o bytes) r k e =
    surely (subst (λ (q : Report Ending). Safely q.outcome) (sym e) k)

outcome_safe : (e : Option Ending) (w : Why) → Safely e → outcome_of e ≡ outcome.Stuck w → ⊥
outcome_safe None w s e = cc
outcome_safe (Some Ends) w s e = cc
outcome_safe (Some AtNull) w s e = cc
outcome_safe (Some Zero) w s e = cc
outcome_safe (Some Arena) w s e = cc
outcome_safe (Some Depth) w s e = cc
outcome_safe (Some (Stuck v)) w s e = s v refl

pub start_sound : (p : Program) → Sound p start
start_sound p = record {
  heap =
      record { slots = λ o x V f s t v e r y z u. absurd (nothing o x e); classes = λ o x e. absurd (nothing o x e) };
  frames = start_fits (before refl refl refl);
} where
  nothing : (o : ℕ) (x : Object) → slice_get [] o ≡ Some x → ⊥
  nothing zero x e = cc
  nothing (suc o) x e = cc

pub never_stuck : (p : Program) → Laws p → ActsFit p → StartFits p → (b a d : ℕ) (o : Outcome) (out : List ℕ)
    → Run p b a d o out → (w : Why) → o ≢ outcome.Stuck w
never_stuck p n each begin b a d o out r w e =
    reports_sound p n each begin a d b (On start) (record { outcome = r.ending; output = out })
    (start_sound p) r.reports
    (λ s. outcome_safe r.ending w s (sym r.outcome ∙ e))
