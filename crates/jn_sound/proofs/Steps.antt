-- The lemmas that the agreement uses: what acts, and where nothing acts.
use Rattle.std.proofs.Common.{◌≡◌, ℕ, List, [], ◌∷◌, length, Option, Some, None, refl, sym, subst}
use Rattle.jn_base.specs.declared.tree.Method.{Method}
use Rattle.jn_base.specs.declared.tree.Program.{Program}
use Rattle.jn_base.specs.declared.names.Var.{Var}
use Rattle.jn_base.specs.Paths.{Path}
use Rattle.jn_sem.specs.Values.{Value}
use Rattle.jn_sem.specs.Acts.{Act, Todo}
use Rattle.jn_sem.specs.State.{Heap, Frame}
use Rattle.jn_sem.specs.Does.{Does, Entry}
use Rattle.jn_sem.specs.Run.{given}
use Rattle.jn_sem.specs.LawsOfHeaps.{Later}
use Rattle.jn_steps.specs.Steps.{Leaves}
use Rattle.jn_sound.specs.Fit.{Fits}
use Rattle.jn_sound.specs.Sound.{HeapFits, one, body_of, Stays, LeavesFit, Left}
use Rattle.jn_sound.proofs.Laws.{Laws}
use Rattle.jn_sound.specs.Takes.{Typing, typing}
use Rattle.jn_sound.specs.Sound.{StandsAt, GivesBack}
use Rattle.jn_sound.specs.Takes.{Moves, same, named, wider, unseen, Takes, push, this, read, invert, negate, operate, get, call, shared, null_view, null_on_path, granted, put, unmask, local, assign, make, make_with, super, print_number, print_truth, print_text}
use Rattle.jn_sound.specs.Steps.{entered, GoesAt, CallsAt, DidAt, Standing}
use Rattle.jn_sem.specs.Acts.{Return, todo}
use Rattle.std.specs.Prelude.{false, true}
use Rattle.jn_base.specs.declared.tree.TypeTerm.{TypeTerm}
use Rattle.jn_sem.specs.State.{has_null_path}
use Rattle.jn_rules.specs.Stmts.{In, at_start, is_void}
use Rattle.jn_sound.specs.Takes.{opd}
use Rattle.jn_sound.specs.Fit.{acts, moves}
use Rattle.jn_sound.proofs.Acts.{literal_fits}
use Rattle.jn_sound.proofs.Simple.{read_at, invert_at, negate_at, operate_at, print_number_at, print_truth_at}
use Rattle.jn_sound.proofs.SharedViews.{shared_at, null_view_at}
use Rattle.jn_sound.proofs.Puts.{put_at}
use Rattle.jn_sound.proofs.Unmasks.{unmask_at}
use Rattle.jn_sound.proofs.HeaderViews.{granted_at}
use Rattle.jn_sound.proofs.Assigns.{assign_at}
use Rattle.jn_sound.proofs.Makes.{make_at}
use Rattle.jn_sound.proofs.MakesWith.{make_with_at}
use Rattle.jn_sound.proofs.NullViews.{null_on_path_at}
use Rattle.jn_sound.proofs.Supers.{super_at}
use Rattle.jn_sound.proofs.Locals.{local_at}
use Rattle.jn_sem.specs.Does.{prints, missing}
use Rattle.jn_steps.specs.Numbers.{line_of}
use Rattle.std.specs.Prelude.{slice_get}
use Rattle.jn_rules.specs.Stmts.{body_in}
use Rattle.jn_sound.proofs.Safe.{sure_some}
use Rattle.jn_sound.specs.Steps.{Begun}
use Rattle.jn_sound.proofs.Returns.{return_fits}
use Rattle.jn_sound.proofs.Frames.{stays_joined}
use Rattle.jn_sound.proofs.Fitted.{stays_itself}
use Rattle.jn_sound.proofs.Ways.{surely, and_so}
use Rattle.jn_sound.proofs.Safe.{Sure, sure_it}
use Rattle.jn_sound.proofs.Stands.{now, stands_wider}
use Rattle.std.specs.Prelude.{take, ◌≤◌}
use Rattle.jn_base.specs.Scopes.{Scope}
use Rattle.jn_base.specs.Fits.{BindsFit}
use Rattle.jn_sem.specs.Sets.{no_views}
use Rattle.jn_sound.specs.KnownScopes.{Covers}
use Rattle.jn_sound.specs.Fit.{Narrowed}
use Rattle.jn_sound.proofs.Known.{stands_named, stands_unseen, stands_narrow}
use Rattle.jn_sound.proofs.Acts.{this_operand}
use Rattle.jn_sound.proofs.GetStep.{goes_at, get_at}
use Rattle.jn_sound.proofs.CallStep.{call_at}
use Rattle.jn_rules.specs.Headers.{Header}
use Rattle.jn_rule_laws.specs.LawsOfHeaders.{IsHeader, ResultIs}
use Rattle.jn_laws.specs.Surely.{Surely}

-- ---- where nothing acts

pub moves_stand : {p : Program} {h : Heap} {f : Frame} {x : Header} {vs : List Var} {t z : Typing} → Moves p t z
    → StandsAt p h f x vs t → StandsAt p h f x vs z
moves_stand same a = a
moves_stand (named t u q far free fits below more) a =
    let n = stands_named t u q far free fits below a.stands in
    moves_stand more (record { fresh = n.fresh; stands = n.stands })
moves_stand (wider t u q below fits more) a =
    moves_stand more (record { fresh = a.fresh; stands = stands_wider t u q below fits a.stands })
moves_stand (unseen u q far free fits more) a =
    moves_stand more (record { fresh = _; stands = stands_unseen u q far free fits a.stands })

pub standing_moves : {p : Program} {e : Frame} {x : Header} {vs : List Var} {t z : Typing} {f : Frame} {h : Heap} →
    Moves p t z → Standing p e x vs t f h → Standing p e x vs z f h
standing_moves m a = record { heap = a.heap; stays = a.stays; no_null = a.no_null; at = moves_stand m a.at }

-- ---- what acts

-- EACH ACT LEADS FROM ITS TYPING TO THAT BEHIND IT
pub takes_did : {p : Program} {h : Heap} {f : Frame} {x : Header} {vs us : List Var} {a : Act} {t z : Typing}
    → Laws p → (m : ℕ) (k : List Todo)
    → Takes p (body_in (body_of f) x) vs a t us z → HeapFits p h → StandsAt p h f x vs t → Sure (DidAt p h f x us k z)
    (Does p m a (now (length vs) k f) h)
takes_did {p} {h} {f} {vs = vs} n m k (push {s = s} v t l) hf a =
    sure_it _ (surely (goes_at hf a.stands k _ (v ∷ f.vals) (one (literal_fits p (take
    (length vs) f.vars) h s _ v t l) a.stands.operands)))
takes_did {f = f} n m k (this fits) hf a =
    sure_it _ (surely (goes_at hf a.stands k _ (f.this ∷ f.vals)
    (one (this_operand a.stands.in_scope fits) a.stands.operands)))
takes_did n m k (read y v l t b) hf a = read_at hf m k y v l t b a.stands
takes_did n m k (invert q) hf a = invert_at hf m k q a.stands
takes_did n m k (negate q) hf a = negate_at hf m k q a.stands
takes_did n m k (operate o t u q r i) hf a = operate_at hf m k o t u q r i a.stands
takes_did n m k (get name t q c i free fits) hf a = get_at n hf m k name t q c i free fits a.stands
takes_did n m k (call name count keeps t q qs args c i free e af kf fits) hf a =
    call_at n hf m k name count keeps t q qs args c i free e af kf fits a.stands
takes_did n m k (shared term t y q c root is sh fits) hf a = shared_at n hf m k term t y q c root is sh fits a.stands
takes_did n m k (null_view term y q root is fits) hf a = null_view_at n hf m k term y q root is fits a.stands
takes_did n m k (null_on_path term y q hp long is fits) hf a = null_on_path_at hf m k term y q hp long is fits a.stands
takes_did n m k (granted term t y q c there grant) hf a = granted_at n hf m k term t y q c there grant a.stands
takes_did n m k (put y t q r c i) hf a = put_at n hf m k y t q r c i a.stands
takes_did n m k (unmask y t q r c masks i formed kept) hf a =
    unmask_at n hf m k y t q r c masks i formed kept a.stands
takes_did n m k (local fixed term y path t q is small free fits hp) hf a =
    local_at n hf m k fixed term y path t q is small free fits hp a.stands
takes_did n m k (assign y v q e may) hf a = assign_at n hf m k y v q e may a.stands
takes_did n m k (make term keeps y is new fits) hf a = make_at n hf m k term keeps y is new fits a.stands
takes_did n m k (make_with term count keeps y q qs args c is new b unused e af fits) hf a =
    make_with_at n hf m k term count keeps y q qs args c is new b unused e af fits a.stands
takes_did n m k (super term y count keeps qs args c z is callee grant e af kf fits) hf a =
    super_at n hf m k term y count keeps qs args c z is callee grant e af kf fits a.stands
takes_did n m k (print_number q) hf a = print_number_at hf m k q a.stands
takes_did n m k (print_truth q) hf a = print_truth_at hf m k q a.stands
takes_did {p} {f = f} {vs = vs} n m k (print_text t y e) hf a =
    sure_some (slice_get p.texts t) missing (λ y. prints (now (length vs) k f) f.vals _ (line_of y.bytes)) y e
    (sure_it _ (surely (goes_at hf a.stands k _ f.vals a.stands.operands)))

-- ---- of one body

stays_given : (p : Program) (f : Frame) (v : Option Value) → Stays p f (given v f)
stays_given p f None = record { class = refl; method = refl; result = λ x i v h k. k }
stays_given p f (Some v) = record { class = refl; method = refl; result = λ x i v h k. k }

pub standing_goes : {p : Program} {todo : List Todo} {e : Frame} {x : Header} {vs : List Var} {t z : Typing}
    {f g : Frame} {h i : Heap} → Standing p e x vs t f h → GoesAt p h f x vs todo z g i → Standing p e x vs z g i
standing_goes {p} {e} {f = f} {g = g} a k =
    record { heap = k.heap; stays = stays_joined p e f g a.stays k.stays; no_null = a.no_null; at = k.stands }

pub standing_resumes : {p : Program} {todo : List Todo} {e : Frame} {x : Header} {vs : List Var} {t z : Typing}
    {f g : Frame} {h i j : Heap} {en : Entry} {args : List Value} (v : Option Value) → Standing p e x vs t f h
    → CallsAt p h f x vs todo z en args g i → Later i j → GivesBack p (entered en args) j v → Standing p e x vs z
    (given v g) j
standing_resumes {p} {e} {f = f} {g = g} {j = j} v a k l b = record {
  heap = b.heap;
  stays = stays_joined p e g (given v g) (stays_joined p e f g a.stays k.stays) (stays_given p g v);
  no_null = a.no_null;
  at = k.resumes j v l b;
}

-- what the frame gives back, the body that was entered does
pub standing_leaves : {p : Program} {e : Frame} {x : Header} {vs : List Var} {t : Typing} {f : Frame} {h i : Heap}
    {v : Option Value} → Standing p e x vs t f h → Left p h f v i → GivesBack p e i v
standing_leaves {p} {e} {f = f} {i = i} {v = v} a l =
    record { heap = l.heap; no_null = a.no_null; header = l.header; is_header = header; leaves = at v l.gives } where
      header : IsHeader p (body_of e) l.header
      header = subst (λ (m : Method). IsHeader p (record { class = e.class; method = m }) l.header) a.stays.method
          (subst (λ (Q : Path). IsHeader p
          (record { class = Q; method = f.method }) l.header) a.stays.class l.is_header)

      at : (v : Option Value) → LeavesFit p i f l.header v → LeavesFit p i e l.header v
      at None g = g
      at (Some v) g = (g.0, a.stays.result l.header i v header g.1, g.2)

-- ---- soundness has its own from these

-- the typing of what is still to do is closed under both
pub fits_moves : {p : Program} {b : In} {k : List Todo} {vs : List Var} {t z : Typing} → Moves p t z
    → Fits p b k vs z.scope z.ops → Fits p b k vs t.scope t.ops
fits_moves m f = moves m f

pub fits_takes : {p : Program} {b : In} {k : List Todo} {vs us : List Var} {a : Act} {t z : Typing}
    → Takes p b vs a t us z → Fits p b k us z.scope z.ops
    → Fits p b (todo (length vs) a ∷ k) vs t.scope t.ops
fits_takes t f = acts refl t f

-- ---- a body begins, and ends

-- where it begins, with its header
pub standing_begun : {p : Program} {e : Frame} {h : Heap} {x : Header} → Laws p → IsHeader p (body_of e) x
    → has_null_path e.vars ≡ false → Begun p h e → Standing p e x x.vars (typing (at_start (body_of e) x).scope []) e h
standing_begun {p} {e} {h} {x} n ih nn b = record {
  heap = b.heap;
  stays = stays_itself p e;
  no_null = nn;
  at =
      subst (λ (z : Header). StandsAt p h e z z.vars (typing (at_start (body_of e) z).scope []))
      (n.header_one (body_of e) b.header x b.stands.stands.is_header ih) b.stands;
}

-- at the free end of a body without a result
pub standing_ends : {p : Program} {e : Frame} {x : Header} {vs : List Var} {t : Typing} {f : Frame} {h : Heap}
    → Standing p e x vs t f h → f.method.result ≡ None → GivesBack p e h None
standing_ends {p} {e} {x} {f = f} {h = h} a none =
    record {
      heap = a.heap;
      no_null = a.no_null;
      header = x;
      is_header = header;
      leaves =
          void f.method.result none a.at.stands.is_header.result;
    } where
      void : (t : Option TypeTerm) → t ≡ None → ResultIs p (body_of f) x.vars t x.result → is_void x.result ≡ true
      void None e r = subst (λ (z : _). is_void z ≡ true) (sym r) refl
      void (Some t) e r = cc

      header : IsHeader p (body_of e) x
      header = subst (λ (m : Method). IsHeader p (record { class = e.class; method = m }) x) a.stays.method
          (subst (λ (Q : Path). IsHeader p
          (record { class = Q; method = f.method }) x) a.stays.class a.at.stands.is_header)

-- a result
pub standing_returns : {p : Program} {e : Frame} {x : Header} {vs : List Var} {t : Typing} {f : Frame} {h : Heap} →
    Laws p → (m : ℕ) (k : List Todo) (q : Option ℕ) → is_void x.result ≡ false
    → Standing p e x vs (typing t.scope (opd x.result q ∷ t.ops)) f h → (v : Value) → Does p m (Return true)
    (now (length vs) k f) h (Leaves (Some v) h) → Surely (GivesBack p e h (Some v))
standing_returns {p} {e} {x} {vs} {t} {f} {h} n m k q nv a v does =
    and_so ((return_fits n a.heap m k q nv a.at.stands).each (Leaves (Some v) h) does)
    (λ l. surely (standing_leaves a l))

-- ---- a block ends, or a statement

pub standing_narrows : {p : Program} {e : Frame} {x : Header} {vs us : List Var} {t : Typing} {s : Scope} {f : Frame}
    {h : Heap} → us ≡ take (length us) vs → length e.method.params ≤ length us → Narrowed t.scope s → BindsFit s →
    Covers us s
    → Standing p e x vs t f h → Standing p e x us (typing s []) f h
standing_narrows {e = e} {us = us} {f = f} is enough n b c a = record {
  heap = a.heap;
  stays = a.stays;
  no_null = a.no_null;
  at =
      record {
        fresh = no_views;
        stands = stands_narrow is
            (subst (λ (m : Method). length m.params ≤ length us) (sym a.stays.method) enough) n b c a.at.stands;
      };
}
