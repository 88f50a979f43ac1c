-- Codes that go with their bodies, each by itself, make an image that goes together with its program.
use Rattle.std.proofs.Common.{◌≡◌, ℕ, zero, suc, ◌+◌, ◌≤◌, List, [], ◌∷◌, ◌++◌, length, Option, Some, None, Bool, true, false, refl, sym, ap, ◌∙◌, subst, arith, append_assoc}
use Rattle.std.specs.Prelude.{ℤ, nat_lt, cond, not, slice_get, if◌then◌else◌}
use Rattle.std.specs.Option.{option_map}
use Rattle.std.proofs.lemmas.List.{append-nil}
use Rattle.jn_steps.specs.Runs.{Next, On, End, and_then, after}
use Rattle.jn_steps.specs.Steps.{Goes, Enters, Leaves, Falls, Faults}
use Rattle.jn_steps.specs.Frames.{machine_does, return_to, begin}
use Rattle.jn_base.specs.declared.tree.TypeTerm.{TypeTerm}
use Rattle.jn_base.specs.declared.tree.Program.{Program}
use Rattle.jn_code.specs.declared.image.Image.{Image}
use Rattle.jn_code.specs.declared.image.Code.{Code}
use Rattle.jn_code.specs.Machine.{Halt, move, instruct, rules, Machine, fresh}
use Rattle.jn_code.specs.Machine as machine
use Rattle.jn_sem.specs.declared.outcome.Why.TheVariants as why
use Rattle.jn_sem.specs.Values.{Value}
use Rattle.jn_sem.specs.Acts.{Todo}
use Rattle.jn_sem.specs.State.{Frame, has_null_path}
use Rattle.jn_sem.specs.Does.{Ending, AtNull, Depth, Stuck, Entry, Did}
use Rattle.jn_sem.specs.Asks.{OnTest, OnIf, It, holds, fails}
use Rattle.jn_sem.specs.Run.{Running, Then, running, over, settled, settled_at, ended, given, given_first, resumed, frame_of, AreIn, begins, enters, proceeds, charged, Charge, shown}
use Rattle.jn_sem.proofs.HeapLaws.{heap_laws}
use Rattle.jn_agree.specs.Naming.{Naming, First, AreWords}
use Rattle.jn_agree.specs.Matches.{World, Matches, Onward}
use Rattle.jn_agree.specs.Follows.{halt_of, when_quiet, quiet, Comes, HandsBack, rate, paid, EntryIs, Knows, MayEnter, entered, FreeEnd, Going, Waits, at, Follows, LocalAt, Local, Begins, BodyAgrees}
use Rattle.jn_lockstep.specs.Together.{Leads, Together}
use Rattle.jn_steps.proofs.Runs.{after_on}

-- (what heaps have is of no program)
no_program : Program
no_program = record { names = []; texts = []; decls = [] }

pub onward_itself : (x : World) → Onward x x
onward_itself x =
    record { more = []; firsts = sym (append-nil x.firsts); heap = (heap_laws.heaps no_program).itself x.heap }

pub onward_joined : (x y z : World) → Onward x y → Onward y z → Onward x z
onward_joined x y z f g = record {
  more = f.more ++ g.more;
  firsts = g.firsts ∙ ap (λ (c : List First). c ++ g.more) f.firsts ∙ append_assoc x.firsts f.more g.more;
  heap = (heap_laws.heaps no_program).joined x.heap y.heap z.heap f.heap g.heap;
}

pub pair_same : {X : Type 0} (a b : X) → Some a ≡ Some b → a ≡ b
pair_same a b e = cc

module _ (p : Program) (i : Image) (n : Naming) (m d : ℕ) (K : Knows) where
  abbrev pub act : Running → Then → Type 0
  act = Charge p m d

  abbrev pub mout : Machine → List ℕ
  mout s = s.output

  abbrev pub Lead : (Running → Machine → ℕ → Type 0) → ℕ → Then → Machine → ℕ → Type 0
  Lead = Leads rate act shown (instruct i m d) mout halt_of

  abbrev pub Both : ℕ → Running → Machine → ℕ → Type 0
  Both = Together rate act shown (instruct i m d) mout halt_of

  abbrev pub engine : List machine.Frame → List ℤ → List ℕ → Machine
  engine gs a out = record { frames = gs; heap = a; output = out }

  -- the frames that wait, seen from the present world: each with the frame with which its body was entered
  abbrev pub Stack : ℕ → Frame → World → List Frame → List machine.Frame → ℕ → Type 0
  Stack b r x [] [] w = Unit {0}
  Stack b r x [] (g ∷ gs) w = ⊥
  Stack b r x (f ∷ fs) [] w = ⊥
  Stack b r x (f ∷ fs) (g ∷ gs) w =
      (v : ℕ) × (u : ℕ) × (y : World) × (v + u ≤ w) × Onward y x × (q : Frame) ×
      (f.method.result ≡ q.method.result) × Waits p i n m K (Local p i n m K q b) r f y g v × Stack b q x fs gs u

  pub stack_later : (b : ℕ) (r : Frame) (x y : World) (fs : List Frame) (gs : List machine.Frame) (w : ℕ)
      → Onward x y → Stack b r x fs gs w → Stack b r y fs gs w
  stack_later b r x y [] [] w l st = tt
  stack_later b r x y [] (g ∷ gs) w l st = st
  stack_later b r x y (f ∷ fs) [] w l st = st
  stack_later b r x y (f ∷ fs) (g ∷ gs) w l st = (
    st.0,
    st.1,
    st.2,
    st.3,
    onward_joined st.2 x y st.4 l,
    st.5,
    st.6,
    st.7,
    stack_later b st.5 x y fs gs st.1 l st.8,
  )

  pub stack_length : (b : ℕ) (r : Frame) (x : World) (fs : List Frame) (gs : List machine.Frame) (w : ℕ)
      → Stack b r x fs gs w → length fs ≡ length gs
  stack_length b r x [] [] w st = refl
  stack_length b r x [] (g ∷ gs) w st = absurd st
  stack_length b r x (f ∷ fs) [] w st = absurd st
  stack_length b r x (f ∷ fs) (g ∷ gs) w st = ap suc (stack_length b st.5 x fs gs st.1 st.8)

  -- ---- fewer charges

  fewer_follows : (L M : Going)
      → ((f : Frame) (x : World) (g : machine.Frame) (a : List ℤ) (w : ℕ) → L f x g a w → M f x g a w) → (r : Frame)
      (s : Did) (x : World) (g : machine.Frame) (a : List ℤ) (w : ℕ)
      → Follows p i n m K L r s x g a w → Follows p i n m K M r s x g a w
  fewer_follows L M k r (Goes f h bytes) x g a w l = record {
    firsts = l.firsts;
    next = l.next;
    arena = l.arena;
    cost = l.cost;
    left = l.left;
    comes = l.comes;
    within = l.within;
    onward = l.onward;
    matches = l.matches;
    result = l.result;
    goes_on = k f (at x h l.firsts) l.next l.arena l.left l.goes_on;
  }
  fewer_follows L M k r (Enters e args f h) x g a w l = record {
    firsts = l.firsts;
    next = l.next;
    arena = l.arena;
    code = l.code;
    words = l.words;
    cost = l.cost;
    left = l.left;
    comes = l.comes;
    within = l.within;
    onward = l.onward;
    matches = l.matches;
    are = l.are;
    entry = l.entry;
    may = l.may;
    result = l.result;
    waits = λ y b v u on ma hb gb. k (given v f) y (machine.given u l.next) b l.left (l.waits y b v u on ma hb gb);
  }
  fewer_follows L M k r (Leaves v h) x g a w l = l
  fewer_follows L M k r Falls x g a w l = l
  fewer_follows L M k r (Faults o) x g a w l = l

  pub fewer : (r : Frame) (b : ℕ) (todo : List Todo) (f : Frame) (x : World) (g : machine.Frame) (a : List ℤ) (w : ℕ)
      → LocalAt p i n m K r (suc b) todo f x g a w → LocalAt p i n m K r b todo f x g a w
  fewer r b [] f x g a w l = l
  fewer r zero (t ∷ k) f x g a w l = tt
  fewer r (suc b) (t ∷ k) f x g a w l =
      λ s does. fewer_follows (Local p i n m K r (suc b)) (Local p i n m K r b)
      (λ f x g a w l. fewer r b f.todo f x g a w l) r s x g a w (l s does)

  pub fewer_stack : (b : ℕ) (r : Frame) (x : World) (fs : List Frame) (gs : List machine.Frame) (w : ℕ)
      → Stack (suc b) r x fs gs w → Stack b r x fs gs w
  fewer_stack b r x [] [] w st = tt
  fewer_stack b r x [] (g ∷ gs) w st = st
  fewer_stack b r x (f ∷ fs) [] w st = st
  fewer_stack b r x (f ∷ fs) (g ∷ gs) w st = (
    st.0,
    st.1,
    st.2,
    st.3,
    st.4,
    st.5,
    st.6,
    λ y a v u on ma hb gb. fewer st.5 b (given v f).todo (given v f) y
        (machine.given u g) a st.0 (st.7 y a v u on ma hb gb),
    fewer_stack b st.5 x fs gs st.1 st.8,
  )

  -- ---- instructions of one code are instructions of the machine

  abbrev pub does : machine.Did → List machine.Frame → List ℕ → Next Machine Halt
  does what gs out = machine_does (rules i m) d what gs out

  quiet_after : (j : ℕ) (g last : machine.Frame) (a la : List ℤ) (gs : List machine.Frame) (out : List ℕ)
      → quiet i m j g a ≡ Some (last, la) → after (instruct i m d) j (engine (g ∷ gs) a out) ≡ On
      (engine (last ∷ gs) la out)
  quiet_after zero g last a la gs out e =
      let same : (g, a) ≡ (last, la) = pair_same (g, a) (last, la) e in
      ap (λ (q : machine.Frame × List ℤ). On (engine (q.0 ∷ gs) q.1 out)) same
  quiet_after (suc j) g last a la gs out e = at_step (λ h na. quiet_after j h last na la gs out) (move i m g a) e
    where
      at_step : ((h : machine.Frame) (na : List ℤ) → quiet i m j h na ≡ Some (last, la) → after (instruct i m d) j
          (engine (h ∷ gs) na out) ≡ On (engine (last ∷ gs) la out)) → (x : machine.Did) → when_quiet x
          (quiet i m j) ≡ Some (last, la) → and_then (does x gs out) (after (instruct i m d) j) ≡ On
          (engine (last ∷ gs) la out)
      at_step ih (Goes h na []) e =
          ap (λ w. after (instruct i m d) j (engine (h ∷ gs) na w)) (append-nil out) ∙ ih h na e
      at_step ih (Goes h na (o ∷ os)) e = cc
      at_step ih (Enters b args h na) e = cc
      at_step ih (Leaves v na) e = cc
      at_step ih Falls e = cc
      at_step ih (Faults o) e = cc

  -- ---- one act

  abbrev pub Meets : (Running → Machine → ℕ → Type 0) → Then → Next Machine Halt → ℕ → Type 0
  Meets R x (On s) w = Lead R 0 x s w
  Meets R (On s) (End q bytes) w = ⊥
  Meets R (End o put) (End q bytes) w = (r : Halt) → halt_of o ≡ Some r → (r ≡ q) × (put ≡ bytes)

  one_more : (x : Next Machine Halt) → and_then x (after (instruct i m d) 0) ≡ x
  one_more (On s) = refl
  one_more (End q bytes) = refl

  -- Quiet instructions and one more, and then the rest.
  pub compose : (R : Running → Machine → ℕ → Type 0) (x : Then) (g : machine.Frame) (gs : List machine.Frame)
      (a : List ℤ)
      (out : List ℕ) (what : machine.Did) (cost left w : ℕ) → Comes i m g a what cost → Meets R x
      (does what gs out) left → cost + left ≤ w → Lead R 1 x (engine (g ∷ gs) a out) w
  compose R x g gs a out what cost left w k meets le = at_next (does what gs out) x there meets
    where
      step : Machine → Next Machine Halt
      step = instruct i m d

      there : after (instruct i m d) (k.j + 1) (engine (g ∷ gs) a out) ≡ does what gs out
      there =
          after_on (instruct i m d) k.j 1 (engine (g ∷ gs) a out) (engine (k.last ∷ gs) k.there out)
          (quiet_after k.j g k.last a k.there gs out k.on)
          ∙ one_more (does (move i m k.last k.there) gs out)
          ∙ ap (λ x. does x gs out) k.does

      at_next : (y : Next Machine Halt) (x : Then)
          → after (instruct i m d) (k.j + 1) (engine (g ∷ gs) a out) ≡ y → Meets R x y left → Lead R 1 x
          (engine (g ∷ gs) a out) w
      at_next (On s) (On u) e l = (
        k.j + 1 + l.0,
        l.1,
        l.2,
        after_on (instruct i m d) (k.j + 1) l.0 (engine (g ∷ gs) a out) s e ∙ l.3,
        omega arith,
        omega (arith, k.cost, l.5),
        l.6,
      )
      at_next (On s) (End o put) e l =
          λ q is. let f = l q is in (
            k.j + 1 + f.0,
            after_on (instruct i m d) (k.j + 1) f.0 (engine (g ∷ gs) a out) s e ∙ f.1,
            omega
                (arith, k.cost, f.2),
          )
      at_next (End q bytes) (On u) e l = absurd l
      at_next (End q bytes) (End o put) e l =
          λ r is. let f = l r is in (
            k.j + 1,
            e ∙ ap (λ (q : Halt). let y : Next Machine Halt = End q bytes in y) (sym f.0) ∙ ap
                (λ (b : List ℕ). let y : Next Machine Halt = End r b in y) (sym f.1),
            omega (arith, k.cost),
          )

  pub eased : (R : Running → Machine → ℕ → Type 0) (lo : ℕ) (x : Then) (s : Machine) (v w : ℕ) → v ≤ w
      → Lead R lo x s v → Lead R 0 x s w
  eased R lo (On u) s v w le l = (l.0, l.1, l.2, l.3, omega arith, omega (arith, l.5), l.6)
  eased R lo (End o bytes) s v w le l = λ q is. let f = l q is in (f.0, f.1, omega (arith, f.2))

  -- a run that is stuck
  pub stuck_leads : (R : Running → Machine → ℕ → Type 0) (lo : ℕ) (o : Ending) (out : List ℕ) (s : Machine) (w : ℕ)
      → halt_of o ≡ None → Lead R lo (over o out) s w
  stuck_leads R lo o out s w e = λ q is. absurd (none_some (sym e ∙ is)) where
    none_some : {X : Type 0} {q : X} → None ≡ Some q → ⊥
    none_some e = cc

  abbrev pub Links : ℕ → Type 0
  Links b =
      (r f : Frame) (fs : List Frame) (x : World) (g : machine.Frame) (gs : List machine.Frame) (a : List ℤ)
      (out : List ℕ) (v u w : ℕ)
      → f.method.result ≡ r.method.result → Matches p i n x a → Local p i n m K r b f x g a v → Stack b r x fs gs u →
      v + u ≤ w → Both b (running (f ∷ fs) x.heap out) (engine (g ∷ gs) a out) w

  -- what comes of the frames below, where the body at work ends without a result
  abbrev Back : ℕ → Frame → Frame → List Frame → World → List machine.Frame → List ℤ → List ℕ → ℕ → Type 0
  Back b r f fs x gs a out u =
      f.method.result ≡ None → K.gives r x.heap None → Meets (Both b) (resumed None fs out (settled fs x.heap out))
      (return_to (rules i m) None gs a out) u

  -- a frame goes on, or returns where it has nothing to do
  settles : (b : ℕ) → Links b
      → (r f : Frame) (fs : List Frame) (x : World) (g : machine.Frame) (gs : List machine.Frame) (a : List ℤ)
      (out : List ℕ) (v u w : ℕ) → f.method.result ≡ r.method.result → Matches p i n x a
      → Local p i n m K r b f x g a v → Stack b r x fs gs u → v + u ≤ w → Back b r f fs x gs a out u → Lead (Both b) 0
      (settled (f ∷ fs) x.heap out) (engine (g ∷ gs) a out) w
  settles b links r f fs x g gs a out v u w same ma l st le back = at_todo f.todo refl l
    where
      at_result : (t : Option TypeTerm) → f.method.result ≡ t
          → (f.method.result ≡ None → FreeEnd p i n m K r f x g a v) → Lead (Both b) 0
          (ended t out (resumed None fs out (settled fs x.heap out))) (engine (g ∷ gs) a out) w
      at_result (Some t) e l = stuck_leads (Both b) 0 (Stuck why.Kind) out (engine (g ∷ gs) a out) w refl
      at_result None e l =
          eased (Both b) 1 (resumed None fs out (settled fs x.heap out)) (engine (g ∷ gs) a out) (v + u) w le
          (compose (Both b) (resumed None fs out (settled fs x.heap out)) g gs a out (Leaves None a) v u (v + u)
          (l e).comes (back e (l e).gives) (omega arith))

      at_todo : (todo : List Todo) → f.todo ≡ todo → LocalAt p i n m K r b todo f x g a v
          → Lead (Both b) 0 (settled_at todo f fs x.heap out (resumed None fs out (settled fs x.heap out)))
          (engine (g ∷ gs) a out) w
      at_todo (t ∷ k) e l = (
        0,
        w,
        engine (g ∷ gs) a out,
        refl,
        omega arith,
        omega arith,
        links r f fs x g gs a out v u w same ma
            (subst (λ (k : List Todo). LocalAt p i n m K r b k f x g a v) (sym e) l) st le,
      )
      at_todo [] e l = at_result f.method.result refl l

  pub none_given : (fs : List Frame) → given_first None fs ≡ fs
  none_given [] = refl
  none_given (f ∷ fs) = refl

  -- nothing is handed back where there is no result
  pub no_result : (x : World) (t : Option TypeTerm) → t ≡ None → HandsBack p n x t None None
  no_result x t e = subst (λ (t : Option TypeTerm). HandsBack p n x t None None) (sym e) tt

  pub ends_same : (R : Running → Machine → ℕ → Type 0) (o : Ending) (q : Halt) (out : List ℕ) (w : ℕ)
      → halt_of o ≡ Some q → Meets R (over o out) (End q out) w
  ends_same R o q out w e = λ r is. (pair_same r q (sym is ∙ e), refl)

  pub stuck_meets : (R : Running → Machine → ℕ → Type 0) (o : Ending) (out : List ℕ) (y : Next Machine Halt) (w : ℕ)
      → halt_of o ≡ None → Meets R (over o out) y w
  stuck_meets R o out (On s) w e = stuck_leads R 0 o out s w e
  stuck_meets R o out (End q bytes) w e = λ r is. absurd (none_some (sym e ∙ is)) where
    none_some : {X : Type 0} {q : X} → None ≡ Some q → ⊥
    none_some e = cc

  pub same_result : (v : Option Value) (f : Frame) → (given v f).method.result ≡ f.method.result
  same_result None f = refl
  same_result (Some v) f = refl

  pub wakes : (R : Running → Machine → ℕ → Type 0) (v : Option Value) (f : Frame) (fs : List Frame) (x : World)
      (g : machine.Frame) (gs : List machine.Frame) (a : List ℤ) (out : List ℕ) (w : ℕ)
      → Lead R 0 (settled (given v f ∷ fs) x.heap out) (engine (g ∷ gs) a out) w
      → Lead R 0 (resumed v (f ∷ fs) out (settled (given_first v (f ∷ fs)) x.heap out)) (engine (g ∷ gs) a out) w
  wakes R (Some v) f fs x g gs a out w l = l
  wakes R None f fs x g gs a out w l = at_keeps f.keeps
    where
      at_keeps : (t : Bool)
          → Lead R 0 (cond t (over (Stuck why.Kind) out) (settled (f ∷ fs) x.heap out)) (engine (g ∷ gs) a out) w
      at_keeps false = l
      at_keeps true = stuck_leads R 0 (Stuck why.Kind) out (engine (g ∷ gs) a out) w refl

  -- A result comes to the frames below, or none does: then one that waits for a result is stuck.
  handed : (b : ℕ) → Links b
      → (r : Frame) (v : Option Value) (u : Option ℤ) (fs : List Frame) (x : World) (gs : List machine.Frame)
      (a : List ℤ) (out : List ℕ) (w : ℕ) → Matches p i n x a
      → HandsBack p n x r.method.result v u → K.gives r x.heap v → Stack b r x fs gs w → Meets (Both b)
      (resumed v fs out (settled (given_first v fs) x.heap out)) (return_to (rules i m) u gs a out) w
  handed b links r None u [] x [] a out w ma hb gb st = λ q is. (sym (pair_same _ _ is), refl)
  handed b links r (Some v) u [] x [] a out w ma hb gb st = λ q is. (sym (pair_same _ _ is), refl)
  handed b links r v u [] x (g ∷ gs) a out w ma hb gb st = absurd st
  handed b links r v u (f ∷ fs) x [] a out w ma hb gb st = absurd st
  handed b links r v u (f ∷ fs) x (g ∷ gs) a out w ma hb gb st =
      wakes (Both b) v f fs x (machine.given u g) gs a out w
      (settles b links st.5 (given v f) fs x (machine.given u g) gs a out st.0 st.1 w (same_result v f ∙ st.6) ma
      (st.7 x a v u st.4 ma hb gb) st.8 st.3
      (λ e back. subst (λ (hs : List Frame). Meets (Both b) (resumed None fs out (settled hs x.heap out))
      (return_to (rules i m) None gs a out) st.1) (none_given fs)
      (handed b links st.5 None None fs x gs a out st.1 ma
      (no_result x st.5.method.result (sym st.6 ∙ sym (same_result v f) ∙ e)) back st.8)))

  -- ---- a body is entered

  ended_below : (b : ℕ) → Links b
      → (r f : Frame) (x : World) (fs : List Frame) (gs : List machine.Frame) (a : List ℤ) (out : List ℕ) (w : ℕ) →
      f.method.result ≡ r.method.result → Matches p i n x a → Stack b r x fs gs w
      → Back b r f fs x gs a out w
  ended_below b links r f x fs gs a out w same ma st e back =
      subst (λ (hs : List Frame). Meets (Both b) (resumed None fs out (settled hs x.heap out))
      (return_to (rules i m) None gs a out) w) (none_given fs)
      (handed b links r None None fs x gs a out w ma (no_result x r.method.result (sym same ∙ e)) back st)

  begun : (b : ℕ) → Links b
      → (f : Frame) (fs : List Frame) (x : World) (g : machine.Frame) (gs : List machine.Frame) (a : List ℤ)
      (out : List ℕ) (v u w : ℕ) → Matches p i n x a → Begins p i n m K b f x g a v → Stack b f x fs gs u →
      v + u ≤ w → (y : Then) → begins p f fs x.heap out y → Lead (Both b) 0 y (engine (g ∷ gs) a out) w
  begun b links f fs x g gs a out v u w ma bg st le y bs = at_null (has_null_path f.vars) refl bs
    where
      goes_in : has_null_path f.vars ≡ false → AreIn p f x.heap
          → Lead (Both b) 0 (settled (f ∷ fs) x.heap out) (engine (g ∷ gs) a out) w
      goes_in e are =
          settles b links f f fs x g gs a out v u w refl ma (bg.goes e are) st le
          (ended_below b links f f x fs gs a out u refl ma st)

      at_test : has_null_path f.vars ≡ false
          → OnTest (AreIn p f x.heap) (It (over (Stuck why.Foreign) out)) (It (settled (f ∷ fs) x.heap out)) y → Lead
          (Both b) 0 y (engine (g ∷ gs) a out) w
      at_test e (holds are is) =
          subst (λ (y : Then). Lead (Both b) 0 y (engine (g ∷ gs) a out) w) (sym is) (goes_in e are)
      at_test e (fails not_in is) =
          subst (λ (y : Then). Lead (Both b) 0 y (engine (g ∷ gs) a out) w) (sym is)
          (stuck_leads (Both b) 0 (Stuck why.Foreign) out (engine (g ∷ gs) a out) w refl)

      at_null : (t : Bool) → has_null_path f.vars ≡ t
          → OnIf (not t) (It (over AtNull out))
          (OnTest (AreIn p f x.heap) (It (over (Stuck why.Foreign) out)) (It (settled (f ∷ fs) x.heap out))) y →
          Lead (Both b) 0 y (engine (g ∷ gs) a out) w
      at_null false e bs = at_test e bs
      at_null true e is =
          subst (λ (y : Then). Lead (Both b) 0 y (engine (g ∷ gs) a out) w) (sym is)
          (eased (Both b) 1 (over AtNull out) (engine (g ∷ gs) a out) (v + 0) w (omega arith)
          (compose (Both b) (over AtNull out) g gs a out (Faults machine.Null) v 0 (v + 0) (bg.null e)
          (ends_same (Both b) AtNull machine.Null out 0 refl) (omega arith)))

  pub some_code : (c : Option Code) (k : ℕ) (code : Code) (words : List ℤ) → c ≡ Some code
      → option_map (λ (c : Code). fresh k c words) c ≡ Some (fresh k code words)
  some_code c k code words e = ap (option_map (λ (c : Code). fresh k c words)) e

  enters_there : (b : ℕ) → Links b → BodyAgrees p i n m K b
      → (e : Entry) (args : List Value) (k : ℕ) (words : List ℤ) (f : Frame) (fs : List Frame) (x : World)
      (g : machine.Frame) (gs : List machine.Frame) (a : List ℤ) (out : List ℕ) (w : ℕ) → Matches p i n x a →
      AreWords p n x.firsts args words
      → EntryIs p i n e k → MayEnter K e args x.heap → Stack b (entered e args) x (f ∷ fs) (g ∷ gs) w → (t : Bool)
      (y : Then) → OnIf t (It (over Depth out)) (enters p e args (f ∷ fs) x.heap out) y
      → Meets (Both b) y (if t then begin (rules i m) ((rules i m).fresh k words)
      (g ∷ gs) a out else End machine.Depth out) (paid e.vars + w)
  enters_there b links all e args k words f fs x g gs a out w ma ws is rd st false y bs =
      subst (λ (y : Then). Meets (Both b) y (End machine.Depth out) (paid e.vars + w)) (sym bs)
      (ends_same (Both b) Depth machine.Depth out (paid e.vars + w) refl)
  enters_there b links all e [] k words f fs x g gs a out w ma ws is rd st true y bs =
      subst (λ (y : Then). Meets (Both b) y (begin (rules i m) ((rules i m).fresh k words) (g ∷ gs) a out)
      (paid e.vars + w)) (sym bs) (stuck_meets (Both b) (Stuck why.Missing) out _ (paid e.vars + w) refl)
  enters_there b links all e (r ∷ args) k words f fs x g gs a out w ma ws is rd st true y bs =
      let bg = all e k is x a r args words is.code is.there ma ws rd in
      subst (λ (c : Option machine.Frame). Meets (Both b) y (begin (rules i m) c (g ∷ gs) a out) (paid e.vars + w))
      (sym (some_code (slice_get i.codes k) k is.code words is.there))
      (begun b links (frame_of e r args) (f ∷ fs) x (fresh k is.code words) (g ∷ gs) a out (paid e.vars) w
      (paid e.vars + w) ma bg st (omega arith) y bs)

  -- one charge
  stepped : (b : ℕ) → Links b → BodyAgrees p i n m K b
      → (r : Frame) (s : Did) (fs : List Frame) (x : World) (g : machine.Frame) (gs : List machine.Frame) (a : List ℤ)
      (out : List ℕ) (v u w : ℕ) → Follows p i n m K (Local p i n m K r b) r s x g a v → Stack b r x fs gs u →
      v + u ≤ w → (y : Then) → proceeds p d s fs out y → Lead (Both b) 1 y (engine (g ∷ gs) a out) (rate + w)
  stepped b links all r (Goes f h bytes) fs x g gs a out v u w l st le y pr =
      let z = at x h l.firsts in
      let st' = stack_later b r x z fs gs u l.onward st in
      subst (λ (y : Then). Lead (Both b) 1 y (engine (g ∷ gs) a out) (rate + w)) (sym pr)
      (compose (Both b) (settled (f ∷ fs) h (out ++ bytes)) g gs a out (Goes l.next l.arena bytes) l.cost (l.left + u)
      (rate + w) l.comes
      (settles b links r f fs z l.next gs l.arena (out ++ bytes) l.left u
      (l.left + u) l.result l.matches l.goes_on st' (omega arith)
      (ended_below b links r f z fs gs l.arena (out ++ bytes) u l.result l.matches st')) (omega (arith, l.within)))
  stepped b links all r (Enters e args f h) fs x g gs a out v u w l st le y pr =
      let z = at x h l.firsts in
      let st' = stack_later b r x z fs gs u l.onward st in
      let waits : Stack b (entered e args) z (f ∷ fs) (l.next ∷ gs) (l.left + u) =
      (l.left, u, z, omega arith, onward_itself z, r, l.result, l.waits, st') in
      let there =
      enters_there b links all e args l.code l.words f fs z l.next gs l.arena out
      (l.left + u) l.matches l.are l.entry l.may waits (nat_lt (length fs) d) y pr in
      let same : does (Enters l.code l.words l.next l.arena) gs out ≡ if nat_lt (length fs) d then begin (rules i m)
      ((rules i m).fresh l.code l.words) (l.next ∷ gs) l.arena out else End machine.Depth out =
      ap (λ (k : ℕ). let y : Next Machine Halt = if nat_lt k d then begin (rules i m)
      ((rules i m).fresh l.code l.words) (l.next ∷ gs) l.arena out else End machine.Depth out in y)
      (sym (stack_length b r x fs gs u st)) in
      compose (Both b) y g gs a out (Enters l.code l.words l.next l.arena) l.cost (paid e.vars + (l.left + u))
      (rate + w) l.comes
      (subst (λ (k : Next Machine Halt). Meets (Both b) y k (paid e.vars + (l.left + u))) (sym same) there)
      (omega (arith, l.within))
  stepped b links all r (Leaves v0 h) fs x g gs a out v u w l st le y pr =
      let z = at x h l.firsts in
      subst (λ (y : Then). Lead (Both b) 1 y (engine (g ∷ gs) a out) (rate + w)) (sym pr)
      (compose (Both b) (resumed v0 fs out (settled (given_first v0 fs) h out)) g gs a out (Leaves l.word l.arena)
      (rate + v) u (rate + w) l.comes
      (handed b links r v0 l.word fs z gs l.arena out u l.matches l.hands l.gives
      (stack_later b r x z fs gs u l.onward st)) (omega arith))
  stepped b links all r Falls fs x g gs a out v u w l st le y pr =
      subst (λ (y : Then). Lead (Both b) 1 y (engine (g ∷ gs) a out) (rate + w)) (sym pr)
      (stuck_leads (Both b) 1 (Stuck why.Missing) out (engine (g ∷ gs) a out) (rate + w) refl)
  stepped b links all r (Faults o) fs x g gs a out v u w l st le y pr =
      subst (λ (y : Then). Lead (Both b) 1 y (engine (g ∷ gs) a out) (rate + w)) (sym pr) (faulted (halt_of o) refl)
    where
      faulted : (q : Option Halt) → halt_of o ≡ q → Lead (Both b) 1 (over o out) (engine (g ∷ gs) a out) (rate + w)
      faulted None e = stuck_leads (Both b) 1 o out (engine (g ∷ gs) a out) (rate + w) e
      faulted (Some q) e =
          compose (Both b) (over o out) g gs a out (Faults q) (rate + v) u (rate + w) (l q e)
          (ends_same (Both b) o q out u e) (omega arith)

  charged_leads : (b : ℕ) → Links b → BodyAgrees p i n m K b
      → (r : Frame) (todo : List Todo) (f : Frame) (fs : List Frame) (x : World) (g : machine.Frame)
      (gs : List machine.Frame) (a : List ℤ) (out : List ℕ) (v u w : ℕ) → f.todo ≡ todo →
      f.method.result ≡ r.method.result → Matches p i n x a → LocalAt p i n m K r (suc b) todo f x g a v →
      Stack b r x fs gs u → v + u ≤ w → (y : Then) → charged p m d todo f fs x.heap out y → Lead (Both b) 1 y
      (engine (g ∷ gs) a out) (rate + w)
  charged_leads b links all r (t ∷ k) f fs x g gs a out v u w e same ma l st le y ch =
      stepped b links all r ch.did fs x g gs a out v u w (l ch.did ch.does) st le y ch.proceeds
  -- (a settled run has no such frame)
  charged_leads b links all r [] f fs x g gs a out v u w e same ma l st le y ch =
      subst (λ (y : Then). Lead (Both b) 1 y (engine (g ∷ gs) a out) (rate + w)) (sym ch)
      (subst (λ (k : List Todo). Lead (Both b) 1
      (settled_at k f fs x.heap out (resumed None fs out (settled fs x.heap out))) (engine (g ∷ gs) a out)
      (rate + w)) (sym e) (at_result f.method.result refl))
    where
      at_result : (t : Option TypeTerm) → f.method.result ≡ t
          → Lead (Both b) 1 (ended t out (resumed None fs out (settled fs x.heap out))) (engine (g ∷ gs) a out)
          (rate + w)
      at_result (Some t) i = stuck_leads (Both b) 1 (Stuck why.Kind) out (engine (g ∷ gs) a out) (rate + w) refl
      at_result None i =
          compose (Both b) (resumed None fs out (settled fs x.heap out)) g gs a out (Leaves None a) v u (rate + w)
          (l i).comes (ended_below b links r f x fs gs a out u same ma st i (l i).gives) (omega arith)

  pub link : ((b : ℕ) → BodyAgrees p i n m K b) → (b : ℕ) → Links b
  link all zero r f fs x g gs a out v u w same ma l st le = refl
  link all (suc b) r f fs x g gs a out v u w same ma l st le = (
    refl,
    λ y ch. charged_leads b (link all b) (all b) r f.todo f fs x g gs a out v u w refl same ma l
        (fewer_stack b r x fs gs u st) le y ch,
  )
