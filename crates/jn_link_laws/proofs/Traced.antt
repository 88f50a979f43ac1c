-- A body by itself goes together with its code until it returns, with what it gives back.
use Rattle.std.proofs.Common.{◌≡◌, ℕ, zero, suc, ◌+◌, ◌*◌, ◌≤◌, List, [], ◌∷◌, ◌++◌, length, Option, Some, None, Bool, true, false, refl, sym, ap, ◌∙◌, subst, arith}
use Rattle.std.specs.Prelude.{ℤ, nat_lt, not, slice_get, if◌then◌else◌}
use Rattle.jn_steps.specs.Runs.{Next, On, End, after}
use Rattle.jn_steps.specs.Steps.{Goes, Enters, Leaves, Falls, Faults}
use Rattle.jn_steps.specs.Frames.{return_to, begin}
use Rattle.jn_steps.proofs.Runs.{after_on}
use Rattle.jn_steps.proofs.Machines.{machine_grows}
use Rattle.jn_base.specs.declared.tree.TypeTerm.{TypeTerm}
use Rattle.jn_base.specs.declared.tree.Program.{Program}
use Rattle.jn_code.specs.declared.image.Image.{Image}
use Rattle.jn_code.specs.declared.image.Code.{Code}
use Rattle.jn_code.specs.Machine.{Halt, move, instruct, rules, Machine, fresh}
use Rattle.jn_code.specs.Machine as machine
use Rattle.jn_sem.specs.declared.outcome.Why.{Why}
use Rattle.jn_sem.specs.declared.outcome.Why.TheVariants as why
use Rattle.jn_sem.specs.Values.{Value}
use Rattle.jn_sem.specs.Acts.{Return, Todo, todo}
use Rattle.jn_sem.specs.State.{Heap, Frame, has_null_path}
use Rattle.jn_sem.specs.Does.{Ending, AtNull, Depth, Stuck, Entry, Did, Does, returns}
use Rattle.jn_sem.specs.Asks.{OnTest, OnIf, OnFirst, It, holds, fails}
use Rattle.jn_sem.specs.Does as does_of
use Rattle.jn_sem.specs.Run.{Running, Then, running, over, settled, settled_at, ended, given, given_first, resumed, frame_of, AreIn, begins, enters, proceeds, charged, Charge, shown, acting}
use Rattle.jn_sem.proofs.SureCharges.{charge_keeps}
use Rattle.jn_agree.specs.Naming.{Naming, AreWords}
use Rattle.jn_agree.specs.Matches.{World, Matches}
use Rattle.jn_agree.specs.Follows.{halt_of, HandsBack, rate, paid, EntryIs, Knows, MayEnter, entered, FreeEnd, at, Follows, LocalAt, Local, Begins, BodyAgrees}
use Rattle.jn_link_laws.specs.Traces.{idle, below, running_code, HasReturned, GaveBack, Comes, Traced, BodiesTraced}
use Rattle.jn_link_laws.proofs.Link.{onward_itself, act, mout, Lead, engine, Both, Stack, stack_later, stack_length, fewer_stack, does, Meets, compose, eased, stuck_leads, none_given, no_result, ends_same, stuck_meets, same_result, wakes, some_code}
use Rattle.jn_link_laws.proofs.TraceSteps.{no_more, enough}

-- nothing is done where a body without a result returns one
idle_stuck : (p : Program) (m : ℕ) (f : Frame) (h : Heap) (d : Did) → f.method.result ≡ None →
    Does p m (Return true) f h d → (w : Why) × (d ≡ Faults (Stuck w))
idle_stuck p m f h d none step = on_vals f.vals step
  where
    on_result : (t : Option TypeTerm) (v : Value) → t ≡ None → returns p f h t v d → (w : Why) × (d ≡ Faults (Stuck w))
    on_result None v e step = (why.Kind, step)
    on_result (Some t) v e step = absurd (no e)
      where
        no : Some t ≡ None → ⊥
        no e = cc

    on_vals : (vs : List Value) → OnFirst vs does_of.missing (λ v vs. returns p f h f.method.result v) d →
        (w : Why) × (d ≡ Faults (Stuck w))
    on_vals [] step = (why.Missing, step)
    on_vals (v ∷ vs) step = on_result f.method.result v none step

module _ (p : Program) (i : Image) (n : Naming) (m d : ℕ) (K : Knows) (t : Option TypeTerm) where
  -- what is seen of both: the same output; and where the body has returned, that they gave back the same
  pub record Seen (s : Running) (e : Machine) : Type 0 where
    pub same : shown s ≡ mout p i n m d K e
    pub gave : HasReturned s → GaveBack p i n t s e

  abbrev Held : ℕ → Running → Machine → ℕ → Type 0
  Held zero s e w = Seen s e
  Held (suc b) s e w =
      Seen s e × ((x : Then) → act p i n m d K s x → Lead p i n m d K (Held b) 1 x e (rate + w))

  abbrev Link : (Running → Machine → ℕ → Type 0) → ℕ → Then → Machine → ℕ → Type 0
  Link = Lead p i n m d K

  abbrev Meet : (Running → Machine → ℕ → Type 0) → Then → Next Machine Halt → ℕ → Type 0
  Meet = Meets p i n m d K

  abbrev run_of : List machine.Frame → List ℤ → List ℕ → Machine
  run_of = engine p i n m d K

  abbrev Below : ℕ → Frame → World → List Frame → List machine.Frame → ℕ → Type 0
  Below = Stack p i n m d K

  -- the last frame below is the one that waits for the body alone, which has this result
  abbrev Bottom : Frame → List Frame → List machine.Frame → Type 0
  Bottom r [] gs = ⊥
  Bottom r (f ∷ []) [] = ⊥
  Bottom r (f ∷ []) (g ∷ []) = (f ≡ idle t) × (g ≡ below) × (r.method.result ≡ t)
  Bottom r (f ∷ []) (g ∷ (h ∷ gs)) = ⊥
  Bottom r (f ∷ (q ∷ fs)) [] = ⊥
  Bottom r (f ∷ (q ∷ fs)) (g ∷ gs) = Bottom f (q ∷ fs) gs

  -- (the result is all that it says of the frame at work)
  same_bottom : (r q : Frame) (fs : List Frame) (gs : List machine.Frame) → r.method.result ≡ q.method.result →
      Bottom r fs gs → Bottom q fs gs
  same_bottom r q [] gs e b = b
  same_bottom r q (f ∷ []) [] e b = b
  same_bottom r q (f ∷ []) (g ∷ []) e b = (b.0, b.1, sym e ∙ b.2)
  same_bottom r q (f ∷ []) (g ∷ (h ∷ gs)) e b = b
  same_bottom r q (f ∷ (k ∷ fs)) [] e b = b
  same_bottom r q (f ∷ (k ∷ fs)) (g ∷ gs) e b = b

  no_return : (r f : Frame) (fs : List Frame) (gs : List machine.Frame) (h : Heap) (out : List ℕ) → Bottom r fs gs →
      HasReturned (running (f ∷ fs) h out) → ⊥
  no_return r f [] gs h out b k = b
  no_return r f (q ∷ fs) gs h out b k = two (k.1)
    where
      two : f ∷ (q ∷ fs) ≡ k.0 ∷ [] → ⊥
      two e = cc

  Links : ℕ → Type 0
  Links b =
      (r f : Frame) (fs : List Frame) (x : World) (g : machine.Frame) (gs : List machine.Frame) (a : List ℤ)
      (out : List ℕ) (v u w : ℕ)
      → f.method.result ≡ r.method.result → Matches p i n x a → Local p i n m K r b f x g a v → Below b r x fs gs u →
      Bottom r fs gs → v + u ≤ w → Held b (running (f ∷ fs) x.heap out) (run_of (g ∷ gs) a out) w

  -- what comes of the frames below, where the body at work ends without a result
  abbrev Back : ℕ → Frame → Frame → List Frame → World → List machine.Frame → List ℤ → List ℕ → ℕ → Type 0
  Back b r f fs x gs a out u =
      f.method.result ≡ None → K.gives r x.heap None → Meet (Held b) (resumed None fs out (settled fs x.heap out))
      (return_to (rules i m) None gs a out) u

  settles : (b : ℕ) → Links b
      → (r f : Frame) (fs : List Frame) (x : World) (g : machine.Frame) (gs : List machine.Frame) (a : List ℤ)
      (out : List ℕ) (v u w : ℕ) → f.method.result ≡ r.method.result → Matches p i n x a
      → Local p i n m K r b f x g a v → Below b r x fs gs u → Bottom r fs gs → v + u ≤ w → Back b r f fs x gs a out u →
      Link (Held b) 0 (settled (f ∷ fs) x.heap out) (run_of (g ∷ gs) a out) w
  unfolding Links
  settles b links r f fs x g gs a out v u w same ma l st bot le back = at_todo f.todo refl l
    where
      at_result : (t : Option TypeTerm) → f.method.result ≡ t
          → (f.method.result ≡ None → FreeEnd p i n m K r f x g a v) → Link (Held b) 0
          (ended t out (resumed None fs out (settled fs x.heap out))) (run_of (g ∷ gs) a out) w
      at_result (Some t) e l = stuck_leads p i n m d K (Held b) 0 (Stuck why.Kind) out (run_of (g ∷ gs) a out) w refl
      at_result None e l =
          eased p i n m d K (Held b) 1 (resumed None fs out (settled fs x.heap out)) (run_of (g ∷ gs) a out)
          (v + u) w le
          (compose p i n m d K (Held b) (resumed None fs out (settled fs x.heap out)) g gs a out (Leaves None a) v u
          (v + u) (l e).comes (back e (l e).gives) (omega arith))

      at_todo : (todo : List Todo) → f.todo ≡ todo → LocalAt p i n m K r b todo f x g a v
          → Link (Held b) 0 (settled_at todo f fs x.heap out (resumed None fs out (settled fs x.heap out)))
          (run_of (g ∷ gs) a out) w
      at_todo (t ∷ k) e l = (
        0,
        w,
        run_of (g ∷ gs) a out,
        refl,
        omega arith,
        omega arith,
        links r f fs x g gs a out v u w same ma
            (subst (λ (k : List Todo). LocalAt p i n m K r b k f x g a v) (sym e) l) st bot le,
      )
      at_todo [] e l = at_result f.method.result refl l

  -- the run of the body is over
  over_held : (b : ℕ) (x : World) (a : List ℤ) (out : List ℕ) (v : Option Value) (u : Option ℤ) (w : ℕ) →
      Matches p i n x a → HandsBack p n x t v u →
      Held b (running (given v (idle t) ∷ []) x.heap out) (run_of (machine.given u below ∷ []) a out) w
  over_held b x a out v u w ma hb = at b
    where
      seen : Seen (running (given v (idle t) ∷ []) x.heap out) (run_of (machine.given u below ∷ []) a out)
      seen = record {
        same = refl;
        gave = λ k. record {
          firsts = x.firsts;
          matches = ma;
          value = v;
          word = u;
          frames = refl;
          machine = refl;
          hands = hb;
        };
      }

      stops : (v : Option Value) (R : Running → Machine → ℕ → Type 0) (e : Machine) (w : ℕ) (y : Then) →
          charged p m d (todo 0 (Return true) ∷ []) (given v (idle t)) [] x.heap out y → Link R 1 y e w
      stops v R e w y ch =
          let k = idle_stuck p m (acting (todo 0 (Return true)) [] (given v (idle t))) x.heap ch.did (no_result_of v)
          ch.does in
          subst (λ (y : Then). Link R 1 y e w)
          (sym (subst (λ (s : Did). proceeds p d s [] out y) k.1 ch.proceeds))
          (stuck_leads p i n m d K R 1 (Stuck k.0) out e w refl)
        where
          no_result_of : (v : Option Value) → (given v (idle t)).method.result ≡ None
          no_result_of None = refl
          no_result_of (Some v) = refl

      todo_of : (v : Option Value) → (given v (idle t)).todo ≡ todo 0 (Return true) ∷ []
      todo_of None = refl
      todo_of (Some v) = refl

      at : (b : ℕ) → Held b (running (given v (idle t) ∷ []) x.heap out) (run_of (machine.given u below ∷ []) a out) w
      at zero = seen
      at (suc b) = (
        seen,
        λ y ch. stops v (Held b) (run_of (machine.given u below ∷ []) a out) (rate + w) y
            (subst (λ (k : List Todo). charged p m d k (given v (idle t)) [] x.heap out y) (todo_of v) ch),
      )

  -- A result comes to the frames below, or none does.
  handed : (b : ℕ) → Links b
      → (r : Frame) (v : Option Value) (u : Option ℤ) (fs : List Frame) (x : World) (gs : List machine.Frame)
      (a : List ℤ) (out : List ℕ) (w : ℕ) → Matches p i n x a
      → HandsBack p n x r.method.result v u → K.gives r x.heap v → Below b r x fs gs w → Bottom r fs gs →
      Meet (Held b) (resumed v fs out (settled (given_first v fs) x.heap out)) (return_to (rules i m) u gs a out) w
  handed b links r v u [] x gs a out w ma hb gb st bot = absurd bot
  handed b links r v u (f ∷ []) x [] a out w ma hb gb st bot = absurd bot
  handed b links r v u (f ∷ []) x (g ∷ (h ∷ gs)) a out w ma hb gb st bot = absurd bot
  handed b links r v u (f ∷ (q ∷ fs)) x [] a out w ma hb gb st bot = absurd bot
  handed b links r v u (f ∷ []) x (g ∷ []) a out w ma hb gb st bot =
      subst (λ (f : Frame). Meet (Held b) (resumed v (f ∷ []) out (settled (given_first v (f ∷ [])) x.heap out))
      (return_to (rules i m) u (g ∷ []) a out) w) (sym bot.0)
      (subst (λ (g : machine.Frame). Meet (Held b)
      (resumed v (idle t ∷ []) out (settled (given_first v (idle t ∷ [])) x.heap out))
      (return_to (rules i m) u (g ∷ []) a out) w) (sym bot.1)
      (wakes p i n m d K (Held b) v (idle t) [] x (machine.given u below) [] a out w
      (at v (subst (λ (t : Option TypeTerm). HandsBack p n x t v u) bot.2 hb))))
    where
      at : (v : Option Value) → HandsBack p n x t v u →
          Link (Held b) 0 (settled (given v (idle t) ∷ []) x.heap out) (run_of (machine.given u below ∷ []) a out) w
      at None hb = (
        0,
        w,
        run_of (machine.given u below ∷ []) a out,
        refl,
        omega arith,
        omega arith,
        over_held b x a out None u w ma hb,
      )
      at (Some v) hb = (
        0,
        w,
        run_of (machine.given u below ∷ []) a out,
        refl,
        omega arith,
        omega arith,
        over_held b x a out (Some v) u w ma hb,
      )
  handed b links r v u (f ∷ (q ∷ fs)) x (g ∷ gs) a out w ma hb gb st bot =
      wakes p i n m d K (Held b) v f (q ∷ fs) x (machine.given u g) gs a out w
      (settles b links st.5 (given v f) (q ∷ fs) x (machine.given u g) gs a out st.0 st.1 w
      (same_result p i n m d K v f ∙ st.6)
      ma (st.7 x a v u st.4 ma hb gb) st.8 (same_bottom f st.5 (q ∷ fs) gs st.6 bot) st.3
      (λ e back. subst (λ (hs : List Frame). Meet (Held b) (resumed None (q ∷ fs) out (settled hs x.heap out))
      (return_to (rules i m) None gs a out) st.1) (none_given p i n m d K (q ∷ fs))
      (handed b links st.5 None None (q ∷ fs) x gs a out st.1 ma
      (no_result p i n m d K x st.5.method.result (sym st.6 ∙ sym (same_result p i n m d K v f) ∙ e)) back st.8
      (same_bottom f st.5 (q ∷ fs) gs st.6 bot))))

  -- ---- a body is entered

  ended_below : (b : ℕ) → Links b
      → (r f : Frame) (x : World) (fs : List Frame) (gs : List machine.Frame) (a : List ℤ) (out : List ℕ) (w : ℕ) →
      f.method.result ≡ r.method.result → Matches p i n x a → Below b r x fs gs w → Bottom r fs gs
      → Back b r f fs x gs a out w
  ended_below b links r f x fs gs a out w same ma st bot e back =
      subst (λ (hs : List Frame). Meet (Held b) (resumed None fs out (settled hs x.heap out))
      (return_to (rules i m) None gs a out) w) (none_given p i n m d K fs)
      (handed b links r None None fs x gs a out w ma (no_result p i n m d K x r.method.result (sym same ∙ e))
      back st bot)

  begun : (b : ℕ) → Links b
      → (f : Frame) (fs : List Frame) (x : World) (g : machine.Frame) (gs : List machine.Frame) (a : List ℤ)
      (out : List ℕ) (v u w : ℕ) → Matches p i n x a → Begins p i n m K b f x g a v → Below b f x fs gs u →
      Bottom f fs gs → v + u ≤ w → (y : Then) → begins p f fs x.heap out y →
      Link (Held b) 0 y (run_of (g ∷ gs) a out) w
  begun b links f fs x g gs a out v u w ma bg st bot le y bs = at_null (has_null_path f.vars) refl bs
    where
      goes_in : has_null_path f.vars ≡ false → AreIn p f x.heap
          → Link (Held b) 0 (settled (f ∷ fs) x.heap out) (run_of (g ∷ gs) a out) w
      goes_in e are =
          settles b links f f fs x g gs a out v u w refl ma (bg.goes e are) st bot le
          (ended_below b links f f x fs gs a out u refl ma st bot)

      at_test : has_null_path f.vars ≡ false
          → OnTest (AreIn p f x.heap) (It (over (Stuck why.Foreign) out)) (It (settled (f ∷ fs) x.heap out)) y → Link
          (Held b) 0 y (run_of (g ∷ gs) a out) w
      at_test e (holds are is) =
          subst (λ (y : Then). Link (Held b) 0 y (run_of (g ∷ gs) a out) w) (sym is) (goes_in e are)
      at_test e (fails not_in is) =
          subst (λ (y : Then). Link (Held b) 0 y (run_of (g ∷ gs) a out) w) (sym is)
          (stuck_leads p i n m d K (Held b) 0 (Stuck why.Foreign) out (run_of (g ∷ gs) a out) w refl)

      at_null : (t : Bool) → has_null_path f.vars ≡ t
          → OnIf (not t) (It (over AtNull out))
          (OnTest (AreIn p f x.heap) (It (over (Stuck why.Foreign) out)) (It (settled (f ∷ fs) x.heap out))) y →
          Link (Held b) 0 y (run_of (g ∷ gs) a out) w
      at_null false e bs = at_test e bs
      at_null true e is =
          subst (λ (y : Then). Link (Held b) 0 y (run_of (g ∷ gs) a out) w) (sym is)
          (eased p i n m d K (Held b) 1 (over AtNull out) (run_of (g ∷ gs) a out) (v + 0) w (omega (arith, le))
          (compose p i n m d K (Held b) (over AtNull out) g gs a out (Faults machine.Null) v 0 (v + 0) (bg.null e)
          (ends_same p i n m d K (Held b) AtNull machine.Null out 0 refl) (omega arith)))

  enters_there : (b : ℕ) → Links b → BodyAgrees p i n m K b
      → (e : Entry) (args : List Value) (k : ℕ) (words : List ℤ) (f : Frame) (fs : List Frame) (x : World)
      (g : machine.Frame) (gs : List machine.Frame) (a : List ℤ) (out : List ℕ) (w : ℕ) → Matches p i n x a →
      AreWords p n x.firsts args words
      → EntryIs p i n e k → MayEnter K e args x.heap → Below b (entered e args) x (f ∷ fs) (g ∷ gs) w →
      Bottom (entered e args) (f ∷ fs) (g ∷ gs) → (z : Bool)
      (y : Then) → OnIf z (It (over Depth out)) (enters p e args (f ∷ fs) x.heap out) y
      → Meet (Held b) y (if z then begin (rules i m) ((rules i m).fresh k words)
      (g ∷ gs) a out else End machine.Depth out) (paid e.vars + w)
  enters_there b links all e args k words f fs x g gs a out w ma ws is rd st bot false y bs =
      subst (λ (y : Then). Meet (Held b) y (End machine.Depth out) (paid e.vars + w)) (sym bs)
      (ends_same p i n m d K (Held b) Depth machine.Depth out (paid e.vars + w) refl)
  enters_there b links all e [] k words f fs x g gs a out w ma ws is rd st bot true y bs =
      subst (λ (y : Then). Meet (Held b) y (begin (rules i m) ((rules i m).fresh k words) (g ∷ gs) a out)
      (paid e.vars + w)) (sym bs) (stuck_meets p i n m d K (Held b) (Stuck why.Missing) out _ (paid e.vars + w) refl)
  enters_there b links all e (r ∷ args) k words f fs x g gs a out w ma ws is rd st bot true y bs =
      let bg = all e k is x a r args words is.code is.there ma ws rd in
      subst (λ (c : Option machine.Frame). Meet (Held b) y (begin (rules i m) c (g ∷ gs) a out) (paid e.vars + w))
      (sym (some_code p i n m d K (slice_get i.codes k) k is.code words is.there))
      (begun b links (frame_of e r args) (f ∷ fs) x (fresh k is.code words) (g ∷ gs) a out (paid e.vars) w
      (paid e.vars + w) ma bg st bot (omega arith) y bs)

  -- one charge
  stepped : (b : ℕ) → Links b → BodyAgrees p i n m K b
      → (r : Frame) (s : Did) (fs : List Frame) (x : World) (g : machine.Frame) (gs : List machine.Frame) (a : List ℤ)
      (out : List ℕ) (v u w : ℕ) → Follows p i n m K (Local p i n m K r b) r s x g a v → Below b r x fs gs u →
      Bottom r fs gs → v + u ≤ w → (y : Then) → proceeds p d s fs out y →
      Link (Held b) 1 y (run_of (g ∷ gs) a out) (rate + w)
  stepped b links all r (Goes f h bytes) fs x g gs a out v u w l st bot le y pr =
      let z = at x h l.firsts in
      let st' = stack_later p i n m d K b r x z fs gs u l.onward st in
      subst (λ (y : Then). Link (Held b) 1 y (run_of (g ∷ gs) a out) (rate + w)) (sym pr)
      (compose p i n m d K (Held b) (settled (f ∷ fs) h (out ++ bytes)) g gs a out (Goes l.next l.arena bytes) l.cost
      (l.left + u) (rate + w) l.comes
      (settles b links r f fs z l.next gs l.arena (out ++ bytes) l.left u
      (l.left + u) l.result l.matches l.goes_on st' bot (omega arith)
      (ended_below b links r f z fs gs l.arena (out ++ bytes) u l.result l.matches st' bot))
      (omega (arith, l.within, le)))
  stepped b links all r (Enters e args f h) fs x g gs a out v u w l st bot le y pr =
      let z = at x h l.firsts in
      let st' = stack_later p i n m d K b r x z fs gs u l.onward st in
      let waits : Below b (entered e args) z (f ∷ fs) (l.next ∷ gs) (l.left + u) =
      (l.left, u, z, omega arith, onward_itself z, r, l.result, l.waits, st') in
      let there =
      enters_there b links all e args l.code l.words f fs z l.next gs l.arena out
      (l.left + u) l.matches l.are l.entry l.may waits
      (deeper (entered e args) f fs l.next gs (same_bottom r f fs gs (sym l.result) bot))
      (nat_lt (length fs) d) y pr in
      let same : does p i n m d K (Enters l.code l.words l.next l.arena) gs out ≡
      if nat_lt (length fs) d then begin (rules i m)
      ((rules i m).fresh l.code l.words) (l.next ∷ gs) l.arena out else End machine.Depth out =
      ap (λ (k : ℕ). let y : Next Machine Halt = if nat_lt k d then begin (rules i m)
      ((rules i m).fresh l.code l.words) (l.next ∷ gs) l.arena out else End machine.Depth out in y)
      (sym (stack_length p i n m d K b r x fs gs u st)) in
      compose p i n m d K (Held b) y g gs a out (Enters l.code l.words l.next l.arena) l.cost
      (paid e.vars + (l.left + u))
      (rate + w) l.comes
      (subst (λ (k : Next Machine Halt). Meet (Held b) y k (paid e.vars + (l.left + u))) (sym same) there)
      (omega (arith, l.within, le))
    where
      deeper : (q f : Frame) (fs : List Frame) (g : machine.Frame) (gs : List machine.Frame) → Bottom f fs gs →
          Bottom q (f ∷ fs) (g ∷ gs)
      deeper q f [] g gs b = absurd b
      deeper q f (k ∷ fs) g gs b = b
  stepped b links all r (Leaves v0 h) fs x g gs a out v u w l st bot le y pr =
      let z = at x h l.firsts in
      subst (λ (y : Then). Link (Held b) 1 y (run_of (g ∷ gs) a out) (rate + w)) (sym pr)
      (compose p i n m d K (Held b) (resumed v0 fs out (settled (given_first v0 fs) h out)) g gs a out
      (Leaves l.word l.arena) (rate + v) u (rate + w) l.comes
      (handed b links r v0 l.word fs z gs l.arena out u l.matches l.hands l.gives
      (stack_later p i n m d K b r x z fs gs u l.onward st) bot) (omega (arith, le)))
  stepped b links all r Falls fs x g gs a out v u w l st bot le y pr =
      subst (λ (y : Then). Link (Held b) 1 y (run_of (g ∷ gs) a out) (rate + w)) (sym pr)
      (stuck_leads p i n m d K (Held b) 1 (Stuck why.Missing) out (run_of (g ∷ gs) a out) (rate + w) refl)
  stepped b links all r (Faults o) fs x g gs a out v u w l st bot le y pr =
      subst (λ (y : Then). Link (Held b) 1 y (run_of (g ∷ gs) a out) (rate + w)) (sym pr) (faulted (halt_of o) refl)
    where
      faulted : (q : Option Halt) → halt_of o ≡ q → Link (Held b) 1 (over o out) (run_of (g ∷ gs) a out) (rate + w)
      faulted None e = stuck_leads p i n m d K (Held b) 1 o out (run_of (g ∷ gs) a out) (rate + w) e
      faulted (Some q) e =
          compose p i n m d K (Held b) (over o out) g gs a out (Faults q) (rate + v) u (rate + w) (l q e)
          (ends_same p i n m d K (Held b) o q out u e) (omega (arith, le))

  charged_leads : (b : ℕ) → Links b → BodyAgrees p i n m K b
      → (r : Frame) (todo : List Todo) (f : Frame) (fs : List Frame) (x : World) (g : machine.Frame)
      (gs : List machine.Frame) (a : List ℤ) (out : List ℕ) (v u w : ℕ) → f.todo ≡ todo →
      f.method.result ≡ r.method.result → Matches p i n x a → LocalAt p i n m K r (suc b) todo f x g a v →
      Below b r x fs gs u → Bottom r fs gs → v + u ≤ w → (y : Then) → charged p m d todo f fs x.heap out y →
      Link (Held b) 1 y (run_of (g ∷ gs) a out) (rate + w)
  charged_leads b links all r (t ∷ k) f fs x g gs a out v u w e same ma l st bot le y ch =
      stepped b links all r ch.did fs x g gs a out v u w (l ch.did ch.does) st bot le y ch.proceeds
  -- (a settled run has no such frame)
  charged_leads b links all r [] f fs x g gs a out v u w e same ma l st bot le y ch =
      subst (λ (y : Then). Link (Held b) 1 y (run_of (g ∷ gs) a out) (rate + w)) (sym ch)
      (subst (λ (k : List Todo). Link (Held b) 1
      (settled_at k f fs x.heap out (resumed None fs out (settled fs x.heap out))) (run_of (g ∷ gs) a out)
      (rate + w)) (sym e) (at_result f.method.result refl))
    where
      at_result : (t : Option TypeTerm) → f.method.result ≡ t
          → Link (Held b) 1 (ended t out (resumed None fs out (settled fs x.heap out))) (run_of (g ∷ gs) a out)
          (rate + w)
      at_result (Some t) i0 = stuck_leads p i n m d K (Held b) 1 (Stuck why.Kind) out (run_of (g ∷ gs) a out)
          (rate + w) refl
      at_result None i0 =
          compose p i n m d K (Held b) (resumed None fs out (settled fs x.heap out)) g gs a out (Leaves None a) v u
          (rate + w) (l i0).comes (ended_below b links r f x fs gs a out u same ma st bot i0 (l i0).gives)
          (omega (arith, le))

  linked : ((b : ℕ) → BodyAgrees p i n m K b) → (b : ℕ) → Links b
  unfolding Links
  linked all zero r f fs x g gs a out v u w same ma l st bot le =
      record { same = refl; gave = λ k. absurd (no_return r f fs gs x.heap out bot k) }
  linked all (suc b) r f fs x g gs a out v u w same ma l st bot le = (
    record { same = refl; gave = λ k. absurd (no_return r f fs gs x.heap out bot k) },
    λ y ch. charged_leads b (linked all b) (all b) r f.todo f fs x g gs a out v u w refl same ma l
        (fewer_stack p i n m d K b r x fs gs u st) bot le y ch,
  )

  -- ---- the clauses

  fewer_links : (R P : Running → Machine → ℕ → Type 0) → ((s : Running) (e : Machine) (w : ℕ) → R s e w → P s e w) →
      (x : Then) (e : Machine) (lo w : ℕ) → Link R lo x e w → Link P lo x e w
  fewer_links R P f (On s) e lo w l = (l.0, l.1, l.2, l.3, l.4, l.5, f s l.2 l.1 l.6)
  fewer_links R P f (End o bytes) e lo w l = l

  held_both : (b : ℕ) (s : Running) (e : Machine) (w : ℕ) → Held b s e w → Both p i n m d K b s e w
  held_both zero s e w h = h.same
  held_both (suc b) s e w h =
      (h.0.same, λ x ch. fewer_links (Held b) (Both p i n m d K b) (held_both b) x e 1 (rate + w) (h.1 x ch))

  held_seen : (b : ℕ) (s : Running) (e : Machine) (w : ℕ) → Held b s e w → Seen s e
  held_seen zero s e w h = h
  held_seen (suc b) s e w h = h.0

  -- where k charges lead to the body's return, the instructions return so
  back : (k b lo : ℕ) (y : Then) (e : Machine) (w : ℕ) (s : Running) → k ≤ b → Link (Held b) lo y e w →
      Comes p m d k y s → HasReturned s →
      (j : ℕ) × (v : Machine) × (j ≤ 32 * k + w) × (after (instruct i m d) j e ≡ On v) × GaveBack p i n t s v
  back zero b lo (End o out) e w s kb l c h = absurd (no c)
    where
      no : ◌≡◌ {A = Then} (End o out) (On s) → ⊥
      no e = cc
  back zero b lo (On u) e w s kb l c h =
      let same : u ≡ s = got c in
      let short = l.5 in (
        l.0,
        l.2,
        omega (arith, short),
        l.3,
        subst (λ (s : Running). GaveBack p i n t s l.2) same ((held_seen b u l.2 l.1 l.6).gave
            (subst (λ (s : Running). HasReturned s) (sym same) h)),
      )
    where
      got : ◌≡◌ {A = Then} (On u) (On s) → u ≡ s
      got e = cc
  back (suc k) b lo (End o out) e w s kb l c h = absurd c
  back (suc k) zero lo (On u) e w s kb l c h = absurd (omega (arith, kb))
  back (suc k) (suc b) lo (On u) e w s kb l c h =
      let r = back k b 1 c.0 l.2 (rate + l.1) s (omega (arith, kb)) (l.6.1 c.0 c.1) c.2 h in
      let short = l.5 in
      let few = r.2 in
      (l.0 + r.0, r.1, omega (arith, short, few), after_on (instruct i m d) l.0 r.0 e l.2 l.3 ∙ r.3, r.4)

  pub traced : ((b : ℕ) → BodyAgrees p i n m K b) → (b : ℕ) (e : Entry) (k : ℕ) (x : World) (a : List ℤ) (r : Value)
      (args : List Value) (words : List ℤ) (c : Code) → e.method.result ≡ t → EntryIs p i n e k →
      slice_get i.codes k ≡ Some c → Matches p i n x a → AreWords p n x.firsts (r ∷ args) words →
      MayEnter K e (r ∷ args) x.heap → (y : Then) → enters p e (r ∷ args) (idle t ∷ []) x.heap [] y →
      Traced p i n m d t y (running_code (machine.fresh k c words) a) b (paid e.vars)
  traced all b e k x a r args words c res entry there ma are may y bs = record {
    wrote = λ j q le is. no_more rate (Charge p m d) shown (instruct i m d) (λ (s : Machine). s.output) halt_of
        (charge_keeps p m d) (machine_grows (rules i m) d) j b 0 j y _ (paid e.vars) q le (omega arith) both is;
    printed = λ j q le is. enough rate (Charge p m d) shown (instruct i m d) (λ (s : Machine). s.output) halt_of
        (charge_keeps p m d) (machine_grows (rules i m) d) j b 0 (32 * j + paid e.vars) y _ (paid e.vars) q le
        (omega arith) both is;
    returned = λ j u le c h. back j b 0 y _ (paid e.vars) u le held c h;
  }
    where
      f : Frame
      f = frame_of e r args

      waits : Below b f x (idle t ∷ []) (below ∷ []) 0
      waits = (0, 0, x, omega arith, onward_itself x, idle t, refl, λ z a v u on ma hb gb. nothing z a v u, tt)
        where
          stays : (b : ℕ) (f : Frame) (z : World) (g : machine.Frame) (a : List ℤ) → f.method.result ≡ None →
              LocalAt p i n m K (idle t) b (todo 0 (Return true) ∷ []) f z g a 0
          stays zero f z g a none = tt
          stays (suc b) f z g a none = λ s step.
              let k = idle_stuck p m (acting (todo 0 (Return true)) [] f) z.heap s none step in
              subst (λ (s : Did). Follows p i n m K (Local p i n m K (idle t) b) (idle t) s z g a 0) (sym k.1)
              (λ q is. absurd (never is))
            where
              never : {X : Type 0} {q : X} → None ≡ Some q → ⊥
              never e = cc

          nothing : (z : World) (a : List ℤ) (v : Option Value) (u : Option ℤ) →
              Local p i n m K (idle t) b (given v (idle t)) z (machine.given u below) a 0
          nothing z a None u = stays b (idle t) z (machine.given u below) a refl
          nothing z a (Some v) u = stays b (given (Some v) (idle t)) z (machine.given u below) a refl

      held : Link (Held b) 0 y (running_code (machine.fresh k c words) a) (paid e.vars)
      held = begun b (linked all b) f (idle t ∷ []) x (machine.fresh k c words) (below ∷ []) a [] (paid e.vars) 0
          (paid e.vars) ma (all b e k entry x a r args words c there ma are may) waits (refl, refl, res)
          (omega arith) y bs

      both : Link (Both p i n m d K b) 0 y (running_code (machine.fresh k c words) a) (paid e.vars)
      both = fewer_links (Held b) (Both p i n m d K b) (held_both b) y (running_code (machine.fresh k c words) a) 0
          (paid e.vars) held

pub traces_agree : (K : Knows) (p : Program) (i : Image) (n : Naming) (m d : ℕ) → ((b : ℕ) → BodyAgrees p i n m K b) →
    (b : ℕ) → BodiesTraced p i n m d b K
traces_agree K p i n m d all b e k x a r args words c entry there ma are may y bs =
    traced p i n m d K e.method.result all b e k x a r args words c refl entry there ma are may y bs
