-- A quiet instruction that was paid for, and instructions to spare.
use Rattle.std.proofs.Common.{◌≡◌, ℕ, zero, suc, ◌+◌, ◌≤◌, List, [], ◌∷◌, Option, Some, None, refl, ap, ◌∙◌, arith}
use Rattle.std.specs.Prelude.{ℤ}
use Rattle.jn_steps.specs.Steps.{Goes, Enters, Leaves, Falls, Faults}
use Rattle.jn_base.specs.declared.tree.Program.{Program}
use Rattle.jn_code.specs.declared.image.Image.{Image}
use Rattle.jn_code.specs.Machine.{Halt, move}
use Rattle.jn_code.specs.Machine as machine
use Rattle.jn_sem.specs.Acts.{Todo}
use Rattle.jn_sem.specs.State.{Frame}
use Rattle.jn_sem.specs.Does.{Did}
use Rattle.jn_agree.specs.Naming.{Naming}
use Rattle.jn_agree.specs.Matches.{World}
use Rattle.jn_agree.specs.Follows.{when_quiet, quiet, Comes, Going, Knows, Follows, LocalAt, Local, rate}

no_more : {X : Type 0} {q : X} → None ≡ Some q → ⊥
no_more e = cc

module _ (p : Program) (i : Image) (n : Naming) (m : ℕ) (K : Knows) where
  pub comes_later : (g next : machine.Frame) (a na : List ℤ) (what : machine.Did) (v w : ℕ) →
      move i m g a ≡ Goes next na [] → suc v ≤ w → Comes i m next na what v → Comes i m g a what w
  comes_later g next a na what v w e le k =
      record {
        j = suc k.j;
        last = k.last;
        there = k.there;
        on = ap (λ x. when_quiet x (quiet i m k.j)) e ∙ k.on;
        does = k.does;
        cost = omega (arith, le, k.cost);
      }

  -- some quiet instructions, and then others
  quiet_joined : (j k : ℕ) (g next : machine.Frame) (a na : List ℤ) → quiet i m j g a ≡ Some (next, na) →
      quiet i m (j + k) g a ≡ quiet i m k next na
  quiet_joined zero k g next a na e =
      ap (λ (c : ℕ). quiet i m c g a) (let z : 0 + k ≡ k = omega arith in z)
      ∙ ap (λ (o : machine.Frame × List ℤ). quiet i m k o.0 o.1) (same (g, a) (next, na) e)
    where
      same : (x y : machine.Frame × List ℤ) → Some x ≡ Some y → x ≡ y
      same x y e = cc
  quiet_joined (suc j) k g next a na e =
      ap (λ (c : ℕ). quiet i m c g a) (let z : suc j + k ≡ suc (j + k) = omega arith in z)
      ∙ at (λ g2 a2. quiet_joined j k g2 next a2 na) (move i m g a) e
    where
      at : ((g2 : machine.Frame) (a2 : List ℤ) → quiet i m j g2 a2 ≡ Some (next, na) → quiet i m (j + k) g2 a2 ≡
          quiet i m k next na) → (d : machine.Did) → when_quiet d (quiet i m j) ≡ Some (next, na) →
          when_quiet d (quiet i m (j + k)) ≡ quiet i m k next na
      at below (Goes g2 a2 []) e = below g2 a2 e
      at below (Goes g2 a2 (o ∷ os)) e = cc
      at below (Enters c ws g2 a2) e = cc
      at below (Leaves v a2) e = cc
      at below Falls e = cc
      at below (Faults o) e = cc

  -- one more quiet instruction behind quiet ones
  pub quiet_more : (j : ℕ) (g mid next : machine.Frame) (a ma na : List ℤ) → quiet i m j g a ≡ Some (mid, ma) →
      move i m mid ma ≡ Goes next na [] → quiet i m (j + 1) g a ≡ Some (next, na)
  quiet_more j g mid next a ma na e mv =
      quiet_joined j 1 g mid a ma e ∙ ap (λ x. when_quiet x (quiet i m 0)) mv

  pub quiet_then : (j k : ℕ) (g mid : machine.Frame) (a ma : List ℤ) (o : Option (machine.Frame × List ℤ)) →
      quiet i m j g a ≡ Some (mid, ma) → quiet i m k mid ma ≡ o → quiet i m (j + k) g a ≡ o
  quiet_then j k g mid a ma o e f = quiet_joined j k g mid a ma e ∙ f

  pub quiet_one : (g next : machine.Frame) (a na : List ℤ) → move i m g a ≡ Goes next na [] →
      quiet i m 1 g a ≡ Some (next, na)
  quiet_one g next a na mv = ap (λ x. when_quiet x (quiet i m 0)) mv

  -- behind quiet instructions
  pub comes_quiet : (j : ℕ) (g next : machine.Frame) (a na : List ℤ) (what : machine.Did) (v w : ℕ) →
      quiet i m j g a ≡ Some (next, na) → j + v ≤ w → Comes i m next na what v → Comes i m g a what w
  comes_quiet j g next a na what v w e le k = record {
    j = j + k.j;
    last = k.last;
    there = k.there;
    on = quiet_joined j k.j g next a na e ∙ k.on;
    does = k.does;
    cost = omega (arith, le, k.cost);
  }

  -- the last of quiet instructions is one, too
  pub last_quiet : (j : ℕ) (g next : machine.Frame) (a na : List ℤ) → 1 ≤ j → quiet i m j g a ≡ Some (next, na) →
      Comes i m g a (Goes next na []) j
  last_quiet zero g next a na le e = absurd (omega (arith, le))
  last_quiet (suc zero) g next a na le e = at (move i m g a) refl e
    where
      same : (x y : machine.Frame × List ℤ) → Some x ≡ Some y → x ≡ y
      same x y e = cc

      at : (d : machine.Did) → move i m g a ≡ d → when_quiet d (quiet i m 0) ≡ Some (next, na) →
          Comes i m g a (Goes next na []) 1
      at (Goes g2 a2 []) is e = record {
        j = 0;
        last = g;
        there = a;
        on = refl;
        does = is ∙ ap (λ (o : machine.Frame × List ℤ). let d : machine.Did = Goes o.0 o.1 [] in d)
            (same (g2, a2) (next, na) e);
        cost = omega arith;
      }
      at (Goes g2 a2 (o ∷ os)) is e = absurd (no_more e)
      at (Enters c ws g2 a2) is e = absurd (no_more e)
      at (Leaves v a2) is e = absurd (no_more e)
      at Falls is e = absurd (no_more e)
      at (Faults o) is e = absurd (no_more e)
  last_quiet (suc (suc j)) g next a na le e =
      at (λ g2 a2. last_quiet (suc j) g2 next a2 na (omega arith)) (move i m g a) refl e
    where
      at : ((g2 : machine.Frame) (a2 : List ℤ) → quiet i m (suc j) g2 a2 ≡ Some (next, na) →
          Comes i m g2 a2 (Goes next na []) (suc j)) → (d : machine.Did) → move i m g a ≡ d →
          when_quiet d (quiet i m (suc j)) ≡ Some (next, na) → Comes i m g a (Goes next na []) (suc (suc j))
      at below (Goes g2 a2 []) is e =
          comes_later g g2 a a2 (Goes next na []) (suc j) (suc (suc j)) is (omega arith) (below g2 a2 e)
      at below (Goes g2 a2 (o ∷ os)) is e = absurd (no_more e)
      at below (Enters c ws g2 a2) is e = absurd (no_more e)
      at below (Leaves v a2) is e = absurd (no_more e)
      at below Falls is e = absurd (no_more e)
      at below (Faults o) is e = absurd (no_more e)

  pub comes_within : (g : machine.Frame) (a : List ℤ) (what : machine.Did) (v w : ℕ) → v ≤ w → Comes i m g a what v →
      Comes i m g a what w
  comes_within g a what v w le k =
      record { j = k.j; last = k.last; there = k.there; on = k.on; does = k.does; cost = omega (arith, le, k.cost) }

  later_follows : (L : Going) (r : Frame) (d : Did) (x : World) (g next : machine.Frame) (a : List ℤ) (w : ℕ) →
      move i m g a ≡ Goes next a [] → Follows p i n m K L r d x next a w → Follows p i n m K L r d x g a (suc w)
  later_follows L r (Goes f h bytes) x g next a w e l = record {
    firsts = l.firsts;
    next = l.next;
    arena = l.arena;
    cost = suc l.cost;
    left = l.left;
    comes = comes_later g next a a _ l.cost (suc l.cost) e (omega arith) l.comes;
    within = omega (arith, l.within);
    onward = l.onward;
    matches = l.matches;
    result = l.result;
    goes_on = l.goes_on;
  }
  later_follows L r (Enters en args f h) x g next a w e l = record {
    firsts = l.firsts;
    next = l.next;
    arena = l.arena;
    code = l.code;
    words = l.words;
    cost = suc l.cost;
    left = l.left;
    comes = comes_later g next a a _ l.cost (suc l.cost) e (omega arith) l.comes;
    within = omega (arith, l.within);
    onward = l.onward;
    matches = l.matches;
    are = l.are;
    entry = l.entry;
    may = l.may;
    result = l.result;
    waits = l.waits;
  }
  later_follows L r (Leaves v h) x g next a w e l = record {
    firsts = l.firsts;
    arena = l.arena;
    word = l.word;
    comes = comes_later g next a a _ (rate + w) (rate + suc w) e (omega arith) l.comes;
    onward = l.onward;
    matches = l.matches;
    hands = l.hands;
    gives = l.gives;
  }
  later_follows L r Falls x g next a w e l = tt
  later_follows L r (Faults o) x g next a w e l = λ q is. comes_later g next a a _ (rate + w) (rate + suc w) e
      (omega arith) (l q is)

  pub later : (r : Frame) (b : ℕ) (todo : List Todo) (f : Frame) (x : World) (g next : machine.Frame) (a : List ℤ)
      (w : ℕ) → move i m g a ≡ Goes next a [] → LocalAt p i n m K r b todo f x next a w →
      LocalAt p i n m K r b todo f x g a (suc w)
  later r b [] f x g next a w e l = λ res.
      record { comes = comes_later g next a a _ w (suc w) e (omega arith) (l res).comes; gives = (l res).gives }
  later r zero (t ∷ k) f x g next a w e l = tt
  later r (suc b) (t ∷ k) f x g next a w e l = λ d does. later_follows (Local p i n m K r b) r d x g next a w e
      (l d does)

  spare_follows : (L : Going) (r : Frame) (d : Did) (x : World) (g : machine.Frame) (a : List ℤ) (v w : ℕ) → v ≤ w →
      Follows p i n m K L r d x g a v → Follows p i n m K L r d x g a w
  spare_follows L r (Goes f h bytes) x g a v w le l = record {
    firsts = l.firsts;
    next = l.next;
    arena = l.arena;
    cost = l.cost;
    left = l.left;
    comes = l.comes;
    within = omega (arith, le, l.within);
    onward = l.onward;
    matches = l.matches;
    result = l.result;
    goes_on = l.goes_on;
  }
  spare_follows L r (Enters en args f h) x g a v w le l = record {
    firsts = l.firsts;
    next = l.next;
    arena = l.arena;
    code = l.code;
    words = l.words;
    cost = l.cost;
    left = l.left;
    comes = l.comes;
    within = omega (arith, le, l.within);
    onward = l.onward;
    matches = l.matches;
    are = l.are;
    entry = l.entry;
    may = l.may;
    result = l.result;
    waits = l.waits;
  }
  spare_follows L r (Leaves u h) x g a v w le l = record {
    firsts = l.firsts;
    arena = l.arena;
    word = l.word;
    comes = comes_within g a _ (rate + v) (rate + w) (omega (arith, le)) l.comes;
    onward = l.onward;
    matches = l.matches;
    hands = l.hands;
    gives = l.gives;
  }
  spare_follows L r Falls x g a v w le l = tt
  spare_follows L r (Faults o) x g a v w le l = λ q is. comes_within g a _ (rate + v) (rate + w) (omega (arith, le))
      (l q is)

  pub spare : (r : Frame) (b : ℕ) (todo : List Todo) (f : Frame) (x : World) (g : machine.Frame) (a : List ℤ)
      (v w : ℕ) → v ≤ w → LocalAt p i n m K r b todo f x g a v → LocalAt p i n m K r b todo f x g a w
  spare r b [] f x g a v w le l = λ res.
      record { comes = comes_within g a _ v w le (l res).comes; gives = (l res).gives }
  spare r zero (t ∷ k) f x g a v w le l = tt
  spare r (suc b) (t ∷ k) f x g a v w le l = λ d does. spare_follows (Local p i n m K r b) r d x g a v w le (l d does)
