-- A code whose whole is such a part has no fault: the pass over it ends with the kinds known.
use Rattle.std.proofs.Common.{◌≡◌, ◌≢◌, ℕ, zero, suc, ◌+◌, ◌<◌, ◌≤◌, List, [], ◌∷◌, length, replicate, Option, Some, None, Bool, true, false, ◌&&◌, refl, sym, ap, ◌∙◌, subst, arith, inl, inr, ◌⊎◌}
use Rattle.std.specs.Prelude.{get_or, slice_get, slice_set, nat_lt, nat_le, if◌then◌else◌}
use Rattle.std.proofs.lemmas.Bool.{cases_lt, ltb-true, ltb-false}
use Rattle.std.proofs.lemmas.List.{length-replicate}
use Rattle.std.proofs.lemmas.Option.{slice_get_within, slice_get-get_or}
use Rattle.jn_code.specs.declared.kind.OperandKind.{OperandKind}
use Rattle.jn_code.specs.declared.kind.OperandKind.TheVariants as kind
use Rattle.jn_code.specs.declared.fault.CodeWhy.{CodeWhy}
use Rattle.jn_code.specs.declared.fault.CodeWhy.TheVariants as why
use Rattle.jn_code.specs.declared.instr.Instr.{Instr}
use Rattle.jn_code.specs.declared.instr.Instr.TheVariants as op
use Rattle.jn_code.specs.declared.image.Image.{Image}
use Rattle.jn_code.specs.declared.image.Code.{Code}
use Rattle.jn_code.specs.Kinds.{takes, after_it, target_of, goes_on}
use Rattle.jn_code.specs.Rows.{kind_eq, unless}
use Rattle.jn_code.specs.Valid.{Notes, Pass, Known, Found, go_on, or_none, before, kinds_eq, give_to, give, settle_as, settle, give_target, give_next, end_fault, judge, own_fault, pass_at, pass_from, pass_all, pass, is_place, all_suit, returns_well, number_is_there, local_is_there}
use Rattle.jn_code.proofs.Sound.{set_same, set_other, set_long}
use Rattle.jn_agree.specs.Spans.{Fine, Spans}

kinds_self : (ks : List OperandKind) → kinds_eq ks ks ≡ true
kinds_self [] = refl
kinds_self (k ∷ ks) = ap (λ (b : Bool). b && kinds_eq ks ks) (self k) ∙ kinds_self ks
  where
    self : (k : OperandKind) → kind_eq k k ≡ true
    self kind.Int = refl
    self kind.Bool = refl
    self kind.Reference = refl
    self kind.Class = refl

module _ (i : Image) (c : Code) (K : ℕ → List OperandKind) where
  abbrev Right : Notes → Type 0
  Right s = (t : ℕ) (ks : List OperandKind) → slice_get s t ≡ Some (Some ks) → ks ≡ K t

  -- more is known, at t too
  pub record Given (s u : Notes) (t : ℕ) : Type 0 where
    pub long : length u ≡ length s
    pub keeps : (q : ℕ) (ks : List OperandKind) → slice_get s q ≡ Some (Some ks) → slice_get u q ≡ Some (Some ks)
    pub right : Right u
    pub has : slice_get u t ≡ Some (Some (K t))

  none_some : {A : Type 0} {x : A} → None ≡ Some x → ⊥
  none_some e = cc

  -- kinds come to a place of which nothing is known
  set_given : (s : Notes) (t : ℕ) (ks : List OperandKind) → ks ≡ K t → Right s → slice_get s t ≡ Some None
      → Given s (slice_set s t (Some ks)) t
  set_given s t ks is right at = record {
    long = set_long s t (Some ks);
    keeps =
        λ q js e. set_other s t (Some ks) q
        (λ same. none_some (got (sym at ∙ ap (λ (k : ℕ). slice_get s k) (sym same) ∙ e))) ∙ e;
    right = λ q js e. at_place q js e (nat_lt q t) (nat_lt t q) refl refl;
    has = set_same s t (Some ks) None at ∙ ap (λ (ks : List OperandKind). Some (Some ks)) is;
  }
    where
      got : {A : Type 0} {x y : Option A} → Some x ≡ Some y → x ≡ y
      got e = cc

      elsewhere : (q : ℕ) (js : List OperandKind) → q ≢ t
          → slice_get (slice_set s t (Some ks)) q ≡ Some (Some js) → js ≡ K q
      elsewhere q js ne e = right q js (sym (set_other s t (Some ks) q ne) ∙ e)

      at_place : (q : ℕ) (js : List OperandKind) → slice_get (slice_set s t (Some ks)) q ≡ Some (Some js)
          → (a b : Bool) → nat_lt q t ≡ a → nat_lt t q ≡ b → js ≡ K q
      at_place q js e true b x y = let lt = ltb-true q t x in elsewhere q js (λ same. omega (arith, lt, same)) e
      at_place q js e false true x y = let lt = ltb-true t q y in elsewhere q js (λ same. omega (arith, lt, same)) e
      at_place q js e false false x y =
          let a = ltb-false q t x in let b = ltb-false t q y in
          let same : q ≡ t = omega (arith, a, b) in
          sym (some_is (got (sym (set_same s t (Some ks) None at) ∙ ap
          (λ (k : ℕ). slice_get (slice_set s t (Some ks)) k) (sym same) ∙ e))) ∙ is ∙ ap (λ (k : ℕ). K k) (sym same)
        where
          some_is : {A : Type 0} {x y : A} → Some x ≡ Some y → x ≡ y
          some_is e = cc

  kept : (s : Notes) (t : ℕ) (ks : List OperandKind) → Right s → slice_get s t ≡ Some (Some ks) → Given s s t
  kept s t ks right at =
      record {
        long = refl;
        keeps = λ q js e. e;
        right = right;
        has = at ∙ ap
            (λ (ks : List OperandKind). Some (Some ks)) (right t ks at);
      }

  -- an instruction gives kinds to a place that is there
  given : (n t : ℕ) (ks : List OperandKind) (s : Notes) → t < length s → ks ≡ K t → Right s
      → (u : Notes) × (give n t ks s ≡ Known u) × Given s u t
  given n t ks s lt is right = at_note (slice_get s t) refl
    where
      at_note : (o : Option (Option (List OperandKind))) → slice_get s t ≡ o
          → (u : Notes) × (give_to n t ks s o ≡ Known u) × Given s u t
      at_note None e = absurd (none_some (sym e ∙ slice_get-get_or s t None lt))
      at_note (Some None) e = (slice_set s t (Some ks), refl, set_given s t ks is right e)
      at_note (Some (Some old)) e =
          let same : old ≡ ks = right t old e ∙ sym is in (
            s,
            ap (λ (b : Bool). if b then Known s else Found n
                Rattle.jn_code.specs.declared.fault.CodeWhy.TheVariants.Join)
                (ap (λ (js : List OperandKind). kinds_eq old js) (sym same) ∙ kinds_self old),
            kept s t old right e,
          )

  settled : (n : ℕ) (s : Notes) → n < length s → Right s → (slice_get s n ≡ Some None → K n ≡ [])
      → Given s (settle n s) n × (before s n ≡ K n)
  settled n s lt right none = at_note (slice_get s n) refl
    where
      at_note : (o : Option (Option (List OperandKind))) → slice_get s n ≡ o
          → Given s (settle_as n s o) n × (or_none o ≡ K n)
      at_note None e = absurd (none_some (sym e ∙ slice_get-get_or s n None lt))
      at_note (Some None) e = (set_given s n [] (sym (none e)) right e, sym (none e))
      at_note (Some (Some ks)) e = (kept s n ks right e, right n ks e)

  -- ---- the pass

  -- before instruction n: what the earlier ones gave is known
  pub record Good (n : ℕ) (s : Notes) : Type 0 where
    pub long : length s ≡ length c.instrs
    pub right : Right s
    pub jumps : (j : ℕ) (x : Instr) (t : ℕ) → j < n → slice_get c.instrs j ≡ Some x → target_of x ≡ Some t
        → slice_get s t ≡ Some (Some (K t))
    pub nexts : (j : ℕ) (x : Instr) → j < n → slice_get c.instrs j ≡ Some x → goes_on x ≡ true
        → slice_get s (j + 1) ≡ Some (Some (K (j + 1)))

  got_in : {A : Type 0} {x y : A} → Some x ≡ Some y → x ≡ y
  got_in e = cc

  unless_none : {W : Type 0} (b : Bool) (w : W) (o : Option W) → unless b w o ≡ None → (b ≡ true) × (o ≡ None)
  unless_none true w o e = (refl, e)
  unless_none false w o e = absurd (none_some (sym e))

  in_place : (x : Instr) (ks : List OperandKind) (t : ℕ) → own_fault i c x ks ≡ None → target_of x ≡ Some t
      → t < length c.instrs
  in_place x ks t own is =
      let stack =
      unless (nat_le (length (takes i c x)) (length ks)) why.Stack
      (unless (nat_le (length (after_it i c x ks)) c.stack) why.Stack
      (unless (all_suit (takes i c x) ks) why.Kind (unless (returns_well c x) why.Kind None))) in
      let place = unless (is_place c (target_of x)) why.Target stack in
      let local = unless (local_is_there c x) why.Local place in
      let a = unless_none (number_is_there i x) why.Number local own in
      let b = unless_none (local_is_there c x) why.Local place a.1 in
      let d = unless_none (is_place c (target_of x)) why.Target stack b.1 in
      ltb-true t (length c.instrs) (sym (ap (λ (o : Option ℕ). is_place c o) is) ∙ d.0)

  module _ (first : K 0 ≡ []) (fine : (n : ℕ) (x : Instr) → slice_get c.instrs n ≡ Some x → Fine i c K 0
      (length c.instrs) n x) (closed : (n : ℕ) (x : Instr) → suc n ≡ length c.instrs → slice_get c.instrs n ≡ Some x →
      goes_on x ≡ false) where
    dead_none : (n : ℕ) (s : Notes) → Good n s → n < length c.instrs → slice_get s n ≡ Some None → K n ≡ []
    dead_none zero s good lt e = first
    dead_none (suc n) s good lt e = at_next (goes_on x) refl
      where
        x : Instr
        x = get_or c.instrs n op.Ret

        at : slice_get c.instrs n ≡ Some x
        at = slice_get-get_or c.instrs n op.Ret (omega arith)

        here : n + 1 ≡ suc n
        here = omega arith

        unknown : slice_get s (n + 1) ≡ Some (Some (K (n + 1))) → ⊥
        unknown f = none_some (got_in (sym e ∙ ap (λ (k : ℕ). slice_get s k) (sym here) ∙ f))

        at_next : (b : Bool) → goes_on x ≡ b → K (suc n) ≡ []
        at_next true on = absurd (unknown (good.nexts n x (omega arith) at on))
        at_next false off =
            elim ((fine n x at).dead off) [
              | inl none ↦ ap (λ (k : ℕ). K k) (sym here) ∙ none
              | inr j ↦ absurd
                  (unknown (good.jumps j.j j.instr (n + 1) (let l = j.earlier in omega (arith, l)) j.at j.target))
            ]

    -- the rest of what an instruction does, once its own faults are none
    passes : (n : ℕ) (x : Instr) (xs : List Instr) (s : Notes) → Good n s → slice_get c.instrs n ≡ Some x
        → (xs ≡ [] → suc n ≡ length c.instrs) → (u : Notes) × (pass_at i c n x xs s ≡ Known u) × Good (suc n) u
    passes n x xs s good at last =
        let lt = slice_get_within c.instrs n x at in
        let ok = fine n x at in
        let long = good.long in
        let st = settled n s (omega (arith, lt, long)) good.right (dead_none n s good lt) in
        let t = targets (target_of x) refl (settle n s) st.0.right (st.0.long ∙ long) in
        let m = nexts (goes_on x) refl t.0 t.3 (t.4 ∙ st.0.long ∙ long) in (
          m.0,
          ap (λ (ks : List OperandKind). judge i c n x xs ks (own_fault i c x ks) (settle n s)) st.1
              ∙ ap (λ (o : Option CodeWhy). judge i c n x xs (K n) o (settle n s)) ok.own
              ∙ ap (λ (y : Pass). go_on y (λ s. go_on (give_next n (goes_on x) (after_it i c x (K n)) s)
              (end_fault n (goes_on x) xs))) t.1
              ∙ ap (λ (y : Pass). go_on y (end_fault n (goes_on x) xs)) m.1
              ∙ ends (goes_on x) refl xs last m.0,
          record {
            long = m.4 ∙ t.4 ∙ st.0.long ∙ long;
            right = m.3;
            jumps =
                λ j y q lt2 e is. m.2 q (K q) (elim
                (cases_lt j n) [
                  | inl l ↦ t.2 q (K q)
                      (st.0.keeps q (K q) (good.jumps j y q l e is))
                  | inr ge ↦ t.5 q
                      (same_target j y (omega (arith, lt2, ge)) e ∙ is)
                ]);
            nexts =
                λ j y lt2 e on. elim (cases_lt j n) [
                  | inl l ↦ m.2 (j + 1) (K (j + 1))
                      (t.2 (j + 1) (K (j + 1)) (st.0.keeps (j + 1) (K (j + 1)) (good.nexts j y l e on)))
                  | inr ge ↦
                      subst (λ (j : ℕ). slice_get m.0 (j + 1) ≡ Some (Some (K (j + 1))))
                      (sym (same_place j (omega (arith, lt2, ge)))) (m.5 (same_on j y (omega (arith, lt2, ge)) e on))
                ];
          },
        )
      where
        same_place : (j : ℕ) → j ≡ n → j ≡ n
        same_place j e = e

        same_instr : (j : ℕ) (y : Instr) → j ≡ n → slice_get c.instrs j ≡ Some y → x ≡ y
        same_instr j y same e = got_in (sym at ∙ ap (λ (k : ℕ). slice_get c.instrs k) (sym same) ∙ e)

        same_target : (j : ℕ) (y : Instr) → j ≡ n → slice_get c.instrs j ≡ Some y → target_of x ≡ target_of y
        same_target j y same e = ap (λ (x : Instr). target_of x) (same_instr j y same e)

        same_on : (j : ℕ) (y : Instr) → j ≡ n → slice_get c.instrs j ≡ Some y → goes_on y ≡ true → goes_on x ≡ true
        same_on j y same e on = ap (λ (x : Instr). goes_on x) (same_instr j y same e) ∙ on

        targets : (o : Option ℕ) → target_of x ≡ o → (s : Notes) → Right s → length s ≡ length c.instrs
            → (u : Notes) × (give_target n o (after_it i c x (K n)) s ≡ Known u) ×
            ((q : ℕ) (ks : List OperandKind) → slice_get s q ≡ Some (Some ks) → slice_get u q ≡ Some
            (Some ks)) × Right u × (length u ≡ length s) ×
            ((t : ℕ) → o ≡ Some t → slice_get u t ≡ Some (Some (K t)))
        targets None e s right long = (s, refl, λ q ks f. f, right, refl, λ t f. absurd (none_some f))
        targets (Some t) e s right long =
            let ok = fine n x at in
            let low = in_place x (K n) t ok.own e in
            let g = given n t (after_it i c x (K n)) s (omega (arith, low, long)) (sym (ok.target t e).2) right in (
              g.0,
              g.1,
              g.2.keeps,
              g.2.right,
              g.2.long,
              λ q f. subst (λ (t : ℕ). slice_get g.0 t ≡ Some (Some (K t)))
                  (got_in f) g.2.has,
            )

        nexts : (b : Bool) → goes_on x ≡ b → (s : Notes) → Right s → length s ≡ length c.instrs
            → (u : Notes) × (give_next n b (after_it i c x (K n)) s ≡ Known u) ×
            ((q : ℕ) (ks : List OperandKind) → slice_get s q ≡ Some (Some ks) → slice_get u q ≡ Some
            (Some ks)) × Right u × (length u ≡ length s) ×
            (b ≡ true → slice_get u (n + 1) ≡ Some (Some (K (n + 1))))
        nexts false e s right long = (s, refl, λ q ks f. f, right, refl, λ f. absurd (clash f))
          where
            clash : false ≡ true → ⊥
            clash e = cc
        nexts true e s right long =
            let ok = fine n x at in
            let g = given n (n + 1) (after_it i c x (K n)) s (omega (arith, inside, long)) (sym (ok.next e)) right in
            (g.0, g.1, g.2.keeps, g.2.right, g.2.long, λ f. g.2.has)
          where
            inside : n + 1 < length c.instrs
            inside = at_case (cases_lt (n + 1) (length c.instrs))
              where
                off : true ≡ false → ⊥
                off e = cc

                at_case : (n + 1 < length c.instrs) ⊎ (length c.instrs ≤ n + 1) → n + 1 < length c.instrs
                at_case (inl l) = l
                at_case (inr ge) =
                    absurd (off (sym e ∙ closed n x
                    (let l = slice_get_within c.instrs n x at in omega (arith, l, ge)) at))

        ends : (b : Bool) → goes_on x ≡ b → (xs : List Instr) → (xs ≡ [] → suc n ≡ length c.instrs)
            → (u : Notes) → end_fault n b xs u ≡ Known u
        ends false e xs last u = refl
        ends true e (y ∷ ys) last u = refl
        ends true e [] last u = absurd (clash (sym e ∙ closed n x (last refl) at))
          where
            clash : true ≡ false → ⊥
            clash e = cc

    passed_from : (xs : List Instr) (n : ℕ) (s : Notes) → Good n s
        → ((j : ℕ) → slice_get xs j ≡ slice_get c.instrs (n + j)) → n + length xs ≡ length c.instrs → (u : Notes) ×
        (pass_from i c n xs s ≡ Known u)
    passed_from [] n s good tail long = (s, refl)
    passed_from (x ∷ xs) n s good tail long =
        let zero_more : n + 0 ≡ n = omega arith in
        let at : slice_get c.instrs n ≡ Some x = sym (tail 0 ∙ ap (λ (k : ℕ). slice_get c.instrs k) zero_more) in
        let one =
        passes n x xs s good at (λ e. let l : length (x ∷ xs) ≡ 1 = ap (λ (ys : List Instr). length (x ∷ ys)) e in
        omega (arith, long, l)) in
        let here : suc n ≡ n + 1 = omega arith in
        let rest =
        passed_from xs (n + 1) one.0 (subst (λ (k : ℕ). Good k one.0) here one.2)
        (λ j. tail (suc j) ∙ ap (λ (k : ℕ). slice_get c.instrs k) (next_place n j)) (omega (arith, long)) in
        (rest.0, ap (λ (y : Pass). go_on y (pass_from i c (n + 1) xs)) one.1 ∙ rest.1)
      where
        next_place : (n j : ℕ) → n + suc j ≡ n + 1 + j
        next_place n j = omega arith

    fresh_none : (k t : ℕ) (ks : List OperandKind) → slice_get (replicate k None) t ≡ Some (Some ks) → ⊥
    fresh_none zero zero ks e = none_some e
    fresh_none zero (suc t) ks e = none_some e
    fresh_none (suc k) zero ks e = none_some (got_in e)
    fresh_none (suc k) (suc t) ks e = fresh_none k t ks e

    pub passed : (x : Instr) (xs : List Instr) → c.instrs ≡ x ∷ xs → (u : Notes) × (pass i c ≡ Known u)
    passed x xs e =
        let start : Good 0 (replicate (length (x ∷ xs)) None) = record {
          long = length-replicate (length (x ∷ xs)) None ∙ ap (λ (ys : List Instr). length ys) (sym e);
          right = λ t ks f. absurd (fresh_none (length (x ∷ xs)) t ks f);
          jumps = λ j y t lt. absurd (omega (arith, lt));
          nexts = λ j y lt. absurd (omega (arith, lt));
        } in
        let all =
        passed_from (x ∷ xs) 0 (replicate (length (x ∷ xs)) None) start
        (λ j. ap (λ (ys : List Instr). slice_get ys j) (sym e) ∙ ap (λ (k : ℕ). slice_get c.instrs k)
        (same_place2 j)) (let l : length c.instrs ≡ length (x ∷ xs) = ap (λ (ys : List Instr). length ys) e in
        omega (arith, l)) in
        (all.0, ap (λ (ys : List Instr). pass_all i c ys) e ∙ all.1)
      where
        same_place2 : (j : ℕ) → j ≡ 0 + j
        same_place2 j = omega arith

-- A code that is one part from no operands to any, and whose last instruction doesn't go on, has no fault of its own.
pub spanned_passes : (i : Image) (c : Code) (ls : List OperandKind) (x : Instr) (xs : List Instr)
    → Spans i c 0 (length c.instrs) [] ls →
    ((n : ℕ) (x : Instr) → suc n ≡ length c.instrs → slice_get c.instrs n ≡ Some x → goes_on x ≡ false) →
    c.instrs ≡ x ∷ xs → (u : Notes) × (pass i c ≡ Known u)
spanned_passes i c ls x xs sp closed e =
    passed i c sp.K sp.first (λ n x at. sp.fine n x (omega arith) (slice_get_within c.instrs n x at) at) closed x xs e
