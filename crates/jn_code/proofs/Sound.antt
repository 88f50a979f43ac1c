-- What a pass with no fault has found.
use Rattle.std.proofs.Common.{◌≡◌, ◌≢◌, refl, sym, ap, ◌∙◌, ℕ, zero, suc, ◌+◌, ◌<◌, ◌≤◌, List, [], ◌∷◌, length, Bool, true, false, ◌&&◌, Option, Some, None, slice_get, slice_set, nat_le, replicate, if◌then◌else◌, arith, ◌⊎◌, inl, inr, subst}
use Rattle.std.proofs.lemmas.Bool.Decides.{nat_tests}
use Rattle.std.proofs.lemmas.Bool.{leb-true}
use Rattle.jn_code.specs.declared.kind.OperandKind.{OperandKind}
use Rattle.jn_code.specs.declared.kind.OperandKind.TheVariants as kind
use Rattle.jn_code.specs.declared.instr.Instr.{Instr}
use Rattle.jn_code.specs.declared.image.Image.{Image}
use Rattle.jn_code.specs.declared.image.ClassRow.{ClassRow}
use Rattle.jn_code.specs.declared.image.Code.{Code}
use Rattle.jn_code.specs.declared.fault.ImageFault.{ImageFault}
use Rattle.jn_code.specs.declared.fault.CodeWhy.{CodeWhy}
use Rattle.jn_code.specs.declared.fault.CodeWhy.TheVariants as why
use Rattle.jn_code.specs.declared.fault.RowWhy.{RowWhy}
use Rattle.jn_code.specs.Kinds.{takes, after_it, target_of, goes_on}
use Rattle.jn_code.specs.Rows.{unless, kind_eq, row_fault}
use Rattle.jn_code.specs.Valid
use Rattle.jn_code.specs.Known.{KnownAt, SuitsKinds, IsRight, KindsKnown, notes_in, notes_of, IsSound}

-- equal kinds
pub kind_same : (j k : OperandKind) → kind_eq j k ≡ true → j ≡ k
kind_same kind.Int kind.Int e = refl
kind_same kind.Bool kind.Bool e = refl
kind_same kind.Reference kind.Reference e = refl
kind_same kind.Class kind.Class e = refl
kind_same _ _ e = absurd cc

pub both_left : (a b : Bool) → a && b ≡ true → a ≡ true
both_left true b e = refl
both_left false b e = e

pub both_right : (a b : Bool) → a && b ≡ true → b ≡ true
both_right true b e = e
both_right false b e = cc

pub kinds_same : (js ks : List OperandKind) → Valid.kinds_eq js ks ≡ true → js ≡ ks
kinds_same [] [] e = refl
kinds_same [] (k ∷ ks) e = cc
kinds_same (j ∷ js) [] e = cc
kinds_same (j ∷ js) (k ∷ ks) e =
    let a = kind_same j k (both_left (kind_eq j k) (Valid.kinds_eq js ks) e) in
    let b = kinds_same js ks (both_right (kind_eq j k) (Valid.kinds_eq js ks) e) in cc

pub record Grows (s r : Valid.Notes) : Type 0 where
  pub long : length r ≡ length s
  pub at : (t : ℕ) (ks : List OperandKind) → KnownAt s t ks → KnownAt r t ks

pub grows_refl : (s : Valid.Notes) → Grows s s
grows_refl s = record { long = refl; at = λ t ks h. h }

pub grows_trans : {r s t : Valid.Notes} → Grows r s → Grows s t → Grows r t
grows_trans g h = record { long = h.long ∙ g.long; at = λ t ks k. h.at t ks (g.at t ks k) }

-- all that is known has at most m kinds
pub record Low (m : ℕ) (s : Valid.Notes) : Type 0 where
  pub at : (t : ℕ) (ks : List OperandKind) → KnownAt s t ks → length ks ≤ m

pub set_same : {A : Type 0} (xs : List A) (t : ℕ) (v a : A) → slice_get xs t ≡ Some a → slice_get (slice_set xs t v) t ≡ Some v
set_same [] t v a e = cc
set_same (x ∷ xs) zero v a e = refl
set_same (x ∷ xs) (suc t) v a e = set_same xs t v a e

pub set_other : {A : Type 0} (xs : List A) (t : ℕ) (v : A) (k : ℕ) → k ≢ t → slice_get (slice_set xs t v) k ≡ slice_get xs k
set_other [] t v k n = refl
set_other (x ∷ xs) zero v zero n = absurd (n refl)
set_other (x ∷ xs) zero v (suc k) n = refl
set_other (x ∷ xs) (suc t) v zero n = refl
set_other (x ∷ xs) (suc t) v (suc k) n = set_other xs t v k (λ e. n (ap suc e))

pub set_long : {A : Type 0} (xs : List A) (t : ℕ) (v : A) → length (slice_set xs t v) ≡ length xs
set_long [] t v = refl
set_long (x ∷ xs) zero v = refl
set_long (x ∷ xs) (suc t) v = ap suc (set_long xs t v)

pub get_there : {A : Type 0} (xs : List A) (t : ℕ) → t < length xs → (a : A) × (slice_get xs t ≡ Some a)
get_there [] t h = absurd (omega arith)
get_there (x ∷ xs) zero h = (x, refl)
get_there (x ∷ xs) (suc t) h = get_there xs t (omega arith)

pub get_below : {A : Type 0} (xs : List A) (t : ℕ) (a : A) → slice_get xs t ≡ Some a → t < length xs
get_below [] t a e = cc
get_below (x ∷ xs) zero a e = omega arith
get_below (x ∷ xs) (suc t) a e = let h = get_below xs t a e in omega arith

pub same_or : (k t : ℕ) → (k ≡ t) ⊎ (k ≢ t)
same_or zero zero = inl refl
same_or zero (suc t) = inr (λ e. omega arith)
same_or (suc k) zero = inr (λ e. omega arith)
same_or (suc k) (suc t) = elim (same_or k t) [ inl e ↦ inl (ap suc e) | inr n ↦ inr (λ e. n (omega arith)) ]

-- what was known stays, where a place that was not known is set
pub set_grows : (s : Valid.Notes) (t : ℕ) (ks : List OperandKind) → slice_get s t ≡ Some None → Grows s (slice_set s t (Some ks))
set_grows s t ks e = record {
  long = set_long s t (Some ks);
  at = λ k js h. record { is = elim (same_or k t) [ inl q ↦ let h' = h.is in cc | inr n ↦ set_other s t (Some ks) k n ∙ h.is ] };
}

pub set_low : (m : ℕ) (s : Valid.Notes) (t : ℕ) (ks : List OperandKind) → slice_get s t ≡ Some None → length ks ≤ m → Low m s → Low m (slice_set s t (Some ks))
set_low m s t ks e h low = record {
  at = λ k js q. elim (same_or k t) [
    | inl w ↦ let a = set_same s t (Some ks) None e in let q' = q.is in let b : ks ≡ js = cc in subst (λ (z : List OperandKind). length z ≤ m) b h
    | inr n ↦ low.at k js (record { is = sym (set_other s t (Some ks) k n) ∙ q.is })
  ];
}

-- Kinds are given to t: what was known stays, and these are known there
pub record Given (m : ℕ) (t : ℕ) (ks : List OperandKind) (s r : Valid.Notes) : Type 0 where
  pub grows : Grows s r
  pub low : Low m r
  pub there : t < length s → KnownAt r t ks

pub known_inj : {s r : Valid.Notes} → Valid.Known s ≡ Valid.Known r → s ≡ r
known_inj e = cc

given_same : (n m t : ℕ) (ks old : List OperandKind) (s r : Valid.Notes) (b : Bool) → Valid.kinds_eq old ks ≡ b → Low m s → slice_get s t ≡ Some (Some old) → if b then Valid.Known s else Valid.Found n why.Join ≡ Valid.Known r → Given m t ks s r
given_same n m t ks old s r true q low e g =
    let a = kinds_same old ks q in let z : s ≡ r = cc in
    subst (λ (r : Valid.Notes). Given m t ks s r) z (record { grows = grows_refl s; low = low; there = λ h. record { is = cc } })
given_same n m t ks old s r false q low e g = cc

given_to : (n m t : ℕ) (ks : List OperandKind) (s r : Valid.Notes) (o : Option (Option (List OperandKind))) → slice_get s t ≡ o → length ks ≤ m → Low m s → Valid.give_to n t ks s o ≡ Valid.Known r → Given m t ks s r
given_to n m t ks s r None e h low g =
    let z : s ≡ r = cc in
    subst (λ (r : Valid.Notes). Given m t ks s r) z (record { grows = grows_refl s; low = low; there = λ h. let a = get_there s t h in cc })
given_to n m t ks s r (Some None) e h low g =
    let z : slice_set s t (Some ks) ≡ r = cc in
    subst (λ (r : Valid.Notes). Given m t ks s r) z (record { grows = set_grows s t ks e; low = set_low m s t ks e h low; there = λ h. record { is = set_same s t (Some ks) None e } })
given_to n m t ks s r (Some (Some old)) e h low g = given_same n m t ks old s r (Valid.kinds_eq old ks) refl low e g

pub given : (n m t : ℕ) (ks : List OperandKind) (s r : Valid.Notes) → length ks ≤ m → Low m s → Valid.give n t ks s ≡ Valid.Known r → Given m t ks s r
given n m t ks s r h low g = given_to n m t ks s r (slice_get s t) refl h low g

pub right_grows : {i : Image} {c : Code} {s r : Valid.Notes} {n : ℕ} {x : Instr} → Grows s r → IsRight i c s n x → IsRight i c r n x
right_grows g f = record {
  ks = f.ks;
  known = g.at _ _ f.known;
  own = f.own;
  target = λ t e. g.at _ _ (f.target t e);
  next = λ e. g.at _ _ (f.next e);
}

-- where a pass goes on
pub record Onward (p : Valid.Pass) (go : Valid.Notes → Valid.Pass) (r : Valid.Notes) : Type 0 where
  pub mid : Valid.Notes
  pub first : p ≡ Valid.Known mid
  pub then' : go mid ≡ Valid.Known r

pub onward : (p : Valid.Pass) (go : Valid.Notes → Valid.Pass) (r : Valid.Notes) → Valid.go_on p go ≡ Valid.Known r → Onward p go r
onward (Valid.Known s) go r e = record { mid = s; first = refl; then' = e }
onward (Valid.Found n w) go r e = cc

pub unless_none : {W : Type 0} (b : Bool) (w : W) (o : Option W) → unless b w o ≡ None → (b ≡ true) × (o ≡ None)
unless_none true w o e = (refl, e)
unless_none false w o e = absurd cc

pub own_fine : (i : Image) (c : Code) (x : Instr) (ks : List OperandKind) → Valid.own_fault i c x ks ≡ None → SuitsKinds i c x ks
own_fine i c x ks e =
    let returns = unless (Valid.returns_well c x) why.Kind None in
    let suits = unless (Valid.all_suit (takes i c x) ks) why.Kind returns in
    let low = unless (nat_le (length (after_it i c x ks)) c.stack) why.Stack suits in
    let many = unless (nat_le (length (takes i c x)) (length ks)) why.Stack low in
    let place = unless (Valid.is_place c (target_of x)) why.Target many in
    let local = unless (Valid.local_is_there c x) why.Local place in
    let a = unless_none (Valid.number_is_there i x) why.Number local e in
    let b = unless_none (Valid.local_is_there c x) why.Local place a.1 in
    let d = unless_none (Valid.is_place c (target_of x)) why.Target many b.1 in
    let f = unless_none (nat_le (length (takes i c x)) (length ks)) why.Stack low d.1 in
    let g = unless_none (nat_le (length (after_it i c x ks)) c.stack) why.Stack suits f.1 in
    let h = unless_none (Valid.all_suit (takes i c x) ks) why.Kind returns g.1 in
    let k = unless_none (Valid.returns_well c x) why.Kind None h.1 in
    record {
      number = a.0;
      local = b.0;
      place = d.0;
      many = leb-true _ _ f.0;
      low = leb-true _ _ g.0;
      suits = h.0;
      returns = k.0;
    }

pub settle_as_grows : (n : ℕ) (s : Valid.Notes) (o : Option (Option (List OperandKind))) → slice_get s n ≡ o → n < length s → (m : ℕ) → Low m s → Given m n (Valid.or_none o) s (Valid.settle_as n s o)
settle_as_grows n s None e h m low = let a = get_there s n h in absurd cc
settle_as_grows n s (Some None) e h m low =
    record { grows = set_grows s n [] e; low = set_low m s n [] e (omega arith) low; there = λ h. record { is = set_same s n (Some []) None e } }
settle_as_grows n s (Some (Some ks)) e h m low = record { grows = grows_refl s; low = low; there = λ h. record { is = e } }

target_given : (n m : ℕ) (o : Option ℕ) (ks : List OperandKind) (s r : Valid.Notes) (c : Code) → length c.instrs ≡ length s → Valid.is_place c o ≡ true → length ks ≤ m → Low m s → Valid.give_target n o ks s ≡ Valid.Known r → Grows s r × Low m r × ((t : ℕ) → o ≡ Some t → KnownAt r t ks)
target_given n m None ks s r c l p h low e =
    let z : s ≡ r = cc in
    subst (λ (r : Valid.Notes). Grows s r × Low m r × ((t : ℕ) → None ≡ Some t → KnownAt r t ks)) z (grows_refl s, low, λ t e. absurd cc)
target_given n m (Some t) ks s r c l p h low e =
    let g = given n m t ks s r h low e in
    let b : t < length s = grind (arith, nat_tests) in
    (g.grows, g.low, λ u q. let w : t ≡ u = cc in subst (λ (u : ℕ). KnownAt r u ks) w (g.there b))

next_given : (n m : ℕ) (b : Bool) (ks : List OperandKind) (s r : Valid.Notes) → (b ≡ true → n + 1 < length s) → length ks ≤ m → Low m s → Valid.give_next n b ks s ≡ Valid.Known r → Grows s r × Low m r × (b ≡ true → KnownAt r (n + 1) ks)
next_given n m false ks s r l h low e =
    let z : s ≡ r = cc in
    subst (λ (r : Valid.Notes). Grows s r × Low m r × (false ≡ true → KnownAt r (n + 1) ks)) z (grows_refl s, low, λ e. absurd cc)
next_given n m true ks s r l h low e =
    let g = given n m (n + 1) ks s r h low e in (g.grows, g.low, λ q. g.there (l refl))

end_known : (n : ℕ) (b : Bool) (xs : List Instr) (s r : Valid.Notes) → Valid.end_fault n b xs s ≡ Valid.Known r → (s ≡ r) × (b ≡ true → 0 < length xs)
end_known n true [] s r e = absurd cc
end_known n true (x ∷ xs) s r e = (cc, λ q. omega arith)
end_known n false xs s r e = (cc, λ q. absurd cc)

judged : (i : Image) (c : Code) (n : ℕ) (x : Instr) (xs : List Instr) (ks : List OperandKind) (o : Option CodeWhy) (s r : Valid.Notes) → Valid.own_fault i c x ks ≡ o → KnownAt s n ks → length c.instrs ≡ length s → n + suc (length xs) ≡ length s → Low c.stack s → Valid.judge i c n x xs ks o s ≡ Valid.Known r → Grows s r × Low c.stack r × IsRight i c r n x
judged i c n x xs ks (Some w) s r q k l h low e = absurd cc
judged i c n x xs ks None s r q k l h low e =
    let own = own_fine i c x ks q in
    let a = onward _ _ r e in
    let t = target_given n c.stack (target_of x) (after_it i c x ks) s a.mid c l own.place own.low low a.first in
    let b = onward _ _ r a.then' in
    let d = end_known n (goes_on x) xs b.mid r b.then' in
    let tl = t.0.long in
    let u = next_given n c.stack (goes_on x) (after_it i c x ks) a.mid b.mid (λ q. let w = d.1 q in omega arith) own.low t.1 b.first in
    let g = grows_trans t.0 u.0 in
    let fine : IsRight i c b.mid n x = record { ks = ks; known = g.at n ks k; own = own; target = λ v w. u.0.at v _ (t.2 v w); next = u.2 } in
    subst (λ (r : Valid.Notes). Grows s r × Low c.stack r × IsRight i c r n x) d.0 (g, u.1, fine)

-- what a pass has found from instruction n on
pub record Passed (i : Image) (c : Code) (n : ℕ) (xs : List Instr) (s r : Valid.Notes) : Type 0 where
  pub grows : Grows s r
  pub low : Low c.stack r
  pub first : 0 < length xs → KnownAt r n (Valid.before s n)
  pub fine : (k : ℕ) (x : Instr) → slice_get xs k ≡ Some x → IsRight i c r (n + k) x

fine_at : (i : Image) (c : Code) (n : ℕ) (x : Instr) (xs : List Instr) (r : Valid.Notes) (k : ℕ) (y : Instr) → slice_get (x ∷ xs) k ≡ Some y → IsRight i c r n x → ((k : ℕ) (x : Instr) → slice_get xs k ≡ Some x → IsRight i c r (n + 1 + k) x) → IsRight i c r (n + k) y
fine_at i c n x xs r zero y q f g =
    let w : x ≡ y = cc in let z : n ≡ n + zero = omega arith in
    subst (λ (m : ℕ). IsRight i c r m y) z (subst (λ (y : Instr). IsRight i c r n y) w f)
fine_at i c n x xs r (suc k) y q f g =
    let z : n + 1 + k ≡ n + suc k = omega arith in subst (λ (m : ℕ). IsRight i c r m y) z (g k y q)

passed : (i : Image) (c : Code) (n : ℕ) (xs : List Instr) (s r : Valid.Notes) → length c.instrs ≡ length s → n + length xs ≡ length s → Low c.stack s → Valid.pass_from i c n xs s ≡ Valid.Known r → Passed i c n xs s r
passed i c n [] s r l h low e =
    let z : s ≡ r = cc in
    subst (λ (r : Valid.Notes). Passed i c n [] s r) z (record { grows = grows_refl s; low = low; first = λ h. absurd (omega arith); fine = λ k x e. absurd cc })
passed i c n (x ∷ xs) s r l h low e =
    let lt : n < length s = omega arith in
    let st = settle_as_grows n s (slice_get s n) refl lt c.stack low in
    let a = onward _ _ r e in
    let sl = st.grows.long in
    let j = judged i c n x xs (Valid.before s n) (Valid.own_fault i c x (Valid.before s n)) (Valid.settle n s) a.mid refl (st.there (omega arith)) (omega arith) (omega arith) st.low a.first in
    let jl = j.0.long in
    let p = passed i c (n + 1) xs a.mid r (omega arith) (omega arith) j.1 a.then' in
    record {
      grows = grows_trans (grows_trans st.grows j.0) p.grows;
      low = p.low;
      first = λ b. p.grows.at n (Valid.before s n) (j.0.at n (Valid.before s n) (st.there (omega arith)));
      fine = λ k y q. fine_at i c n x xs r k y q (right_grows p.grows j.2) p.fine;
    }

none_known : (n t : ℕ) (ks : List OperandKind) → KnownAt (replicate n None) t ks → ⊥
none_known zero t ks h = let q = h.is in cc
none_known (suc n) zero ks h = let q = h.is in cc
none_known (suc n) (suc t) ks h = none_known n t ks (record { is = h.is })

replicate_long : {A : Type 0} (n : ℕ) (a : A) → length (replicate n a) ≡ n
replicate_long zero a = refl
replicate_long (suc n) a = ap suc (replicate_long n a)

noted_all : (i : Image) (c : Code) (xs : List Instr) (r : Valid.Notes) → c.instrs ≡ xs → Valid.pass_all i c xs ≡ Valid.Known r → KindsKnown i c r
noted_all i c [] r q e = absurd cc
noted_all i c (x ∷ xs) r q e =
    let m = suc (length xs) in
    let s : Valid.Notes = replicate m None in
    let l : length s ≡ suc (length xs) = replicate_long m None in
    let w : length c.instrs ≡ suc (length xs) = ap length q in
    let low : Low c.stack s = record { at = λ t ks h. absurd (none_known m t ks h) } in
    let p = passed i c 0 (x ∷ xs) s r (omega arith) (omega arith) low e in
    let pl = p.grows.long in
    record {
      long = omega arith;
      low = p.low.at;
      first = p.first (omega arith);
      right = λ k y g. let z : 0 + k ≡ k = omega arith in subst (λ (k : ℕ). IsRight i c r k y) z (p.fine k y (subst (λ (xs : List Instr). slice_get xs k ≡ Some y) q g));
    }

-- where a pass with no fault ends
pub noted : (i : Image) (c : Code) (r : Valid.Notes) → Valid.pass i c ≡ Valid.Known r → KindsKnown i c r
noted i c r e = noted_all i c c.instrs r refl e

code_fine : (i : Image) (c : Code) (p : Valid.Pass) (k : ℕ) (later : Option ImageFault) → Valid.pass i c ≡ p → Valid.code_fault p k later ≡ None → KindsKnown i c (notes_in p) × (later ≡ None)
code_fine i c (Valid.Known s) k later q e = (noted i c s q, e)
code_fine i c (Valid.Found n w) k later q e = absurd cc

starts : (i : Image) (b : Bool) (f : ImageFault) → if◌then◌else◌ {A = Option ImageFault} b None (Some f) ≡ None → b ≡ true
starts i true f e = refl
starts i false f e = absurd cc

-- what holds of the first and of each of the rest
pub at_each : {A : Type 0} (P : ℕ → A → Type 0) (k : ℕ) (x : A) (xs : List A) → P k x → ((j : ℕ) (y : A) → slice_get xs j ≡ Some y → P (k + 1 + j) y) → (j : ℕ) (y : A) → slice_get (x ∷ xs) j ≡ Some y → P (k + j) y
at_each {A} P k x xs p q zero y e =
    let w : x ≡ y = cc in let z : k ≡ k + zero = omega arith in
    subst (λ (m : ℕ). P m y) z (subst (λ (y : A). P k y) w p)
at_each P k x xs p q (suc j) y e = let z : k + 1 + j ≡ k + suc j = omega arith in subst (λ (m : ℕ). P m y) z (q j y e)

abbrev CodeIsSound : Image → ℕ → Code → Type 0
CodeIsSound i k c = KindsKnown i c (notes_of i c)

codes_sound : (i : Image) (k : ℕ) (cs : List Code) → Valid.codes_fault i k cs ≡ None → (Valid.starts_well (slice_get i.codes i.start) ≡ true) × ((j : ℕ) (c : Code) → slice_get cs j ≡ Some c → CodeIsSound i (k + j) c)
codes_sound i k [] e = (starts i _ _ e, λ j c q. absurd cc)
codes_sound i k (c ∷ cs) e =
    let a = code_fine i c (Valid.pass i c) k (Valid.codes_fault i (k + 1) cs) refl e in
    let b = codes_sound i (k + 1) cs a.1 in
    (b.0, at_each (CodeIsSound i) k c cs a.0 b.1)

row_fine : (k : ℕ) (o : Option RowWhy) (later : Option ImageFault) → Valid.bad_row k o later ≡ None → (o ≡ None) × (later ≡ None)
row_fine k None later e = (refl, e)
row_fine k (Some w) later e = absurd cc

abbrev RowIsSound : Image → ℕ → ClassRow → Type 0
RowIsSound i k r = row_fault i k r ≡ None

rows_sound : (i : Image) (k : ℕ) (rs : List ClassRow) → Valid.rows_fault i k rs ≡ None → (Valid.codes_fault i 0 i.codes ≡ None) × ((j : ℕ) (r : ClassRow) → slice_get rs j ≡ Some r → RowIsSound i (k + j) r)
rows_sound i k [] e = (e, λ j r q. absurd cc)
rows_sound i k (r ∷ rs) e =
    let a = row_fine k (row_fault i k r) (Valid.rows_fault i (k + 1) rs) e in
    let b = rows_sound i (k + 1) rs a.1 in
    (b.0, at_each (RowIsSound i) k r rs a.0 b.1)

pub sound : (i : Image) → Valid.IsValid i → IsSound i
sound i v =
    let a = rows_sound i 0 i.classes v.none in
    let b = codes_sound i 0 i.codes a.0 in
    record {
      rows = λ k r q. let z : 0 + k ≡ k = omega arith in subst (λ (k : ℕ). RowIsSound i k r) z (a.1 k r q);
      codes = b.1;
      start = b.0;
    }
