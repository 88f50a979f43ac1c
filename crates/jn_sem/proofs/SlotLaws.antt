-- To have one slot is an equivalence.
use Rattle.std.proofs.Common.{◌≡◌, ◌<◌, ℕ, zero, suc, [], ◌∷◌, ◌++◌, length, drop, Option, Some, None, refl, sym, ap, ◌∙◌, subst, arith}
use Rattle.jn_reach.specs.Derived.{Derived, seed, rule}
use Rattle.jn_base.specs.declared.tree.Name.{Name}
use Rattle.jn_base.specs.declared.tree.Program.{Program}
use Rattle.jn_base.specs.declared.types.Anchor.{Anchor}
use Rattle.jn_base.specs.declared.types.Ty.{Ty}
use Rattle.jn_base.specs.declared.types.Ty.TheVariants as ty
use Rattle.jn_base.specs.Paths.{Path}
use Rattle.jn_base.specs.Members.{FieldDecls}
use Rattle.jn_base.specs.Atoms.{atoms_in, anchor_at}
use Rattle.jn_base.proofs.SuperLaws.{sup_level}
use Rattle.jn_sem.specs.Sets.{Views, view_at, InAtoms, InType}
use Rattle.jn_sem.specs.Sharing.{IsClass, family_of}
use Rattle.jn_sem.specs.Slots.{this_viewed, ClassAt, MatchAt, Compared, compared, BothHave, BothHang, IsApart, only_one, only_other, MakesTwo, declared_apart, unmatched, unmatched_back, fields_apart, MakesTwoBy, Diff, OneSlot, Slot, IsSlot}
use Rattle.jn_sem.specs.LawsOfSlots.{FieldsPass, SlotsOf, SlotLaws}
use Rattle.jn_sem.proofs.SharedLaws.{sharing_laws}

-- ---- families

family_cons : (C : Name) (P : Path) → 0 < length P → family_of (C ∷ P) ≡ family_of P
family_cons C [] l = absurd (omega (arith, l))
family_cons C (D ∷ P) l = refl

long_append : (es P : Path) → 0 < length P → 0 < length (es ++ P)
long_append [] P l = l
long_append (e ∷ es) P l = omega arith

family_append : (es P : Path) → 0 < length P → family_of (es ++ P) ≡ family_of P
family_append [] P l = refl
family_append (e ∷ es) P l = family_cons e (es ++ P) (long_append es P l) ∙ family_append es P l

dropped_long : (n : ℕ) (U : Path) → 0 < length (drop n U) → 0 < length U
dropped_long zero U l = l
dropped_long (suc n) [] l = l
dropped_long (suc n) (C ∷ U) l = omega arith

family_drop : (n : ℕ) (U : Path) → 0 < length (drop n U) → family_of (drop n U) ≡ family_of U
family_drop zero U l = refl
family_drop (suc n) [] l = refl
family_drop (suc n) (C ∷ U) l = family_drop n U l ∙ sym (family_cons C U (dropped_long n U l))

in_atoms : (p : Program) (v : Views) (t : Ty) (U : Path) → InType p v t U → InAtoms p v (atoms_in t) U
in_atoms p v (ty.Class xs m) U h = h
in_atoms p v ty.Int U h = absurd h
in_atoms p v ty.Bool U h = absurd h
in_atoms p v ty.Null U h = absurd h
in_atoms p v ty.Void U h = absurd h

left_long : (k : ℕ) (V : Path) → k < length V → 0 < length (drop k V)
left_long zero V l = l
left_long (suc k) [] l = absurd (omega (arith, l))
left_long (suc k) (C ∷ V) l = left_long k V (omega (arith, l))

module _ (p : Program) (ok : FieldsPass p) where
  -- a class in a type that hangs on `this` is in the family of `this`
  family_in : {V T U Q : Path} {f : Name} {t : Ty} → BothHang p V T f Q t → ClassAt p V t U → family_of U ≡ family_of V
  family_in {V} {T} {U} {Q} {f} {t} h a =
      let x = h.hangs.atom in
      let k = h.hangs.levels in
      let i = (in_atoms p (this_viewed V) t U a.is_in x h.hangs.among).inside.exact ∙ ap (λ (y : Anchor). x.exact ++ anchor_at (view_at (this_viewed V)) y) h.hangs.anchor in
      let l : k < length V = omega (arith, ok.within Q f h.field t x k h.at h.type h.hangs.among h.hangs.anchor, sup_level h.at_one.super) in
      let long = left_long k V l in
      let whole = long_append x.exact (drop k V) long in
      sym (family_drop (length x.names) U (subst (λ (P : Path). 0 < length P) (sym i) whole))
      ∙ ap family_of i ∙ family_append x.exact (drop k V) long ∙ family_drop k V long

  both_back : {V T : Path} {f : Name} → BothHave p V T f → BothHave p T V f
  both_back b = record { related = (sharing_laws p).turned _ _ b.related; in_one = b.in_other; in_other = b.in_one }

  hang_back : {V T Q : Path} {f : Name} {t : Ty} → BothHang p V T f Q t → BothHang p T V f Q t
  hang_back h = record {
    both = both_back h.both;
    at_one = h.at_other;
    at_other = h.at_one;
    field = h.field;
    at = h.at;
    type = h.type;
    hangs = h.hangs;
  }

  apart_back : {U W : Path} {g : Name} → IsApart p U W g → IsApart p W U g
  apart_back (only_one h n) = only_other h n
  apart_back (only_other h n) = only_one h n

  -- what matches is in the type
  class_at : {V U W : Path} {t : Ty} → MatchAt p V t U W → ClassAt p V t W
  class_at m = record { class = m.counterpart.related.other; is_in = m.is_in }

  -- and is matched by what it matches
  match_back : {V T U W Q : Path} {f : Name} {t : Ty} → BothHang p V T f Q t → ClassAt p V t U → MatchAt p T t U W → MatchAt p V t W U
  match_back {V} {T} {U} {W} h a m =
      let e = family_in h a in
      let x = family_name V h.both.related.one in
      record { family = x.0; of_view = x.1; counterpart = (sharing_laws p).back x.0 m.family U W (e ∙ x.1) m.counterpart; is_in = a.is_in } where
        family_name : (R : Path) → IsClass p R → (X : Name) × (family_of R ≡ Some X)
        family_name [] c = absurd c.universe
        family_name (C ∷ P) c = in_some C P where
          in_some : (D : Name) (Q : Path) → (X : Name) × (family_of (D ∷ Q) ≡ Some X)
          in_some D [] = (D, refl)
          in_some D (E ∷ Q) = in_some E Q

  -- ---- no view differs from itself

  -- what matches at the same view is the class itself
  same_match : {V U W Q : Path} {f : Name} {t : Ty} → BothHang p V V f Q t → ClassAt p V t U → MatchAt p V t U W → W ≡ U
  same_match {V} {U} {W} h a m =
      m.counterpart.is ∙ sym ((sharing_laws p).own m.family U a.class (family_in h a ∙ m.of_view)).is

  own_match : {V U Q : Path} {f : Name} {t : Ty} → BothHang p V V f Q t → ClassAt p V t U → ((W : Path) → MatchAt p V t U W → ⊥) → ⊥
  own_match {V} {U} h a none =
      elim_family (family_of V) refl where
        elim_family : (o : Option Name) → family_of V ≡ o → ⊥
        elim_family None e = no_family V h.both.related.one e where
          no_family : (R : Path) → IsClass p R → family_of R ≡ None → ⊥
          no_family [] c i = absurd c.universe
          no_family (C ∷ P) c i = never C P i where
            never : (D : Name) (Q : Path) → family_of (D ∷ Q) ≡ None → ⊥
            never D [] j = some_none D j where
              some_none : (E : Name) → Some E ≡ None → ⊥
              some_none E k = cc
            never D (E ∷ Q) j = never E Q j
        elim_family (Some X) e =
            none U (record { family = X; of_view = e; counterpart = (sharing_laws p).own X U a.class (family_in h a ∙ e); is_in = a.is_in })

  not_two : (V : Path) (f : Name) → MakesTwo p (compared V V f) → ⊥
  not_two V f (declared_apart Q R b h k n) = n (ok.one_place V Q R f b.related.one h k)
  not_two V f (unmatched Q t h u) = own_match h u.is_in u.none
  not_two V f (unmatched_back Q t h u) = own_match h u.is_in u.none
  not_two V f (fields_apart Q t U W g h a m x) = itself_apart (subst (λ (Y : Path). IsApart p U Y g) (same_match h a m) x) where
    itself_apart : IsApart p U U g → ⊥
    itself_apart (only_one h n) = n h
    itself_apart (only_other h n) = n h

  no_self : (c : Compared) → Derived (MakesTwo p) (MakesTwoBy p) c → c.one ≡ c.other → ⊥
  no_self c (seed m) e = not_two c.one c.field (subst (λ (T : Path). MakesTwo p (compared c.one T c.field)) (sym e) m)
  no_self c (rule {a = by} d m) e =
      no_self by d (sym (same_match (subst (λ (T : Path). BothHang p c.one T c.field m.declared m.ty) (sym e) m.hangs) m.is_in
      (subst (λ (T : Path). MatchAt p T m.ty by.one by.other) (sym e) m.counterpart)))

  -- ---- the other way round

  abbrev flipped : Compared → Compared
  flipped c = compared c.other c.one c.field

  flip_seed : (c : Compared) → MakesTwo p c → MakesTwo p (flipped c)
  flip_seed c (declared_apart Q R b h k n) = declared_apart R Q (both_back b) k h (λ e. n (sym e))
  flip_seed c (unmatched Q t h u) = unmatched_back Q t (hang_back h) u
  flip_seed c (unmatched_back Q t h u) = unmatched Q t (hang_back h) u
  flip_seed c (fields_apart Q t U W g h a m x) = fields_apart Q t W U g (hang_back h) (class_at m) (match_back h a m) (apart_back x)

  flip : (c : Compared) → Derived (MakesTwo p) (MakesTwoBy p) c → Derived (MakesTwo p) (MakesTwoBy p) (flipped c)
  flip c (seed m) = seed (flip_seed c m)
  flip c (rule {a = by} d m) = rule (flip by d) (record {
    declared = m.declared;
    ty = m.ty;
    hangs = hang_back m.hangs;
    is_in = class_at m.counterpart;
    counterpart = match_back m.hangs m.is_in m.counterpart;
    both = both_back m.both;
  })

  -- ---- by a third view

  through : {V U W X : Path} {T : Path} {t : Ty} → MatchAt p T t U W → MatchAt p V t W X → MatchAt p V t U X
  through {V} {U} {W} {X} m n = record {
    family = n.family;
    of_view = n.of_view;
    counterpart = (sharing_laws p).on m.family n.family U W X m.counterpart n.counterpart;
    is_in = n.is_in;
  }

  -- U's match at the third view is the match of U's match at the second
  onward : {T V U W X Q R : Path} {f : Name} {t : Ty} → BothHang p R T f Q t → ClassAt p R t U → MatchAt p T t U W → MatchAt p V t U X → MatchAt p V t W X
  onward h a m n = through (match_back h a m) n

  apart_through : {U W X : Path} {g : Name} → IsApart p U X g → (IsApart p U W g → ⊥) → (IsApart p W X g → ⊥) → ⊥
  apart_through (only_one h n) one two = one (only_one h (λ w. two (only_one w n)))
  apart_through (only_other h n) one two = two (only_other h (λ w. one (only_other w n)))

  hang_both : {V W T Q : Path} {f : Name} {t : Ty} → BothHang p V T f Q t → BothHave p V W f → BothHave p W T f → (Diff p V W f → ⊥)
      → (BothHang p V W f Q t → BothHang p W T f Q t → ⊥) → ⊥
  hang_both {V} {W} {T} {Q} {f} h b c n go =
      n (seed (declared_apart Q b.in_other.at b h.at_one b.in_other.declares (λ e.
      let d = subst (FieldDecls p W f) (sym e) b.in_other.declares in
      go (record { both = b; at_one = h.at_one; at_other = d; field = h.field; at = h.at; type = h.type; hangs = h.hangs })
      (record { both = c; at_one = d; at_other = h.at_other; field = h.field; at = h.at; type = h.type; hangs = h.hangs }))))

  joins : (c : Compared) → Derived (MakesTwo p) (MakesTwoBy p) c → (W : Path) → BothHave p c.one W c.field → BothHave p W c.other c.field
      → (Diff p c.one W c.field → ⊥) → (Diff p W c.other c.field → ⊥) → ⊥
  joins c (seed (declared_apart Q R b h k n)) W b1 b2 n1 n2 =
      n1 (seed (declared_apart Q b1.in_other.at b1 h b1.in_other.declares (λ e.
      n2 (seed (declared_apart b1.in_other.at R b2 b1.in_other.declares k (λ i. n (e ∙ i)))))))
  joins c (seed (unmatched Q t h u)) W b1 b2 n1 n2 = hang_both h b1 b2 n1 (λ h1 h2.
      n1 (seed (unmatched Q t h1 (record {
        class = u.class;
        is_in = u.is_in;
        none = λ X m.
            n2 (seed (unmatched Q t h2 (record { class = X; is_in = class_at m; none = λ Y k. u.none Y (through m k) })));
      }))))
  joins c (seed (unmatched_back Q t h u)) W b1 b2 n1 n2 = hang_both h b1 b2 n1 (λ h1 h2.
      n2 (seed (unmatched_back Q t h2 (record {
        class = u.class;
        is_in = u.is_in;
        none = λ X m.
            n1 (seed (unmatched_back Q t h1 (record { class = X; is_in = class_at m; none = λ Y k. u.none Y (through m k) })));
      }))))
  joins c (seed (fields_apart Q t U X g h a m x)) W b1 b2 n1 n2 = hang_both h b1 b2 n1 (λ h1 h2.
      n1 (seed (unmatched Q t h1 (record {
        class = U;
        is_in = a;
        none = λ Y k.
            apart_through x (λ y. n1 (seed (fields_apart Q t U Y g h1 a k y)))
            (λ y. n2 (seed (fields_apart Q t Y X g h2 (class_at k) (onward h1 a k m) y)));
      }))))
  joins c (rule {a = by} d m) W b1 b2 n1 n2 = hang_both m.hangs b1 b2 n1 (λ h1 h2.
      n1 (seed (unmatched m.declared m.ty h1 (record {
        class = by.one;
        is_in = m.is_in;
        none = λ Y k.
            n1 (seed (fields_apart m.declared m.ty by.one Y by.field h1 m.is_in k (only_one m.both.in_one (λ y.
            let o = onward h1 m.is_in k m.counterpart in
            let one : BothHave p by.one Y by.field = record { related = k.counterpart.related; in_one = m.both.in_one; in_other = y } in
            let two : BothHave p Y by.other by.field = record { related = o.counterpart.related; in_one = y; in_other = m.both.in_other } in
            joins by d Y one two
            (λ e. n1 (rule e (record { declared = m.declared; ty = m.ty; hangs = h1; is_in = m.is_in; counterpart = k; both = one })))
            (λ e. n2 (rule e (record { declared = m.declared; ty = m.ty; hangs = h2; is_in = class_at k; counterpart = o; both = two })))))));
      }))))

  -- ---- the law

  turned : (f : Name) (V T : Path) → OneSlot p V T f → OneSlot p T V f
  turned f V T o = record { both = both_back o.both; same = λ d. o.same (flip (compared T V f) d) }

  joined : (f : Name) (V T W : Path) → OneSlot p V T f → OneSlot p T W f → OneSlot p V W f
  joined f V T W o q = record {
    both = record { related = (sharing_laws p).joined V T W o.both.related q.both.related; in_one = o.both.in_one; in_other = q.both.in_other };
    same = λ d. joins (compared V W f) d T o.both q.both o.same q.same;
  }

  same_slot : (f : Name) (V T : Path) (s : Slot) → OneSlot p V T f → IsSlot p V f s → IsSlot p T f s
  same_slot f V T s o x = record {
    field = x.field;
    first = record {
      holds = joined f s.class V T x.first.holds o;
      first = λ Q q b. x.first.first Q (joined f Q T V q (turned f V T o)) b;
    };
  }

  slots_of : (f : Name) → SlotsOf p f
  slots_of f = record {
    itself = λ V c h. record {
      both = record { related = (sharing_laws p).itself V c; in_one = h; in_other = h };
      same = λ d. no_self (compared V V f) d refl;
    };
    turned = turned f;
    joined = joined f;
    same = λ V T s b n x. same_slot f V T s (record { both = b; same = n }) x;
    apart = λ V T s d x y. (joined f V s.class T (turned f s.class V x.first.holds) y.first.holds).same d;
  }

pub slot_laws : SlotLaws
slot_laws p ok = slots_of p ok
