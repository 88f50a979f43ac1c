-- Telling classes apart step by step finds Diff.
use Rattle.std.proofs.Common.{◌≡◌, ◌↔◌, ◌⊎◌, inl, inr, sym, ap, ◌∙◌, subst}
use Rattle.jn_reach.specs.Derived.{Derived, seed, rule}
use Rattle.jn_reach.proofs.Searches.{same_some}
use Rattle.jn_base.specs.declared.tree.Name.{Name}
use Rattle.jn_base.specs.declared.tree.Program.{Program}
use Rattle.jn_base.specs.declared.types.Ty.{Ty}
use Rattle.jn_base.specs.Paths.{Path}
use Rattle.jn_base.specs.Members.{FieldDecls}
use Rattle.jn_sem.specs.Values.{HasField}
use Rattle.jn_sem.specs.Sharing.{IsClass, family_of, in_family, Related, HangsOnThis}
use Rattle.jn_sem.specs.Slots.{ClassAt, MatchAt, Compared, compared, BothHave, BothHang, IsApart, only_one, only_other, MakesTwo, declared_apart, unmatched, unmatched_back, fields_apart, MakesTwoBy, Diff, OneSlot}
use Rattle.jn_sem.specs.LawsOfSlots.{FieldsPass}
use Rattle.jn_sem.proofs.SharedLaws.{sharing_laws}
use Rattle.jn_sem.proofs.SlotLaws.{slot_laws}
use Rattle.jn_share.specs.Slots.{IsTyped}
use Rattle.jn_share.specs.Parting.{Covers, Uncovered, SameField, OtherField, two_places, not_covered, not_covered_back, Alike, NotAlike, by_apart, by_field, OneClass, KeepsOne, IsStable}

module _ (p : Program) where
  -- ---- matches

  class_at : {V U W : Path} {t : Ty} → MatchAt p V t U W → ClassAt p V t W
  class_at m = record { class = m.counterpart.related.other; is_in = m.is_in }

  -- one class matches at most
  one_match : {T U W X : Path} {t : Ty} → MatchAt p T t U W → MatchAt p T t U X → W ≡ X
  one_match {T} {U} {W} {X} m n =
      let e : m.family ≡ n.family = same_some (family_of T) m.family n.family m.of_view n.of_view in
      m.counterpart.is ∙ (ap (λ (Y : Name). in_family Y U) e ∙ sym n.counterpart.is)

  -- what a match matches is matched
  through : {V U W X : Path} {T : Path} {t : Ty} → MatchAt p T t U W → MatchAt p V t W X → MatchAt p V t U X
  through {V} {U} {W} {X} m n = record {
    family = n.family;
    of_view = n.of_view;
    counterpart = (sharing_laws p).on m.family n.family U W X m.counterpart n.counterpart;
    is_in = n.is_in;
  }

  has_at : {V Q : Path} {f : Name} → FieldDecls p V f Q → HasField p V f
  has_at d = record { at = _; declares = d }

  module _ (ok : FieldsPass p) (Same : Path → Path → Type 0) (joined : (U W X : Path) → Same U W → Same W X → Same U X) (turned : (U W : Path) → Same U W → Same W U) where
    -- ---- being alike

    covers_on : {V T W : Path} {t : Ty} → Covers p Same V T t → Covers p Same T W t → Covers p Same V W t
    covers_on {V} {T} {W} {t} c d U a =
        let w = c U a in
        let x = d w.0 (class_at w.1) in
        (x.0, through w.1 x.1, joined U w.0 x.0 w.2 x.2)

    pub alike_back : (U W : Path) → Alike p Same U W → Alike p Same W U
    alike_back U W a = record {
      fields = λ f. ((a.fields f).1, (a.fields f).0);
      each = λ f h.
          let s = a.each f ((a.fields f).1 h) in
          record { declared = s.declared; at_one = s.at_other; at_other = s.at_one; forth = s.back; back = s.forth };
    }

    -- a field of a class has one declaration
    placed : {V Q R : Path} {f : Name} → IsClass p V → FieldDecls p V f Q → FieldDecls p V f R → Q ≡ R
    placed {V} {Q} {R} {f} c d e = ok.one_place V Q R f c d e

    pub alike_on : (U R W : Path) → IsClass p R → Alike p Same U R → Alike p Same R W → Alike p Same U W
    alike_on U R W c a b = record {
      fields = λ f. (λ h. (b.fields f).0 ((a.fields f).0 h), λ h. (a.fields f).1 ((b.fields f).1 h));
      each = λ f h. both f (a.each f h) (b.each f ((a.fields f).0 h)) c;
    } where
      both : (f : Name) → SameField p Same U R f → SameField p Same R W f → IsClass p R → SameField p Same U W f
      both f s r k =
          let q : s.declared ≡ r.declared = placed k s.at_other r.at_one in
          record {
            declared = s.declared;
            at_one = s.at_one;
            at_other = subst (FieldDecls p W f) (sym q) r.at_other;
            forth = λ t i h. covers_on (s.forth t i h) (r.forth t (subst (λ (Q : Path). IsTyped p Q f t) q i) h);
            back = λ t i h. covers_on (r.back t (subst (λ (Q : Path). IsTyped p Q f t) q i) h) (s.back t i h);
          }

    uncovered_on : {V T X : Path} {t : Ty} → Covers p Same X V t → Uncovered p Same X T t → Uncovered p Same V T t
    uncovered_on {V} {T} {X} {t} c u =
        let w = c u.class u.is_in in
        record { class = w.0; is_in = class_at w.1; none = λ D m s. u.none D (through w.1 m) (joined u.class w.0 D w.2 s) }

    uncovered_back : {V T X : Path} {t : Ty} → Covers p Same V X t → Uncovered p Same T X t → Uncovered p Same T V t
    uncovered_back {V} {T} {X} {t} c u = record {
      class = u.class;
      is_in = u.is_in;
      none = λ D m s. let w = c D (class_at m) in u.none w.0 (through m w.1) (joined u.class D w.0 s w.2);
    }

    other_on : (X U W : Path) (f : Name) → IsClass p X → SameField p Same X U f → OtherField p Same X W f → OtherField p Same U W f
    other_on X U W f c s (two_places Q R d e n) =
        two_places Q R (subst (FieldDecls p U f) (sym (placed c d s.at_one)) s.at_other) e n
    other_on X U W f c s (not_covered Q t d e i h u) =
        let q : Q ≡ s.declared = placed c d s.at_one in
        not_covered Q t (subst (FieldDecls p U f) (sym q) s.at_other) e i h (uncovered_on (s.forth t (subst (λ (R : Path). IsTyped p R f t) q i) h) u)
    other_on X U W f c s (not_covered_back Q t d e i h u) =
        let q : Q ≡ s.declared = placed c d s.at_one in
        not_covered_back Q t (subst (FieldDecls p U f) (sym q) s.at_other) e i h (uncovered_back (s.back t (subst (λ (R : Path). IsTyped p R f t) q i) h) u)

    other_has : (X W : Path) (f : Name) → OtherField p Same X W f → HasField p X f
    other_has X W f (two_places Q R d e n) = has_at d
    other_has X W f (not_covered Q t d e i h u) = has_at d
    other_has X W f (not_covered_back Q t d e i h u) = has_at d

    apart_on : (X U W : Path) (f : Name) → HasField p X f ↔ HasField p U f → IsApart p X W f → IsApart p U W f
    apart_on X U W f i (only_one h n) = only_one (i.0 h) n
    apart_on X U W f i (only_other h n) = only_other h (λ x. n (i.1 x))

    -- what is not alike one of two that are alike is not alike the other
    pub unlike_on : (X U W : Path) → IsClass p X → Alike p Same X U → NotAlike p Same X W → NotAlike p Same U W
    unlike_on X U W c a (by_apart h) = by_apart (λ n. h (λ f x. n f (apart_on X U W f (a.fields f) x)))
    unlike_on X U W c a (by_field f x) = by_field f (other_on X U W f c (a.each f (other_has X W f x)) x)

    -- ---- nothing tells one class apart

    pub one_turned : (U W : Path) → OneClass p U W → OneClass p W U
    one_turned U W o = record {
      related = (sharing_laws p).turned U W o.related;
      no_apart = λ f x. o.no_apart f (apart_turned f x);
      no_diff = λ f b d.
          let back : BothHave p U W f = record { related = o.related; in_one = b.in_other; in_other = b.in_one } in
          ((slot_laws p ok f).turned U W (record { both = back; same = o.no_diff f back })).same d;
    } where
      apart_turned : (f : Name) → IsApart p W U f → IsApart p U W f
      apart_turned f (only_one h n) = only_other h n
      apart_turned f (only_other h n) = only_one h n

    both_hang : (V T Q : Path) (f : Name) (t : Ty) → Related p V T → FieldDecls p V f Q → FieldDecls p T f Q → (i : IsTyped p Q f t)
        → HangsOnThis t → BothHang p V T f Q t
    both_hang V T Q f t r d e i h = record {
      both = record { related = r; in_one = has_at d; in_other = has_at e };
      at_one = d;
      at_other = e;
      field = i.field;
      at = i.at;
      type = i.type;
      hangs = h;
    }

    module _ (keeps : KeepsOne p Same) where
      not_uncovered : (V T Q : Path) (f : Name) (t : Ty) → BothHang p V T f Q t → (Diff p V T f → ⊥) → Uncovered p Same V T t → ⊥
      not_uncovered V T Q f t h n u =
          n (seed (unmatched Q t h (record {
            class = u.class;
            is_in = u.is_in;
            none = λ W m. u.none W m (keeps u.class W (record {
              related = m.counterpart.related;
              no_apart = λ g x. n (seed (fields_apart Q t u.class W g h u.is_in m x));
              no_diff = λ g b d. n (rule d (record { declared = Q; ty = t; hangs = h; is_in = u.is_in; counterpart = m; both = b }));
            }));
          })))

      other_never : (V T : Path) (f : Name) → Related p V T → (BothHave p V T f → Diff p V T f → ⊥) → OtherField p Same V T f → ⊥
      other_never V T f r n (two_places Q R d e k) =
          let b : BothHave p V T f = record { related = r; in_one = has_at d; in_other = has_at e } in
          n b (seed (declared_apart Q R b d e k))
      other_never V T f r n (not_covered Q t d e i h u) =
          let k = both_hang V T Q f t r d e i h in
          not_uncovered V T Q f t k (n k.both) u
      other_never V T f r n (not_covered_back Q t d e i h u) =
          let s = (sharing_laws p).turned V T r in
          let k = both_hang T V Q f t s e d i h in
          let b : BothHave p V T f = record { related = r; in_one = has_at d; in_other = has_at e } in
          not_uncovered T V Q f t k ((slot_laws p ok f).turned V T (record { both = b; same = n b })).same u

      -- where two have one slot, nothing is found that makes two
      pub other_not : (V T : Path) (f : Name) → OneSlot p V T f → OtherField p Same V T f → ⊥
      other_not V T f o x = other_never V T f o.both.related (λ b. o.same) x

      pub unlike_never : (U W : Path) → OneClass p U W → NotAlike p Same U W → ⊥
      unlike_never U W o (by_apart h) = h o.no_apart
      unlike_never U W o (by_field f x) = other_never U W f o.related (o.no_diff f) x

    -- ---- what is stable has one slot

    module _ (stable : IsStable p Same) where
      not_apart_itself : (U : Path) (g : Name) → IsApart p U U g → ⊥
      not_apart_itself U g (only_one h n) = n h
      not_apart_itself U g (only_other h n) = n h

      alike_not_apart : (U W : Path) (g : Name) → Alike p Same U W → IsApart p U W g → ⊥
      alike_not_apart U W g a (only_one h n) = n ((a.fields g).0 h)
      alike_not_apart U W g a (only_other h n) = n ((a.fields g).1 h)

      not_apart : (U W : Path) (g : Name) → (U ≡ W) ⊎ Alike p Same U W → IsApart p U W g → ⊥
      not_apart U W g (inl e) x = not_apart_itself U g (subst (λ (X : Path). IsApart p U X g) (sym e) x)
      not_apart U W g (inr a) x = alike_not_apart U W g a x

      same_typed : (V T Q : Path) (f : Name) (t : Ty) → SameField p Same V T f → (h : BothHang p V T f Q t) → Covers p Same V T t × Covers p Same T V t
      same_typed V T Q f t s h =
          let q : Q ≡ s.declared = placed h.both.related.one h.at_one s.at_one in
          let i : IsTyped p s.declared f t = subst (λ (R : Path). IsTyped p R f t) q (record { field = h.field; at = h.at; type = h.type }) in
          (s.forth t i h.hangs, s.back t i h.hangs)

      -- the match of a class of the type is together with it
      matched : (V T Q U W : Path) (f : Name) (t : Ty) → SameField p Same V T f → (h : BothHang p V T f Q t) → ClassAt p V t U → MatchAt p T t U W → Same U W
      matched V T Q U W f t s h a m =
          let w = (same_typed V T Q f t s h).0 U a in
          subst (Same U) (one_match w.1 m) w.2

      no_seed : (c : Compared) → MakesTwo p c → SameField p Same c.one c.other c.field → ⊥
      no_seed c (declared_apart Q R b d e n) s =
          n (placed b.related.one d s.at_one ∙ sym (placed b.related.other e s.at_other))
      no_seed c (unmatched Q t h u) s =
          let w = (same_typed c.one c.other Q c.field t s h).0 u.class u.is_in in
          u.none w.0 w.1
      no_seed c (unmatched_back Q t h u) s =
          let w = (same_typed c.one c.other Q c.field t s h).1 u.class u.is_in in
          u.none w.0 w.1
      no_seed c (fields_apart Q t U W g h a m x) s =
          not_apart U W g (stable U W a.class m.counterpart.related.other (matched c.one c.other Q U W c.field t s h a m)) x

      same_there : (U W : Path) (g : Name) → BothHave p U W g → (U ≡ W) ⊎ Alike p Same U W → (Diff p U W g) → (SameField p Same U W g → ⊥) → ⊥
      same_there U W g b (inl e) d n =
          ((slot_laws p ok g).itself U b.related.one b.in_one).same (subst (λ (X : Path). Diff p U X g) (sym e) d)
      same_there U W g b (inr a) d n = n (a.each g b.in_one)

      no_two : (c : Compared) → Derived (MakesTwo p) (MakesTwoBy p) c → SameField p Same c.one c.other c.field → ⊥
      no_two c (seed m) s = no_seed c m s
      no_two c (rule {a = by} d m) s =
          same_there by.one by.other by.field m.both
          (stable by.one by.other m.is_in.class m.counterpart.counterpart.related.other
          (matched c.one c.other m.declared by.one by.other c.field m.ty s m.hangs m.is_in m.counterpart)) d (no_two by d)

      pub one_slot : (V T : Path) (f : Name) → Related p V T → SameField p Same V T f → OneSlot p V T f
      one_slot V T f r s = record {
        both = record { related = r; in_one = has_at s.at_one; in_other = has_at s.at_other };
        same = λ d. no_two (compared V T f) d s;
      }
