-- What a slot takes at one view fits it at each other.
use Rattle.std.proofs.Common.{◌≡◌, ℕ, [], ◌∷◌, Some, None, refl, sym, ap, ◌∙◌, subst, Bool, true, false, nat_eq, ◌⊎◌, inl, inr}
use Rattle.std.specs.Prelude.{Result, Ok}
use Rattle.std.proofs.lemmas.Bool.{eqb-false}
use Rattle.jn_reach.specs.Derived.{seed, rule}
use Rattle.jn_base.specs.declared.tree.Name.{Name}
use Rattle.jn_base.specs.declared.tree.Field.{Field}
use Rattle.jn_base.specs.declared.tree.Program.{Program}
use Rattle.jn_base.specs.declared.types.Anchor.{Anchor}
use Rattle.jn_base.specs.declared.types.Anchor.TheVariants.{Root, Up}
use Rattle.jn_base.specs.declared.types.Ty.{Ty}
use Rattle.jn_base.specs.declared.types.Ty.TheVariants as ty
use Rattle.jn_base.specs.declared.refusal.Refusal.{Refusal}
use Rattle.jn_base.specs.Paths.{Path}
use Rattle.jn_base.specs.Members.{FieldAt, FieldDecls}
use Rattle.jn_base.specs.Atoms.{Atom, atoms_in, Among}
use Rattle.jn_base.specs.TableRules.{DeclarationsPass}
use Rattle.jn_base.specs.ResolveTypes.{mask_names}
use Rattle.jn_base.proofs.Unique.{one_field_at}
use Rattle.jn_base.proofs.ResolveOnce.{type_once}
use Rattle.jn_base.proofs.NameTests.{same_name}
use Rattle.jn_sem.specs.Sets.{InType}
use Rattle.jn_sem.specs.Values.{Value, Reference, number, truth, null, no_object, object, HasField, Masked, FieldsFilled}
use Rattle.jn_base.specs.declared.types.Masks.{Masks}
use Rattle.jn_sem.specs.Sharing.{in_family, Counterpart, HangsOnThis, family_of, IsClass}
use Rattle.jn_sem.specs.Slots.{this_viewed, FieldType, ClassAt, MatchAt, BothHave, BothHang, only_other, declared_apart, unmatched, fields_apart, Diff, OneSlot, Slot, IsSlot}
use Rattle.jn_sem.specs.LawsOfSlots.{FieldsPass, SlotsOf}
use Rattle.jn_sem.specs.State.{Heap, HasValue, IsIn, view_in}
use Rattle.jn_sem.specs.Terms.{FieldTypeIs}
use Rattle.jn_sem.proofs.SlotLaws.{slot_laws}
use Rattle.jn_sem.proofs.FindingLaws.{among_of, contains_of}
use Rattle.jn_laws.specs.Surely.{Surely, ListOf}
use Rattle.jn_laws.specs.LawsOfViews.{Agree, AgreeIn, OfThis}
use Rattle.jn_laws.specs.Reading.{IsReal, ReadAs, itself, plain, turned, SlotFits}
use Rattle.jn_laws.specs.LawsOfStores.{SlotsTakeValues}
use Rattle.jn_laws.proofs.Sures.{surely, and_so, map_surely, decided, surely_each}
use Rattle.jn_laws.proofs.ByViews.{value_same}
use Rattle.jn_laws.proofs.Universes.{universe_listed}
use Rattle.jn_laws.proofs.WrittenTypes.{this_is_alone}

-- ---- paths that can't differ are the same

names_decided : (a b : Name) → (a ≡ b) ⊎ (a ≡ b → ⊥)
names_decided a b = at (nat_eq a.0 b.0) refl where
  at : (t : Bool) → nat_eq a.0 b.0 ≡ t → (a ≡ b) ⊎ (a ≡ b → ⊥)
  at true e = inl (same_name a b e)
  at false e = inr (λ i. eqb-false a.0 b.0 e (ap (λ (n : Name). n.0) i))

heads : (a b : Name) (P Q : Path) → a ∷ P ≡ b ∷ Q → (a ≡ b) × (P ≡ Q)
heads a b P Q e = (cc, cc)

paths_decided : (P Q : Path) → (P ≡ Q) ⊎ (P ≡ Q → ⊥)
paths_decided [] [] = inl refl
paths_decided [] (b ∷ Q) = inr (λ e. cc e)
paths_decided (a ∷ P) [] = inr (λ e. cc e)
paths_decided (a ∷ P) (b ∷ Q) = at (names_decided a b) (paths_decided P Q) where
  at : (a ≡ b) ⊎ (a ≡ b → ⊥) → (P ≡ Q) ⊎ (P ≡ Q → ⊥) → (a ∷ P ≡ b ∷ Q) ⊎ (a ∷ P ≡ b ∷ Q → ⊥)
  at (inl e) (inl i) = inl (cc (e, i))
  at (inr n) i = inr (λ e. n (heads a b P Q e).0)
  at (inl e) (inr n) = inr (λ i. n (heads a b P Q i).1)

pub same_path : (P Q : Path) → ((P ≡ Q → ⊥) → ⊥) → P ≡ Q
same_path P Q h = at (paths_decided P Q) where
  at : (P ≡ Q) ⊎ (P ≡ Q → ⊥) → P ≡ Q
  at (inl e) = e
  at (inr n) = absurd (h n)

-- ---- two views of one slot

module _ (p : Program) (ok : FieldsPass p) (V T : Path) (f : Name) (s : Slot) (at_one : IsSlot p V f s) (at_other : IsSlot p T f s) where
  laws : SlotsOf p f
  laws = slot_laws p ok f

  pub one_slot : OneSlot p V T f
  one_slot = laws.joined V s.class T (laws.turned s.class V at_one.first.holds) at_other.first.holds

  -- the field has one declaration at both
  pub one_declaration : (Q R : Path) → FieldDecls p V f Q → FieldDecls p T f R → Q ≡ R
  one_declaration Q R d e = same_path Q R (λ apart. one_slot.same (seed (declared_apart Q R one_slot.both d e apart)))

  pub one_type : DeclarationsPass p → (t u : Ty) → FieldType p V f t → FieldType p T f u → t ≡ u
  one_type passes t u a b =
      let e = one_declaration a.class b.class a.is_field.declares b.is_field.declares in
      let x = one_field_at p passes.once b.class f a.field b.field (subst (λ (Q : Path). FieldAt p Q f a.field) e a.at) b.at in
      same_type t u (type_once p (mask_names p) _ _ b.field.ty (Ok t) (Ok u)
      (subst (λ (y : Field). FieldTypeIs p b.class f y.ty t) x (subst (λ (Q : Path). FieldTypeIs p Q f a.field.ty t) e a.type)) b.type) where
        same_type : (t u : Ty) → ◌≡◌ {A = Result Ty Refusal} (Ok t) (Ok u) → t ≡ u
        same_type t u e = cc

  -- both have it from one declaration, and its type hangs on `this`
  hangs : (t : Ty) (a : FieldType p V f t) → HangsOnThis t → BothHang p V T f a.class t
  hangs t a h =
      let x = one_slot.both.in_other in record {
        both = one_slot.both;
        at_one = a.is_field.declares;
        at_other = subst (FieldDecls p T f) (sym (one_declaration a.class x.at a.is_field.declares x.declares)) x.declares;
        field = a.field;
        at = a.at;
        type = a.type;
        hangs = h;
      }

  -- a class in the type at the one view surely has a counterpart in it at the other
  matched : (t : Ty) (U : Path) → FieldType p V f t → HangsOnThis t → IsClass p U → InType p (this_viewed V) t U → Surely ((W : Path) × MatchAt p T t U W)
  matched t U a h c i deny =
      one_slot.same (seed (unmatched a.class t (hangs t a h) (record { class = U; is_in = record { class = c; is_in = i }; none = λ W m. deny (W, m) })))

  -- each field of the counterpart is surely one of the class, of one slot
  filled : (t : Ty) (h : Heap) (o : ℕ) (U W : Path) → FieldType p V f t → HangsOnThis t → IsClass p U → InType p (this_viewed V) t U → MatchAt p T t U W
      → (g : Name) → HasField p W g → (HasField p U g → HasValue p h o U g) → Surely (HasValue p h o W g)
  filled t h o U W a n c i m g w had = and_so known (λ u. surely (at u)) where
    both_hang : BothHang p V T f a.class t
    both_hang = hangs t a n

    in_one : ClassAt p V t U
    in_one = record { class = c; is_in = i }

    known : Surely (HasField p U g)
    known deny = one_slot.same (seed (fields_apart a.class t U W g both_hang in_one m (only_other w deny)))

    both : HasField p U g → BothHave p U W g
    both u = record { related = m.counterpart.related; in_one = u; in_other = w }

    same : (u : HasField p U g) → Diff p U W g → ⊥
    same u d = one_slot.same (rule d (record {
      declared = a.class;
      ty = t;
      hangs = both_hang;
      is_in = in_one;
      counterpart = m;
      both = both u;
    }))

    at : HasField p U g → HasValue p h o W g
    at u =
        let x = had u in
        record { slot = x.slot; is_slot = (slot_laws p ok g).same U W x.slot (both u) (same u) x.is_slot; has = x.has }

  -- so all fields of the counterpart but the masked ones are filled
  all_filled : (t : Ty) (h : Heap) (o : ℕ) (U W : Path) (m : Masks) → FieldType p V f t → HangsOnThis t → IsClass p U → InType p (this_viewed V) t U → MatchAt p T t U W
      → FieldsFilled p (mask_names p) (HasValue p h o U) m U → Surely (FieldsFilled p (mask_names p) (HasValue p h o W) m W)
  all_filled t h o U W m a n c i k had = and_so ((universe_listed p).fields W) from_list where
    one_field : (g : Name) → HasField p W g → (Masked (mask_names p) m g) ⊎ (Masked (mask_names p) m g → ⊥) → Surely ((Masked (mask_names p) m g → ⊥) → HasValue p h o W g)
    one_field g w (inl l) = surely (λ free. absurd (free l))
    one_field g w (inr free) = map_surely (filled t h o U W a n c i k g w (λ u. had g u free)) (λ x l. x)

    from_list : ListOf (HasField p W) → Surely (FieldsFilled p (mask_names p) (HasValue p h o W) m W)
    from_list l =
        map_surely
        (surely_each {T = λ g. (Masked (mask_names p) m g → ⊥) → HasValue p h o W g} l.items
        (λ g e. and_so (decided (Masked (mask_names p) m g)) (λ d. one_field g ((l.exact g).0 (contains_of l.items g e)) d)))
        (λ all g w free. all g (among_of l.items g ((l.exact g).1 w)) free)

  -- ---- the value

  agree : (t : Ty) → FieldType p V f t → (HangsOnThis t → ⊥) → AgreeIn (this_viewed V) (this_viewed T) t
  agree t a n = record { each = λ x m. at x m x.anchor refl ((this_is_alone p).in_field a.class f a.field.ty t x a.type m) } where
    at : (x : Atom) → Among (atoms_in t) x → (c : Anchor) → x.anchor ≡ c → OfThis c → Agree (this_viewed V) (this_viewed T) c
    at x m Root e o = tt
    at x m (Up q k) e o = absurd (n (record { atom = x; among = m; levels = k; anchor = e ∙ ap (λ (r : ℕ). Up r k) o }))

  no_view : (h : Heap) (t : Ty) (v : Value) → view_in v ≡ None → IsIn p (this_viewed V) h t v → IsIn p (this_viewed T) h t v
  no_view h _ _ e number = number
  no_view h _ _ e truth = truth
  no_view h _ _ e null = null
  no_view h _ _ e no_object = no_object
  no_view h _ _ e (object {V = U} i g) = absurd (none U e) where
    none : (U : Path) → Some U ≡ None → ⊥
    none U e = cc

  some_family : (X Y : Name) → Some X ≡ Some Y → X ≡ Y
  some_family X Y e = cc

  match_is : (t : Ty) (U W Z : Path) (Y : Name) → family_of T ≡ Some Y → Counterpart p Y U W → MatchAt p T t U Z → MatchAt p T t U W
  match_is t U W Z Y e c m = subst (MatchAt p T t U) (m.counterpart.is ∙ ap (λ (X : Name). in_family X U) (some_family m.family Y (sym m.of_view ∙ e)) ∙ sym c.is) m

  turned_in : (h : Heap) (t : Ty) (o : ℕ) (U W : Path) (Y : Name) → FieldType p V f t → HangsOnThis t → IsClass p U → family_of T ≡ Some Y → Counterpart p Y U W
      → IsIn p (this_viewed V) h t (Reference o U) → Surely (IsIn p (this_viewed T) h t (Reference o W))
  turned_in h _ o U W Y a n c e k (object {xs = xs} {m = m} i g) =
      and_so (matched (ty.Class xs m) U a n c i) (λ z. with_match (match_is (ty.Class xs m) U W z.0 Y e k z.1)) where
        with_match : MatchAt p T (ty.Class xs m) U W → Surely (IsIn p (this_viewed T) h (ty.Class xs m) (Reference o W))
        with_match w = map_surely (all_filled (ty.Class xs m) h o U W m a n c i w g) (λ g'. object w.is_in g')

  real_class : (h : Heap) (o : ℕ) (U : Path) → IsReal p h (Reference o U) → IsClass p U
  real_class h o U r = r.related.other

  read_there : (h : Heap) (t : Ty) (v : Value) → FieldType p V f t → HangsOnThis t → IsReal p h v → IsIn p (this_viewed V) h t v → Surely ((w : Value) × ReadAs p T t v w)
  read_there h _ _ a n r number = surely (_, plain refl)
  read_there h _ _ a n r truth = surely (_, plain refl)
  read_there h _ _ a n r null = surely (_, plain refl)
  read_there h _ _ a n r no_object = surely (_, plain refl)
  read_there h _ _ a n r (object {xs = xs} {m = m} {o = o} {V = U} i g) =
      map_surely (matched (ty.Class xs m) U a n (real_class h o U r) i) (λ z. (Reference o z.0, turned z.1.family n z.1.of_view z.1.counterpart))

  fits_there : (h : Heap) (t : Ty) (v w : Value) → FieldType p V f t → IsReal p h v → IsIn p (this_viewed V) h t v → ReadAs p T t v w → Surely (IsIn p (this_viewed T) h t w)
  fits_there h t v _ a r i (itself n) = surely (value_same p (this_viewed V) (this_viewed T) h t v (agree t a n) i)
  fits_there h t v _ a r i (plain e) = surely (no_view h t v e i)
  fits_there h t _ _ a r i (turned {o = o} {U = U} {W = W} Y n e k) = turned_in h t o U W Y a n (real_class h o U r) e k i

  pub fits_slot : (h : Heap) (t : Ty) (v : Value) → FieldType p V f t → IsReal p h v → IsIn p (this_viewed V) h t v → SlotFits p h T t v
  fits_slot h t v a r i = record {
    real = r;
    read = and_so (decided (HangsOnThis t)) read;
    fits = λ w x. fits_there h t v w a r i x;
  } where
    read : (HangsOnThis t) ⊎ (HangsOnThis t → ⊥) → Surely ((w : Value) × ReadAs p T t v w)
    read (inl n) = read_there h t v a n r i
    read (inr n) = surely (v, itself n)

pub slots_take_values : SlotsTakeValues
slots_take_values p passes ok = record {
  field = λ V T f g s a b. sym a.field ∙ b.field;
  type = λ V T f s t u a b. one_type p ok V T f s a b passes t u;
  value = λ h V T f s t v a b. fits_slot p ok V T f s a b h t v;
}
