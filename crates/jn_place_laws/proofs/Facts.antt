-- The facts on which the instructions of an act rely, from where the frame stands.
use Rattle.std.proofs.Common.{◌≡◌, ℕ, List, ◌∷◌, length, Option, Some, refl, sym, ap, ◌∙◌, subst}
use Rattle.std.specs.Prelude.{slice_get, take}
use Rattle.std.specs.Option.{option_and_then}
use Rattle.jn_base.specs.declared.tree.Name.{Name}
use Rattle.jn_base.specs.declared.tree.Op.{Op}
use Rattle.jn_base.specs.declared.tree.Op.TheVariants as op
use Rattle.jn_base.specs.declared.tree.Program.{Program}
use Rattle.jn_base.specs.declared.types.Ty.{Ty}
use Rattle.jn_base.specs.declared.types.Ty.TheVariants as ty
use Rattle.jn_base.specs.declared.names.Var.{Var}
use Rattle.jn_base.specs.Paths.{Path}
use Rattle.jn_base.specs.Scopes.{Scope}
use Rattle.jn_sem.specs.Sets.{Views}
use Rattle.jn_sem.specs.Values.{Value, Number, Truth, Null, Reference, number, truth, null, no_object, object}
use Rattle.jn_sem.specs.Sharing.{Related}
use Rattle.jn_sem.specs.Slots.{Slot, IsSlot, FieldType}
use Rattle.jn_sem.specs.State.{Heap, Variable, Frame, Object, IsIn, stored_value}
use Rattle.jn_laws.specs.Reading.{RefersTo, ReadAs, itself, plain, turned}
use Rattle.jn_laws.specs.Surely.{Surely}
use Rattle.jn_rules.specs.Headers.{Header}
use Rattle.jn_rules.specs.Plans.{FoundField}
use Rattle.jn_rules.specs.Questions.{IsFoundField}
use Rattle.jn_sound.specs.Takes.{Opd, opd, typing}
use Rattle.jn_sound.specs.Sound.{HeapFits, OperandFits, OperandsFit, one, cut, all_views, Stands}
use Rattle.jn_sound.proofs.Laws.{Laws}
use Rattle.jn_sound.proofs.Ways.{surely, and_so}
use Rattle.jn_sound.proofs.Stands.{same_scope}
use Rattle.jn_sound.proofs.GetStep.{field_known}
use Rattle.jn_agree.specs.Rows.{FieldKind, kind_of_type}
use Rattle.jn_agree.specs.Places.{equal}
use Rattle.jn_node_laws.specs.Facts.{OfKind, ReadsWell, WritesWell, PrintsValue, PrintsWell, ComparedBy, IfCompares, ComparesWell, ThisRefers}
use Rattle.jn_place_laws.specs.Contexts.{context, Stood}
use Rattle.jn_places.specs.StmtPlaces.{printing}
use Rattle.jn_place_laws.proofs.Stable.{sure_kind, sure_reference, kind_same}

-- ---- kinds of values

kind_in : (p : Program) (v : Views) (h : Heap) (t : Ty) (w : Value) → IsIn p v h t w → OfKind t w
kind_in p v h _ _ number = tt
kind_in p v h _ _ truth = tt
kind_in p v h _ _ null = tt
kind_in p v h _ _ no_object = tt
kind_in p v h _ _ (object i f) = tt

same_kind : (t : Ty) (o : ℕ) (U W : Path) → OfKind t (Reference o W) → OfKind t (Reference o U)
same_kind (ty.Class xs m) o U W k = tt
same_kind ty.Int o U W k = k
same_kind ty.Bool o U W k = k
same_kind ty.Null o U W k = k
same_kind ty.Void o U W k = k

kind_read : (p : Program) (V : Path) (t : Ty) (v w : Value) → ReadAs p V t v w → OfKind t w → OfKind t v
kind_read p V t _ _ (itself n) k = k
kind_read p V t _ _ (plain e) k = k
kind_read p V t _ _ (turned {o = o} {U = U} {W = W} Y a b c) k = same_kind t o U W k

-- a value in a slot is of its field's kind
slot_kind : (p : Program) (h : Heap) (o : ℕ) (x : Object) (V : Path) (f : Name) (s : Slot) (t : Ty) (v : Value)
    → HeapFits p h → slice_get h.objects o ≡ Some x → Related p x.made V → FieldType p V f t → IsSlot p V f s
    → stored_value x.stored s ≡ Some v → Surely (OfKind t v)
slot_kind p h o x V f s t v hf at rel ft is st =
    let k = hf.slots o x V f s t v at rel ft is st in
    and_so k.read (λ w. and_so (k.fits w.0 w.1) (λ i. surely (kind_read p V t v w.0 w.1 (kind_in p _ h t w.0 i))))

-- ---- the latest operand

top_of : {p : Program} {xs : List Variable} {h : Heap} {s : Scope} {v : Views} {o : Opd} {ops : List Opd}
    (vals : List Value) (x : Value) (us : List Value) → OperandsFit p xs h s v (o ∷ ops) vals → vals ≡ x ∷ us
    → OperandFits p xs h s v o x
top_of {p} {xs} {h} {s} {v} {o} {ops} vals x us f e = at (subst (OperandsFit p xs h s v (o ∷ ops)) e f) where
  at : OperandsFit p xs h s v (o ∷ ops) (x ∷ us) → OperandFits p xs h s v o x
  at (one j r) = j

-- the frame without it
without_top : {p : Program} {h : Heap} {f : Frame} {x : Header} {vs : List Var} {s : Scope} {o : Opd} {ops : List Opd}
    {w : Views} (v : Value) (us : List Value) → Stands p h f x vs s (o ∷ ops) w → f.vals ≡ v ∷ us
    → Stands p h (record f { vals = us }) x vs s ops w
without_top {p} {h} {f} {x} {vs} {s} {o} {ops} {w} v us a e = record {
  is_header = a.is_header;
  params = a.params;
  all_params = a.all_params;
  in_scope = same_scope (cut (length vs) f) us f.todo f.keeps a.in_scope;
  operands = at (subst (OperandsFit p (take (length vs) f.vars) h s (all_views (cut (length vs) f) w) (o ∷ ops)) e a.operands);
} where
  at : OperandsFit p (take (length vs) f.vars) h s (all_views (cut (length vs) f) w) (o ∷ ops) (v ∷ us)
      → OperandsFit p (take (length vs) f.vars) h s (all_views (cut (length vs) f) w) ops us
  at (one j r) = r

-- ---- printing and comparing, by the kind of the operand

print_by : (t : Ty) (v : Value) → OfKind t v → PrintsValue (printing t) v
print_by ty.Int (Number z) k = refl
print_by ty.Int (Truth b) k = absurd k
print_by ty.Int Null k = tt
print_by ty.Int (Reference o V) k = tt
print_by ty.Bool (Truth b) k = refl
print_by ty.Bool (Number z) k = absurd k
print_by ty.Bool Null k = tt
print_by ty.Bool (Reference o V) k = tt
print_by ty.Null (Number z) k = absurd k
print_by ty.Null (Truth b) k = absurd k
print_by ty.Null Null k = tt
print_by ty.Null (Reference o V) k = tt
print_by ty.Void (Number z) k = absurd k
print_by ty.Void (Truth b) k = absurd k
print_by ty.Void Null k = tt
print_by ty.Void (Reference o V) k = tt
print_by (ty.Class xs m) (Number z) k = absurd k
print_by (ty.Class xs m) (Truth b) k = absurd k
print_by (ty.Class xs m) Null k = tt
print_by (ty.Class xs m) (Reference o V) k = tt

compare_by : (t : Ty) (v : Value) → OfKind t v → ComparedBy (equal (kind_of_type t)) v
compare_by ty.Int (Number z) k = refl
compare_by ty.Int (Truth b) k = absurd k
compare_by ty.Int Null k = absurd k
compare_by ty.Int (Reference o V) k = absurd k
compare_by ty.Bool (Truth b) k = refl
compare_by ty.Bool (Number z) k = absurd k
compare_by ty.Bool Null k = absurd k
compare_by ty.Bool (Reference o V) k = absurd k
compare_by ty.Null (Number z) k = absurd k
compare_by ty.Null (Truth b) k = absurd k
compare_by ty.Null Null k = refl
compare_by ty.Null (Reference o V) k = absurd k
compare_by ty.Void (Number z) k = absurd k
compare_by ty.Void (Truth b) k = absurd k
compare_by ty.Void Null k = absurd k
compare_by ty.Void (Reference o V) k = absurd k
compare_by (ty.Class xs m) (Number z) k = absurd k
compare_by (ty.Class xs m) (Truth b) k = absurd k
compare_by (ty.Class xs m) Null k = refl
compare_by (ty.Class xs m) (Reference o V) k = refl

if_compares : (o : Op) (P : Type 0) → P → IfCompares o P
if_compares op.Eq P x = x
if_compares op.Ne P x = x
if_compares op.Add P x = tt
if_compares op.Sub P x = tt
if_compares op.Mul P x = tt
if_compares op.Div P x = tt
if_compares op.Rem P x = tt
if_compares op.Lt P x = tt
if_compares op.Le P x = tt
if_compares op.Gt P x = tt
if_compares op.Ge P x = tt
if_compares op.And P x = tt
if_compares op.Or P x = tt

module _ (p : Program) (laws : Laws p) (r : Frame) (hd : Header) (vs : List Var) (s : Scope) where
  -- what is read is of the kind of the selector
  pub reads : (ops : List Opd) (f : Name) (t : Ty) (q : Option ℕ) (c : FoundField) (kind : ℕ)
      → IsFoundField p s t f c → FieldKind c.ty kind → (g : Frame) (h : Heap)
      → Stood p r hd (context vs (typing s (opd t q ∷ ops))) g h → ReadsWell p f kind h g.vals
  reads ops f t q c kind found is g h st o V us e u ft = record {
    kind = kind_same u c.ty kind is (and_so st (λ a.
        surely (laws.field_one V f u c.ty ft (field_known laws f t q c found a.at.stands o V us e))));
    stored = λ sl v slot there. sure_kind u v (and_so st (λ a.
        let real : RefersTo p h o V = (top_of g.vals (Reference o V) us a.at.stands.operands e).real in
        slot_kind p h o real.object V f sl u v a.heap real.at real.related ft slot
        (ap (λ (y : Option Object). option_and_then (λ (z : Object). stored_value z.stored sl) y) (sym real.at)
        ∙ there)));
  }

  -- what is written goes to a field of the kind of the selector
  pub writes : (ops : List Opd) (o : Opd) (f : Name) (t : Ty) (q : Option ℕ) (c : FoundField) (kind : ℕ)
      → IsFoundField p s t f c → FieldKind c.ty kind → (g : Frame) (h : Heap)
      → Stood p r hd (context vs (typing s (o ∷ (opd t q ∷ ops)))) g h → WritesWell p f kind h g.vals
  writes ops o f t q c kind found is g h st v b V us e u ft = kind_same u c.ty kind is (and_so st (λ a.
      surely (laws.field_one V f u c.ty ft
      (field_known laws f t q c found (without_top v (Reference b V ∷ us) a.at.stands e) b V us refl))))

  -- the latest operand is of its type's kind
  pub kind_on_top : (ops : List Opd) (t : Ty) (q : Option ℕ) (g : Frame) (h : Heap)
      → Stood p r hd (context vs (typing s (opd t q ∷ ops))) g h → (v : Value) (us : List Value) → g.vals ≡ v ∷ us
      → OfKind t v
  kind_on_top ops t q g h st v us e = sure_kind t v (and_so st (λ a.
      surely (kind_in p _ h t v (top_of g.vals v us a.at.stands.operands e).is_in)))

  pub prints : (ops : List Opd) (t : Ty) (q : Option ℕ) (g : Frame) (h : Heap)
      → Stood p r hd (context vs (typing s (opd t q ∷ ops))) g h → PrintsWell (printing t) h g.vals
  prints ops t q g h st v us e = print_by t v (kind_on_top ops t q g h st v us e)

  pub compares : (ops : List Opd) (o : Op) (t : Ty) (q : Option ℕ) (g : Frame) (h : Heap)
      → Stood p r hd (context vs (typing s (opd t q ∷ ops))) g h
      → ComparesWell o (equal (kind_of_type t)) h g.vals
  compares ops o t q g h st = if_compares o _ (λ v us e. compare_by t v (kind_on_top ops t q g h st v us e))

  pub refers : (ops : List Opd) (g : Frame) (h : Heap) → Stood p r hd (context vs (typing s ops)) g h → ThisRefers g
  refers ops g h st = sure_reference g.this (and_so st (λ a.
      let t = a.at.stands.in_scope.this in surely (t.object, t.view, t.is)))
