-- New objects.
use Rattle.std.proofs.Common.{◌≡◌, ◌↔◌, ◌<◌, ◌≤◌, ◌+◌, ◌-◌, ℕ, zero, suc, List, [], ◌∷◌, ◌++◌, length, map, take, reverse, get_or, slice_get, Contains, Option, Some, None, Bool, true, false, Result, Ok, refl, sym, ap, ◌∙◌, subst, arith}
use Rattle.std.specs.Prelude.{nat_eq, nat_le}
use Rattle.std.proofs.lemmas.Bool.Decides.{nat_tests}
use Rattle.std.proofs.lemmas.List.{length-map, reverse-append}
use Rattle.std.specs.List.Sorted.{IsStrictlySortedBy}
use Rattle.std.proofs.lemmas.Option.{slice_get_read, slice_get-get_or}
use Rattle.jn_reach.specs.Each.{Each, none}
use Rattle.jn_reach.proofs.Eachs.{Each-at, Each-more}
use Rattle.jn_reach.proofs.Searches.{same_some}
use Rattle.jn_steps.specs.Steps.{Goes, Enters, Faults}
use Rattle.jn_base.specs.declared.tree.Name.{Name}
use Rattle.jn_base.specs.declared.tree.Term.{Term}
use Rattle.jn_base.specs.declared.tree.Program.{Program}
use Rattle.jn_base.specs.declared.names.Var.{Var}
use Rattle.jn_base.specs.declared.names.Role.TheVariants as role
use Rattle.jn_base.specs.declared.path.Path.{Path as ShownPath}
use Rattle.jn_base.specs.declared.refusal.Refusal.{Refusal}
use Rattle.jn_base.specs.declared.types.Atom.{Atom as ShownAtom}
use Rattle.jn_base.specs.declared.types.Ty.{Ty}
use Rattle.jn_base.specs.Paths.{Path}
use Rattle.jn_base.specs.Atoms.{Atom, atom_of}
use Rattle.jn_base.specs.Resolve.{Resolve}
use Rattle.jn_base.proofs.ResolveOnce.{term_once}
use Rattle.jn_sem.specs.declared.outcome.Why.TheVariants as why
use Rattle.jn_sem.specs.Acts as acts
use Rattle.jn_sem.specs.Values as sem
use Rattle.jn_sem.specs.Values.{HasField}
use Rattle.jn_sem.specs.Sets.{AnchorSeen}
use Rattle.jn_sem.specs.Sharing.{IsClass}
use Rattle.jn_sem.specs.Slots.{FieldType, IsSize}
use Rattle.jn_sem.specs.State as state
use Rattle.jn_sem.specs.State.{Stored, frame_views, site_of}
use Rattle.jn_sem.specs.Terms.{Site, spot_at, vars_at}
use Rattle.jn_sem.specs.Asks.{OnFirst, OnIf, OnOnly, OnSome, OnTest, It, holds, fails}
use Rattle.jn_sem.specs.Does as does
use Rattle.jn_sem.specs.Does.{Way, Body, Entry, IsBody, IsConstructorBody, AreParams, IsFresh, AreFresh, IsNewClass, Arena, Stuck, missing, ends, goes, waiting, kept, zero_of, args_of, on_entry, on_cells, constructs, makes}
use Rattle.jn_sem.specs.LawsOfFinding.{IsOne, FoundOnceIn}
use Rattle.jn_sem.proofs.FindingLaws.{finds_one}
use Rattle.jn_base.specs.ClassOrder.{name_cmp}
use Rattle.jn_share.proofs.KeyLists.{at_in}
use Rattle.jn_share.proofs.FieldLists.{field_in, in_field}
use Rattle.jn_table.specs.declared.class.Row.{Row}
use Rattle.jn_table.specs.Rows.{IsRow}
use Rattle.jn_table.specs.declared.class.ClassId.{ClassId}
use Rattle.jn_meaning.specs.declared.heap.Heap.{Heap}
use Rattle.jn_meaning.specs.declared.heap.Kept.{Kept}
use Rattle.jn_meaning.specs.declared.heap.Object.{Object}
use Rattle.jn_meaning.specs.declared.frame.Frame.{Frame}
use Rattle.jn_meaning.specs.declared.did.Did.{Did}
use Rattle.jn_meaning.specs.declared.did.Did.TheVariants as did
use Rattle.jn_meaning.specs.declared.did.Called.{Called}
use Rattle.jn_meaning.specs.declared.did.Callee.{Callee}
use Rattle.jn_meaning.specs.declared.did.Ending.TheVariants as ending
use Rattle.jn_meaning.specs.declared.finding.Found.{Found}
use Rattle.jn_meaning.specs.declared.creating.Fresh.{Fresh}
use Rattle.jn_meaning.specs.declared.value.Value.{Value}
use Rattle.jn_meaning.specs.declared.value.Value.TheVariants as value
use Rattle.jn_meaning.specs.Values.{path_at, value_of, values_of}
use Rattle.jn_meaning.specs.Heaps.{heap_of, object_of, stored_of}
use Rattle.jn_meaning.specs.Frames.{frame_of, did_of, entry_of}
use Rattle.jn_meaning.specs.Sites.{site_with, TermTold}
use Rattle.jn_meaning.specs.Viewing.{NamedBy}
use Rattle.jn_meaning.specs.Tells.{Tells, SlotTold, BodyTold, body_in}
use Rattle.jn_meaning.specs.Creating.{AreFieldNames, FreshTold, IsAdded, NoneFresh, AllFresh, LastTold, ConstructorTold, new_reference, new_object, with_new, IsMade, MadeIn, MadeAlone, MadeCalling, ConstructsAs, MakesAs, NewNamed, Acted}
use Rattle.jn_meaning.proofs.ClassNumbers.{at_within}
use Rattle.jn_meaning.proofs.Finds.{found_only, none_only}
use Rattle.jn_meaning.proofs.Lists.{take_all}
use Rattle.jn_meaning.proofs.LocalsBound.{site_is}
use Rattle.jn_meaning.proofs.Receivers.{args_had}
use Rattle.jn_meaning.proofs.Variables.{values_long}

map_push : {A B : Type 0} (f : A → B) (xs : List A) (x : A) → map f (xs ++ x ∷ []) ≡ map f xs ++ f x ∷ []
map_push f [] x = refl
map_push {B = B} f (y ∷ xs) x = ap (λ (zs : List B). f y ∷ zs) (map_push f xs x)

-- ---- fresh values

module _ (p : Program) (known : List ShownPath) (id : ClassId) (f : Name) where
  abbrev V : Path
  V = path_at known id

  pub fresh_untyped : Tells (FieldType p V f) None → FreshTold p known id f None
  fresh_untyped n x k = n k.ty k.type

  pub fresh_slotless : SlotTold p known id f None → FreshTold p known id f None
  fresh_slotless n x k = n x.slot k.slot

  pub fresh_there : (t : Ty) (x : Kept) → FieldType p V f t → SlotTold p known id f (Some x.slot) → value_of known x.value ≡ zero_of t → FreshTold p known id f (Some x)
  fresh_there t x type slot e = record { ty = t; type = type; slot = slot; value = e }

-- the first i fields have these values
pub record FreshTo (p : Program) (V : Path) (names : List Name) (xs : List Stored) (i : ℕ) : Type 0 where
  pub each : Each (IsFresh p V) (take i names) xs

module _ (p : Program) (known : List ShownPath) (id : ClassId) (names : List Name) where
  abbrev W : Path
  W = path_at known id

  pub fresh_first : (all : List Kept) → all ≡ [] → FreshTo p W names (map (stored_of known) all) 0
  fresh_first all e = record { each = subst (λ (xs : List Kept). Each (IsFresh p W) [] (map (stored_of known) xs)) (sym e) none }

  pub fresh_more : (i : ℕ) (other : Name) → i < length names → (old new : List Kept) → FreshTo p W names (map (stored_of known) old) i → IsAdded p known id (get_or names i other) old new
      → FreshTo p W names (map (stored_of known) new) (i + 1)
  fresh_more i other l old new so k = record {
    each = subst (Each (IsFresh p W) (take (i + 1) names)) (sym (ap (map (stored_of known)) k.is ∙ map_push (stored_of known) old k.kept))
        (Each-more (IsFresh p W) names (map (stored_of known) old) i f (stored_of known k.kept) l at so.each k.fresh);
  }
    where
      f : Name
      f = get_or names i other

      at : f ≡ get_or names i f
      at = same_some (slice_get names i) f (get_or names i f) (slice_get-get_or names i other l) (slice_get-get_or names i f l)

  module _ (are : AreFieldNames p W names) where
    pub fresh_all : (i : ℕ) (all : List Kept) → length names ≤ i → FreshTo p W names (map (stored_of known) all) i → AllFresh p known id all
    fresh_all i all past so = record {
      names = names;
      exact = are.exact;
      in_order = are.in_order;
      each = subst (λ (ns : List Name). Each (IsFresh p W) ns (map (stored_of known) all)) (take_all i names past) so.each;
    }

    pub fresh_none : (i : ℕ) (other : Name) → i < length names → FreshTold p known id (get_or names i other) None → NoneFresh p known id
    fresh_none i other l n xs k =
        let f : Name = get_or names i other in
        let c : Contains k.names f = (k.exact f).1 ((are.exact f).0 (at_in names i f (slice_get-get_or names i other l))) in
        let there : slice_get k.names c.0 ≡ Some f = slice_get_read k.names (length k.names) c.0 f refl c.1 (sym c.2) in
        let y = Each-at (IsFresh p W) k.each c.0 f there in
        n y.0 y.2

-- the names of the fields in a row
pub row_names : (p : Program) (known : List ShownPath) (V : Path) (row : Row) (names : List Name) → IsRow p known V row → names ≡ row.fields.items → AreFieldNames p V names
row_names p known V row names is e = record {
  exact = λ f. (
    λ c. in_field p known V row is f (subst (λ (xs : List Name). Contains xs f) e c),
    λ h. subst (λ (xs : List Name). Contains xs f) (sym e) (field_in p known V row is f h),
  );
  in_order = subst (IsStrictlySortedBy (name_cmp p)) (sym e) is.fields.in_order;
}

-- ---- constructors

last_split : (names : List Name) (n : ℕ) (C : Name) → n + 1 ≡ length names → Some C ≡ slice_get names n → (ms : List Name) × (names ≡ ms ++ C ∷ [])
last_split [] n C e at = absurd (omega (arith, e))
last_split (x ∷ []) zero C e at = let a : x ≡ C = cc in ([], ap (λ (z : Name). z ∷ []) a)
last_split (x ∷ []) (suc n) C e at = absurd (omega (arith, e))
last_split (x ∷ (y ∷ ys)) zero C e at = absurd (omega (arith, e))
last_split (x ∷ (y ∷ ys)) (suc n) C e at =
    let r = last_split (y ∷ ys) n C (omega (arith, e)) at in
    (x ∷ r.0, ap (λ (zs : List Name). x ∷ zs) r.1)

module _ (known : List ShownPath) (id : ClassId) (names : List Name) (turned : reverse names ≡ path_at known id) where
  pub no_last : length names ≡ 0 → LastTold known id None
  no_last e = by_names names turned e
    where
      by_names : (ns : List Name) → reverse ns ≡ path_at known id → length ns ≡ 0 → path_at known id ≡ []
      by_names [] t e = sym t
      by_names (x ∷ ns) t e = absurd (omega (arith, e))

  pub last_told : (n : ℕ) (o : Option Name) → n + 1 ≡ length names → o ≡ slice_get names n → LastTold known id o
  last_told n None e at =
      let r = at_within names n (omega (arith, e)) in
      let k : None ≡ Some r.0 = at ∙ r.1 in
      absurd (cc)
  last_told n (Some C) e at =
      let r = last_split names n C e at in
      (reverse r.0, sym turned ∙ ap reverse r.1 ∙ reverse-append r.0 (C ∷ []))

module _ (p : Program) (known : List ShownPath) (id : ClassId) where
  pub unnamed : path_at known id ≡ [] → ConstructorTold p known id None
  unnamed e b k = subst (λ (P : Path). IsConstructorBody p P b) e k

  module _ (C : Name) (P : Path) (is : path_at known id ≡ C ∷ P) where
    to : (V : Path) (b : Body) → V ≡ C ∷ P → IsConstructorBody p V b → IsBody p V C b
    to V b e = subst (λ (Q : Path). IsConstructorBody p Q b → IsBody p Q C b) (sym e) (λ k. k)

    from : (V : Path) (b : Body) → V ≡ C ∷ P → IsBody p V C b → IsConstructorBody p V b
    from V b e = subst (λ (Q : Path). IsBody p Q C b → IsConstructorBody p Q b) (sym e) (λ k. k)

    pub constructor_told : (o : Option Found) → BodyTold p known id C o → ConstructorTold p known id o
    constructor_told None t = λ b k. t b (to (path_at known id) b is k)
    constructor_told (Some x) t = from (path_at known id) (body_in known x) is t

pub constructor_once : (p : Program) (V : Path) → FoundOnceIn p → IsClass p V → IsOne (IsConstructorBody p V)
constructor_once p [] law c a b h k = absurd h
constructor_once p (C ∷ P) law c a b h k = law.body (C ∷ P) C c.universe a b h k

-- ---- the new object

pub too_large : (h : Heap) (m : ℕ) (x : Fresh) → m < h.used + x.size → nat_le (h.used + x.size) m ≡ false
too_large h m x l = grind (arith, nat_tests)

pub made_in : (h i : Heap) (m : ℕ) (x : Fresh) (o : ℕ) (object : Object) → h.used + x.size ≤ m → o ≡ length h.objects.items → object.made ≡ x.id → object.stored ≡ x.stored
    → i.objects.items ≡ h.objects.items ++ object ∷ [] → i.used ≡ h.used + x.size → (known : List ShownPath) → IsMade known h i m x (value.Reference o x.id)
made_in h i m x o object l at made stored objects used known = record {
  enough = grind (arith, nat_tests);
  reference = ap (λ (n : ℕ). sem.Reference n (path_at known x.id)) (at ∙ sym (length-map h.objects.items (object_of known)));
  heap = λ k. record { objects = all k; used = used k };
}
  where
    one : object_of known object ≡ new_object known x
    one k = record { made = path_at known (made k); stored = map (stored_of known) (stored k).items }

    all : map (object_of known) i.objects.items ≡ map (object_of known) h.objects.items ++ new_object known x ∷ []
    all = ap (map (object_of known)) objects ∙ map_push (object_of known) h.objects.items object ∙ ap (λ (y : state.Object). map (object_of known) h.objects.items ++ y ∷ []) one

module _ (known : List ShownPath) (m : ℕ) (h : Heap) (x : Fresh) (keeps : Bool) (f : Frame) where
  abbrev F : state.Frame
  F = frame_of known f

  abbrev alone : Way
  alone = goes F (kept keeps (new_reference known h x.id) (values_of known f.vals)) (with_new known h x)

  pub alone_large : (g : Frame) (i : Heap) → MadeIn known h i m x None → MadeAlone known m h x keeps f (did.Ended ending.Arena) g i
  alone_large g i e = subst (λ (b : Bool). OnIf b (ends Arena) alone (Faults Arena)) (sym e) refl

  pub alone_made : (g : Frame) (i : Heap) (v : Value) → MadeIn known h i m x (Some v) → frame_of known g ≡ record F { vals = kept keeps (value_of known v) (values_of known f.vals) }
      → MadeAlone known m h x keeps f did.Went g i
  alone_made g i v k e = subst (λ (b : Bool). OnIf b (ends Arena) alone (Goes (frame_of known g) (heap_of known i) [])) (sym k.enough) now
    where
      frame : frame_of known g ≡ record F { vals = kept keeps (new_reference known h x.id) (values_of known f.vals) }
      frame = e ∙ ap (λ (u : sem.Value). record F { vals = kept keeps u (values_of known f.vals) }) k.reference

      now : ◌≡◌ {A = does.Did} (Goes (frame_of known g) (heap_of known i) []) (Goes (record F { vals = kept keeps (new_reference known h x.id) (values_of known f.vals) }) (with_new known h x) [])
      now j = Goes (frame j) (k.heap j) []

  module _ (callee : Callee) (args : List Value) where
    abbrev calling : Way
    calling = It (Enters (entry_of known callee) (new_reference known h x.id ∷ values_of known args) (waiting false F (kept keeps (new_reference known h x.id) (values_of known f.vals))) (with_new known h x))

    pub calling_large : (g : Frame) (i : Heap) → MadeIn known h i m x None → MadeCalling known m h x callee args keeps f (did.Ended ending.Arena) g i
    calling_large g i e = subst (λ (b : Bool). OnIf b (ends Arena) calling (Faults Arena)) (sym e) refl

    pub calling_made : (g : Frame) (i : Heap) (v : Value) (c : Called) → MadeIn known h i m x (Some v)
        → frame_of known g ≡ record F { vals = kept keeps (value_of known v) (values_of known f.vals) } → c.callee ≡ callee → c.args.items ≡ v ∷ args
        → MadeCalling known m h x callee args keeps f (did.Entered c) (record g { keeps = false }) i
    calling_made g i v c k e same all = subst (λ (b : Bool). OnIf b (ends Arena) calling (did_of known (did.Entered c) (frame_of known (record g { keeps = false })) (heap_of known i))) (sym k.enough) now
      where
        frame : frame_of known (record g { keeps = false }) ≡ waiting false F (kept keeps (new_reference known h x.id) (values_of known f.vals))
        frame =
            ap (λ (y : state.Frame). record y { keeps = false }) e
            ∙ ap (λ (u : sem.Value). waiting false F (kept keeps u (values_of known f.vals))) k.reference

        values : values_of known c.args.items ≡ new_reference known h x.id ∷ values_of known args
        values = ap (values_of known) all ∙ ap (λ (u : sem.Value). u ∷ values_of known args) k.reference

        now : did_of known (did.Entered c) (frame_of known (record g { keeps = false })) (heap_of known i) ≡ Enters (entry_of known callee) (new_reference known h x.id ∷ values_of known args) (waiting false F (kept keeps (new_reference known h x.id) (values_of known f.vals))) (with_new known h x)
        now j = Enters (entry_of known (same j)) (values j) (frame j) (k.heap j)

-- ---- the call of a constructor

other_count : (a b : ℕ) → (a ≡ b → ⊥) → nat_eq a b ≡ false
other_count a b n = grind (arith, nat_tests)

one_count : (a b : ℕ) → a ≡ b → nat_eq a b ≡ true
one_count a b e = grind (arith, nat_tests)

module _ (p : Program) (b : Body) (args : List sem.Value) (go : Entry → Way) where
  abbrev params_way : List Var → Way
  params_way vars = go (record { class = b.class; method = b.method; vars = vars })

  pub entry_other : (length args ≡ length b.method.params → ⊥) → on_entry p b args go (Faults (Stuck why.Missing))
  entry_other n =
      subst (λ (s : Bool). OnIf s missing (OnOnly (AreParams p b) missing params_way) (Faults (Stuck why.Missing))) (sym (other_count _ _ n)) refl

  module _ (so : length args ≡ length b.method.params) where
    pub entry_untyped : ((vars : List Var) → AreParams p b vars → ⊥) → on_entry p b args go (Faults (Stuck why.Missing))
    entry_untyped n =
        subst (λ (s : Bool). OnIf s missing (OnOnly (AreParams p b) missing params_way) (Faults (Stuck why.Missing))) (sym (one_count _ _ so))
        (none_only (AreParams p b) missing params_way _ n refl)

    pub entry_there : (vars : List Var) → AreParams p b vars → (d : does.Did) → params_way vars d → on_entry p b args go d
    entry_there vars are d g =
        subst (λ (s : Bool). OnIf s missing (OnOnly (AreParams p b) missing params_way) d) (sym (one_count _ _ so))
        (found_only (AreParams p b) missing params_way d ((finds_one p).params b) vars are g)

module _ (p : Program) (known : List ShownPath) (m : ℕ) (h : Heap) (x : Fresh) (args : List Value) (keeps : Bool) (f : Frame) where
  abbrev C : Body → Type 0
  C = IsConstructorBody p (path_at known x.id)

  abbrev plain_way : Way
  plain_way = on_cells m (heap_of known h) x.size (goes (frame_of known f) (kept keeps (new_reference known h x.id) (values_of known f.vals)) (with_new known h x))

  abbrev alone_way : List sem.Value → Way
  alone_way us = OnFirst us plain_way (λ a rest. missing)

  abbrev enter_way : Entry → Way
  enter_way e =
      on_cells m (heap_of known h) x.size
      (It (Enters e (new_reference known h x.id ∷ values_of known args) (waiting false (frame_of known f) (kept keeps (new_reference known h x.id) (values_of known f.vals))) (with_new known h x)))

  abbrev body_way : Body → Way
  body_way b = on_entry p b (values_of known args) enter_way

  module _ (n : (b : Body) → C b → ⊥) where
    pub constructs_given : (length args ≡ 0 → ⊥) → (g : Frame) (i : Heap) → ConstructsAs p known m h x args keeps f (did.Ended (ending.Stuck why.Missing)) g i
    constructs_given k g i = none_only C (alone_way (values_of known args)) body_way _ n (by_args args k)
      where
        by_args : (us : List Value) → (length us ≡ 0 → ⊥) → alone_way (values_of known us) (Faults (Stuck why.Missing))
        by_args [] k = absurd (k refl)
        by_args (a ∷ us) k = refl

    pub constructs_alone : length args ≡ 0 → (d : Did) (g : Frame) (i : Heap) → MadeAlone known m h x keeps f d g i → ConstructsAs p known m h x args keeps f d g i
    constructs_alone e d g i k = none_only C (alone_way (values_of known args)) body_way _ n (by_args args e)
      where
        by_args : (us : List Value) → length us ≡ 0 → alone_way (values_of known us) (did_of known d (frame_of known g) (heap_of known i))
        by_args [] e = k
        by_args (a ∷ us) e = absurd (omega (arith, e))

  module _ (once : IsOne C) (b : Body) (is : C b) where
    at_constructor : (d : does.Did) → body_way b d → constructs p m (path_at known x.id) (values_of known args) keeps (frame_of known f) (values_of known f.vals) (heap_of known h) x.size (map (stored_of known) x.stored.items) d
    at_constructor d k = found_only C (alone_way (values_of known args)) body_way d once b is k

    pub constructs_other : (length args ≡ length b.method.params → ⊥) → (g : Frame) (i : Heap) → ConstructsAs p known m h x args keeps f (did.Ended (ending.Stuck why.Missing)) g i
    constructs_other n g i = at_constructor _ (entry_other p b (values_of known args) enter_way (λ e. n (sym (values_long known args) ∙ e)))

    module _ (so : length args ≡ length b.method.params) where
      pub constructs_untyped : ((vars : List Var) → AreParams p b vars → ⊥) → (g : Frame) (i : Heap) → ConstructsAs p known m h x args keeps f (did.Ended (ending.Stuck why.Missing)) g i
      constructs_untyped n g i = at_constructor _ (entry_untyped p b (values_of known args) enter_way (values_long known args ∙ so) n)

      pub constructs_called : (c : Callee) → AreParams p b c.vars.list → path_at known c.class ≡ b.class → c.method.now ≡ b.method
          → (d : Did) (g : Frame) (i : Heap) → MadeCalling known m h x c args keeps f d g i → ConstructsAs p known m h x args keeps f d g i
      constructs_called c are class method d g i k =
          at_constructor _ (entry_there p b (values_of known args) enter_way (values_long known args ∙ so) c.vars.list are _
          (subst (λ (e : Entry). enter_way e (did_of known d (frame_of known g) (heap_of known i))) same k))
        where
          same : entry_of known c ≡ record { class = b.class; method = b.method; vars = c.vars.list }
          same j = record { class = class j; method = method j; vars = c.vars.list }

-- ---- a new object of a class

module _ (p : Program) (known : List ShownPath) (m : ℕ) (h : Heap) (args : List Value) (keeps : Bool) (f : Frame) where
  abbrev object_way : Path → ℕ → List Stored → Way
  object_way V size fresh = constructs p m V (values_of known args) keeps (frame_of known f) (values_of known f.vals) (heap_of known h) size fresh

  abbrev size_way : Path → ℕ → Way
  size_way V size = OnOnly (AreFresh p V) missing (object_way V size)

  pub makes_no_class : (V : Path) → (IsClass p V → ⊥) → (g : Frame) (i : Heap) → MakesAs p known m h V args keeps f (did.Ended (ending.Stuck why.Missing)) g i
  makes_no_class V n g i = fails n refl

  module _ (id : ClassId) (class : IsClass p (path_at known id)) (size : ℕ) (sized : IsSize p (path_at known id) size) where
    pub makes_untyped : NoneFresh p known id → (g : Frame) (i : Heap) → MakesAs p known m h (path_at known id) args keeps f (did.Ended (ending.Stuck why.Missing)) g i
    makes_untyped n g i =
        holds class (found_only (IsSize p (path_at known id)) missing (size_way (path_at known id)) _ ((finds_one p).size (path_at known id)) size sized
        (none_only (AreFresh p (path_at known id)) missing (object_way (path_at known id) size) _ n refl))

    pub makes_there : IsOne (AreFresh p (path_at known id)) → (x : Fresh) → x.id ≡ id → x.size ≡ size → AllFresh p known id x.stored.items
        → (d : Did) (g : Frame) (i : Heap) → ConstructsAs p known m h x args keeps f d g i → MakesAs p known m h (path_at known id) args keeps f d g i
    makes_there once x one two fresh d g i k =
        holds class (found_only (IsSize p (path_at known id)) missing (size_way (path_at known id)) _ ((finds_one p).size (path_at known id)) size sized
        (found_only (AreFresh p (path_at known id)) missing (object_way (path_at known id) size) _ once (map (stored_of known) x.stored.items) fresh
        (subst (λ (n : ℕ). object_way (path_at known id) n (map (stored_of known) x.stored.items) (did_of known d (frame_of known g) (heap_of known i))) two
        (subst (λ (c : ClassId). object_way (path_at known c) x.size (map (stored_of known) x.stored.items) (did_of known d (frame_of known g) (heap_of known i))) one k))))

-- ---- the class that `new T` makes

some_atom : (a b : ShownAtom) → ◌≡◌ {A = Result ShownAtom Refusal} (Ok a) (Ok b) → a ≡ b
some_atom a b e = cc

module _ (p : Program) (known : List ShownPath) (f : Frame) (t : Term) (id : ClassId) (pair : length f.locals.vars.list ≡ length f.locals.values.items) (class : f.class ≡ Some id) where
  abbrev S : Site
  S = site_of (frame_of known f)

  term_here : (o : Option ShownAtom) → TermTold p role.New (site_with (path_at known id) f.method.now.name.name f.locals.vars) t o → TermTold p role.New S t o
  term_here o k = subst (λ (z : Site). TermTold p role.New z t o) (sym (site_is known f id pair class)) k

  pub no_term : TermTold p role.New (site_with (path_at known id) f.method.now.name.name f.locals.vars) t None → NewNamed p known f t None
  no_term k vs V h = term_here None k h.resolved.0 h.resolved.1

  module _ (x : ShownAtom) (told : TermTold p role.New (site_with (path_at known id) f.method.now.name.name f.locals.vars) t (Some x)) where
    pub term_named : (o : Option (List Name)) → NamedBy known f x o → NewNamed p known f t o
    term_named None n = λ vs V h.
        let one : x ≡ h.resolved.0 = some_atom x h.resolved.0 (term_once p (spot_at S role.New) (vars_at S) t (Ok x) (Ok h.resolved.0) (term_here (Some x) told) h.resolved.1) in
        n (subst (λ (a : ShownAtom). AnchorSeen (frame_views (frame_of known f)) a.anchor) (sym one)
        (subst (λ (a : Atom). AnchorSeen (frame_views (frame_of known f)) a.anchor) h.resolved.2 h.seen))
    term_named (Some names) n = λ vs. record {
      atom = atom_of x;
      resolved = (x, term_here (Some x) told, refl);
      seen = n.0;
      is = n.1;
    }

-- ---- the act

pub few_args : (n : ℕ) (taken vs : List sem.Value) (go : List sem.Value × List sem.Value → Way) → length vs < n → OnSome (args_of n taken vs) missing go (Faults (Stuck why.Missing))
few_args zero taken vs go l = absurd (omega (arith, l))
few_args (suc n) taken [] go l = refl
few_args (suc n) taken (v ∷ vs) go l = few_args n (v ∷ taken) vs go (omega (arith, l))

module _ (p : Program) (known : List ShownPath) (m : ℕ) (h : Heap) (f : Frame) (t : Term) (n : ℕ) (keeps : Bool) where
  abbrev G : state.Frame
  G = frame_of known f

  abbrev K : state.Heap
  K = heap_of known h

  abbrev class_way : List sem.Value → List sem.Value → Path → Way
  class_way us vs V = makes p m V us keeps G vs K

  abbrev args_way : List sem.Value × List sem.Value → Way
  args_way x = OnOnly (IsNewClass p G t) missing (class_way x.0 x.1)

  pub make_few : length f.vals < n → (g : Frame) (i : Heap) → Acted p known m (acts.Make t n keeps) f h (did.Ended (ending.Stuck why.Missing)) g i
  make_few l g i = few_args n [] (values_of known f.vals) args_way (omega (arith, l, values_long known f.vals))

  module _ (args rest : List Value) (l : length args ≡ n) (e : f.vals ≡ reverse args ++ rest) where
    had : (d : does.Did) → args_way (values_of known args, values_of known rest) d → does.Does p m (acts.Make t n keeps) G K d
    had d k =
        subst (λ (o : Option (List sem.Value × List sem.Value)). OnSome o missing args_way d) (sym (args_had known args rest f.vals n l e)) k

    pub make_unnamed : NewNamed p known (record f { vals = rest }) t None → (g : Frame) (i : Heap) → Acted p known m (acts.Make t n keeps) f h (did.Ended (ending.Stuck why.Missing)) g i
    make_unnamed k g i = had _ (none_only (IsNewClass p G t) missing (class_way (values_of known args) (values_of known rest)) _ (k (values_of known f.vals)) refl)

    pub make_of : (names : List Name) → NewNamed p known (record f { vals = rest }) t (Some names) → (d : Did) (g : Frame) (i : Heap)
        → MakesAs p known m h (reverse names) args keeps (record f { vals = rest }) d g i → Acted p known m (acts.Make t n keeps) f h d g i
    make_of names k d g i c =
        had _ (found_only (IsNewClass p G t) missing (class_way (values_of known args) (values_of known rest)) _ ((finds_one p).new_class G t) (reverse names) (k (values_of known f.vals)) c)
