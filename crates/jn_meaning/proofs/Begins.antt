-- How a run begins.
use Rattle.std.proofs.Common.{◌≡◌, ◌<◌, ◌≤◌, ◌+◌, ◌↔◌, ◌⊎◌, inl, inr, ℕ, List, [], ◌∷◌, length, reverse, get_or, slice_get, Some, None, Bool, true, false, IsTrue, refl, sym, ap, ◌∙◌, subst, arith}
use Rattle.std.specs.Prelude.{codes}
use Rattle.std.proofs.lemmas.Bool.{cases_lt}
use Rattle.std.proofs.lemmas.Option.{slice_get_read, slice_get_within}
use Rattle.jn_reach.proofs.Searches.{not_when}
use Rattle.jn_steps.specs.Steps.{Faults}
use Rattle.jn_base.specs.declared.tree.Name.{Name}
use Rattle.jn_base.specs.declared.tree.Text.{Text}
use Rattle.jn_base.specs.declared.tree.Program.{Program}
use Rattle.jn_base.specs.declared.path.Path.{Path as ShownPath}
use Rattle.jn_base.specs.Paths.{Path}
use Rattle.jn_sem.specs.declared.outcome.Why.TheVariants as why
use Rattle.jn_sem.specs.Acts as acts
use Rattle.jn_sem.specs.Values as sem
use Rattle.jn_sem.specs.State as state
use Rattle.jn_sem.specs.Asks.{OnOnly}
use Rattle.jn_sem.specs.Does as does
use Rattle.jn_sem.specs.Does.{Way, IsSpelled, Stuck, missing, waiting, on_object, calls, makes}
use Rattle.jn_sem.specs.LawsOfFinding.{IsOne}
use Rattle.jn_table.specs.declared.class.ClassId.{ClassId}
use Rattle.jn_meaning.specs.declared.heap.Heap.{Heap}
use Rattle.jn_meaning.specs.declared.frame.Frame.{Frame}
use Rattle.jn_meaning.specs.declared.did.Did.{Did}
use Rattle.jn_meaning.specs.declared.did.Did.TheVariants as did
use Rattle.jn_meaning.specs.declared.did.Ending.TheVariants as ending
use Rattle.jn_meaning.specs.declared.value.Value.{Value}
use Rattle.jn_meaning.specs.declared.value.Value.TheVariants as value
use Rattle.jn_meaning.specs.Values.{path_at, value_of, values_of}
use Rattle.jn_meaning.specs.Heaps.{heap_of}
use Rattle.jn_meaning.specs.Frames.{frame_of, did_of}
use Rattle.jn_meaning.specs.Calling.{CallsTold}
use Rattle.jn_meaning.specs.Creating.{MakesAs, Acted}
use Rattle.jn_meaning.specs.Opening.{OpensAt}
use Rattle.jn_meaning.proofs.Acting.{at_object, at_null, at_number_object, at_truth_object}
use Rattle.jn_meaning.proofs.Finds.{found_only, none_only}
use Rattle.jn_meaning.proofs.Steps.{at_first, at_none}

-- ---- names by their spelling

-- none of the first i names is spelled so
pub record NoneSpelled (texts : List Text) (bytes : List ℕ) (i : ℕ) : Type 0 where
  pub none : (j : ℕ) (x : Text) → j < i → slice_get texts j ≡ Some x → x.bytes ≡ bytes → ⊥

module _ (texts : List Text) (bytes : List ℕ) where
  pub none_spelled : NoneSpelled texts bytes 0
  none_spelled = record { none = λ j x l. absurd (omega (arith, l)) }

  pub next_spelled : (i : ℕ) (x : Text) (told : Bool) → i < length texts → x ≡ get_or texts i x → told ≡ false → IsTrue told ↔ (x.bytes ≡ bytes) → NoneSpelled texts bytes i
      → NoneSpelled texts bytes (i + 1)
  next_spelled i x told l at other is so = record { none = λ j y m here e. by_place j y m here e (cases_lt j i) }
    where
      by_place : (j : ℕ) (y : Text) → j < i + 1 → slice_get texts j ≡ Some y → y.bytes ≡ bytes → (j < i) ⊎ (i ≤ j) → ⊥
      by_place j y m here e (inl b) = so.none j y b here e
      by_place j y m here e (inr b) =
          let k : j ≡ i = omega (arith, m, b) in
          let there : slice_get texts i ≡ Some x = slice_get_read texts (length texts) i x refl l at in
          let mine : slice_get texts i ≡ Some y = sym (ap (slice_get texts) k) ∙ here in
          let same : y ≡ x = cc in
          not_when other is (sym (ap (λ (z : Text). z.bytes) same) ∙ e)

module _ (p : Program) (texts : List Text) (are : texts ≡ p.names) (bytes : List ℕ) where
  pub spelled_at : (i : ℕ) (x : Text) (told : Bool) → i < length texts → x ≡ get_or texts i x → told ≡ true → IsTrue told ↔ (x.bytes ≡ bytes)
      → IsSpelled p bytes (record { 0 = i })
  spelled_at i x told l at same is = record {
    text = x;
    at = ap (λ (ts : List Text). slice_get ts i) (sym are) ∙ slice_get_read texts (length texts) i x refl l at;
    is = is.0 same;
  }

  pub spelled_none : (i : ℕ) → length texts ≤ i → NoneSpelled texts bytes i → (n : Name) → IsSpelled p bytes n → ⊥
  spelled_none i past so n k =
      let here : slice_get texts n.0 ≡ Some k.text = ap (λ (ts : List Text). slice_get ts n.0) are ∙ k.at in
      so.none n.0 k.text (omega (arith, past, slice_get_within texts n.0 k.text here)) here k.is

-- ---- `new Main()`

module _ (p : Program) (known : List ShownPath) (m : ℕ) (h : Heap) (f : Frame) where
  abbrev F : state.Frame
  F = frame_of known f

  abbrev main_way : Name → Way
  main_way n = makes p m (n ∷ []) [] true F (values_of known f.vals) (heap_of known h)

  pub begins_nothing : ((n : Name) → IsSpelled p (codes "Main") n → ⊥) → (g : Frame) (i : Heap) → Acted p known m acts.Begin f h (did.Ended (ending.Stuck why.Missing)) g i
  begins_nothing n g i = none_only (IsSpelled p (codes "Main")) missing main_way _ n refl

  pub begins_main : IsOne (IsSpelled p (codes "Main")) → (n : Name) → IsSpelled p (codes "Main") n → (names : List Name) → names ≡ n ∷ [] → (args : List Value) → args ≡ []
      → (d : Did) (g : Frame) (i : Heap) → MakesAs p known m h (reverse names) args true f d g i → Acted p known m acts.Begin f h d g i
  begins_main once n is names e args none d g i k =
      found_only (IsSpelled p (codes "Main")) missing main_way _ once n is
      (subst (λ (us : List Value). makes p m (n ∷ []) (values_of known us) true F (values_of known f.vals) (heap_of known h) (did_of known d (frame_of known g) (heap_of known i))) none
      (subst (λ (ns : List Name). MakesAs p known m h (reverse ns) args true f d g i) e k))

-- ---- the call of `main`

module _ (p : Program) (known : List ShownPath) (r : Value) (id : ClassId) where
  abbrev call_way : state.Frame → state.Heap → Name → Way
  call_way F H n = calls p (path_at known id) n (value_of known r) [] F H

  pub opens_nothing : ((n : Name) → IsSpelled p (codes "main") n → ⊥) → OpensAt p known r id (did.Ended (ending.Stuck why.Missing))
  opens_nothing n F H = none_only (IsSpelled p (codes "main")) missing (call_way F H) _ n refl

  pub opens_main : IsOne (IsSpelled p (codes "main")) → (n : Name) → IsSpelled p (codes "main") n → (all : List Value) → all ≡ r ∷ [] → (d : Did) → CallsTold p known id n all d → OpensAt p known r id d
  opens_main once n is all e d k F H = found_only (IsSpelled p (codes "main")) missing (call_way F H) _ once n is (k r [] F H e)

module _ (p : Program) (known : List ShownPath) (h : Heap) (f : Frame) where
  abbrev G : state.Frame
  G = frame_of known f

  abbrev H : state.Heap
  H = heap_of known h

  abbrev open_way : sem.Value → List sem.Value → Way
  open_way u us = on_object u (λ o V. OnOnly (IsSpelled p (codes "main")) missing (λ n. calls p V n u [] (waiting false G us) H))

  abbrev Opened : Did → Frame → Type 0
  Opened d g = (m : ℕ) → Acted p known m acts.Open f h d g h

  pub opens_none : f.vals ≡ [] → (g : Frame) → Opened (did.Ended (ending.Stuck why.Missing)) g
  opens_none e g m = at_none known f open_way e

  module _ (r : Value) (rest : List Value) (first : f.vals ≡ r ∷ rest) where
    abbrev at_main : sem.Value → ℕ → Path → Way
    at_main u o V = OnOnly (IsSpelled p (codes "main")) missing (λ n. calls p V n u [] (waiting false G (values_of known rest)) H)

    pub opens_null : r ≡ value.Null → (g : Frame) → Opened (did.Ended ending.AtNull) g
    opens_null is g m = at_first known f r rest open_way _ first (at_null known r (at_main (value_of known r)) is)

    pub opens_number : {z : _} → r ≡ value.Number z → (g : Frame) → Opened (did.Ended (ending.Stuck why.Kind)) g
    opens_number is g m = at_first known f r rest open_way _ first (at_number_object known r (at_main (value_of known r)) is)

    pub opens_truth : {b : _} → r ≡ value.Truth b → (g : Frame) → Opened (did.Ended (ending.Stuck why.Kind)) g
    opens_truth is g m = at_first known f r rest open_way _ first (at_truth_object known r (at_main (value_of known r)) is)

    pub opens_object : (o : ℕ) (id : ClassId) → r ≡ value.Reference o id → (d : Did) → OpensAt p known r id d → Opened d (record f { vals = rest; keeps = false })
    opens_object o id is d k m =
        at_first known f r rest open_way _ first
        (at_object known r o id (at_main (value_of known r)) _ is (k (frame_of known (record f { vals = rest; keeps = false })) H))
