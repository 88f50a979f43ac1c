-- Calls by their receivers and arguments.
use Rattle.std.proofs.Common.{◌≡◌, ◌<◌, ◌+◌, ℕ, zero, suc, List, [], ◌∷◌, ◌++◌, length, reverse, Option, Some, None, Bool, refl, sym, ap, ◌∙◌, subst, append-nil, arith}
use Rattle.std.specs.Prelude.{slice_get, MatchOption}
use Rattle.std.proofs.lemmas.List.{reverse-append, reverse-reverse, length-reverse}
use Rattle.jn_steps.specs.Steps.{Faults}
use Rattle.jn_base.specs.declared.tree.Name.{Name}
use Rattle.jn_base.specs.declared.tree.Program.{Program}
use Rattle.jn_base.specs.declared.path.Path.{Path as ShownPath}
use Rattle.jn_base.specs.Paths.{Path}
use Rattle.jn_sem.specs.declared.outcome.Why.TheVariants as why
use Rattle.jn_sem.specs.Acts as acts
use Rattle.jn_sem.specs.Values as sem
use Rattle.jn_sem.specs.State as state
use Rattle.jn_sem.specs.Asks.{OnFirst, OnSome}
use Rattle.jn_sem.specs.Does as does
use Rattle.jn_sem.specs.Does.{Way, Stuck, missing, waiting, args_of, on_object, calls}
use Rattle.jn_table.specs.declared.class.ClassId.{ClassId}
use Rattle.jn_meaning.specs.declared.heap.Heap.{Heap}
use Rattle.jn_meaning.specs.declared.frame.Frame.{Frame}
use Rattle.jn_meaning.specs.declared.did.Did.{Did}
use Rattle.jn_meaning.specs.declared.value.Value.{Value}
use Rattle.jn_meaning.specs.declared.value.Value.TheVariants as value
use Rattle.jn_meaning.specs.Values.{value_of, values_of}
use Rattle.jn_meaning.specs.Heaps.{heap_of}
use Rattle.jn_meaning.specs.Frames.{frame_of, did_of}
use Rattle.jn_meaning.specs.Calling.{CallsTold, CallsOn}
use Rattle.jn_meaning.proofs.Acting.{at_object}
use Rattle.jn_meaning.proofs.Variables.{values_push, values_long}

pub taken_none : {A : Type 0} (P : Type 0) (Q : A → Type 0) (o : Option A) → MatchOption o P Q → o ≡ None → P
taken_none {A} P Q o k e = subst (λ (x : Option A). MatchOption x P Q) e k

pub taken_some : {A : Type 0} (P : Type 0) (Q : A → Type 0) (o : Option A) (a : A) → MatchOption o P Q → o ≡ Some a → Q a
taken_some {A} P Q o a k e = subst (λ (x : Option A). MatchOption x P Q) e k

-- ---- operands taken

values_reverse : (known : List ShownPath) (vs : List Value) → values_of known (reverse vs) ≡ reverse (values_of known vs)
values_reverse known [] = refl
values_reverse known (v ∷ vs) =
    ap (values_of known) (reverse-append (v ∷ []) vs) ∙ values_push known (reverse vs) v
    ∙ ap (λ (us : List sem.Value). us ++ value_of known v ∷ []) (values_reverse known vs) ∙ sym (reverse-append (value_of known v ∷ []) (values_of known vs))

one_more : {A : Type 0} (xs : List A) (x : A) (ys : List A) → (xs ++ x ∷ []) ++ ys ≡ xs ++ x ∷ ys
one_more [] x ys = refl
one_more {A} (z ∷ xs) x ys = ap (λ (us : List A). z ∷ us) (one_more xs x ys)

turn_more : {A : Type 0} (x : A) (xs ys : List A) → reverse (x ∷ xs) ++ ys ≡ reverse xs ++ x ∷ ys
turn_more {A} x xs ys = ap (λ (us : List A). us ++ ys) (reverse-append (x ∷ []) xs) ∙ one_more (reverse xs) x ys

args_taken : (known : List ShownPath) (xs : List Value) (taken : List sem.Value) (rest : List Value)
    → args_of (length xs) taken (values_of known (xs ++ rest)) ≡ Some (reverse (values_of known xs) ++ taken, values_of known rest)
args_taken known [] taken rest = refl
args_taken known (x ∷ xs) taken rest =
    args_taken known xs (value_of known x ∷ taken) rest
    ∙ ap (λ (us : List sem.Value). Some (us, values_of known rest)) (sym (turn_more (value_of known x) (values_of known xs) taken))

pub args_had : (known : List ShownPath) (args rest vals : List Value) (n : ℕ) → length args ≡ n → vals ≡ reverse args ++ rest
    → args_of n [] (values_of known vals) ≡ Some (values_of known args, values_of known rest)
args_had known args rest vals n l e =
    ap (λ (vs : List Value). args_of n [] (values_of known vs)) e
    ∙ ap (λ (k : ℕ). args_of k [] (values_of known (reverse args ++ rest))) (sym (length-reverse args ∙ l))
    ∙ args_taken known (reverse args) [] rest
    ∙ ap (λ (us : List sem.Value). Some (us, values_of known rest))
    (ap (λ (us : List sem.Value). reverse us ++ []) (values_reverse known args) ∙ append-nil (reverse (reverse (values_of known args))) ∙ reverse-reverse (values_of known args))

-- fewer operands than a receiver and n arguments
few : (n : ℕ) (go : List sem.Value → sem.Value → List sem.Value → Way) (taken vs : List sem.Value) → length vs < n + 1
    → OnSome (args_of n taken vs) missing (λ x. OnFirst x.1 missing (go x.0)) (Faults (Stuck why.Missing))
few zero go taken [] l = refl
few zero go taken (v ∷ vs) l = absurd (omega (arith, l))
few (suc n) go taken [] l = refl
few (suc n) go taken (v ∷ vs) l = few n go (v ∷ taken) vs (omega (arith, l))

-- ---- the receiver

module _ (p : Program) (known : List ShownPath) (m : Name) (all : List Value) (r : Value) (first : Some r ≡ slice_get all 0) where
  same_first : (s : Value) (args : List Value) → all ≡ s ∷ args → s ≡ r
  same_first s args e = let k : Some r ≡ Some s = first ∙ ap (λ (vs : List Value). slice_get vs 0) e in cc

  abbrev called : Value → List Value → state.Frame → state.Heap → ℕ → Path → Way
  called s args F H o V = calls p V m (value_of known s) (values_of known args) F H

  pub calls_object : (o : ℕ) (id : ClassId) (d : Did) → r ≡ value.Reference o id → CallsTold p known id m all d → CallsOn p known m all d
  calls_object o id d is k s args F H e = at_object known s o id (called s args F H) (did_of known d F H) (same_first s args e ∙ is) (k s args F H e)

-- ---- the act

module _ (p : Program) (known : List ShownPath) (h : Heap) (f : Frame) (name : Name) (n : ℕ) (keeps : Bool) where
  abbrev F : state.Frame
  F = frame_of known f

  abbrev H : state.Heap
  H = heap_of known h

  abbrev Called : does.Did → Type 0
  Called d = (m : ℕ) → does.Does p m (acts.Call name n keeps) F H d

  abbrev call_way : List sem.Value → sem.Value → List sem.Value → Way
  call_way args r vs = on_object r (λ o V. calls p V name r args (waiting keeps F vs) H)

  pub call_few : length f.vals < n + 1 → Called (Faults (Stuck why.Missing))
  call_few l m = few n call_way [] (values_of known f.vals) (omega (arith, l, values_long known f.vals))

  pub call_had : (all rest : List Value) (d : Did) → length all ≡ n + 1 → f.vals ≡ reverse all ++ rest → CallsOn p known name all d
      → Called (did_of known d (frame_of known (record f { vals = rest; keeps = keeps })) H)
  call_had [] rest d l e k m = absurd (omega (arith, l))
  call_had (r ∷ args) rest d l e k m =
      let D = did_of known d (frame_of known (record f { vals = rest; keeps = keeps })) H in
      subst (λ (o : Option (List sem.Value × List sem.Value)). OnSome o missing (λ x. OnFirst x.1 missing (call_way x.0)) D)
      (sym (args_had known args (r ∷ rest) f.vals n (omega (arith, l)) (e ∙ turn_more r args rest)))
      (k r args (frame_of known (record f { vals = rest; keeps = keeps })) H refl)
