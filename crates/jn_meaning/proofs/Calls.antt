-- Calls.
use Rattle.std.proofs.Common.{◌≡◌, ◌+◌, ℕ, List, ◌∷◌, length, Bool, true, false, refl, sym, ap, ◌∙◌, subst, arith}
use Rattle.std.specs.Prelude.{nat_eq}
use Rattle.std.proofs.lemmas.Bool.Decides.{nat_tests}
use Rattle.jn_steps.specs.Steps.{Enters}
use Rattle.jn_base.specs.declared.tree.Name.{Name}
use Rattle.jn_base.specs.declared.names.Var.{Var}
use Rattle.jn_base.specs.declared.tree.Program.{Program}
use Rattle.jn_base.specs.declared.path.Path.{Path as ShownPath}
use Rattle.jn_sem.specs.declared.outcome.Why.TheVariants as why
use Rattle.jn_sem.specs.Values as sem
use Rattle.jn_sem.specs.State as state
use Rattle.jn_sem.specs.Asks.{OnIf, OnOnly, It}
use Rattle.jn_sem.specs.Does as does
use Rattle.jn_sem.specs.Does.{Way, Body, Entry, IsBody, AreParams, Stuck, missing, on_entry, calls}
use Rattle.jn_sem.specs.LawsOfFinding.{IsOne}
use Rattle.jn_sem.proofs.FindingLaws.{finds_one}
use Rattle.jn_table.specs.declared.class.ClassId.{ClassId}
use Rattle.jn_meaning.specs.declared.did.Did.TheVariants as did
use Rattle.jn_meaning.specs.declared.did.Ending.TheVariants as ending
use Rattle.jn_meaning.specs.declared.did.Called.{Called}
use Rattle.jn_meaning.specs.declared.value.Value.{Value}
use Rattle.jn_meaning.specs.Values.{path_at, value_of, values_of}
use Rattle.jn_meaning.specs.Calling.{CallsTold}
use Rattle.jn_meaning.proofs.Finds.{found_only, none_only}
use Rattle.jn_meaning.proofs.Variables.{values_long}

other_number : (a b : ℕ) → (a ≡ b → ⊥) → nat_eq a b ≡ false
other_number a b n = grind (arith, nat_tests)

one_number : (a b : ℕ) → a ≡ b → nat_eq a b ≡ true
one_number a b e = grind (arith, nat_tests)

module _ (p : Program) (known : List ShownPath) (id : ClassId) (m : Name) (all : List Value) where
  abbrev entering : sem.Value → List sem.Value → state.Frame → state.Heap → Entry → Way
  entering r args F H e = It (Enters e (r ∷ args) F H)

  abbrev body_way : sem.Value → List sem.Value → state.Frame → state.Heap → Body → Way
  body_way r args F H b = on_entry p b args (entering r args F H)

  pub calls_nothing : ((b : Body) → IsBody p (path_at known id) m b → ⊥) → CallsTold p known id m all (did.Ended (ending.Stuck why.Missing))
  calls_nothing n r args F H e = none_only (IsBody p (path_at known id) m) missing (body_way (value_of known r) (values_of known args) F H) _ n refl

  module _ (once : IsOne (IsBody p (path_at known id) m)) (b : Body) (is : IsBody p (path_at known id) m b) where
    abbrev params_way : sem.Value → List sem.Value → state.Frame → state.Heap → List Var → Way
    params_way r args F H vars = entering r args F H (record { class = b.class; method = b.method; vars = vars })

    abbrev entry_way : sem.Value → List sem.Value → state.Frame → state.Heap → Way
    entry_way r args F H = OnOnly (AreParams p b) missing (params_way r args F H)

    at_body : (r : sem.Value) (args : List sem.Value) (F : state.Frame) (H : state.Heap) (d : does.Did) (same : Bool) → nat_eq (length args) (length b.method.params) ≡ same
        → OnIf same missing (entry_way r args F H) d → calls p (path_at known id) m r args F H d
    at_body r args F H d same e g =
        found_only (IsBody p (path_at known id) m) missing (body_way r args F H) d once b is
        (subst (λ (s : Bool). OnIf s missing (entry_way r args F H) d) (sym e) g)

    long : (args : List Value) (r : Value) → all ≡ r ∷ args → length all ≡ length (values_of known args) + 1
    long args r e = omega (arith, ap length e, values_long known args)

    pub calls_other : (length all ≡ length b.method.params + 1 → ⊥) → CallsTold p known id m all (did.Ended (ending.Stuck why.Missing))
    calls_other n r args F H e =
        at_body (value_of known r) (values_of known args) F H _ false (other_number _ _ (λ q. n (long args r e ∙ ap (λ (k : ℕ). k + 1) q))) refl

    module _ (so : length all ≡ length b.method.params + 1) where
      same_long : (args : List Value) (r : Value) → all ≡ r ∷ args → nat_eq (length (values_of known args)) (length b.method.params) ≡ true
      same_long args r e = one_number _ _ (omega (arith, so, long args r e))

      pub calls_untyped : ((vars : List Var) → AreParams p b vars → ⊥) → CallsTold p known id m all (did.Ended (ending.Stuck why.Missing))
      calls_untyped n r args F H e =
          at_body (value_of known r) (values_of known args) F H _ true (same_long args r e)
          (none_only (AreParams p b) missing (params_way (value_of known r) (values_of known args) F H) _ n refl)

      pub calls_body : (c : Called) → AreParams p b c.callee.vars.list → path_at known c.callee.class ≡ b.class → c.callee.method.now ≡ b.method → c.args.items ≡ all
          → CallsTold p known id m all (did.Entered c)
      calls_body c params class method same r args F H e =
          at_body (value_of known r) (values_of known args) F H _ true (same_long args r e)
          (found_only (AreParams p b) missing (params_way (value_of known r) (values_of known args) F H) _ ((finds_one p).params b) c.callee.vars.list params
          (λ i. Enters (record { class = class i; method = method i; vars = c.callee.vars.list }) (values_of known ((same ∙ e) i)) F H))
