-- The runs in which a body gives none where its result is wanted.
use Rattle.std.proofs.Common.{◌≡◌, ℕ, suc, List, [], ◌∷◌, Some, None, true, false, refl, sym, ap}
use Rattle.std.specs.Prelude.{pos}
use Rattle.jn_steps.specs.Runs.{Report, On}
use Rattle.jn_steps.specs.Reports.{Reports}
use Rattle.jn_base.specs.declared.tree.Text.{Text}
use Rattle.jn_base.specs.declared.tree.Stmt.{Stmt}
use Rattle.jn_base.specs.declared.tree.Stmt.TheVariants as stmt
use Rattle.jn_base.specs.declared.tree.Method.{Method}
use Rattle.jn_base.specs.ExampleTrees.{line}
use Rattle.jn_sem.specs.declared.outcome.Why.TheVariants as why
use Rattle.jn_sem.specs.Asks.{found, holds}
use Rattle.jn_sem.specs.Values.{Number}
use Rattle.jn_sem.specs.Acts.{Push, This, Call, Return, Todo, todo, stmts_acts, acts}
use Rattle.jn_sem.specs.State.{Frame}
use Rattle.jn_sem.specs.Does.{Ending, Stuck}
use Rattle.jn_sem.specs.Run.{Running, Then, running, start, shown, settled, Charge}
use Rattle.jn_sem_rows.specs.MainAlone.{method}
use Rattle.jn_sem_rows.specs.VoidOperand.{VoidOperand, void_operand, names, caller, g, h, v, g_method, h_method}
use Rattle.jn_sem_rows.specs.TwoPrints.{one_object, the_object, starting}
use Rattle.jn_sem_rows.proofs.MainTools.{begun, in_body, body_of, body, only_params}
use Rattle.jn_sem_rows.proofs.ActTools.{ByCharges, stop, charge, this_is, number_is, call_is, do_is, return_is}

abbrev then_acts : List Todo
then_acts = todo 0 This ∷ todo 0 (Push (Number (pos 1))) ∷ todo 0 This ∷ todo 0 (Call v 0 true) ∷ todo 0 (Call h 2 true) ∷ todo 0 (Call g 1 false) ∷ []

main_acts : stmts_acts 0 1 caller.body [] ≡ todo 0 This ∷ then_acts
main_acts = simp (do_is, call_is, this_is, number_is)

module _ (ss : List Stmt) where
  abbrev its_names : List Text
  its_names = names

  abbrev its_methods : List Method
  its_methods = caller ∷ g_method ∷ h_method ∷ method None v [] ss ∷ []

  -- `main` with all operands of the innermost call had
  abbrev frame_six : Frame
  frame_six = record (in_body its_names its_methods refl caller (todo 0 (Call v 0 true) ∷ todo 0 (Call h 2 true) ∷ todo 0 (Call g 1 false) ∷ [])) {
    vals = the_object ∷ Number (pos 1) ∷ the_object ∷ the_object ∷ [];
  }

  abbrev at_six : Running
  at_six = running (frame_six ∷ starting [] [] ∷ []) one_object []

  six : (n : ℕ) (r : Report Ending) → ByCharges (void_operand ss) 1 2 n (On at_six) r
      → Reports (Charge (void_operand ss) 1 2) shown (suc (suc (suc (suc (suc (suc n)))))) (On start) r
  six n r then =
      begun its_names its_methods refl 2 caller.body (todo 0 This) then_acts refl refl refl main_acts (suc (suc (suc (suc n)))) r
      (charge (record { did = _; does = refl; proceeds = refl })
      (charge (record { did = _; does = refl; proceeds = refl })
      (charge (record { did = _; does = refl; proceeds = refl })
      (charge (record { did = _; does = refl; proceeds = refl }) then))))

  abbrev v_method : Method
  v_method = method None v [] ss

  -- `main` waits for the result of v, which it keeps
  abbrev waits : Frame
  waits = record frame_six {
    vals = Number (pos 1) ∷ the_object ∷ the_object ∷ [];
    todo = todo 0 (Call h 2 true) ∷ todo 0 (Call g 1 false) ∷ [];
    keeps = true;
  }

  abbrev in_v : List Todo → Then
  in_v k = settled (in_body its_names its_methods refl v_method k ∷ waits ∷ starting [] [] ∷ []) one_object []

  -- the call of v, whose body has these acts
  enters_v : (k : List Todo) → stmts_acts 0 1 ss [] ≡ k → Charge (void_operand ss) 1 2 at_six (in_v k)
  enters_v k acts =
      let v_body = body its_names its_methods v_method in
      record {
        did = _;
        does = found v_body (body_of its_names its_methods v v_method refl) (found [] (only_params its_names its_methods v_body [] refl) refl);
        proceeds = holds (λ x m. elim m [ ]) (ap in_v (sym acts));
      }

return_acts : stmts_acts 0 1 (stmt.Return None (line 1) ∷ []) [] ≡ todo 0 (Return false) ∷ []
return_acts = simp (return_is)

abbrev returning : List Stmt
returning = stmt.Return None (line 1) ∷ []

enters_returning : Charge (void_operand returning) 1 2 (at_six returning) (in_v returning (todo 0 (Return false) ∷ []))
enters_returning = enters_v returning (todo 0 (Return false) ∷ []) return_acts

pub void_operand_rows : VoidOperand
void_operand_rows = record {
  before = record { ending = None; outcome = refl; reports = six [] 0 _ (stop refl) };
  at_end = record { ending = Some (Stuck why.Kind); outcome = refl; reports = six [] 1 _ (charge (enters_v [] [] refl) (stop refl)) };
  entered = record { ending = None; outcome = refl; reports = six returning 1 _ (charge enters_returning (stop refl)) };
  at_return = record {
    ending = Some (Stuck why.Kind);
    outcome = refl;
    reports = six returning 2 _ (charge enters_returning (charge (record { did = _; does = refl; proceeds = refl }) (stop refl)));
  };
}
