-- The runs of the class Main alone: operators.
use Rattle.std.proofs.Common.{◌≡◌, List, [], ◌∷◌, Some, None, true, false, refl, sym, ap}
use Rattle.std.specs.Prelude.{pos}
use Rattle.jn_steps.specs.Runs.{On}
use Rattle.jn_steps.specs.Steps.{Goes}
use Rattle.jn_base.specs.declared.tree.Op.TheVariants as op
use Rattle.jn_base.specs.declared.tree.Method.{Method}
use Rattle.jn_base.specs.declared.tree.Stmt.{Stmt}
use Rattle.jn_sem.specs.declared.outcome.Why.TheVariants as why
use Rattle.jn_sem.specs.Values.{Value, Number, Truth}
use Rattle.jn_sem.specs.Acts.{Push, Operate, Decide, Print, Todo, todo, stmts_acts}
use Rattle.jn_sem.specs.State.{Frame}
use Rattle.jn_sem.specs.Does.{Ends, Stuck}
use Rattle.jn_sem.specs.Run.{running, Charge}
use Rattle.jn_sem_rows.specs.MainAlone.{main_method, number, truth}
use Rattle.jn_sem_rows.specs.MainRuns.{Operators, and_number, or_body, and_body, sum_body}
use Rattle.jn_sem_rows.specs.TwoPrints.{one_object, starting}
use Rattle.jn_sem_rows.proofs.ActTools.{stop, charge, shows_one, number_is, truth_is, chain_is, print_is}
use Rattle.jn_sem_rows.proofs.MainTools.{begun, in_body}

or_acts : stmts_acts 0 1 or_body [] ≡ todo 0 (Push (Truth true)) ∷ todo 0 (Decide false (truth true)) ∷ todo 0 (Decide false (truth true)) ∷ todo 0 Print ∷ []
or_acts = simp (print_is, chain_is, truth_is)

and_acts : stmts_acts 0 1 and_body [] ≡ todo 0 (Push (Truth true)) ∷ todo 0 (Decide true (number 1)) ∷ todo 0 Print ∷ []
and_acts = simp (print_is, chain_is, truth_is)

sum_acts : stmts_acts 0 1 sum_body [] ≡ todo 0 (Push (Number (pos 1))) ∷ todo 0 (Push (Truth true)) ∷ todo 0 (Operate op.Add) ∷ todo 0 Print ∷ []
sum_acts = simp (print_is, chain_is, truth_is, number_is)

abbrev only_main : List Stmt → List Method
only_main ss = main_method ss ∷ []

abbrev in_and : List Value → List Todo → Frame
in_and vs k = record (in_body [] (only_main and_body) refl (main_method and_body) k) { vals = vs }

-- where the left operand is true, the right one is what comes next
right_operand : Charge and_number 1 1 (running (in_and (Truth true ∷ []) (todo 0 (Decide true (number 1)) ∷ todo 0 Print ∷ []) ∷ starting [] [] ∷ []) one_object [])
    (On (running (in_and [] (todo 0 (Push (Number (pos 1))) ∷ todo 0 Print ∷ []) ∷ starting [] [] ∷ []) one_object []))
right_operand = record {
  did = Goes (in_and [] (todo 0 (Push (Number (pos 1))) ∷ todo 0 Print ∷ [])) one_object [];
  does = ap (λ (k : List Todo). Goes (in_and [] k) one_object []) (sym (number_is 1 true 0 (todo 0 Print ∷ [])));
  proceeds = refl;
}

pub operators : Operators
operators = record {
  chain = record {
    ending = Some Ends;
    outcome = refl;
    reports = begun [] (only_main or_body) refl 1 or_body _ _ refl refl refl or_acts 4 _
        (charge (record { did = _; does = refl; proceeds = refl })
        (charge (record { did = _; does = refl; proceeds = refl })
        (charge (record { did = _; does = refl; proceeds = refl })
        (charge (record { did = _; does = refl; proceeds = refl }) (stop refl)))));
  };
  chain_before = record {
    ending = None;
    outcome = refl;
    reports = begun [] (only_main or_body) refl 1 or_body _ _ refl refl refl or_acts 3 _
        (charge (record { did = _; does = refl; proceeds = refl })
        (charge (record { did = _; does = refl; proceeds = refl })
        (charge (record { did = _; does = refl; proceeds = refl }) (stop refl))));
  };
  untested = record {
    ending = Some Ends;
    outcome = refl;
    reports = begun [] (only_main and_body) refl 1 and_body _ _ refl refl refl and_acts 4 _
        (charge (record { did = _; does = refl; proceeds = refl })
        (charge right_operand
        (charge (record { did = _; does = refl; proceeds = refl })
        (charge (shows_one and_number 1 1 (in_and [] []) 0 [] [] (starting [] [] ∷ []) one_object []) (stop refl)))));
  };
  of_kinds = record {
    ending = Some (Stuck why.Kind);
    outcome = refl;
    reports = begun [] (only_main sum_body) refl 1 sum_body _ _ refl refl refl sum_acts 3 _
        (charge (record { did = _; does = refl; proceeds = refl })
        (charge (record { did = _; does = refl; proceeds = refl })
        (charge (record { did = _; does = refl; proceeds = refl }) (stop refl))));
  };
  of_kinds_before = record {
    ending = None;
    outcome = refl;
    reports = begun [] (only_main sum_body) refl 1 sum_body _ _ refl refl refl sum_acts 2 _
        (charge (record { did = _; does = refl; proceeds = refl })
        (charge (record { did = _; does = refl; proceeds = refl }) (stop refl)));
  };
}
