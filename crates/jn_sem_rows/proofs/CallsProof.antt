-- The runs of the class Main alone: what is bound, and calls.
use Rattle.std.proofs.Common.{◌≡◌, List, [], ◌∷◌, Some, None, true, false, refl}
use Rattle.std.specs.Prelude.{pos, codes}
use Rattle.jn_base.specs.declared.tree.Text.{Text}
use Rattle.jn_base.specs.declared.tree.Method.{Method}
use Rattle.jn_base.specs.declared.tree.Param.{Param}
use Rattle.jn_base.specs.declared.tree.TypeTerm.TheVariants as type
use Rattle.jn_base.specs.declared.tree.Stmt.{Stmt}
use Rattle.jn_base.specs.declared.names.Var.{Var}
use Rattle.jn_base.specs.declared.types.Ty.TheVariants as ty
use Rattle.jn_sem.specs.declared.outcome.Why.TheVariants as why
use Rattle.jn_sem.specs.Asks.{Only, found, holds, fails}
use Rattle.jn_sem.specs.Values.{Number, Truth, Null, no_object}
use Rattle.jn_sem.specs.Acts.{Push, Read, This, Call, Bind, Print, Todo, todo, stmts_acts}
use Rattle.jn_sem.specs.State.{Frame}
use Rattle.jn_sem.specs.Does.{Body, IsBody, AreParams, Ends, AtNull, Depth, Stuck, var}
use Rattle.jn_sem_rows.specs.MainAlone.{Main, main_alone, main, text, method, main_method, of_main, param}
use Rattle.jn_sem_rows.specs.MainRuns.{Bindings, Calls, null_path, x, f, int_body, path_body, receiver_body, plain_body, argument_body}
use Rattle.jn_sem_rows.specs.TwoPrints.{one_object}
use Rattle.jn_sem_rows.proofs.ActTools.{stop, charge, shows_one, this_is, null_is, number_is, truth_is, variable_is, call_is, do_is, print_is, local_is}
use Rattle.jn_sem_rows.proofs.MainTools.{begun, in_body, body, body_of, only_params}
use Rattle.jn_sem_rows.proofs.MainTypes.{int_type, class_type, main_type}

abbrev only_x : List Text
only_x = text (codes "x") ∷ []

abbrev only_main : List Stmt → List Method
only_main ss = main_method ss ∷ []

int_acts : stmts_acts 0 1 int_body [] ≡ todo 0 (Push (Truth true)) ∷ todo 0 (Bind false type.Int x 1) ∷ []
int_acts = simp (local_is, truth_is)

path_acts : stmts_acts 0 1 path_body [] ≡ todo 0 (Push (Number (pos 1))) ∷ todo 0 Print ∷ todo 0 (Push Null) ∷ todo 0 (Bind true of_main x 1) ∷ todo 1 (Push (Number (pos 2))) ∷ todo 1 Print ∷ []
path_acts = simp (local_is, print_is, number_is, null_is)

abbrev behind_print : List Todo
behind_print = todo 0 (Push Null) ∷ todo 0 (Bind true of_main x 1) ∷ todo 1 (Push (Number (pos 2))) ∷ todo 1 Print ∷ []

-- the frame of `main` where it prints 1
abbrev printing : Frame
printing = in_body only_x (only_main path_body) refl (main_method path_body) []

pub bindings : Bindings
bindings = record {
  foreign = record {
    ending = Some (Stuck why.Foreign);
    outcome = refl;
    reports = begun only_x (only_main int_body) refl 1 int_body _ _ refl refl refl int_acts 2 _
        (charge (record { did = _; does = refl; proceeds = refl })
        (charge (record { did = _; does = found ty.Int (int_type only_x (only_main int_body) main []) (fails (λ h. elim h [ ]) refl); proceeds = refl }) (stop refl)));
  };
  path = record {
    ending = Some AtNull;
    outcome = refl;
    reports = begun only_x (only_main path_body) refl 1 path_body _ _ refl refl refl path_acts 4 _
        (charge (record { did = _; does = refl; proceeds = refl })
        (charge (shows_one null_path 1 1 printing 0 [] behind_print _ one_object [])
        (charge (record { did = _; does = refl; proceeds = refl })
        (charge (record { did = _; does = found main_type (class_type only_x (only_main path_body) main []) refl; proceeds = refl }) (stop refl)))));
  };
  path_before = record {
    ending = None;
    outcome = refl;
    reports = begun only_x (only_main path_body) refl 1 path_body _ _ refl refl refl path_acts 3 _
        (charge (record { did = _; does = refl; proceeds = refl })
        (charge (shows_one null_path 1 1 printing 0 [] behind_print _ one_object [])
        (charge (record { did = _; does = refl; proceeds = refl }) (stop refl))));
  };
}

-- ---- calls

abbrev x_and_f : List Text
x_and_f = text (codes "x") ∷ text (codes "f") ∷ []

abbrev f_method : List Param → Method
f_method params = method None f params []

abbrev with_main : List Param → List Stmt → List Method
with_main params ss = main_method ss ∷ f_method params ∷ []

plain_acts : stmts_acts 0 1 plain_body [] ≡ todo 0 This ∷ todo 0 (Call f 0 false) ∷ []
plain_acts = simp (do_is, call_is, this_is)

receiver_acts : stmts_acts 0 1 receiver_body [] ≡ todo 0 (Push Null) ∷ todo 0 (Bind false of_main x 1) ∷ todo 1 (Read x) ∷ todo 1 (Call f 0 false) ∷ []
receiver_acts = simp (local_is, null_is, do_is, call_is, variable_is)

argument_acts : stmts_acts 0 1 argument_body [] ≡ todo 0 This ∷ todo 0 (Push Null) ∷ todo 0 (Call f 1 false) ∷ []
argument_acts = simp (do_is, call_is, this_is, null_is)

-- the body of f, and its parameters
abbrev f_body : List Param → List Stmt → Body
f_body params ss = body x_and_f (with_main params ss) (f_method params)

only_f : (params : List Param) (ss : List Stmt) → Only (IsBody (main_alone x_and_f (with_main params ss)) (Main ∷ []) f) (f_body params ss)
only_f params ss = body_of x_and_f (with_main params ss) f (f_method params) refl

no_params : (ss : List Stmt) → Only (AreParams (main_alone x_and_f (with_main [] ss)) (f_body [] ss)) []
no_params ss = only_params x_and_f (with_main [] ss) (f_body [] ss) [] refl

abbrev a_path : List Param
a_path = param true of_main x ∷ []

abbrev path_var : List Var
path_var = var x 1 true main_type ∷ []

path_param : Only (AreParams (main_alone x_and_f (with_main a_path argument_body)) (f_body a_path argument_body)) path_var
path_param = only_params x_and_f (with_main a_path argument_body) (f_body a_path argument_body) path_var
    (main_type, (class_type x_and_f (with_main a_path argument_body) f []).is, refl)

pub calls : Calls
calls = record {
  deep = record {
    ending = Some Depth;
    outcome = refl;
    reports = begun x_and_f (with_main [] plain_body) refl 1 plain_body _ _ refl refl refl plain_acts 2 _
        (charge (record { did = _; does = refl; proceeds = refl })
        (charge (record {
          did = _;
          does = found (f_body [] plain_body) (only_f [] plain_body) (found [] (no_params plain_body) refl);
          proceeds = refl;
        }) (stop refl)));
  };
  room = record {
    ending = Some Ends;
    outcome = refl;
    reports = begun x_and_f (with_main [] plain_body) refl 2 plain_body _ _ refl refl refl plain_acts 2 _
        (charge (record { did = _; does = refl; proceeds = refl })
        (charge (record {
          did = _;
          does = found (f_body [] plain_body) (only_f [] plain_body) (found [] (no_params plain_body) refl);
          proceeds = holds (λ x m. elim m [ ]) refl;
        }) (stop refl)));
  };
  null_first = record {
    ending = Some AtNull;
    outcome = refl;
    reports = begun x_and_f (with_main [] receiver_body) refl 1 receiver_body _ _ refl refl refl receiver_acts 4 _
        (charge (record { did = _; does = refl; proceeds = refl })
        (charge (record {
          did = _;
          does = found main_type (class_type x_and_f (with_main [] receiver_body) main []) (holds no_object refl);
          proceeds = refl;
        })
        (charge (record { did = _; does = refl; proceeds = refl })
        (charge (record { did = _; does = refl; proceeds = refl }) (stop refl)))));
  };
  depth_first = record {
    ending = Some Depth;
    outcome = refl;
    reports = begun x_and_f (with_main a_path argument_body) refl 1 argument_body _ _ refl refl refl argument_acts 3 _
        (charge (record { did = _; does = refl; proceeds = refl })
        (charge (record { did = _; does = refl; proceeds = refl })
        (charge (record {
          did = _;
          does = found (f_body a_path argument_body) (only_f a_path argument_body) (found path_var path_param refl);
          proceeds = refl;
        }) (stop refl))));
  };
  null_then = record {
    ending = Some AtNull;
    outcome = refl;
    reports = begun x_and_f (with_main a_path argument_body) refl 2 argument_body _ _ refl refl refl argument_acts 3 _
        (charge (record { did = _; does = refl; proceeds = refl })
        (charge (record { did = _; does = refl; proceeds = refl })
        (charge (record {
          did = _;
          does = found (f_body a_path argument_body) (only_f a_path argument_body) (found path_var path_param refl);
          proceeds = refl;
        }) (stop refl))));
  };
}
