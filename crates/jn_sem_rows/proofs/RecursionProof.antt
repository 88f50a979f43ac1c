-- The runs of a method that calls itself, at the edge of the depth.
use Rattle.std.proofs.Common.{◌≡◌, ℕ, suc, Bool, List, [], ◌∷◌, length, Some, None, true, false, refl, sym, ap}
use Rattle.std.specs.Prelude.{ℤ, pos, codes, take, nat_lt, int_lt}
use Rattle.std.specs.Int.{int_wrap}
use Rattle.jn_steps.specs.Numbers.{difference_of}
use Rattle.jn_steps.specs.Runs.{Report, On, End}
use Rattle.jn_steps.specs.Reports.{Reports}
use Rattle.jn_steps.specs.Steps.{Goes}
use Rattle.jn_base.specs.declared.tree.Text.{Text}
use Rattle.jn_base.specs.declared.tree.Method.{Method}
use Rattle.jn_base.specs.declared.tree.Op.TheVariants as op
use Rattle.jn_base.specs.declared.types.Ty.TheVariants as ty
use Rattle.jn_base.specs.declared.names.Var.{Var}
use Rattle.jn_base.specs.Atoms.{Among, first, later}
use Rattle.jn_sem.specs.Asks.{found, holds}
use Rattle.jn_sem.specs.Values.{Value, Number, Truth, number}
use Rattle.jn_sem.specs.Acts.{Push, Read, This, Operate, Call, Choose, Todo, todo, stmts_acts}
use Rattle.jn_sem.specs.State.{Variable, Frame, frame_views, IsIn}
use Rattle.jn_sem.specs.Does.{Ending, Ends, Depth, AreParams, var}
use Rattle.jn_sem.specs.Run.{Running, running, start, shown, settled, Charge}
use Rattle.jn_sem.proofs.Sure.{if_so}
use Rattle.jn_sem_rows.specs.MainAlone.{Main, text, method, main_method, an_int}
use Rattle.jn_sem_rows.specs.MainRuns.{Recursion, recursion, x, f, turns, in_turn, first_turn}
use Rattle.jn_sem_rows.specs.TwoPrints.{one_object, the_object, starting}
use Rattle.jn_sem_rows.proofs.ActTools.{ByCharges, stop, charge, this_is, number_is, variable_is, chain_is, call_is, do_is, if_is}
use Rattle.jn_sem_rows.proofs.MainTools.{begun, in_body, body, body_of, only_params}
use Rattle.jn_sem_rows.proofs.MainTypes.{int_type}

abbrev x_and_f : List Text
x_and_f = text (codes "x") ∷ text (codes "f") ∷ []

abbrev f_method : Method
f_method = method None f (an_int x ∷ []) turns

abbrev its_methods : List Method
its_methods = main_method first_turn ∷ f_method ∷ []

-- ---- what the bodies have to do

first_acts : stmts_acts 0 1 first_turn [] ≡ todo 0 This ∷ todo 0 (Push (Number (pos 2))) ∷ todo 0 (Call f 1 false) ∷ []
first_acts = simp (do_is, call_is, this_is, number_is)

abbrev turn : List Todo
turn = todo 1 (Push (Number (pos 0))) ∷ todo 1 (Read x) ∷ todo 1 (Operate op.Lt) ∷ todo 1 (Choose 2 in_turn []) ∷ []

turn_acts : stmts_acts 1 2 turns [] ≡ turn
turn_acts = simp (if_is, chain_is, number_is, variable_is)

abbrev again : List Todo
again = todo 1 This ∷ todo 1 (Read x) ∷ todo 1 (Push (Number (pos 1))) ∷ todo 1 (Operate op.Sub) ∷ todo 1 (Call f 1 false) ∷ []

again_acts : stmts_acts 1 2 in_turn [] ≡ again
again_acts = simp (do_is, call_is, this_is, chain_is, number_is, variable_is)

-- ---- the frames of f

abbrev the_var : Var
the_var = var x 1 false ty.Int

abbrev frame : ℤ → List Value → List Todo → Frame
frame z vs k = record {
  class = Main ∷ [];
  method = f_method;
  this = the_object;
  vars = record { var = the_var; value = Number z } ∷ [];
  vals = vs;
  todo = k;
  keeps = false;
}

its_params : AreParams recursion (body x_and_f its_methods f_method) (the_var ∷ [])
its_params = (ty.Int, (int_type x_and_f its_methods f []).is, refl)

int_in : (z : ℤ) (v : Variable) → Among (record { var = the_var; value = Number z } ∷ []) v
    → IsIn recursion (frame_views (frame z [] turn)) one_object v.var.ty v.value
int_in z v first = number
int_in z v (later m) = elim m [ ]

-- ---- charges

abbrev calling : Frame → ℕ → ℤ → Frame
calling g n y = record g { vals = Number y ∷ the_object ∷ []; todo = todo n (Call f 1 false) ∷ [] }

abbrev waits : Frame → ℕ → Frame
waits g n = record g { vars = take n g.vars; vals = []; todo = []; keeps = false }

enters : (d : ℕ) (g : Frame) (n : ℕ) (y : ℤ) (fs : List Frame) → nat_lt (length fs) d ≡ true
    → Charge recursion 1 d (running (calling g n y ∷ fs) one_object []) (On (running (frame y [] turn ∷ waits g n ∷ fs) one_object []))
enters d g n y fs deep = record {
  did = _;
  does = found (body x_and_f its_methods f_method) (body_of x_and_f its_methods f f_method refl)
      (found (the_var ∷ []) (only_params x_and_f its_methods (body x_and_f its_methods f_method) (the_var ∷ []) its_params) refl);
  proceeds = if_so (nat_lt (length fs) d) _ _ _ deep
      (holds (int_in y) (ap (λ (k : List Todo). settled (frame y [] k ∷ waits g n ∷ fs) one_object []) (sym turn_acts)));
}

-- f(0) would be the fourth frame
too_deep : (g : Frame) (n : ℕ) (y : ℤ) (a b c : Frame) → Charge recursion 1 3 (running (calling g n y ∷ a ∷ b ∷ c ∷ []) one_object []) (End Depth [])
too_deep g n y a b c = record {
  did = _;
  does = found (body x_and_f its_methods f_method) (body_of x_and_f its_methods f f_method refl)
      (found (the_var ∷ []) (only_params x_and_f its_methods (body x_and_f its_methods f_method) (the_var ∷ []) its_params) refl);
  proceeds = refl;
}

chooses : (d : ℕ) (z : ℤ) (fs : List Frame)
    → Charge recursion 1 d (running (frame z (Truth true ∷ []) (todo 1 (Choose 2 in_turn []) ∷ []) ∷ fs) one_object []) (On (running (frame z [] again ∷ fs) one_object []))
chooses d z fs = record {
  did = Goes (frame z [] again) one_object [];
  does = ap (λ (k : List Todo). Goes (frame z [] k) one_object []) (sym again_acts);
  proceeds = refl;
}

two_less : difference_of (pos 2) (pos 1) ≡ pos 1
unfolding int_wrap
two_less = refl

one_less : difference_of (pos 1) (pos 1) ≡ pos 0
unfolding int_wrap
one_less = refl

subtracts : (d : ℕ) (z y : ℤ) (fs : List Frame) → difference_of z (pos 1) ≡ y
    → Charge recursion 1 d (running (frame z (Number (pos 1) ∷ Number z ∷ the_object ∷ []) (todo 1 (Operate op.Sub) ∷ todo 1 (Call f 1 false) ∷ []) ∷ fs) one_object [])
    (On (running (calling (frame z [] []) 1 y ∷ fs) one_object []))
subtracts d z y fs less = record {
  did = Goes (calling (frame z [] []) 1 y) one_object [];
  does = ap (λ (w : ℤ). Goes (calling (frame z [] []) 1 w) one_object []) (sym less);
  proceeds = refl;
}

compares : (d : ℕ) (z : ℤ) (b : Bool) (fs : List Frame) → int_lt (pos 0) z ≡ b
    → Charge recursion 1 d (running (frame z (Number z ∷ Number (pos 0) ∷ []) (todo 1 (Operate op.Lt) ∷ todo 1 (Choose 2 in_turn []) ∷ []) ∷ fs) one_object [])
    (On (running (frame z (Truth b ∷ []) (todo 1 (Choose 2 in_turn []) ∷ []) ∷ fs) one_object []))
compares d z b fs less = record {
  did = Goes (frame z (Truth b ∷ []) (todo 1 (Choose 2 in_turn []) ∷ [])) one_object [];
  does = ap (λ (c : Bool). Goes (frame z (Truth c ∷ []) (todo 1 (Choose 2 in_turn []) ∷ [])) one_object []) (sym less);
  proceeds = refl;
}

-- ---- parts of the runs

abbrev Reported : (d n : ℕ) → Running → Report Ending → Type 0
Reported d n s r = ByCharges recursion 1 d n (On s) r

-- eight more, nine more
abbrev eight : ℕ → ℕ
eight n = suc (suc (suc (suc (suc (suc (suc (suc n)))))))

abbrev nine : ℕ → ℕ
nine n = suc (eight n)

-- in 8 charges from the begin of f(z) to the call of f(z - 1)
calls_again : (d : ℕ) (z y : ℤ) (fs : List Frame) → int_lt (pos 0) z ≡ true → difference_of z (pos 1) ≡ y → (n : ℕ) (r : Report Ending)
    → Reported d n (running (calling (frame z [] []) 1 y ∷ fs) one_object []) r
    → Reported d (eight n) (running (frame z [] turn ∷ fs) one_object []) r
calls_again d z y fs more less n r then =
    charge (record { did = _; does = refl; proceeds = refl })
    (charge (record { did = _; does = refl; proceeds = refl })
    (charge (compares d z true fs more)
    (charge (chooses d z fs)
    (charge (record { did = _; does = refl; proceeds = refl })
    (charge (record { did = _; does = refl; proceeds = refl })
    (charge (record { did = _; does = refl; proceeds = refl })
    (charge (subtracts d z y fs less) then)))))))

abbrev in_main : Frame
in_main = in_body x_and_f its_methods refl (main_method first_turn) []

abbrev below_two : List Frame
below_two = waits in_main 0 ∷ starting [] [] ∷ []

abbrev below_one : List Frame
below_one = frame (pos 2) [] [] ∷ below_two

-- in 22 charges to the call of f(0), where there is room for three frames
to_zero : (d : ℕ) → nat_lt 0 d ≡ true → nat_lt 1 d ≡ true → nat_lt 2 d ≡ true → (n : ℕ) (r : Report Ending)
    → Reported d n (running (calling (frame (pos 1) [] []) 1 (pos 0) ∷ below_one) one_object []) r
    → Reports (Charge recursion 1 d) shown (suc (suc (suc (suc (suc (eight (nine n))))))) (On start) r
to_zero d one two three n r then =
    begun x_and_f its_methods refl d first_turn _ _ one refl refl first_acts (suc (suc (suc (eight (nine n))))) r
    (charge (record { did = _; does = refl; proceeds = refl })
    (charge (record { did = _; does = refl; proceeds = refl })
    (charge (enters d in_main 0 (pos 2) (starting [] [] ∷ []) two)
    (calls_again d (pos 2) (pos 1) below_two refl two_less (nine n) r
    (charge (enters d (frame (pos 2) [] []) 1 (pos 1) below_two three)
    (calls_again d (pos 1) (pos 0) below_one refl one_less n r then))))))

abbrev in_zero : Frame
in_zero = frame (pos 0) (Number (pos 0) ∷ Number (pos 0) ∷ []) (todo 1 (Operate op.Lt) ∷ todo 1 (Choose 2 in_turn []) ∷ [])

zero_turn : (n : ℕ) (r : Report Ending) → Reported 4 n (running (in_zero ∷ frame (pos 1) [] [] ∷ below_one) one_object []) r
    → Reported 4 (suc (suc (suc n))) (running (calling (frame (pos 1) [] []) 1 (pos 0) ∷ below_one) one_object []) r
zero_turn n r then =
    charge (enters 4 (frame (pos 1) [] []) 1 (pos 0) below_one refl)
    (charge (record { did = _; does = refl; proceeds = refl })
    (charge (record { did = _; does = refl; proceeds = refl }) then))

-- ---- the runs

pub recursions : Recursion
recursions = record {
  four = record {
    ending = Some Ends;
    outcome = refl;
    reports = to_zero 4 refl refl refl 5 _
        (zero_turn 2 _ (charge (compares 4 (pos 0) false _ refl) (charge (record { did = _; does = refl; proceeds = refl }) (stop refl))));
  };
  four_before = record {
    ending = None;
    outcome = refl;
    reports = to_zero 4 refl refl refl 4 _ (zero_turn 1 _ (charge (compares 4 (pos 0) false _ refl) (stop refl)));
  };
  three = record {
    ending = Some Depth;
    outcome = refl;
    reports = to_zero 3 refl refl refl 1 _ (charge (too_deep (frame (pos 1) [] []) 1 (pos 0) _ _ _) (stop refl));
  };
  three_before = record { ending = None; outcome = refl; reports = to_zero 3 refl refl refl 0 _ (stop refl) };
}
