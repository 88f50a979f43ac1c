-- The run of two prints, charge by charge.
use Rattle.std.proofs.Common.{◌≡◌, ℕ, List, [], ◌∷◌, Some, None, true, refl, sym, ap, arith}
use Rattle.std.specs.Prelude.{◌≤◌, pos, codes, nat_le, nat_lt}
use Rattle.std.specs.Fmt.{digits}
use Rattle.jn_steps.specs.Numbers.{number_line}
use Rattle.jn_steps.specs.Runs.{On, End}
use Rattle.jn_steps.specs.Steps.{Goes}
use Rattle.jn_sem.specs.Values.{Number}
use Rattle.jn_sem.specs.Acts.{stmts_acts}
use Rattle.jn_sem.specs.Does.{Ends}
use Rattle.jn_sem.specs.Run.{start, Charge}
use Rattle.jn_sem_rows.specs.TwoPrints.{two_prints, the_method, one_object, in_main, at_work, push, print, SixCharges}
use Rattle.jn_sem_rows.proofs.ActTools.{number_is, print_is, shows_one}
use Rattle.jn_sem_rows.proofs.MainTools.{made, make, open_main}

at_least : (n : ℕ) → 1 ≤ n → nat_le 1 n ≡ true
at_least n h = grind arith

deep_enough : (n : ℕ) → 1 ≤ n → nat_lt 0 n ≡ true
deep_enough n h = grind arith

body_acts : stmts_acts 0 1 the_method.body [] ≡ push 1 ∷ print ∷ push 2 ∷ print ∷ []
body_acts = simp (print_is, number_is)

one : (a d : ℕ) → Charge two_prints a d (at_work (in_main [] (push 1 ∷ print ∷ push 2 ∷ print ∷ [])) []) (On (at_work (in_main (Number (pos 1) ∷ []) (print ∷ push 2 ∷ print ∷ [])) []))
one a d = record { did = Goes (in_main (Number (pos 1) ∷ []) (print ∷ push 2 ∷ print ∷ [])) one_object []; does = refl; proceeds = refl }

two : (a d : ℕ) → Charge two_prints a d (at_work (in_main [] (push 2 ∷ print ∷ [])) (codes "1\n")) (On (at_work (in_main (Number (pos 2) ∷ []) (print ∷ [])) (codes "1\n")))
two a d = record { did = Goes (in_main (Number (pos 2) ∷ []) (print ∷ [])) one_object []; does = refl; proceeds = refl }

two_line : number_line (pos 2) ≡ codes "2\n"
unfolding digits
two_line = refl

shown_two : (a d : ℕ) → Charge two_prints a d (at_work (in_main (Number (pos 2) ∷ []) (print ∷ [])) (codes "1\n")) (End Ends (codes "1\n2\n"))
shown_two a d = record {
  did = Goes (in_main [] []) one_object (codes "2\n");
  does = ap (λ (bytes : List ℕ). Goes (in_main [] []) one_object bytes) (sym two_line);
  proceeds = refl;
}

pub six_charges : SixCharges
six_charges a d cells frames = record {
  first = begun;
  second = opened;
  third = one a d;
  fourth = shown_one;
  fifth = two a d;
  sixth = shown_two a d;
  six = record {
    ending = Some Ends;
    outcome = refl;
    reports = (_, begun, (_, opened, (_, one a d, (_, shown_one, (_, two a d, (_, shown_two a d, refl))))));
  };
  five = record {
    ending = None;
    outcome = refl;
    reports = (_, begun, (_, opened, (_, one a d, (_, shown_one, (_, two a d, refl)))));
  };
} where
  begun : Charge two_prints a d start (On (made [] (the_method ∷ []) refl))
  begun = make [] (the_method ∷ []) refl a d (at_least a cells) refl

  opened : Charge two_prints a d (made [] (the_method ∷ []) refl) (On (at_work (in_main [] (push 1 ∷ print ∷ push 2 ∷ print ∷ [])) []))
  opened = open_main [] (the_method ∷ []) refl a d the_method.body (push 1) (print ∷ push 2 ∷ print ∷ []) (deep_enough d frames) refl body_acts

  shown_one : Charge two_prints a d (at_work (in_main (Number (pos 1) ∷ []) (print ∷ push 2 ∷ print ∷ [])) []) (On (at_work (in_main [] (push 2 ∷ print ∷ [])) (codes "1\n")))
  shown_one = shows_one two_prints a d (in_main [] []) 0 [] (push 2 ∷ print ∷ []) _ one_object []
