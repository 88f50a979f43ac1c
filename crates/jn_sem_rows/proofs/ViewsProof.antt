-- The runs of one method at two views.
use Rattle.std.proofs.Common.{◌≡◌, ◌<◌, ℕ, zero, suc, List, [], ◌∷◌, drop, Some, None, true, false, refl, sym, ap, inl, arith}
use Rattle.std.specs.Prelude.{pos, codes, Ok}
use Rattle.std.specs.Fmt.{digits}
use Rattle.jn_steps.specs.Runs.{On, End}
use Rattle.jn_steps.specs.Steps.{Goes}
use Rattle.jn_steps.specs.Numbers.{number_line}
use Rattle.jn_base.specs.declared.types.Anchor.TheVariants.{Root}
use Rattle.jn_base.specs.declared.types.Ty.TheVariants as ty
use Rattle.jn_base.specs.Paths.{Path}
use Rattle.jn_base.specs.Supers.{Member}
use Rattle.jn_base.specs.Atoms.{Atom, atom, shown_atom, no_masks}
use Rattle.jn_base.specs.Resolve.{found as found_at, in_class}
use Rattle.jn_base.specs.ResolveTypes.{mask_names, none, first as first_term, one}
use Rattle.jn_base.proofs.ExampleTools.{top_member}
use Rattle.jn_base.proofs.VerdictTools.{class_named}
use Rattle.jn_sem.specs.Asks.{Only, found, holds}
use Rattle.jn_sem.specs.Values.{Value, Number, Null, number}
use Rattle.jn_sem.specs.Acts.{Push, Return, Print, Todo, todo, stmts_acts}
use Rattle.jn_sem.specs.State.{Frame}
use Rattle.jn_sem.specs.Sharing.{Counterpart}
use Rattle.jn_sem.specs.Does.{Ends, IsBody, IsTargetFamily}
use Rattle.jn_sem.specs.Run.{running, settled, Charge}
use Rattle.jn_sem.proofs.FindingLaws.{finds_one}
use Rattle.jn_sem_rows.specs.SlotsExample.{base, disp, Lit, eval, in_base, in_disp}
use Rattle.jn_sem_rows.specs.Views.{working, ComesTo, seen, dispatch, evaluating, one_lit, to_disp_lit, eval_and_print, Dispatch}
use Rattle.jn_sem_rows.proofs.ActTools.{number_is, result_is, one_line}
use Rattle.jn_sem_rows.proofs.MainTypes.{int_anywhere}
use Rattle.jn_sem_rows.proofs.SlotTools.{back, one_depth, masks_none, no_member}
use Rattle.jn_sem_rows.proofs.LitFamilies.{Lits}
use Rattle.jn_sem_rows.proofs.DispatchProof.{own, further, tested, lits, lit_member, body, base_body, disp_body}

-- ---- a call

result_acts : (z : ℕ) → stmts_acts 0 1 (evaluating z).body [] ≡ todo 0 (Push (Number (pos z))) ∷ todo 0 (Return true) ∷ []
result_acts z = simp (result_is, number_is)

abbrev evaluates : Path → ℕ → List Todo → Frame
evaluates V z k = record { class = V; method = evaluating z; this = seen V; vars = []; vals = []; todo = k; keeps = false }

abbrev waits : Frame
waits = record (working (in_base Lit) [] (todo 0 Print ∷ [])) { keeps = true }

abbrev result_left : Path → ℕ → Frame
result_left V z = record (evaluates V z []) { vals = Number (pos z) ∷ [] }

calls : (V : Path) (z : ℕ) → Only (IsBody dispatch V eval) (body V z)
    → Charge dispatch 1 2 (running (working (in_base Lit) (seen V ∷ []) eval_and_print ∷ []) one_lit [])
    (On (running (evaluates V z (todo 0 (Push (Number (pos z))) ∷ todo 0 (Return true) ∷ []) ∷ waits ∷ []) one_lit []))
calls V z b = record {
  did = _;
  does = found (body V z) b (found [] (record { is = refl; one = λ vs e. e }) refl);
  proceeds = holds (λ x m. elim m [ ]) (ap (λ (k : List Todo). settled (evaluates V z k ∷ waits ∷ []) one_lit []) (sym (result_acts z)));
}

returns : (V : Path) (z : ℕ)
    → Charge dispatch 1 2 (running (record (result_left V z) { todo = todo 0 (Return true) ∷ [] } ∷ waits ∷ []) one_lit [])
    (On (running (record waits { vals = Number (pos z) ∷ [] } ∷ []) one_lit []))
returns V z = record { did = _; does = found ty.Int (int_anywhere dispatch _) (holds number refl); proceeds = refl }

prints : (z : ℕ) (bytes : List ℕ) → number_line (pos z) ≡ bytes
    → Charge dispatch 1 2 (running (record waits { vals = Number (pos z) ∷ [] } ∷ []) one_lit []) (End Ends bytes)
prints z bytes e = record {
  did = Goes (record waits { todo = [] }) one_lit bytes;
  does = ap (λ (b : List ℕ). Goes (record waits { todo = [] }) one_lit b) (sym e);
  proceeds = refl;
}

evaluated : (V : Path) (z : ℕ) (bytes : List ℕ) → Only (IsBody dispatch V eval) (body V z) → number_line (pos z) ≡ bytes
    → ComesTo dispatch 1 one_lit (working (in_base Lit) (seen V ∷ []) eval_and_print) 4 (Some Ends) bytes
evaluated V z bytes b e = (
  _,
  calls V z b,
  (
    _,
    record { did = _; does = refl; proceeds = refl },
    (
      _,
      returns V z,
      (_, prints z bytes e, refl),
    ),
  ),
)

two_line : number_line (pos 2) ≡ codes "2\n"
unfolding digits
two_line = refl

-- ---- a view change

abbrev lit_atom : Atom
lit_atom = atom Root (disp ∷ []) (Lit ∷ [])

no_disp_inside : (j : ℕ) → j < 2 → Member dispatch (drop j (in_base Lit)) disp → ⊥
no_disp_inside zero l m = no_member dispatch tested.flat Lit base disp m
no_disp_inside (suc zero) l m = not_named (class_named dispatch Lits tested.plain base disp m) where
  not_named : false ≡ true → ⊥
  not_named e = cc
no_disp_inside (suc (suc j)) l m = absurd (omega (arith, l))

abbrev viewing : List Value → Frame
viewing vs = working (in_base Lit) vs eval_and_print

target : (vs : List Value) → IsTargetFamily dispatch (viewing vs) to_disp_lit disp
target vs = record {
  atom = lit_atom;
  resolved = record {
    given = shown_atom lit_atom;
    masks = no_masks;
    resolved = record {
      atoms = Ok (shown_atom lit_atom ∷ []);
      all = first_term {t = to_disp_lit.term} (shown_atom lit_atom) (Ok []) (record {
        anchor = Ok Root;
        given = record {
          found = Ok 2;
          sought = found_at 2 None (record { within = omega arith; member = top_member dispatch disp refl; innermost = no_disp_inside }) (inl (lit_member, refl)) refl;
          gives = refl;
        };
        gives = in_class lits.one.kind refl;
      }) (none refl) refl;
      gives = one (one_depth (in_disp Lit)) (record { first = None; unfit = refl; gives = record { masks = no_masks; are = masks_none (mask_names dispatch); gives = refl } });
    };
    is = refl;
  };
  seen = tt;
  is = refl;
}

only_target : (vs : List Value) → Only (IsTargetFamily dispatch (viewing vs) to_disp_lit) disp
only_target vs = record { is = target vs; one = λ Y x. (finds_one dispatch).family (viewing vs) to_disp_lit Y disp x (target vs) }

to_disp : Only (Counterpart dispatch disp (in_base Lit)) (in_disp Lit)
to_disp = record { is = is_it; one = λ W x. (finds_one dispatch).counterpart disp (in_base Lit) W (in_disp Lit) x is_it } where
  is_it : Counterpart dispatch disp (in_base Lit) (in_disp Lit)
  is_it = record { is = refl; related = back own further lits }

-- ---- the rows

pub dispatch_rows : Dispatch
dispatch_rows = record {
  at_base = evaluated (in_base Lit) 1 (codes "1\n") base_body one_line;
  at_disp = evaluated (in_disp Lit) 2 (codes "2\n") disp_body two_line;
  viewed = (
    _,
    record { did = _; does = found disp (only_target (seen (in_base Lit) ∷ [])) (found (in_disp Lit) to_disp refl); proceeds = refl },
    evaluated (in_disp Lit) 2 (codes "2\n") disp_body two_line,
  );
  null_viewed = (
    _,
    record { did = _; does = found disp (only_target (Null ∷ [])) refl; proceeds = refl },
    (_, record { did = _; does = refl; proceeds = refl }, refl),
  );
  equal = (_, record { did = _; does = refl; proceeds = refl }, (_, record { did = _; does = refl; proceeds = refl }, refl));
}
