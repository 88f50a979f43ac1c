-- The runs of fields at two views, and of new objects.
use Rattle.std.proofs.Common.{◌≡◌, ℕ, List, [], ◌∷◌, refl, sym, ap}
use Rattle.std.specs.Prelude.{pos, codes}
use Rattle.std.specs.Fmt.{digits}
use Rattle.jn_steps.specs.Runs.{End}
use Rattle.jn_steps.specs.Steps.{Goes}
use Rattle.jn_steps.specs.Numbers.{number_line}
use Rattle.jn_base.specs.declared.types.Ty.TheVariants as ty
use Rattle.jn_base.specs.Paths.{Path}
use Rattle.jn_sem.specs.Asks.{found, not_found, holds}
use Rattle.jn_sem.specs.Values.{Number, number}
use Rattle.jn_sem.specs.Acts.{Print, todo}
use Rattle.jn_sem.specs.State.{Heap}
use Rattle.jn_sem.specs.Does.{Ends}
use Rattle.jn_sem.specs.Run.{running, Charge}
use Rattle.jn_sem_rows.specs.SlotsExample.{base, disp, Lit, v, tag, in_base, in_disp, tagged}
use Rattle.jn_sem_rows.specs.Views.{working, FieldViews, NewObjects, get_and_print}
use Rattle.jn_sem_rows.proofs.SlotsProof.{slot_v, slot_tag, lits}
use Rattle.jn_sem_rows.proofs.TaggedProof.{v_of_base, v_of_disp, tag_of_disp, v_slot_of_base, v_slot_of_disp, tag_slot, size_of_base, size_of_disp, zero_v, zero_tag, fresh_of_base, fresh_of_disp, no_constructor, only_new}

-- a `print` of a number, with which the run ends
shows : (z a : ℕ) (h : Heap) (V : Path) (bytes : List ℕ) → number_line (pos z) ≡ bytes
    → Charge tagged a 2 (running (working V (Number (pos z) ∷ []) (todo 0 Print ∷ []) ∷ []) h []) (End Ends bytes)
shows z a h V bytes e = record {
  did = Goes (working V [] []) h bytes;
  does = ap (λ (b : List ℕ). Goes (working V [] []) h b) (sym e);
  proceeds = refl;
}

zero_line : number_line (pos 0) ≡ codes "0\n"
unfolding digits
zero_line = refl

five_line : number_line (pos 5) ≡ codes "5\n"
unfolding digits
five_line = refl

six_line : number_line (pos 6) ≡ codes "6\n"
unfolding digits
six_line = refl

seven_line : number_line (pos 7) ≡ codes "7\n"
unfolding digits
seven_line = refl

pub field_views : FieldViews
field_views = record {
  at_base = (
    _,
    record { did = _; does = found ty.Int v_of_base (found slot_v v_slot_of_base refl); proceeds = refl },
    (_, shows 5 3 _ (in_base Lit) (codes "5\n") five_line, refl),
  );
  at_disp = (
    _,
    record { did = _; does = found ty.Int v_of_disp (found slot_v v_slot_of_disp refl); proceeds = refl },
    (_, shows 5 3 _ (in_base Lit) (codes "5\n") five_line, refl),
  );
  stored = (
    _,
    record { did = _; does = found ty.Int v_of_disp (found slot_v v_slot_of_disp (holds number refl)); proceeds = refl },
    (
      _,
      record { did = _; does = refl; proceeds = refl },
      (
        _,
        record { did = _; does = found ty.Int v_of_base (found slot_v v_slot_of_base refl); proceeds = refl },
        (_, shows 6 3 _ (in_base Lit) (codes "6\n") six_line, refl),
      ),
    ),
  );
  masked = (_, record { did = _; does = found ty.Int tag_of_disp (found slot_tag tag_slot refl); proceeds = refl }, refl);
  unmasked = (
    _,
    record { did = _; does = found ty.Int tag_of_disp (found slot_tag tag_slot (holds number refl)); proceeds = refl },
    (
      _,
      record { did = _; does = refl; proceeds = refl },
      (
        _,
        record { did = _; does = found ty.Int tag_of_disp (found slot_tag tag_slot refl); proceeds = refl },
        (_, shows 7 3 _ (in_base Lit) (codes "7\n") seven_line, refl),
      ),
    ),
  );
}

pub new_objects : NewObjects
new_objects = record {
  fits = (
    _,
    record {
      did = _;
      does = found (in_base Lit) (only_new base [] (get_and_print v)) (holds lits.other (found 3 size_of_base (found (zero_v ∷ []) fresh_of_base
          (not_found (no_constructor base refl) refl))));
      proceeds = refl;
    },
    (
      _,
      record { did = _; does = found ty.Int v_of_base (found slot_v v_slot_of_base refl); proceeds = refl },
      (_, shows 0 6 _ (in_base Lit) (codes "0\n") zero_line, refl),
    ),
  );
  full = (
    _,
    record {
      did = _;
      does = found (in_base Lit) (only_new base [] (get_and_print v)) (holds lits.other (found 3 size_of_base (found (zero_v ∷ []) fresh_of_base
          (not_found (no_constructor base refl) refl))));
      proceeds = refl;
    },
    refl,
  );
  of_disp = (
    _,
    record {
      did = _;
      does = found (in_disp Lit) (only_new disp [] (get_and_print tag)) (holds lits.one (found 3 size_of_disp (found (zero_tag ∷ zero_v ∷ []) fresh_of_disp
          (not_found (no_constructor disp refl) refl))));
      proceeds = refl;
    },
    (
      _,
      record { did = _; does = found ty.Int tag_of_disp (found slot_tag tag_slot refl); proceeds = refl },
      (_, shows 0 6 _ (in_disp Lit) (codes "0\n") zero_line, refl),
    ),
  );
}
