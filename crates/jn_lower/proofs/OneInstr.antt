-- Forms of one instruction.
use Rattle.std.proofs.Common.{ℕ, [], ◌∷◌, true, sym, subst}
use Rattle.jn_base.specs.declared.tree.Node.TheVariants as node
use Rattle.jn_base.specs.Parts.{expr}
use Rattle.jn_code.specs.declared.instr.Instr.TheVariants as ins
use Rattle.jn_agree.specs.Places.{Run, bit}
use Rattle.jn_places.specs.ExprPlaces.{at_number, at_truth, at_null, at_this, at_var}
use Rattle.jn_lower.specs.declared.emitter.Emitter.{Emitter}
use Rattle.jn_lower.specs.Placed.{Are}
use Rattle.jn_lower.specs.Emitted.{Emitted}
use Rattle.jn_lower.specs.Forms.{Value, StandsAsValue, StandsAsVar}
use Rattle.jn_lower.proofs.Growing.{means}

pub number_so : (old new : Emitter) (z : _) → Emitted (Are (ins.Int z ∷ [])) old new → StandsAsValue (node.Int z) old new
number_so old new z a p n scratch h sc pl =
    means (Are (ins.Int z ∷ [])) (Value p n scratch h sc true (expr pl (node.Int z))) old new
    (λ c s t r. at_number sc pl z s t r) a

pub truth_so : (old new : Emitter) (b : _) → Emitted (Are (ins.Bool (bit b) ∷ [])) old new → StandsAsValue (node.Bool b) old new
truth_so old new b a p n scratch h sc pl =
    means (Are (ins.Bool (bit b) ∷ [])) (Value p n scratch h sc true (expr pl (node.Bool b))) old new
    (λ c s t r. at_truth sc pl b s t r) a

pub null_so : (old new : Emitter) → Emitted (Are (ins.Null ∷ [])) old new → StandsAsValue node.Null old new
null_so old new a p n scratch h sc pl =
    means (Are (ins.Null ∷ [])) (Value p n scratch h sc true (expr pl node.Null)) old new
    (λ c s t r. at_null sc pl s t r) a

pub this_so : (old new : Emitter) → Emitted (Are (ins.Load 0 ∷ [])) old new → StandsAsValue node.This old new
this_so old new a p n scratch h sc pl =
    means (Are (ins.Load 0 ∷ [])) (Value p n scratch h sc true (expr pl node.This)) old new
    (λ c s t r. at_this sc pl s t r) a

pub var_so : (old new : Emitter) (q : ℕ) → Emitted (Are (ins.Load q ∷ [])) old new → StandsAsVar q old new
var_so old new q a p n scratch h sc pl x y found e =
    means (Are (ins.Load q ∷ [])) (Value p n scratch h sc true (expr pl (node.Var x))) old new
    (λ c s t r. at_var sc pl x y s t found (subst (λ k. Run c.instrs (ins.Load k ∷ []) s t) (sym e) r)) a
