-- Declarations of locals and assignments, from what is emitted one behind another.
use Rattle.std.proofs.Common.{◌≡◌, ◌++◌, ℕ, zero, suc, List, [], ◌∷◌, length, Bool, true, false, refl, sym, ap, ◌∙◌, subst}
use Rattle.std.specs.Prelude.{Some, slice_get}
use Rattle.jn_base.specs.declared.tree.Stmt.TheVariants as stmt
use Rattle.jn_base.specs.declared.tree.Program.{Program}
use Rattle.jn_base.specs.declared.types.Ty.{Ty}
use Rattle.jn_base.specs.declared.types.Ty.TheVariants as ty
use Rattle.jn_base.specs.Resolve.{is_class}
use Rattle.jn_code.specs.declared.instr.Instr.{Instr}
use Rattle.jn_code.specs.declared.instr.Instr.TheVariants as ins
use Rattle.jn_code.specs.declared.image.Code.{Code}
use Rattle.jn_rules.specs.Stmts.{here}
use Rattle.jn_agree.specs.Naming.{Naming}
use Rattle.jn_agree.specs.Rows.{kind_of_type}
use Rattle.jn_agree.specs.Places.{Run, HasKind, binding}
use Rattle.jn_places.specs.StmtPlaces.{local_at, assign_at, set_at}
use Rattle.jn_lower.specs.declared.emitter.Locals.{Locals}
use Rattle.jn_lower.specs.declared.emitter.Emitter.{Emitter}
use Rattle.jn_lower.specs.Placed.{Are, Behind}
use Rattle.jn_lower.specs.Emitted.{Fits, Keeps, Emitted, had, next, HasPlace}
use Rattle.jn_lower.specs.Forms.{Value}
use Rattle.jn_lower.specs.Composed.{Stmts, StmtsBehind}
use Rattle.jn_lower.specs.Stores.{stored, Binds, LocalStands, AssignStands, ValueBehind, SetStands}
use Rattle.jn_lower.proofs.Seams as seams
use Rattle.jn_lower.proofs.Growing.{means, means_where, behind, added, emitted}

-- ---- lists of kinds

pub at_end : (xs : List ℕ) (x : ℕ) → slice_get (xs ++ x ∷ []) (length xs) ≡ Some x
at_end [] x = refl
at_end (y ∷ xs) x = at_end xs x

pub at_front : (xs more : List ℕ) (k x : ℕ) → slice_get xs k ≡ Some x → slice_get (xs ++ more) k ≡ Some x
at_front [] more k x e = absurd cc
at_front (y ∷ xs) more zero x e = e
at_front (y ∷ xs) more (suc k) x e = at_front xs more k x e

-- the place of a kind that the list has, and of one that it gets
pub placed_had : (kind j : ℕ) (xs ys : List ℕ) → ys ≡ xs → slice_get ys j ≡ Some kind → HasPlace kind xs xs j
placed_had kind j xs ys e at =
    let there : slice_get xs j ≡ Some kind = subst (λ zs. slice_get zs j ≡ Some kind) e at in
    record { at = there; places = had j there refl }

pub placed_next : (kind j : ℕ) (xs ys new : List ℕ) → ys ≡ xs → ((i : ℕ) → slice_get ys i ≡ Some kind → ⊥)
    → j ≡ length xs → new ≡ xs ++ kind ∷ [] → HasPlace kind xs new j
placed_next kind j xs ys new e fresh is added = record {
  at = subst (λ i. slice_get new i ≡ Some kind) (sym is)
      (subst (λ zs. slice_get zs (length xs) ≡ Some kind) (sym added) (at_end xs kind));
  places = next (λ i h. fresh i (subst (λ zs. slice_get zs i ≡ Some kind) (sym e) h)) added;
}

-- one more local
pub one_more : (old new : Locals) (kind : ℕ) → new.kinds ≡ old.kinds ++ kind ∷ [] → new.spare ≡ old.spare
    → new.scratch ≡ old.scratch → Keeps old new
one_more old new kind e f g = record {
  kinds = λ q k h. subst (λ xs. slice_get xs q ≡ Some k) (sym e) (at_front old.kinds (kind ∷ []) q k h);
  spare = λ j k h. subst (λ xs. slice_get xs j ≡ Some k) (sym f) h;
  scratch = g;
}

-- ---- locals

pub stored_is : (p : Program) (n : Naming) (scratch : ℕ) (c : Code) (fixed : Bool) (type : Ty) (q : ℕ)
    → stored fixed (is_class type) q ≡ binding p n scratch c fixed type q
stored_is p n scratch c false type q = refl
stored_is p n scratch c true ty.Int q = refl
stored_is p n scratch c true ty.Bool q = refl
stored_is p n scratch c true ty.Null q = refl
stored_is p n scratch c true ty.Void q = refl
stored_is p n scratch c true (ty.Class xs m) q = refl

-- what binds the next local, and its kind
abbrev Bound : Bool → Ty → ℕ → Code → ℕ → ℕ → Type 0
Bound fixed type q c s t = HasKind c q (kind_of_type type) × Are (stored fixed (is_class type) q) c s t

bound : (fixed : Bool) (type : Ty) (old new : Emitter) → Binds fixed (is_class type) (kind_of_type type) old new
    → Emitted (Bound fixed type (length old.locals.kinds)) old new
bound fixed type old new e =
    means_where (Are xs) (Bound fixed type (length old.locals.kinds)) old new
    (λ c s t fits run. (fits.kinds (length old.locals.kinds) (kind_of_type type) at, run))
    (emitted (Are xs) old new
    (one_more old.locals new.locals (kind_of_type type) e.kinds e.spare e.scratch)
    (seams.means (Are xs) (λ c s t. Fits new.locals c → Are xs c s t) old.instrs new.instrs (λ c s t run fits. run)
    (seams.added xs old.instrs new.instrs e.instrs)))
  where
    xs : List Instr
    xs = stored fixed (is_class type) (length old.locals.kinds)

    at : slice_get new.locals.kinds (length old.locals.kinds) ≡ Some (kind_of_type type)
    at =
        ap (λ ks. slice_get ks (length old.locals.kinds)) e.kinds ∙ at_end old.locals.kinds (kind_of_type type)

pub local_so : LocalStands
local_so p n scratch b x final ty name e type ss c0 c1 c2 new a is numbered binds rest =
    let V = Value p n scratch (here b x) x.scope true e in
    let O = Bound final type x.next in
    let R = StmtsBehind p n scratch b x (stmt.Local final ty name e) ss in
    means (Behind V (Behind O R)) (Stmts p n scratch b x (stmt.Local final ty name e ∷ ss)) c0 new
    (λ c s t r. local_at x final ty name e type ss s r.0 r.2.0 t r.1 is r.2.1.0
    (subst (λ xs. Run c.instrs xs r.0 r.2.0) (stored_is p n scratch c final type x.next) r.2.1.1) r.2.2)
    (behind V (Behind O R) c0 c1 new a
    (behind O R c1 c2 new (subst (λ q. Emitted (Bound final type q) c1 c2) numbered (bound final type c1 c2 binds)) rest))

pub assign_so : AssignStands
assign_so p n scratch b x name e v ss c0 c1 c2 new a found known add rest =
    let V = Value p n scratch (here b x) x.scope true e in
    let O = λ (c : Code) (s t : ℕ). HasKind c v.path (kind_of_type v.ty) × Are (ins.Store v.path ∷ []) c s t in
    let R = StmtsBehind p n scratch b x (stmt.Assign name e) ss in
    let kept = subst (λ l. slice_get l.kinds v.path ≡ Some (kind_of_type v.ty)) (sym add.locals) known in
    means (Behind V (Behind O R)) (Stmts p n scratch b x (stmt.Assign name e ∷ ss)) c0 new
    (λ c s t r. assign_at x name e v ss s r.0 r.2.0 t r.1 found r.2.1.0 r.2.1.1 r.2.2)
    (behind V (Behind O R) c0 c1 new a (behind O R c1 c2 new
    (means_where (Are (ins.Store v.path ∷ [])) O c1 c2
    (λ c s t fits run. (fits.kinds v.path (kind_of_type v.ty) kept, run)) (added (ins.Store v.path ∷ []) c1 c2 add)) rest))

pub set_so : SetStands
set_so p n scratch b x r f e j kind ss c0 c1 c2 c3 new a value sel kinds add rest =
    let V = Value p n scratch (here b x) x.scope true r in
    let W = ValueBehind p n scratch b x r e in
    let O = Are (ins.Put j ∷ []) in
    let R = StmtsBehind p n scratch b x (stmt.Set r f e) ss in
    means (Behind V (Behind W (Behind O R))) (Stmts p n scratch b x (stmt.Set r f e ∷ ss)) c0 new
    (λ c s t z. set_at x r f e j kind ss s z.0 z.2.0 z.2.2.0 t z.1 z.2.1 sel kinds z.2.2.1 z.2.2.2)
    (behind V (Behind W (Behind O R)) c0 c1 new a (behind W (Behind O R) c1 c2 new value
    (behind O R c2 c3 new (added (ins.Put j ∷ []) c2 c3 add) rest)))
