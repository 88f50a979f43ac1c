-- Calls, fields behind a receiver and new objects, from what is emitted one behind another.
use Rattle.std.proofs.Common.{◌≡◌, ◌++◌, ◌≤◌, ℕ, List, [], ◌∷◌, true, sym, ap, ◌∙◌, subst, arith}
use Rattle.std.specs.Prelude.{Some, None, slice_get}
use Rattle.jn_base.specs.declared.tree.Node.TheVariants as node
use Rattle.jn_base.specs.declared.tree.Suffix.{out-Suffix}
use Rattle.jn_base.specs.Parts.{expr}
use Rattle.jn_code.specs.declared.instr.Instr.TheVariants as ins
use Rattle.jn_code.specs.declared.image.Code.{Code}
use Rattle.jn_agree.specs.Places.{HasKind, dropping, tuck}
use Rattle.jn_places.specs.ExprPlaces.{at_new, at_super, at_bare_super, at_post, no_args, one_arg, no_parts, last_part, one_part, at_field, at_call}
use Rattle.jn_lower.specs.declared.emitter.Emitter.{Emitter}
use Rattle.jn_lower.specs.Placed.{Nothing, Are, Behind}
use Rattle.jn_lower.specs.Emitted.{Fits, Keeps, Emitted, Places, had, next, IsSpare}
use Rattle.jn_lower.specs.Forms.{Value}
use Rattle.jn_lower.specs.Called.{Args, ArgsBehind, NoArgsStand, OneArgStands, Parts, Part, PartsBehind, PartsBehindPart, PostStands, NoPartsStand, LastPartStands, OnePartStands, FieldStands, CallArgs, CallStands, NewArgs, NewStands, Tucks, SuperArgs, SuperStands, BareSuperStands}
use Rattle.jn_lower.proofs.Seams as seams
use Rattle.jn_lower.proofs.Growing.{none, means, means_where, behind, added, emitted, keeps_all, keeps_trans}
use Rattle.jn_lower.proofs.Holding.{at_front}

-- ---- arguments

pub no_args_so : NoArgsStand
no_args_so p n scratch h from to sc c0 =
    means Nothing (Args p n scratch h from [] [] to sc) c0 c0 (λ c s t r. no_args from to sc s t r) (none c0)

pub one_arg_so : OneArgStands
one_arg_so p n scratch h from x xs e es to sc c0 c1 new a rest =
    let V = Value p n scratch h sc true e in
    let R = ArgsBehind p n scratch h from x xs e es to sc in
    means (Behind V R) (Args p n scratch h from (x ∷ xs) (e ∷ es) to sc) c0 new
    (λ c s t r. one_arg from x xs e es to sc s r.0 t r.1 r.2) (behind V R c0 c1 new a rest)

-- ---- what stands behind a receiver

pub post_so : PostStands
post_so p n scratch h sc keeps pl e zs c0 c1 new a rest =
    let V = Value p n scratch h sc true e in
    let R = PartsBehind p n scratch h sc e keeps zs in
    means (Behind V R) (Value p n scratch h sc keeps (expr pl (node.Post e zs))) c0 new
    (λ c s t r. at_post sc keeps pl e zs s r.0 t r.1 r.2) (behind V R c0 c1 new a rest)

pub no_parts_so : NoPartsStand
no_parts_so p n scratch h x c0 =
    means Nothing (Parts p n scratch h x true []) c0 c0 (λ c s t r. no_parts x s t r) (none c0)

pub last_part_so : LastPartStands
last_part_so p n scratch h x keeps z c0 new a =
    means (Part p n scratch h x keeps (out-Suffix z).name.name (out-Suffix z).args)
    (Parts p n scratch h x keeps (z ∷ [])) c0 new (λ c s t r. last_part x keeps z s t r) a

pub one_part_so : OnePartStands
one_part_so p n scratch h x keeps z w ws c0 c1 new a rest =
    let F = Part p n scratch h x true (out-Suffix z).name.name (out-Suffix z).args in
    let R = PartsBehindPart p n scratch h x keeps z (w ∷ ws) in
    means (Behind F R) (Parts p n scratch h x keeps (z ∷ (w ∷ ws))) c0 new
    (λ c s t r. one_part x keeps z w ws s r.0 t r.1 r.2) (behind F R c0 c1 new a rest)

pub field_so : FieldStands
field_so p n scratch h x f j kind c0 new sel kinds add =
    means (Are (ins.Get j ∷ [])) (Part p n scratch h x true f None) c0 new
    (λ c s t r. at_field x f j kind s t sel kinds r) (added (ins.Get j ∷ []) c0 new add)

pub call_so : CallStands
call_so p n scratch h x keeps f es j shape c0 c1 new a shaped sel many add =
    let A = CallArgs p n scratch h x f es in
    let O = Are (ins.Call j ∷ dropping keeps shape.result) in
    means (Behind A O) (Part p n scratch h x keeps f (Some es)) c0 new
    (λ c s t r. at_call x keeps f es j shape s r.0 t r.1 shaped sel many r.2)
    (behind A O c0 c1 new a (added (ins.Call j ∷ dropping keeps shape.result) c1 new add))

-- ---- new objects

pub new_so : NewStands
new_so p n scratch h sc keeps pl t es x cls ctor c0 c1 new a is shaped class made add =
    let A = NewArgs p n scratch h sc x es in
    let O = Are (cls ++ ins.New ∷ (ctor ++ dropping keeps 3)) in
    means (Behind A O) (Value p n scratch h sc keeps (expr pl (node.New t es))) c0 new
    (λ c s e r. at_new sc keeps pl t es x cls ctor s r.0 e is r.1.by r.1.without shaped class made r.2)
    (behind A O c0 c1 new a (added (cls ++ ins.New ∷ (ctor ++ dropping keeps 3)) c1 new add))

-- ---- super

placed_keeps : (kind : ℕ) (old new : List ℕ) → Places kind old new → (j k : ℕ) → slice_get old j ≡ Some k
    → slice_get new j ≡ Some k
placed_keeps kind old new (had i e same) j k h = subst (λ xs. slice_get xs j ≡ Some k) (sym same) h
placed_keeps kind old new (next fresh e) j k h =
    subst (λ xs. slice_get xs j ≡ Some k) (sym e) (at_front old (kind ∷ []) j k h)

spare_keeps : (kind q : ℕ) (old new : Emitter) → IsSpare kind old new q → Keeps old.locals new.locals
spare_keeps kind q old new e = record {
  kinds = λ i k h. subst (λ xs. slice_get xs i ≡ Some k) (sym e.kinds) h;
  spare = λ j k h. placed_keeps kind old.locals.spare new.locals.spare e.has.places j k h;
  scratch = e.scratch;
}

-- the scratch local of the kind, and what brings `this` below
abbrev Tucked : ℕ → ℕ → Code → ℕ → ℕ → Type 0
Tucked scratch kind c s t = (q : ℕ) × (scratch ≤ q) × HasKind c q kind × Are (tuck q) c s t

tucked : (kind : ℕ) (old new : Emitter) → Tucks kind old new → Emitted (Tucked old.locals.scratch kind) old new
tucked kind old new e =
    means_where (Are (tuck e.number)) (Tucked old.locals.scratch kind) old new
    (λ c s t fits run. (e.number, over, has c fits, run))
    (emitted (Are (tuck e.number)) old new
    (keeps_trans old.locals e.mid.locals new.locals (spare_keeps kind e.number old e.mid e.spare)
    (keeps_all e.mid.locals new.locals e.added.locals))
    (seams.means (Are (tuck e.number)) (λ c s t. Fits new.locals c → Are (tuck e.number) c s t) old.instrs new.instrs
    (λ c s t run fits. run)
    (seams.added (tuck e.number) old.instrs new.instrs
    (e.added.instrs ∙ ap (λ xs. xs ++ tuck e.number) e.spare.instrs))))
  where
    over : old.locals.scratch ≤ e.number
    over = omega (arith, e.spare.number, e.spare.scratch)

    has : (c : Code) → Fits new.locals c → HasKind c e.number kind
    has c fits =
        let f = subst (λ l. Fits l c) e.added.locals fits in
        subst (λ q. HasKind c q kind) (sym e.spare.number) (f.spare e.spare.place kind e.spare.has.at)

pub super_so : SuperStands
super_so p n scratch h sc keeps pl t f e es B kind k j kinds shape c0 c1 c2 c3 new a same tucks is args shaped class sel first many add =
    let V = Value p n scratch h sc true e in
    let T = Tucked scratch kind in
    let A = SuperArgs p n scratch h sc f.name B e es in
    let O = Are (ins.Cls k ∷ ins.Callat j ∷ dropping keeps shape.result) in
    means (Behind V (Behind T (Behind A O))) (Value p n scratch h sc keeps (expr pl (node.Super t f (e ∷ es)))) c0 new
    (λ c s u r. at_super sc keeps pl t f e es B r.2.1.0 kind k j kinds shape s r.0 r.2.0 r.2.2.0 u r.1 r.2.1.1 r.2.1.2
    r.2.1.3 is r.2.2.1 shaped class sel first many r.2.2.2)
    (behind V (Behind T (Behind A O)) c0 c1 new a (behind T (Behind A O) c1 c2 new
    (subst (λ q. Emitted (Tucked q kind) c1 c2) same (tucked kind c1 c2 tucks))
    (behind A O c2 c3 new args (added (ins.Cls k ∷ ins.Callat j ∷ dropping keeps shape.result) c3 new add))))

pub bare_super_so : BareSuperStands
bare_super_so p n scratch h sc keeps pl t f B k j shape c0 new is shaped class sel none_of add =
    let O = Are (ins.Load 0 ∷ ins.Cls k ∷ ins.Callat j ∷ dropping keeps shape.result) in
    means O (Value p n scratch h sc keeps (expr pl (node.Super t f []))) c0 new
    (λ c s u r. at_bare_super sc keeps pl t f B k j shape s u is shaped class sel none_of r)
    (added (ins.Load 0 ∷ ins.Cls k ∷ ins.Callat j ∷ dropping keeps shape.result) c0 new add)
