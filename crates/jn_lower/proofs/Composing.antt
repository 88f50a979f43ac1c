-- Forms with parts, from what is emitted one behind another.
use Rattle.std.proofs.Common.{◌++◌, ℕ, [], ◌∷◌, true, subst}
use Rattle.std.specs.Prelude.{Ok, map}
use Rattle.jn_base.specs.declared.tree.Node.TheVariants as node
use Rattle.jn_base.specs.declared.tree.Stmt.TheVariants as stmt
use Rattle.jn_base.specs.declared.types.Ty.TheVariants as ty
use Rattle.jn_base.specs.Parts.{expr}
use Rattle.jn_code.specs.declared.instr.Instr.TheVariants as ins
use Rattle.jn_code.specs.declared.image.Code.{Code}
use Rattle.jn_rules.specs.Questions.{Gives}
use Rattle.jn_rules.specs.Exprs.{Typed, plain, operator_type, expr_types}
use Rattle.jn_rules.specs.Stmts.{Before, here, block_typed, stmt_types}
use Rattle.jn_agree.specs.Places.{operator, deciding, decided_by}
use Rattle.jn_places.specs.ExprPlaces.{at_view, LinksAt, at_not, at_neg, at_chain, one_link, one_deciding}
use Rattle.jn_places.specs.StmtPlaces.{StmtsAt, numbered_from, if_at, while_at}
use Rattle.jn_lower.specs.Placed.{Are, Behind, Branches, Turns}
use Rattle.jn_lower.specs.Forms.{Value}
use Rattle.jn_lower.specs.Composed.{ViewStands, NotStands, NegStands, Links, LinksBehind, ChainStands, StrictStands, DecidingStands, Stmts, StmtsBehind, IfStands, WhileStands}
use Rattle.jn_lower.proofs.Growing.{means, behind, added, branches, turns}

pub not_so : NotStands
not_so p n scratch h sc pl e c0 c1 new a add =
    let V = Value p n scratch h sc true e in
    means (Behind V (Are (ins.Not ∷ []))) (Value p n scratch h sc true (expr pl (node.Not e))) c0 new
    (λ c s t r. at_not sc pl e s r.0 t r.1 r.2) (behind V (Are (ins.Not ∷ [])) c0 c1 new a (added (ins.Not ∷ []) c1 new add))

pub neg_so : NegStands
neg_so p n scratch h sc pl e c0 c1 new a add =
    let V = Value p n scratch h sc true e in
    means (Behind V (Are (ins.Neg ∷ []))) (Value p n scratch h sc true (expr pl (node.Neg e))) c0 new
    (λ c s t r. at_neg sc pl e s r.0 t r.1 r.2) (behind V (Are (ins.Neg ∷ [])) c0 c1 new a (added (ins.Neg ∷ []) c1 new add))

pub view_so : ViewStands
view_so p n scratch h sc pl v e x cls c0 c1 new a is code add =
    let V = Value p n scratch h sc true e in
    let O = Are (cls ++ ins.Conv ∷ []) in
    means (Behind V O) (Value p n scratch h sc true (expr pl (node.View v e))) c0 new
    (λ c s t r. at_view sc pl v e x cls s r.0 t r.1 is code r.2)
    (behind V O c0 c1 new a (added (cls ++ ins.Conv ∷ []) c1 new add))

pub chain_so : ChainStands
chain_so p n scratch h sc pl level e ls c0 c1 new a b =
    let V = Value p n scratch h sc true e in
    let L = LinksBehind p n scratch h sc e ls in
    means (Behind V L) (Value p n scratch h sc true (expr pl (node.Chain level e ls))) c0 new
    (λ c s t r. at_chain sc pl level e ls s r.0 t r.1 r.2) (behind V L c0 c1 new a b)

pub strict_so : StrictStands
strict_so p n scratch h x l ls kind c0 c1 c2 new strict a kinds add rest =
    let V = Value p n scratch h x.scope true l.right in
    let O = Are (operator l.op kind) in
    let L = λ (c : Code) (s t : ℕ). (y : Typed) → Gives p (expr_types h l.right x.scope) (Ok y)
    → LinksAt p n scratch c h (plain (operator_type l.op) y.scope) ls s t in
    means (Behind V (Behind O L)) (Links p n scratch h x (l ∷ ls)) c0 new
    (λ c s t r. one_link x l ls kind s r.0 r.2.0 t strict r.1 kinds r.2.1 r.2.2)
    (behind V (Behind O L) c0 c1 new a (behind O L c1 c2 new (added (operator l.op kind) c1 c2 add) rest))

pub deciding_so : DecidingStands
deciding_so p n scratch h x l ls and i j c0 c1 c2 c3 c4 c5 c6 new decides e1 a e3 e4 e5 e6 rest =
    let V = Value p n scratch h x.scope true l.right in
    let O = Are (decided_by and ∷ []) in
    let B = Branches (deciding and) V O in
    let L = λ (c : Code) (s t : ℕ). (y : Typed) → Gives p (expr_types h l.right x.scope) (Ok y)
    → LinksAt p n scratch c h (plain ty.Bool y.scope) ls s t in
    means (Behind B L) (Links p n scratch h x (l ∷ ls)) c0 new
    (λ c s t r. one_deciding x l ls and s r.1.0 r.0 t decides r.1.1 r.1.2 r.1.3 r.1.4 r.2)
    (behind B L c0 c6 new
    (branches (deciding and) V O i j c0 c1 c2 c3 c4 c5 c6 e1 a e3 (added (decided_by and ∷ []) c3 c4 e4) e5 e6) rest)

pub if_so : IfStands
if_so p n scratch b x e one other pl ss i j c0 c1 c2 c3 c4 c5 c6 c7 new a e2 first e4 second e6 e7 rest =
    let V = Value p n scratch (here b x) x.scope true e in
    let F = Stmts p n scratch b x one in
    let S = λ (c : Code) (s t : ℕ). (y : Before) → Gives p (block_typed (map (stmt_types b) one) x) (Ok y)
    → StmtsAt p n scratch c b (numbered_from x y.next) other s t in
    let B = Branches ins.Jfalse F S in
    let R = StmtsBehind p n scratch b x (stmt.If e one other pl) ss in
    means (Behind V (Behind B R)) (Stmts p n scratch b x (stmt.If e one other pl ∷ ss)) c0 new
    (λ c s t r. if_at x e one other pl ss s r.0 r.2.1.0 r.2.0 t r.1 r.2.1.1 r.2.1.2 r.2.1.3 r.2.1.4 r.2.2)
    (behind V (Behind B R) c0 c1 new a (behind B R c1 c7 new (branches ins.Jfalse F S i j c1 c2 c3 c4 c5 c6 c7 e2 first e4 second e6 e7) rest))

pub while_so : WhileStands
while_so p n scratch b x e body pl ss i c0 c1 c2 c3 c4 c5 new a e2 first e4 e5 rest =
    let V = Value p n scratch (here b x) x.scope true e in
    let F = Stmts p n scratch b x body in
    let T = Turns V F in
    let R = StmtsBehind p n scratch b x (stmt.While e body pl) ss in
    means (Behind T R) (Stmts p n scratch b x (stmt.While e body pl ∷ ss)) c0 new
    (λ c s t r. while_at x e body pl ss s r.1.0 r.1.1 t r.1.2 r.1.3 r.1.4 r.1.5 (subst (λ k. R c k t) r.1.6 r.2))
    (behind T R c0 c5 new (turns V F i c0 c1 c2 c3 c4 c5 a e2 first e4 e5) rest)
