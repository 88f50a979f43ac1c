-- Statements without jumps, from what is emitted one behind another.
use Rattle.std.proofs.Common.{[], ◌∷◌, true, false}
use Rattle.std.specs.Prelude.{Some, None}
use Rattle.jn_base.specs.declared.tree.Stmt.TheVariants as stmt
use Rattle.jn_code.specs.declared.instr.Instr.TheVariants as ins
use Rattle.jn_rules.specs.Stmts.{here}
use Rattle.jn_places.specs.StmtPlaces.{no_stmts, block_at, do_at, return_at, end_at, print_at, text_at}
use Rattle.jn_lower.specs.Placed.{Nothing, Are, Behind}
use Rattle.jn_lower.specs.Forms.{Value}
use Rattle.jn_lower.specs.Composed.{Stmts, StmtsBehind}
use Rattle.jn_lower.specs.Plainly.{NoneStands, BlockStands, DoStands, ReturnStands, EndStands, PrintStands, TextStands}
use Rattle.jn_lower.proofs.Growing.{none, means, behind, added}

pub none_so : NoneStands
none_so p n scratch b x c0 =
    means Nothing (Stmts p n scratch b x []) c0 c0 (λ c s t r. no_stmts x s t r) (none c0)

pub block_so : BlockStands
block_so p n scratch b x body ss c0 c1 new a rest =
    let F = Stmts p n scratch b x body in
    let R = StmtsBehind p n scratch b x (stmt.Block body) ss in
    means (Behind F R) (Stmts p n scratch b x (stmt.Block body ∷ ss)) c0 new
    (λ c s t r. block_at x body ss s r.0 t r.1 r.2) (behind F R c0 c1 new a rest)

pub do_so : DoStands
do_so p n scratch b x e ss c0 c1 new a rest =
    let V = Value p n scratch (here b x) x.scope false e in
    let R = StmtsBehind p n scratch b x (stmt.Do e) ss in
    means (Behind V R) (Stmts p n scratch b x (stmt.Do e ∷ ss)) c0 new
    (λ c s t r. do_at x e ss s r.0 t r.1 r.2) (behind V R c0 c1 new a rest)

pub return_so : ReturnStands
return_so p n scratch b x e pl ss c0 c1 c2 new a add rest =
    let V = Value p n scratch (here b x) x.scope true e in
    let O = Are (ins.Retv ∷ []) in
    let R = StmtsBehind p n scratch b x (stmt.Return (Some e) pl) ss in
    means (Behind V (Behind O R)) (Stmts p n scratch b x (stmt.Return (Some e) pl ∷ ss)) c0 new
    (λ c s t r. return_at x e pl ss s r.0 r.2.0 t r.1 r.2.1 r.2.2)
    (behind V (Behind O R) c0 c1 new a (behind O R c1 c2 new (added (ins.Retv ∷ []) c1 c2 add) rest))

pub end_so : EndStands
end_so p n scratch b x pl ss c0 c1 new add rest =
    let O = Are (ins.Ret ∷ []) in
    let R = StmtsBehind p n scratch b x (stmt.Return None pl) ss in
    means (Behind O R) (Stmts p n scratch b x (stmt.Return None pl ∷ ss)) c0 new
    (λ c s t r. end_at x pl ss s r.0 t r.1 r.2) (behind O R c0 c1 new (added (ins.Ret ∷ []) c0 c1 add) rest)

pub print_so : PrintStands
print_so p n scratch b x e pl i ss c0 c1 c2 new a prints add rest =
    let V = Value p n scratch (here b x) x.scope true e in
    let O = Are (i ∷ []) in
    let R = StmtsBehind p n scratch b x (stmt.Print e pl) ss in
    means (Behind V (Behind O R)) (Stmts p n scratch b x (stmt.Print e pl ∷ ss)) c0 new
    (λ c s t r. print_at x e pl i ss s r.0 r.2.0 t r.1 prints r.2.1 r.2.2)
    (behind V (Behind O R) c0 c1 new a (behind O R c1 c2 new (added (i ∷ []) c1 c2 add) rest))

pub text_so : TextStands
text_so p n scratch b x k pl ss c0 c1 new add rest =
    let O = Are (ins.Printt k ∷ []) in
    let R = StmtsBehind p n scratch b x (stmt.PrintText k pl) ss in
    means (Behind O R) (Stmts p n scratch b x (stmt.PrintText k pl ∷ ss)) c0 new
    (λ c s t r. text_at x k pl ss s r.0 t r.1 r.2) (behind O R c0 c1 new (added (ins.Printt k ∷ []) c0 c1 add) rest)
