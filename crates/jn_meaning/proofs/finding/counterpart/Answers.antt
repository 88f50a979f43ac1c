use Rattle.std.proofs.Common.{subst, sym}
use Rattle.jn_sem.specs.Sharing.{IsClass}
use Rattle.jn_meaning.specs.Values.{path_at}
use Rattle.jn_meaning.proofs.ClassNumbers.{class_number}
use Rattle.jn_meaning.proofs.Bodies.{counterpart_there, counterpart_unrelated}
use Rattle.jn_meaning.proofs.finding.counterpart.Goals as goal

pub returns-then-related : goal.returns-then-related
returns-then-related c =
    let p = c.args.w.now.program.now in
    let known = c.args.t.now.known.items in
    let q = c.requires.stands in
    let other = subst (IsClass p) (sym c.in-Some.ensures.1) (c.in-Some.ensures.0 p q.filled) in
    counterpart_there p known c.args.family c.args.id c.in_ok-path.path.names c.names_at.result.now c.names_at.ensures c.in_ok-path.ensures c.in-Some.other c.in-Some.ensures.1 c.related.result
    (c.related.ensures p known (path_at known c.args.id) (path_at known c.in-Some.other) q.groups (class_number p known c.args.id c.requires.class) (class_number p known c.in-Some.other other)) c.if-related.true

pub returns : goal.returns
returns c =
    let p = c.args.w.now.program.now in
    let known = c.args.t.now.known.items in
    let q = c.requires.stands in
    let other = subst (IsClass p) (sym c.in-Some.ensures.1) (c.in-Some.ensures.0 p q.filled) in
    counterpart_unrelated p known c.args.family c.args.id c.in_ok-path.path.names c.names_at.result.now c.names_at.ensures c.in_ok-path.ensures c.in-Some.other c.in-Some.ensures.1 c.related.result
    (c.related.ensures p known (path_at known c.args.id) (path_at known c.in-Some.other) q.groups (class_number p known c.args.id c.requires.class) (class_number p known c.in-Some.other other)) c.if-related.false
