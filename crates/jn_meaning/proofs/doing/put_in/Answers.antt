use Rattle.std.proofs.Common.{rules, ◌<◌, length, subst}
use Rattle.jn_meaning.specs.Values.{path_at}
use Rattle.jn_meaning.specs.Heaps.{Stores}
use Rattle.jn_meaning.proofs.Acting.{fits_this, puts_foreign, puts}
use Rattle.jn_meaning.proofs.doing.put_in.Goals as goal

pub returns-then-not-branch : goal.returns-then-not-branch
returns-then-not-branch c =
    let p = c.args.w.now.program.now in
    let known = c.args.t.now.known.items in
    let within : c.args.o < length c.args.h.now.objects.items = search rules in
    let told = c.in_ok-is_in.field-0 in
    puts_foreign p known c.args.h.now c.args.o c.args.id c.args.v c.args.s c.args.ty.now told
    (fits_this p known c.args.h.now c.new-none.result.vars.list c.new-none.result.values.items (path_at known c.args.id) c.args.ty.now c.args.v told c.new-none.ensures.vars c.in_ok-is_in.ensures)
    within c.if-not-branch.true

pub returns-then-branch : goal.returns-then-branch
returns-then-branch c =
    let p = c.args.w.now.program.now in
    let known = c.args.t.now.known.items in
    let told = c.in_ok-is_in.field-0 in
    puts p known c.args.h.now c.args.o c.args.id c.args.v c.args.s c.args.ty.now told
    (fits_this p known c.args.h.now c.new-none.result.vars.list c.new-none.result.values.items (path_at known c.args.id) c.args.ty.now c.args.v told c.new-none.ensures.vars c.in_ok-is_in.ensures)
    c.store.new.h c.if-not-branch.false
    (subst (Stores known c.args.h.now c.store.new.h c.args.o c.args.s c.args.v) c.if-branch.true c.in_ok-store.ensures)
