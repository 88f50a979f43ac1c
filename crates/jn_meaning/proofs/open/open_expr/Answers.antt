use Rattle.std.proofs.Common.{rules, refl, length, ◌≡◌, w64, to_z, of_z}
use Rattle.jn_meaning.specs.Work.{todo_in}
use Rattle.jn_meaning.proofs.Lists.{on_ok}
use Rattle.jn_meaning.proofs.Opening.{is_number, is_truth, is_null, is_this, is_var, is_new, is_super, is_post, is_not, is_neg, is_view, is_chain}
use Rattle.jn_meaning.proofs.open.open_expr.Goals as goal

pub returns-in-Int : goal.returns-in-Int
returns-in-Int c =
    let e : to_z w64 (of_z w64 c.in-Int.z) ≡ c.in-Int.z = search rules in
    on_ok c.put_act.result (is_number c.args.e.now c.args.keeps c.args.scope (todo_in c.args.work.now) c.in-Int.z (to_z w64 (of_z w64 c.in-Int.z)) _ c.in-Int.is e) c.put_act.ensures

pub returns-in-Bool : goal.returns-in-Bool
returns-in-Bool c = on_ok c.put_act-in-Bool.result (is_truth c.args.e.now c.args.keeps c.args.scope (todo_in c.args.work.now) c.in-Bool.b _ c.in-Bool.is) c.put_act-in-Bool.ensures

pub returns-in-Null : goal.returns-in-Null
returns-in-Null c = on_ok c.put_act-in-Null.result (is_null c.args.e.now c.args.keeps c.args.scope (todo_in c.args.work.now) _ c.in-Null.is) c.put_act-in-Null.ensures

pub returns-in-This : goal.returns-in-This
returns-in-This c = on_ok c.put_act-in-This.result (is_this c.args.e.now c.args.keeps c.args.scope (todo_in c.args.work.now) _ c.in-This.is) c.put_act-in-This.ensures

pub returns-in-Var : goal.returns-in-Var
returns-in-Var c = on_ok c.put_act-in-Var.result (is_var c.args.e.now c.args.keeps c.args.scope (todo_in c.args.work.now) c.in-Var.x _ c.in-Var.is) c.put_act-in-Var.ensures

pub returns-in-New : goal.returns-in-New
returns-in-New c = on_ok c.put_args.result (is_new c.args.e.now c.args.keeps c.args.scope (todo_in c.args.work.now) c.in-New.term c.in-New.args c.as_slice-args.result.now (length c.as_slice-args.result.now) _ c.in-New.is c.as_slice-args.ensures refl) c.put_args.ensures

pub returns-in-Super : goal.returns-in-Super
returns-in-Super c = on_ok c.put_args-in-Super.result (is_super c.args.e.now c.args.keeps c.args.scope (todo_in c.args.work.now) c.in-Super.term c.in-Super.name c.in-Super.args c.as_slice-args-in-Super.result.now (length c.as_slice-args-in-Super.result.now) _ c.in-Super.is c.as_slice-args-in-Super.ensures refl) c.put_args-in-Super.ensures

pub returns-in-Post : goal.returns-in-Post
returns-in-Post c = on_ok c.open_post.result (is_post c.args.e.now c.args.keeps c.args.scope (todo_in c.args.work.now) c.in-Post.first c.get.result.now c.in-Post.parts c.as_slice.result.now _ c.in-Post.is c.get.ensures c.as_slice.ensures) c.open_post.ensures

pub returns-in-Not : goal.returns-in-Not
returns-in-Not c = on_ok c.put_behind.result (is_not c.args.e.now c.args.keeps c.args.scope (todo_in c.args.work.now) c.in-Not.e c.get-in-Not.result.now _ c.in-Not.is c.get-in-Not.ensures) c.put_behind.ensures

pub returns-in-Neg : goal.returns-in-Neg
returns-in-Neg c = on_ok c.put_behind-in-Neg.result (is_neg c.args.e.now c.args.keeps c.args.scope (todo_in c.args.work.now) c.in-Neg.e c.get-in-Neg.result.now _ c.in-Neg.is c.get-in-Neg.ensures) c.put_behind-in-Neg.ensures

pub returns-in-View : goal.returns-in-View
returns-in-View c = on_ok c.put_behind-in-View.result (is_view c.args.e.now c.args.keeps c.args.scope (todo_in c.args.work.now) c.in-View.view c.in-View.e c.get-in-View.result.now _ c.in-View.is c.get-in-View.ensures) c.put_behind-in-View.ensures

pub returns-in-Chain : goal.returns-in-Chain
returns-in-Chain c = on_ok c.open_chain.result (is_chain c.args.e.now c.args.keeps c.args.scope (todo_in c.args.work.now) c.in-Chain.field-0 c.in-Chain.first c.get-in-Chain.result.now c.in-Chain.links c.as_slice-in-Chain.result.now _ c.in-Chain.is c.get-in-Chain.ensures c.as_slice-in-Chain.ensures) c.open_chain.ensures
